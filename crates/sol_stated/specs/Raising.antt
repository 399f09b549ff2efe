-- `emit` and `revert` with a name (Solidity's documentation, "Events", "Errors and the Revert Statement"). Rules 1 and 8.
use Rattle.std.specs.Prelude.{ℕ, List, [], Option, Some, None, map, slice_get}
use Rattle.sol_tree.specs.declared.expr.Arguments.{Arguments}
use Rattle.sol_tree.specs.declared.types.Identifier.{Identifier}
use Rattle.sol_judged.specs.declared.rules.Rule.{Rule}
use Rattle.sol_judged.specs.declared.rules.Rule.TheVariants as rule
use Rattle.sol_judged.specs.declared.types.ValueType.{ValueType}
use Rattle.sol_judged.specs.declared.tables.Meaning.{Meaning}
use Rattle.sol_judged.specs.declared.tables.Meaning.TheVariants as means
use Rattle.sol_judged.specs.declared.tables.Declared.{Declared}
use Rattle.sol_judged.specs.Settings.{Setting}
use denote.Ref.{Bor}
use Rattle.sol_judged.specs.Judged.{Judged, sound, broken, ◌>>=◌}
use Rattle.sol_judged.specs.Found.{Seen}
use Rattle.sol_judged.specs.Calls.{arguments_onto, each}
use Rattle.sol_judged.specs.Names.{meaning_of}
use Rattle.sol_judged.specs.Judgement.{placed}
use Rattle.sol_stated.specs.Checks.{Check, pass}

-- the types of the parameters, where they are known
abbrev pub Params : Type 0
Params = Option (List ValueType)

abbrev pub shown : Bor (List ValueType) → Params
shown ps = Some ps.now

-- arguments for parameters; else a rule is broken at a place
abbrev pub passed : Rule → ℕ → Params → List (ℕ × Judged Seen) → Check
passed broken_rule at None arguments = each tt arguments
passed broken_rule at (Some ps) arguments = arguments_onto broken_rule at [] ps arguments >>= λ es. pass

-- what stands in a table; rule 1 is broken at the name where nothing does
abbrev pub in_table : ℕ → Params → Judged Params
in_table at None = broken rule.Naming at None
in_table at (Some ps) = sound (Some ps)

-- the parameters of the event that a name means; else rule 1 is broken at the name
unfoldable pub event_params : Declared → ℕ → Option Meaning → Judged Params
event_params d at (Some (means.Event e)) = in_table at (slice_get d.events e)
event_params d at (Some (means.Faulty broken_rule place)) = broken broken_rule place None
event_params d at _ = broken rule.Naming at None

-- the parameters of the error that a name means; else rule 1 is broken at the name
unfoldable pub error_params : Declared → ℕ → Option Meaning → Judged Params
error_params d at (Some (means.Error e)) = in_table at (slice_get d.errors e)
error_params d at (Some (means.Faulty broken_rule place)) = broken broken_rule place None
error_params d at _ = broken rule.Naming at None

-- arguments that don't fit break rule 8 at the `(`
unfoldable pub emitted : Setting → Identifier → Arguments → Check
emitted w event arguments = event_params w.declared event.at (meaning_of w event.name) >>= λ ps. passed rule.Arguments arguments.at ps (map (placed w) arguments.values)

unfoldable pub reverted : Setting → Identifier → Arguments → Check
reverted w error arguments = error_params w.declared error.at (meaning_of w error.name) >>= λ ps. passed rule.Arguments arguments.at ps (map (placed w) arguments.values)
