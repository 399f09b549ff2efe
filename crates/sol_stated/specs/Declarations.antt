-- Declarations of locals (Solidity's documentation, "Scoping and Declarations"). A local can be named from behind its declaration
-- on, so not in its own initial value. Rules 1, 2, 6 and 24.
use Rattle.std.specs.Prelude.{Option, Some, None}
use Rattle.sol_tree.specs.declared.expr.Initial.{Initial}
use Rattle.sol_tree.specs.declared.types.Identifier.{Identifier}
use Rattle.sol_tree.specs.declared.types.Type as types
use Rattle.sol_judged.specs.declared.rules.Rule.TheVariants as rule
use Rattle.sol_judged.specs.Settings.{Setting}
use Rattle.sol_judged.specs.Judged.{Judged, sound, ◌>>=◌}
use Rattle.sol_stated.specs.declared.scope.Scope.{Scope}
use Rattle.sol_stated.specs.Checks.{Check, pass}
use Rattle.sol_stated.specs.Contexts.{Context, Typed, setting_in}
use Rattle.sol_stated.specs.Scopes.{local, declared, fresh}
use Rattle.sol_stated.specs.ValueTypes.{value_type}
use Rattle.sol_stated.specs.Values.{value_in}

-- an initial value that doesn't convert breaks rule 6 at the `=`
abbrev pub initial_value : Setting → Typed → Option Initial → Check
initial_value w t None = pass
initial_value w t (Some i) = value_in w rule.AssignedValue i.at t i.value

-- what a declared type is, with a value for it
abbrev pub initial_type : Setting → types.Type → Option Initial → Judged Typed
initial_type w ty initial = do
  t ← value_type w ty
  u ← initial_value w t initial
  sound t

-- a new name in the innermost scope
unfoldable pub named_local : Typed → Identifier → Scope → Judged Scope
named_local t name w = fresh name.at name.name w >>= λ u. sound (declared name.name (local w t) w)

unfoldable pub declaration : Context → types.Type → Identifier → Option Initial → Scope → Judged Scope
declaration c ty name initial w = initial_type (setting_in c w) ty initial >>= λ t. named_local t name w
