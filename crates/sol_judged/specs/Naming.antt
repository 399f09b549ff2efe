-- What a name in an expression stands for. Rule 1.
use Rattle.std.specs.Prelude.{ℕ, [], Option, Some, None, false, slice_get}
use Rattle.sol_core.specs.declared.program.Place.TheVariants as place
use Rattle.sol_judged.specs.declared.rules.Rule.TheVariants as rule
use Rattle.sol_judged.specs.declared.tables.Constant.{Constant}
use Rattle.sol_judged.specs.declared.tables.Meaning.{Meaning}
use Rattle.sol_judged.specs.declared.tables.Meaning.TheVariants as means
use Rattle.sol_judged.specs.Settings.{Setting}
use Rattle.sol_judged.specs.declared.findings.Found.TheVariants as is
use Rattle.sol_judged.specs.declared.findings.Thing.TheVariants as thing
use Rattle.sol_judged.specs.Judged.{Judged, sound, broken}
use Rattle.sol_judged.specs.Found.{Seen, Known, Unknown}

-- a constant stands for its value
abbrev pub constant_at : ℕ → Option Constant → Judged Seen
constant_at at None = broken rule.Naming at Unknown
constant_at at (Some c) = sound (Known (is.Value (Some at) c.ty c.value))

-- a name that is not in scope breaks rule 1, and one whose declaration breaks a rule tells that fault again
abbrev pub named_at : Setting → ℕ → Option Meaning → Judged Seen
named_at w at None = broken rule.Naming at Unknown
named_at w at (Some (means.Local i t)) = sound (Known (is.Place (Some at) t (place.Local i)))
named_at w at (Some (means.Constant c)) = constant_at at (slice_get w.declared.constants c)
named_at w at (Some (means.Scalar i t)) = sound (Known (is.Place (Some at) t (place.Scalar i)))
named_at w at (Some (means.Mapping m)) = sound (Known (is.Mapping (Some at) m []))
named_at w at (Some (means.Array a t)) = sound (Known (is.Array at a t))
named_at w at (Some (means.Function f)) = sound (Known (is.Thing at (thing.Function f false)))
named_at w at (Some (means.Outer f)) = sound (Known (is.Thing at thing.Other))
named_at w at (Some (means.Modifier m)) = sound (Known (is.Thing at thing.Other))
named_at w at (Some (means.Event e)) = sound (Known (is.Thing at thing.Other))
named_at w at (Some (means.Error e)) = sound (Known (is.Thing at thing.Other))
named_at w at (Some (means.Contract u)) = sound (Known (is.Thing at (thing.Contract u)))
named_at w at (Some (means.Interface u)) = sound (Known (is.Thing at (thing.Interface u)))
named_at w at (Some (means.Faulty broken_rule place)) = broken broken_rule place Unknown
