-- What can be told of an expression, and what it is as a value.
use Rattle.std.specs.Prelude.{ℕ, Option, Some, None, Bool, true, false, pos, if◌then◌else◌}
use Rattle.chc_nums.specs.declared.typed.Ty.{Ty}
use Rattle.sol_core.specs.declared.program.Expr.{Expr, Num, Cast}
use Rattle.sol_core.specs.declared.program.Expr as expr
use Rattle.sol_core.specs.declared.program.Place.{Place}
use Rattle.sol_core.specs.declared.program.Place.TheVariants as place
use Rattle.sol_judged.specs.declared.rules.Rule.TheVariants as rule
use Rattle.sol_judged.specs.declared.types.ValueType.{ValueType}
use Rattle.sol_judged.specs.declared.findings.Found.{Found}
use Rattle.sol_judged.specs.declared.findings.Found.TheVariants as is
use Rattle.sol_judged.specs.declared.findings.Thing.{Thing}
use Rattle.sol_judged.specs.declared.findings.Thing.TheVariants as thing
use Rattle.sol_judged.specs.declared.findings.Call.{Call}
use Rattle.sol_judged.specs.declared.findings.Call.TheVariants as call
use Rattle.sol_judged.specs.declared.findings.Value.{Value}
use Rattle.sol_judged.specs.Judged.{Judged, sound, broken, broken_both}
use Rattle.sol_judged.specs.Types.{program_type, same_elementary}

-- What can be told of an expression: what it is; that it is a literal expression without a number; or nothing, after a
-- fault.
pub data Seen : Type 0 where
  Known : (f : Found) → Seen
  Spoilt : Seen
  Unknown : Seen

-- nothing more can be told
abbrev pub lost : {A : Type 0} → Judged (Option A)
lost = sound None

-- an expression of a type that stands for what is broken, and so in no program
abbrev pub blank : ValueType → Expr
blank t = Num (pos 0) (program_type t)

abbrev pub value : ValueType → Expr → Seen
value t e = Known (is.Value None t e)

-- what reads a place
abbrev pub read : Place → Expr
read (place.Local i) = expr.Local i
read (place.Scalar i) = expr.Scalar i
read (place.Map m es) = expr.MapAt m es
read (place.Elem a e site) = expr.ElemAt a e site

-- a value of a type of the program in another one
abbrev pub cast : Ty → Ty → Expr → Expr
cast from to e = if same_elementary from to then e else Cast from to e

abbrev pub cast_to : ValueType → ValueType → Expr → Expr
cast_to from to e = cast (program_type from) (program_type to) e

-- a thing where a value is needed breaks rule 1 at its name, and a member that is not called rule 16 too
abbrev pub misnamed : ℕ → Thing → Judged (Option Value)
misnamed at (thing.Function n true) = broken_both rule.Naming at rule.Member at None
misnamed at (thing.Function n false) = broken rule.Naming at None
misnamed at (thing.Push a t) = broken_both rule.Naming at rule.Member at None
misnamed at (thing.Pop a) = broken_both rule.Naming at rule.Member at None
misnamed at (thing.Contract u) = broken rule.Naming at None
misnamed at (thing.Interface u) = broken rule.Naming at None
misnamed at thing.Other = broken rule.Naming at None

abbrev pub returned : ℕ → Bool → ValueType → Expr → Judged (Option Value)
returned opened true t e = sound (Some (record { ty = t; expr = e }))
returned opened false t e = broken rule.CallPlace opened (Some (record { ty = t; expr = e }))

-- a call as an operand: one that may write breaks rule 10, and so does one without a value
abbrev pub call_value : ℕ → Call → Judged (Option Value)
call_value opened (call.Inner n es None view) = broken rule.CallPlace opened None
call_value opened (call.Inner n es (Some t) view) = returned opened view t (expr.Call n es)
call_value opened (call.Outer n e es None) = broken rule.CallPlace opened None
call_value opened (call.Outer n e es (Some t)) = returned opened false t (blank t)
call_value opened (call.Push a e) = broken rule.CallPlace opened None
call_value opened (call.Pop a at) = broken rule.CallPlace opened None
