-- What is assigned to, stepped or deleted, and what is assigned (Solidity's documentation, "Operators Involving LValues").
-- Rules 3, 6 and 7.
use Rattle.std.specs.Prelude.{ℕ, Option, Some, None, Bool, true, false}
use Rattle.sol_tree.specs.declared.expr.ExprTree.{ExprTree}
use Rattle.sol_tree.specs.declared.expr.ExprTree.TheOpen.{ExprTree-F}
use Rattle.sol_tree.specs.declared.expr.ExprTree.TheFolds.{fold-ExprTree}
use Rattle.sol_tree.specs.declared.stmt.AssignOp.{AssignOp}
use Rattle.sol_tree.specs.declared.stmt.AssignOp.TheVariants as assign
use Rattle.sol_tree.specs.Places.{place_of}
use Rattle.sol_judged.specs.declared.rules.Rule.TheVariants as rule
use Rattle.sol_judged.specs.declared.types.ValueType.{ValueType}
use Rattle.sol_judged.specs.declared.findings.Found.TheVariants as is
use Rattle.sol_judged.specs.declared.findings.Value.{Value}
use Rattle.sol_judged.specs.Settings.{Setting}
use Rattle.sol_judged.specs.Judged.{Judged, sound, broken, ◌>>=◌}
use Rattle.sol_judged.specs.Types.{common, widens, is_integer}
use Rattle.sol_judged.specs.Found.{Seen, Known, Unknown, lost}
use Rattle.sol_judged.specs.Operands.{side}
use Rattle.sol_judged.specs.Judgement.{judge}
use Rattle.sol_stated.specs.Checks.{Check, pass, check}
use Rattle.sol_stated.specs.Values.{whole_value, any_value}

-- ---- what is assigned to

-- by its form an expression can be a place: a name or an index, also in parentheses
abbrev pub place_form_step : ExprTree-F Bool → Bool
place_form_step (ExprTree-F.Named at name) = true
place_form_step (ExprTree-F.Index at base opened index) = true
place_form_step (ExprTree-F.Parenthesised at inner) = inner
place_form_step _ = false

abbrev pub has_place_form : ExprTree → Bool
has_place_form e = fold-ExprTree Bool place_form_step e

-- rule 7 is broken at the first token
abbrev pub no_place : ℕ → Judged (Option ValueType)
no_place first = broken rule.AssignedPlace first None

-- where nothing can be told of an expression, its form may tell that it is no place
abbrev pub unknown_place : ℕ → Bool → Judged (Option ValueType)
unknown_place first true = lost
unknown_place first false = no_place first

-- the type of the place that an expression is; else rule 7 is broken at its first token, and as a value it may break others
unfoldable pub target_of : ExprTree → Seen → Judged (Option ValueType)
target_of e (Known (is.Place name t p)) = sound (Some t)
target_of e Unknown = unknown_place (place_of e) (has_place_form e)
target_of e s = no_place (place_of e) >>= λ t. side rule.AssignedPlace (place_of e) None (place_of e) s >>= λ v. sound t

-- ---- `++` and `--`

abbrev pub integer_place : ℕ → Option ValueType → Check
integer_place first None = pass
integer_place first (Some t) = check (is_integer t) rule.AssignedPlace first

-- a place of an integer type is stepped; else rule 7 is broken at its first token
unfoldable pub stepped : Setting → ExprTree → Check
stepped w e = do
  s ← judge w e
  t ← target_of e s
  integer_place (place_of e) t

-- ---- `delete`

-- an array may be deleted too
unfoldable pub deletable : ExprTree → Seen → Check
deletable e (Known (is.Array at a t)) = pass
deletable e s = target_of e s >>= λ t. pass

unfoldable pub deleted : Setting → ExprTree → Check
deleted w e = judge w e >>= deletable e

-- ---- assignments

-- `=`: a value that doesn't convert breaks rule 6 at it
abbrev pub assigned : ℕ → Option ValueType → ℕ → Seen → Check
assigned at (Some t) first s = whole_value rule.AssignedValue at t first s
assigned at None first s = any_value rule.AssignedValue at first s

abbrev pub are_integers : Option ValueType → Bool
are_integers None = false
are_integers (Some t) = is_integer t

-- an operand beside a place of a type: both are integers with a common type, else rule 3 is broken at the operator; and it
-- converts to the type of the place, else rule 6 is
abbrev pub operand_for : ℕ → ValueType → Option Value → Check
operand_for at t None = check (is_integer t) rule.Operands at
operand_for at t (Some v) = check (are_integers (common t v.ty)) rule.Operands at >>= λ u. check (widens v.ty t) rule.AssignedValue at

abbrev pub operand_alone : ℕ → Option Value → Check
operand_alone at None = pass
operand_alone at (Some v) = check (is_integer v.ty) rule.Operands at

-- `+=` and its kin
unfoldable pub compounded : ℕ → Option ValueType → ℕ → Seen → Check
compounded at (Some t) first s = side rule.Operands at (Some t) first s >>= operand_for at t
compounded at None first s = side rule.Operands at None first s >>= operand_alone at

abbrev pub put : AssignOp → ℕ → Option ValueType → ℕ → Seen → Check
put assign.Assign at t first s = assigned at t first s
put assign.Add at t first s = compounded at t first s
put assign.Subtract at t first s = compounded at t first s
put assign.Multiply at t first s = compounded at t first s
put assign.Divide at t first s = compounded at t first s
put assign.Remainder at t first s = compounded at t first s

-- a value for a place, whose type is known or not
unfoldable pub value_put : Setting → AssignOp → ℕ → Option ValueType → ExprTree → Check
value_put w operator at t e = judge w e >>= put operator at t (place_of e)

unfoldable pub assignment : Setting → ExprTree → AssignOp → ℕ → ExprTree → Check
assignment w target operator at value = do
  s ← judge w target
  t ← target_of target s
  value_put w operator at t value
