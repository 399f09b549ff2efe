-- Operands that are `bool`: `!`, `&&`, `||` and the condition of `?:`, whose branches have a common type. Rules 3 and 4.
use Rattle.std.specs.Prelude.{ℕ, Option, Some, None, false, if◌then◌else◌}
use Rattle.chc_nums.specs.declared.typed.Ty.TheVariants as ty
use Rattle.sol_core.specs.declared.program.Expr.{Expr}
use Rattle.sol_core.specs.declared.program.Expr as expr
use Rattle.sol_judged.specs.declared.rules.Rule.TheVariants as rule
use Rattle.sol_judged.specs.declared.types.ValueType.{ValueType}
use Rattle.sol_judged.specs.declared.types.ValueType.TheVariants as type
use Rattle.sol_judged.specs.declared.findings.Found.TheVariants as is
use Rattle.sol_judged.specs.declared.findings.Value.{Value}
use Rattle.sol_judged.specs.declared.findings.Pair.{Pair}
use Rattle.sol_judged.specs.Judged.{Judged, sound, broken, ◌>>=◌}
use Rattle.sol_judged.specs.Types.{is_bool}
use Rattle.sol_judged.specs.Found.{Seen, Known, Spoilt, Unknown, blank, value}
use Rattle.sol_judged.specs.Operands.{side, pair}

abbrev pub boolean : ValueType
boolean = type.Elementary ty.Bool

abbrev pub as_bool : ℕ → Option Value → Judged Expr
as_bool at None = sound (blank boolean)
as_bool at (Some v) = if is_bool v.ty then sound v.expr else broken rule.Condition at (blank boolean)

-- an operand that has to be `bool`; else rule 4 is broken at a place. A literal never is.
unfoldable pub truth : ℕ → ℕ → Seen → Judged Expr
truth at first (Known (is.Literal z)) = broken rule.Condition at (blank boolean)
truth at first Spoilt = broken rule.Condition at (blank boolean)
truth at first s = side rule.Condition at None first s >>= as_bool at

abbrev pub truth_of : Expr → Judged Seen
truth_of e = sound (value boolean e)

-- `!`
unfoldable pub inverted : ℕ → ℕ → Seen → Judged Seen
inverted at first s = truth at first s >>= λ e. truth_of (expr.Not e)

-- `&&`
unfoldable pub conjunction : ℕ → ℕ → ℕ → Seen → Seen → Judged Seen
conjunction at left_first right_first a b = do
  x ← truth at left_first a
  y ← truth at right_first b
  truth_of (expr.Both x y)

-- `||`
unfoldable pub disjunction : ℕ → ℕ → ℕ → Seen → Seen → Judged Seen
disjunction at left_first right_first a b = do
  x ← truth at left_first a
  y ← truth at right_first b
  truth_of (expr.Either x y)

abbrev pub picked : Expr → Option Pair → Judged Seen
picked c None = sound Unknown
picked c (Some p) = sound (value p.ty (expr.Pick c p.left p.right))

-- `c ? a : b`
unfoldable pub choice : ℕ → ℕ → ℕ → ℕ → Seen → Seen → Seen → Judged Seen
choice question condition_first chosen_first other_first c a b = do
  x ← truth condition_first condition_first c
  p ← pair rule.Operands question false chosen_first other_first a b
  picked x p
