-- An operator between two operands.
use Rattle.std.specs.Prelude.{ℕ, Bool}
use Rattle.chc_nums.specs.declared.typed.Op.TheVariants as op
use Rattle.sol_core.specs.declared.program.Cmp.TheVariants as cmp
use Rattle.sol_tree.specs.declared.expr.BinaryOp.{BinaryOp}
use Rattle.sol_tree.specs.declared.expr.BinaryOp.TheVariants as operator
use Rattle.sol_judged.specs.Judged.{Judged}
use Rattle.sol_judged.specs.Found.{Seen}
use Rattle.sol_judged.specs.Arithmetic.{arithmetic, power}
use Rattle.sol_judged.specs.Comparisons.{comparison}
use Rattle.sol_judged.specs.Conditions.{conjunction, disjunction}

abbrev pub binary : BinaryOp → Bool → ℕ → ℕ → ℕ → ℕ → Seen → Seen → Judged Seen
binary operator.Power checked first at left_first right_first a b = power first at a b
binary operator.Multiply checked first at left_first right_first a b = arithmetic op.Mul checked first at left_first right_first a b
binary operator.Divide checked first at left_first right_first a b = arithmetic op.Div checked first at left_first right_first a b
binary operator.Remainder checked first at left_first right_first a b = arithmetic op.Rem checked first at left_first right_first a b
binary operator.Add checked first at left_first right_first a b = arithmetic op.Add checked first at left_first right_first a b
binary operator.Subtract checked first at left_first right_first a b = arithmetic op.Sub checked first at left_first right_first a b
binary operator.Less checked first at left_first right_first a b = comparison cmp.Lt at left_first right_first a b
binary operator.Greater checked first at left_first right_first a b = comparison cmp.Gt at left_first right_first a b
binary operator.LessEqual checked first at left_first right_first a b = comparison cmp.Le at left_first right_first a b
binary operator.GreaterEqual checked first at left_first right_first a b = comparison cmp.Ge at left_first right_first a b
binary operator.Equal checked first at left_first right_first a b = comparison cmp.Eq at left_first right_first a b
binary operator.NotEqual checked first at left_first right_first a b = comparison cmp.Ne at left_first right_first a b
binary operator.And checked first at left_first right_first a b = conjunction at left_first right_first a b
binary operator.Or checked first at left_first right_first a b = disjunction at left_first right_first a b
