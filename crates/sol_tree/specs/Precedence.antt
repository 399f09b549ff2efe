-- How loosely each operator binds.
use Rattle.std.specs.Prelude.{ℕ}
use Rattle.sol_tree.specs.declared.expr.BinaryOp.{BinaryOp}
use Rattle.sol_tree.specs.declared.expr.BinaryOp.TheVariants as operator

abbrev pub precedence : BinaryOp → ℕ
precedence operator.Power = 3
precedence operator.Multiply = 4
precedence operator.Divide = 4
precedence operator.Remainder = 4
precedence operator.Add = 5
precedence operator.Subtract = 5
precedence operator.Less = 6
precedence operator.Greater = 6
precedence operator.LessEqual = 6
precedence operator.GreaterEqual = 6
precedence operator.Equal = 7
precedence operator.NotEqual = 7
precedence operator.And = 8
precedence operator.Or = 9
