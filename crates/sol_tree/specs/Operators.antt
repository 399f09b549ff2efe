-- The operators between two operands and their spellings (Solidity's documentation, "Order of Precedence of
-- Operators").
use Rattle.std.specs.Prelude.{ℕ, List, [], ◌∷◌, codes}
use Rattle.sol_tree.specs.declared.expr.BinaryOp.{BinaryOp}
use Rattle.sol_tree.specs.declared.expr.BinaryOp.TheVariants as operator

abbrev pub operator_marks : List (List ℕ × BinaryOp)
operator_marks =
    (codes "**", operator.Power)
    ∷ (codes "*", operator.Multiply)
    ∷ (codes "/", operator.Divide)
    ∷ (codes "%", operator.Remainder)
    ∷ (codes "+", operator.Add)
    ∷ (codes "-", operator.Subtract)
    ∷ (codes "<", operator.Less)
    ∷ (codes ">", operator.Greater)
    ∷ (codes "<=", operator.LessEqual)
    ∷ (codes ">=", operator.GreaterEqual)
    ∷ (codes "==", operator.Equal)
    ∷ (codes "!=", operator.NotEqual)
    ∷ (codes "&&", operator.And)
    ∷ (codes "||", operator.Or)
    ∷ []
