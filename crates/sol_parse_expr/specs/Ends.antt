-- Which tokens go on with an expression.
use Rattle.std.specs.Prelude.{◌≡◌, List, [], ◌∷◌, Bool, false, ◌||◌, not, codes}
use Rattle.sol_tree.specs.declared.token.Token.{Token}
use Rattle.sol_tree.specs.declared.token.TokenKind.{TokenKind}
use Rattle.sol_tree.specs.declared.token.TokenKind.TheVariants as kind
use Rattle.sol_tree.specs.Refused.{is_one_of}
use Rattle.sol_tree.specs.Words.{number_unit, operator_of, is_none}

-- a unit, an operator between two operands, or what begins a suffix or a choice
abbrev pub goes_on : TokenKind → Bool
goes_on (kind.Word w) = not (is_none (number_unit w))
goes_on (kind.Number z h) = false
goes_on kind.Text = false
goes_on (kind.Mark n) = not (is_none (operator_of n)) || is_one_of n (codes "[" ∷ codes "." ∷ codes "(" ∷ codes "?" ∷ [])

-- no token is left, or the next one goes on with no expression
abbrev pub Ends : List Token → Type 0
Ends [] = Unit {0}
Ends (t ∷ ts) = goes_on t.kind ≡ false
