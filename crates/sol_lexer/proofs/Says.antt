-- What a cut says of a text moves with what the text and the cut are equal to.
use Rattle.std.proofs.Common.{◌≡◌, ℕ, List, sym, subst}
use Rattle.sol_lexer.specs.Steps.{Says}
use Rattle.sol_lexer.specs.declared.cut.Cut.{Cut}

-- from what is read to the whole
pub said : (t u : List ℕ) (c d : Cut) → t ≡ u → c ≡ d → Says u d → Says t c
said t u c d e f s = subst (λ (x : List ℕ). Says x c) (sym e) (subst (λ (x : Cut). Says u x) (sym f) s)
