-- Each text has tokens or a fault.
use Rattle.std.proofs.Common.{◌≡◌, ℕ, zero, suc, ◌⊎◌, inl, inr, ◌+◌, ◌<◌, ◌≤◌, List, [], ◌∷◌, ◌++◌, length, Option, Some, None, sym, subst, ap, arith, length-append}
use Rattle.sol_tree.specs.declared.token.Token.{Token}
use Rattle.sol_tree.specs.declared.token.TokenKind.{TokenKind}
use Rattle.sol_tree.specs.declared.token.TokenKind.TheVariants as kind
use Rattle.sol_lexer.specs.Reading.{cut_of}
use Rattle.sol_lexer.specs.Steps.{Says, Splits}
use Rattle.sol_lexer.specs.Tokens.{FaultFrom, Piece, TokenizesFrom, token_of}
use Rattle.sol_lexer.specs.Tokens as rule
use Rattle.sol_lexer.specs.declared.lexer.LexFault.{LexFault}
use Rattle.sol_lexer.specs.declared.lexer.LexFault.TheVariants as fault
use Rattle.sol_lexer.specs.declared.cut.Cut.{Cut}
use Rattle.sol_lexer.specs.declared.cut.Cut.TheVariants as cut
use Rattle.sol_lexer.proofs.Cuts.{cut-told}
use Rattle.sol_lexer.proofs.Laws.{piece-some}

abbrev Ending : ℕ → List ℕ → Type 0
Ending at t = ((ts : List Token) × TokenizesFrom at t ts) ⊎ ((f : LexFault) × FaultFrom at t f)

ending-piece : (at : ℕ) {t p rest : List ℕ} {k : Option TokenKind} → t ≡ p ++ rest → Piece p rest k → Ending (at + length p) rest → Ending at t
ending-piece at {t} {p} {rest} {k} e x (inl i) = inl (token_of at (length p) k ++ i.0, subst (λ (u : List ℕ). TokenizesFrom at u (token_of at (length p) k ++ i.0)) (sym e) (rule.piece x i.1))
ending-piece at {t} {p} {rest} {k} e x (inr i) = inr (i.0, subst (λ (u : List ℕ). FaultFrom at u i.0) (sym e) (rule.later x i.1))

ending-split : (at : ℕ) (t : List ℕ) (n : ℕ) (k : List ℕ → Option TokenKind) → Splits t n k → ((at : ℕ) (rest : List ℕ) → length rest < length t → Ending at rest) → Ending at t
ending-split at t n k x go = ending-piece at x.2 x.4 (go (at + length x.0) x.1 (omega (arith, ap length x.2, length-append x.0 x.1, piece-some x.4)))

ending-cut : (at : ℕ) (t : List ℕ) (c : Cut) → Says t c → ((at : ℕ) (rest : List ℕ) → length rest < length t → Ending at rest) → Ending at t
ending-cut at t (cut.Dropped n) x go = ending-split at t n (λ p. None) x go
ending-cut at t (cut.Word n) x go = ending-split at t n (λ p. Some (kind.Word p)) x go
ending-cut at t (cut.Number n z hex) x go = ending-split at t n (λ p. Some (kind.Number z hex)) x go
ending-cut at t (cut.Text n) x go = ending-split at t n (λ p. Some kind.Text) x go
ending-cut at t (cut.Mark n) x go = ending-split at t n (λ p. Some (kind.Mark p)) x go
ending-cut at t (cut.BadByte n) x go = inr (fault.BadByte (at + n), rule.here (x at))
ending-cut at t cut.OpenComment x go = inr (fault.OpenComment at, rule.here (x at))
ending-cut at t cut.OpenText x go = inr (fault.OpenText at, rule.here (x at))
ending-cut at t cut.WideNumber x go = inr (fault.WideNumber at, rule.here (x at))
ending-cut at t (cut.Refused n) x go = inr (fault.Refused at n, rule.here (x at))

ending : (n at : ℕ) (t : List ℕ) → length t ≤ n → Ending at t
ending n at [] h = inl ([], rule.end)
ending zero at (b ∷ bs) h = absurd (omega (arith, h))
ending (suc n) at (b ∷ bs) h = ending-cut at (b ∷ bs) (cut_of (b ∷ bs)) (cut-told b bs) (λ m rest l. ending n m rest (omega (arith, h, l)))

pub some_ending : (t : List ℕ) → ((ts : List Token) × TokenizesFrom 0 t ts) ⊎ ((f : LexFault) × FaultFrom 0 t f)
some_ending t = ending (length t) 0 t (omega arith)
