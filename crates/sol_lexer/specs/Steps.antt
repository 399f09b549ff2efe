-- What a cut says of a text, and what one step of the scan does.
use Rattle.std.specs.Prelude.{◌≡◌, ℕ, ◌+◌, ◌≤◌, List, ◌++◌, length, drop, Option, Some, None, Result, Ok, Err, option_to_list}
use Rattle.sol_tree.specs.declared.token.Token.{Token}
use Rattle.sol_tree.specs.declared.token.TokenKind.{TokenKind}
use Rattle.sol_tree.specs.declared.token.TokenKind.TheVariants as kind
use Rattle.sol_lexer.specs.Tokens.{FaultAt, FaultFrom, Piece, TokenizesFrom}
use Rattle.sol_lexer.specs.declared.lexer.LexFault.{LexFault}
use Rattle.sol_lexer.specs.declared.lexer.LexFault.TheVariants as fault
use Rattle.sol_lexer.specs.declared.lexer.Step.{Step}
use Rattle.sol_lexer.specs.declared.cut.Cut.{Cut}
use Rattle.sol_lexer.specs.declared.cut.Cut.TheVariants as cut

-- a piece of so many bytes stands at the head of the text
abbrev pub Splits : List ℕ → ℕ → (List ℕ → Option TokenKind) → Type 0
Splits t n k = (p : List ℕ) × (rest : List ℕ) × (t ≡ p ++ rest) × (n ≡ length p) × Piece p rest (k p)

-- what a cut says of the text at whose head it was made
abbrev pub Says : List ℕ → Cut → Type 0
Says t (cut.Dropped n) = Splits t n (λ p. None)
Says t (cut.Word n) = Splits t n (λ p. Some (kind.Word p))
Says t (cut.Number n z hex) = Splits t n (λ p. Some (kind.Number z hex))
Says t (cut.Text n) = Splits t n (λ p. Some kind.Text)
Says t (cut.Mark n) = Splits t n (λ p. Some (kind.Mark p))
Says t (cut.BadByte n) = (at : ℕ) → FaultAt at t (fault.BadByte (at + n))
Says t cut.OpenComment = (at : ℕ) → FaultAt at t (fault.OpenComment at)
Says t cut.OpenText = (at : ℕ) → FaultAt at t (fault.OpenText at)
Says t cut.WideNumber = (at : ℕ) → FaultAt at t (fault.WideNumber at)
Says t (cut.Refused n) = (at : ℕ) → FaultAt at t (fault.Refused at n)

-- a step passes a piece: the tokens and the faults of what is left are, with the piece's token, those of the text
pub record Passes (at : ℕ) (t : List ℕ) (s : Step) : Type 0 where
  pub progress : 1 ≤ s.len
  pub within : s.len ≤ length t
  pub tokens : (ts : List Token) → TokenizesFrom (at + s.len) (drop s.len t) ts → TokenizesFrom at t (option_to_list s.token ++ ts)
  pub faults : (f : LexFault) → FaultFrom (at + s.len) (drop s.len t) f → FaultFrom at t f

-- a fault is the one that stands first; want of memory says nothing
abbrev pub IsFault : ℕ → List ℕ → LexFault → Type 0
IsFault at t (fault.BadByte n) = FaultFrom at t (fault.BadByte n)
IsFault at t (fault.OpenComment n) = FaultFrom at t (fault.OpenComment n)
IsFault at t (fault.OpenText n) = FaultFrom at t (fault.OpenText n)
IsFault at t (fault.WideNumber n) = FaultFrom at t (fault.WideNumber n)
IsFault at t (fault.Refused n m) = FaultFrom at t (fault.Refused n m)
IsFault at t fault.NoMemory = Unit {0}

-- what a step gives
abbrev pub Steps : ℕ → List ℕ → Result Step LexFault → Type 0
Steps at t (Ok s) = Passes at t s
Steps at t (Err f) = IsFault at t f
