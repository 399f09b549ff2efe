-- Which tokens a text spells, and which fault stands first in a text that spells none.
-- A text is cut from its first byte on. Each piece is the one that the first rule which applies gives at its place:
-- a piece that is dropped, or the piece of a token. A rule may also give a fault, which ends the cutting.
use Rattle.std.specs.Prelude.{◌≡◌, ◌≢◌, ℕ, ◌+◌, ◌*◌, ◌^◌, ◌<◌, ◌≤◌, pos, Bool, true, false, ◌&&◌, ◌||◌, ◌==◌, List, [], ◌∷◌, ◌++◌, length, Option, Some, None, codes}
use Rattle.std.specs.Char.{is_ascii_digit}
use Rattle.sol_tree.specs.Refused.{is_one_of, is_refused_word}
use Rattle.sol_tree.specs.declared.token.Token.{Token}
use Rattle.sol_tree.specs.declared.token.TokenKind.{TokenKind}
use Rattle.sol_tree.specs.declared.token.TokenKind.TheVariants as kind
use Rattle.sol_lexer.specs.Bytes.{Each, base_of, begins, begins_with, digit_value, is_before_semicolon, is_blank, is_digit_of, is_exponent_letter, is_in_line, is_printable, is_quote, is_word_byte, is_word_start}
use Rattle.sol_lexer.specs.Punctuators.{marks}
use Rattle.sol_lexer.specs.RefusedPunctuators.{refused_marks}
use Rattle.sol_lexer.specs.QuotedWords.{quoted_words}
use Rattle.sol_lexer.specs.declared.lexer.LexFault.{LexFault}
use Rattle.sol_lexer.specs.declared.lexer.LexFault.TheVariants as fault

-- ---- comments

-- somewhere in the text these bytes stand in a row
abbrev pub Holds : List ℕ → List ℕ → Type 0
Holds bytes text = (before : List ℕ) × (after : List ℕ) × (text ≡ before ++ (bytes ++ after))

-- ---- words

-- a word is a letter, `_` or `$`, and then the longest run of letters, digits, `_` and `$`
pub record IsWord (w : List ℕ) (rest : List ℕ) : Type 0 where
  pub start : begins is_word_start w ≡ true
  pub bytes : Each is_word_byte w
  pub longest : begins is_word_byte rest ≡ false

-- a word outside the language; `unicode` and `hex` are refused only where a quote follows at once
abbrev pub is_refused : List ℕ → List ℕ → Bool
is_refused w rest = is_refused_word w || (is_one_of w quoted_words && begins is_quote rest)

-- ---- numbers

-- one digit or more, where `_` (which is 95) may stand between two; the second list has the digits alone
pub data Digits : Bool → List ℕ → List ℕ → Type 0 where
  last : {hex : Bool} {d : ℕ} → is_digit_of hex d ≡ true → Digits hex (d ∷ []) (d ∷ [])
  next : {hex : Bool} {d : ℕ} {s ds : List ℕ} → is_digit_of hex d ≡ true → Digits hex s ds → Digits hex (d ∷ s) (d ∷ ds)
  spaced : {hex : Bool} {d : ℕ} {s ds : List ℕ} → is_digit_of hex d ≡ true → Digits hex s ds → Digits hex (d ∷ 95 ∷ s) (d ∷ ds)

-- the number that digits spell, after those that spell n
abbrev pub spelled_after : Bool → ℕ → List ℕ → ℕ
spelled_after hex n [] = n
spelled_after hex n (d ∷ ds) = spelled_after hex (n * base_of hex + digit_value d) ds

abbrev pub spelled : Bool → List ℕ → ℕ
spelled hex ds = spelled_after hex 0 ds

-- what may go on after digits: a digit or `_`
abbrev pub goes_on : Bool → ℕ → Bool
goes_on hex b = is_digit_of hex b || b == 95

-- the whole part of a decimal number: `0`, or digits of which the first is not 0; and which bytes are taken into the
-- number after it
pub data Whole : List ℕ → List ℕ → (ℕ → Bool) → Type 0 where
  -- `x`, `e` and `E` are taken
  zero_digit : Whole (codes "0") (codes "0") (λ b. b == 120 || is_exponent_letter b)
  -- digits, `_`, `e` and `E` are taken
  positive : {d : ℕ} {s ds : List ℕ} → d ≢ 48 → Digits false (d ∷ s) ds → Whole (d ∷ s) ds (λ b. goes_on false b || is_exponent_letter b)

-- a number, its value, whether it is hexadecimal, and which bytes are taken into it after it
pub data Numeral : List ℕ → ℕ → Bool → (ℕ → Bool) → Type 0 where
  -- digits alone
  whole : {s ds : List ℕ} {more : ℕ → Bool} → Whole s ds more → Numeral s (spelled false ds) false more
  -- `e` or `E` and a power of ten; then digits and `_` are taken
  scaled : (e : ℕ) {s ds t es : List ℕ} {more : ℕ → Bool} → Whole s ds more → is_exponent_letter e ≡ true → Digits false t es → Numeral (s ++ (e ∷ t)) (spelled false ds * 10 ^ spelled false es) false (goes_on false)
  -- `0x` and hexadecimal digits; then such digits and `_` are taken
  hexadecimal : {s ds : List ℕ} → Digits true s ds → Numeral (codes "0x" ++ s) (spelled true ds) true (goes_on true)

-- the beginning of a number, after which a digit must follow, a hexadecimal one or a decimal one
pub data Unfinished : List ℕ → Bool → Type 0 where
  after_x : Unfinished (codes "0x") true
  after_letter : (e : ℕ) {s ds : List ℕ} {more : ℕ → Bool} → Whole s ds more → is_exponent_letter e ≡ true → Unfinished (s ++ (e ∷ [])) false
  after_gap : {n : ℕ} {s : List ℕ} {hex : Bool} {more : ℕ → Bool} → Numeral s n hex more → more 95 ≡ true → Unfinished (s ++ (95 ∷ [])) hex

-- what may not follow a number: a letter, digit, `_` or `$`, or a `.` (which is 46) and a digit
abbrev pub runs_on : List ℕ → Bool
runs_on [] = false
runs_on (b ∷ bs) = is_word_byte b || (b == 46 && begins is_ascii_digit bs)

-- ---- texts

-- what may stand in a text that the quote q ends; a backslash (which is 92) and the byte after it belong together
pub data InText : ℕ → List ℕ → Type 0 where
  nothing : {q : ℕ} → InText q []
  plain : {q b : ℕ} {s : List ℕ} → is_printable b ≡ true → b ≢ q → b ≢ 92 → InText q s → InText q (b ∷ s)
  escaped : {q b : ℕ} {s : List ℕ} → InText q s → InText q (92 ∷ b ∷ s)

-- where a text does not go on and its quote does not stand: at the end, also right after a backslash, or at a byte
-- that is not printable
pub data Breaks : ℕ → List ℕ → Type 0 where
  at_end : {q : ℕ} → Breaks q []
  after_backslash : {q : ℕ} → Breaks q (92 ∷ [])
  at_byte : {q b : ℕ} {s : List ℕ} → is_printable b ≡ false → Breaks q (b ∷ s)

-- ---- punctuators

-- no punctuator of a table stands at the head of the text
abbrev pub NoneStands : List (List ℕ) → List ℕ → Type 0
NoneStands table text = (m : List ℕ) → is_one_of m table ≡ true → begins_with m text ≡ false

-- none that stands there has more than n bytes
abbrev pub NoLonger : List (List ℕ) → ℕ → List ℕ → Type 0
NoLonger table n text = (m : List ℕ) → is_one_of m table ≡ true → begins_with m text ≡ true → length m ≤ n

-- m is the longest punctuator that stands before the rest, and it begins no comment
pub record IsLongest (m : List ℕ) (rest : List ℕ) : Type 0 where
  pub kept : NoLonger marks (length m) (m ++ rest)
  pub refused : NoLonger refused_marks (length m) (m ++ rest)
  pub no_line : begins_with (codes "//") (m ++ rest) ≡ false
  pub no_block : begins_with (codes "/*") (m ++ rest) ≡ false

-- no other rule reads this byte
pub record IsBad (b : ℕ) (rest : List ℕ) : Type 0 where
  pub no_blank : is_blank b ≡ false
  pub no_word : is_word_start b ≡ false
  pub no_number : is_ascii_digit b ≡ false
  pub no_text : is_quote b ≡ false
  pub no_kept : NoneStands marks (b ∷ rest)
  pub no_refused : NoneStands refused_marks (b ∷ rest)

-- ---- the rules

-- the piece that stands before the rest, and the kind of token that it is, or none where it is dropped;
-- `begins .. rest ≡ false` says that a longest run ends there
pub data Piece : List ℕ → List ℕ → Option TokenKind → Type 0 where
  -- space, tab, line feed, carriage return or form feed
  blank : {b : ℕ} {rest : List ℕ} → is_blank b ≡ true → Piece (b ∷ []) rest None
  -- from `//` up to the next line feed or carriage return, or the end
  line_comment : {s rest : List ℕ} → Each is_in_line s → begins is_in_line rest ≡ false → Piece (codes "//" ++ s) rest None
  -- from `/*` to the next `*/` after these two bytes
  block_comment : (s : List ℕ) {rest : List ℕ} → ¬ Holds (codes "*/") s → Piece (codes "/*" ++ (s ++ codes "*/")) rest None
  -- from the word `pragma` to the next semicolon, which may stand anywhere
  pragma : (s : List ℕ) {rest : List ℕ} → Each is_before_semicolon s → begins is_word_byte (s ++ codes ";") ≡ false → Piece (codes "pragma" ++ (s ++ codes ";")) rest None
  -- a word that is not `pragma` and not refused
  word : {w rest : List ℕ} → IsWord w rest → w ≢ codes "pragma" → is_refused w rest ≡ false → Piece w rest (Some (kind.Word w))
  -- the longest number, below 2^127, where what follows may follow
  number : {n : ℕ} {s rest : List ℕ} {hex : Bool} {more : ℕ → Bool} → Numeral s n hex more → begins more rest ≡ false → n < 2 ^ 127 → runs_on rest ≡ false → Piece s rest (Some (kind.Number (pos n) hex))
  -- from a quote to the next one that is the same
  quoted : {q : ℕ} {s rest : List ℕ} → is_quote q ≡ true → InText q s → Piece (q ∷ (s ++ (q ∷ []))) rest (Some kind.Text)
  -- the longest punctuator, of the language
  mark : {m rest : List ℕ} → is_one_of m marks ≡ true → IsLongest m rest → Piece m rest (Some (kind.Mark m))

-- the fault that the rule at a place gives; the place counts the bytes before the text
pub data FaultAt : ℕ → List ℕ → LexFault → Type 0 where
  -- a `/*` that no `*/` follows, at the `/*`
  open_comment : {at : ℕ} {s : List ℕ} → ¬ Holds (codes "*/") s → FaultAt at (codes "/*" ++ s) (fault.OpenComment at)
  -- a `pragma` that no semicolon follows, at the word
  open_pragma : {at : ℕ} {s : List ℕ} → Each is_before_semicolon s → begins is_word_byte s ≡ false → FaultAt at (codes "pragma" ++ s) (fault.OpenText at)
  -- a word outside the language
  refused_word : {at : ℕ} {w rest : List ℕ} → IsWord w rest → is_refused w rest ≡ true → FaultAt at (w ++ rest) (fault.Refused at (length w))
  -- a number that wants a digit, at the place where that must stand, which may be the end
  missing_digit : {at : ℕ} {s : List ℕ} (rest : List ℕ) {hex : Bool} → Unfinished s hex → begins (is_digit_of hex) rest ≡ false → FaultAt at (s ++ rest) (fault.BadByte (at + length s))
  -- the longest number, 2^127 or more, whatever follows
  wide_number : {at n : ℕ} {s : List ℕ} (rest : List ℕ) {hex : Bool} {more : ℕ → Bool} → Numeral s n hex more → begins more rest ≡ false → 2 ^ 127 ≤ n → FaultAt at (s ++ rest) (fault.WideNumber at)
  -- a number with a byte after it that may not follow, at that byte
  number_runs_on : {at n : ℕ} {s : List ℕ} (rest : List ℕ) {hex : Bool} {more : ℕ → Bool} → Numeral s n hex more → begins more rest ≡ false → n < 2 ^ 127 → runs_on rest ≡ true → FaultAt at (s ++ rest) (fault.BadByte (at + length s))
  -- a quote where another byte, or the end, comes before the next one that is the same, at the quote
  open_text : {at q : ℕ} {s rest : List ℕ} → is_quote q ≡ true → InText q s → Breaks q rest → FaultAt at (q ∷ (s ++ rest)) (fault.OpenText at)
  -- the longest punctuator, outside the language
  refused_mark : {at : ℕ} {m rest : List ℕ} → is_one_of m marks ≡ false → is_one_of m refused_marks ≡ true → IsLongest m rest → FaultAt at (m ++ rest) (fault.Refused at (length m))
  -- a byte that no rule reads
  bad_byte : {at b : ℕ} {rest : List ℕ} → IsBad b rest → FaultAt at (b ∷ rest) (fault.BadByte at)

-- ---- the whole

-- the token of a piece at a place, or none where the piece is dropped
abbrev pub token_of : ℕ → ℕ → Option TokenKind → List Token
token_of at len None = []
token_of at len (Some k) = record { kind = k; at = at; len = len } ∷ []

-- the tokens that a text spells, where so many bytes stand before it
pub data TokenizesFrom : ℕ → List ℕ → List Token → Type 0 where
  end : {at : ℕ} → TokenizesFrom at [] []
  piece : {at : ℕ} {p rest : List ℕ} {k : Option TokenKind} {ts : List Token} → Piece p rest k → TokenizesFrom (at + length p) rest ts → TokenizesFrom at (p ++ rest) (token_of at (length p) k ++ ts)

-- the fault that stands first in a text, where so many bytes stand before it
pub data FaultFrom : ℕ → List ℕ → LexFault → Type 0 where
  here : {at : ℕ} {text : List ℕ} {f : LexFault} → FaultAt at text f → FaultFrom at text f
  later : {at : ℕ} {p rest : List ℕ} {k : Option TokenKind} {f : LexFault} → Piece p rest k → FaultFrom (at + length p) rest f → FaultFrom at (p ++ rest) f

-- the tokens that a text spells
abbrev pub Tokenizes : List ℕ → List Token → Type 0
Tokenizes text ts = TokenizesFrom 0 text ts

-- the fault that stands first in a text
abbrev pub LexicalFault : List ℕ → LexFault → Type 0
LexicalFault text f = FaultFrom 0 text f
