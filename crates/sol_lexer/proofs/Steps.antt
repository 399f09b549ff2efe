-- What one step of the scan does.
use Rattle.std.proofs.Common.{◌≡◌, ℕ, ◌+◌, ◌<◌, ◌≤◌, Bool, true, ◌&&◌, nat_lt, List, [], ◌∷◌, ◌++◌, length, take, Option, Some, None, refl, sym, subst, ap, ◌∙◌, arith, length-append}
use Rattle.std.specs.Prelude.{option_to_list}
use Rattle.std.specs.Str.{IsUtf8, IsAscii}
use Rattle.std.proofs.lemmas.Str.{IsUtf8-from_ascii}
use Rattle.std.proofs.lemmas.Str.Ascii.{IsAscii-nil, IsAscii-cons}
use Rattle.std.proofs.lemmas.Bool.{and_parts, ltb-true}
use Rattle.std.proofs.lemmas.Bool.Decides.{nat_tests}
use Rattle.std.proofs.Math.Seq.{take-append_seam, drop-append_seam}
use lib.IntN.{ℤ}
use Rattle.sol_tree.specs.declared.token.Token.{Token}
use Rattle.sol_tree.specs.declared.token.TokenKind.{TokenKind}
use Rattle.sol_tree.specs.declared.token.TokenKind.TheVariants as kind
use Rattle.sol_lexer.specs.Bytes.{Each, is_word_byte}
use Rattle.sol_lexer.specs.Reading.{cut_of}
use Rattle.sol_lexer.specs.Punctuators.{marks}
use Rattle.sol_lexer.specs.Steps.{Passes, Says, Splits}
use Rattle.sol_lexer.specs.Tokens.{FaultAt, FaultFrom, IsWord, Piece, TokenizesFrom, token_of}
use Rattle.sol_lexer.specs.Tokens as rule
use Rattle.sol_lexer.specs.declared.lexer.LexFault.{LexFault}
use Rattle.sol_lexer.specs.declared.lexer.LexFault.TheVariants as fault
use Rattle.sol_lexer.specs.declared.cut.Cut.{Cut}
use Rattle.sol_lexer.proofs.Cuts.{cut-told}
use Rattle.sol_lexer.proofs.Laws.{piece-some}
use Rattle.sol_lexer.proofs.Punctuators.{every, every-one}

pub tells : (t : List ℕ) (c : Cut) → 0 < length t → c ≡ cut_of t → Says t c
tells [] c h e = absurd (omega arith)
tells (b ∷ bs) c h e = subst (λ (x : Cut). Says (b ∷ bs) x) (sym e) (cut-told b bs)

pub ruleset telling = (tells)

-- the token of a piece, or none
abbrev pub token_at : ℕ → ℕ → Option TokenKind → Option Token
token_at at n None = None
token_at at n (Some k) = Some (record { kind = k; at = at; len = n })

listed : (at n : ℕ) (k : Option TokenKind) → token_of at n k ≡ option_to_list (token_at at n k)
listed at n None = refl
listed at n (Some k) = refl

passes-piece : (at : ℕ) {p rest : List ℕ} {k : Option TokenKind} → Piece p rest k → Passes at (p ++ rest) (record { token = token_at at (length p) k; len = length p })
passes-piece at {p} {rest} {k} x = record {
  progress = piece-some x;
  within = omega (arith, length-append p rest);
  tokens = λ ts i.
      let j : TokenizesFrom (at + length p) rest ts = subst (λ (u : List ℕ). TokenizesFrom (at + length p) u ts) (drop-append_seam p rest) i in
      subst (λ (v : List Token). TokenizesFrom at (p ++ rest) (v ++ ts)) (listed at (length p) k) (rule.piece x j);
  faults = λ f i. rule.later x (subst (λ (u : List ℕ). FaultFrom (at + length p) u f) (drop-append_seam p rest) i);
}

passes : (at : ℕ) (t : List ℕ) (n : ℕ) (k : List ℕ → Option TokenKind) → Splits t n k → Passes at t (record { token = token_at at n (k (take n t)); len = n })
passes at t n k x =
    let a = passes-piece at x.4 in
    let e : x.0 ≡ take (length x.0) (x.0 ++ x.1) = sym (take-append_seam x.0 x.1) in
    let b : Passes at (x.0 ++ x.1) (record { token = token_at at (length x.0) (k (take (length x.0) (x.0 ++ x.1))); len = length x.0 }) = subst (λ (p : List ℕ). Passes at (x.0 ++ x.1) (record { token = token_at at (length x.0) (k p); len = length x.0 })) e a in
    let c : Passes at t (record { token = token_at at (length x.0) (k (take (length x.0) t)); len = length x.0 }) = subst (λ (u : List ℕ). Passes at u (record { token = token_at at (length x.0) (k (take (length x.0) u)); len = length x.0 })) (sym x.2) b in
    subst (λ (m : ℕ). Passes at t (record { token = token_at at m (k (take m t)); len = m })) (sym x.3) c

pub step-dropped : (at : ℕ) (t : List ℕ) (n : ℕ) → Splits t n (λ p. None) → Passes at t (record { token = None; len = n })
step-dropped at t n x = passes at t n (λ p. None) x

pub step-word : (at : ℕ) (t : List ℕ) (n : ℕ) (w : List ℕ) → w ≡ take n t → Splits t n (λ p. Some (kind.Word p)) → Passes at t (record { token = Some (record { kind = kind.Word w; at = at; len = n }); len = n })
step-word at t n w e x = subst (λ (u : List ℕ). Passes at t (record { token = Some (record { kind = kind.Word u; at = at; len = n }); len = n })) (sym e) (passes at t n (λ p. Some (kind.Word p)) x)

pub step-number : (at : ℕ) (t : List ℕ) (n : ℕ) (z : ℤ) (hex : Bool) → Splits t n (λ p. Some (kind.Number z hex)) → Passes at t (record { token = Some (record { kind = kind.Number z hex; at = at; len = n }); len = n })
step-number at t n z hex x = passes at t n (λ p. Some (kind.Number z hex)) x

pub step-text : (at : ℕ) (t : List ℕ) (n : ℕ) → Splits t n (λ p. Some kind.Text) → Passes at t (record { token = Some (record { kind = kind.Text; at = at; len = n }); len = n })
step-text at t n x = passes at t n (λ p. Some kind.Text) x

pub step-mark : (at : ℕ) (t : List ℕ) (n : ℕ) (m : List ℕ) → m ≡ take n t → Splits t n (λ p. Some (kind.Mark p)) → Passes at t (record { token = Some (record { kind = kind.Mark m; at = at; len = n }); len = n })
step-mark at t n m e x = subst (λ (u : List ℕ). Passes at t (record { token = Some (record { kind = kind.Mark u; at = at; len = n }); len = n })) (sym e) (passes at t n (λ p. Some (kind.Mark p)) x)

-- ---- names are ASCII

abbrev pub is_ascii_text : List ℕ → Bool
is_ascii_text [] = true
is_ascii_text (b ∷ bs) = nat_lt b 128 && is_ascii_text bs

ascii-text : (s : List ℕ) → is_ascii_text s ≡ true → IsAscii s
ascii-text [] h = IsAscii-nil
ascii-text (b ∷ bs) h = let p = and_parts (nat_lt b 128) (is_ascii_text bs) h in IsAscii-cons b bs (ltb-true b 128 p.0) (ascii-text bs p.1)

word-ascii : (b : ℕ) → is_word_byte b ≡ true → b < 128
word-ascii b h = grind (arith, nat_tests)

each-ascii : (s : List ℕ) → Each is_word_byte s → IsAscii s
each-ascii [] h = IsAscii-nil
each-ascii (b ∷ bs) h = IsAscii-cons b bs (word-ascii b h.0) (each-ascii bs h.1)

marks-ascii : every is_ascii_text marks ≡ true
unfolding marks
marks-ascii = refl

abbrev Named : Option TokenKind → Type 0
Named None = Unit {0}
Named (Some (kind.Word w)) = IsAscii w
Named (Some (kind.Number z hex)) = Unit {0}
Named (Some kind.Text) = Unit {0}
Named (Some (kind.Mark m)) = IsAscii m

piece-named : {p rest : List ℕ} {k : Option TokenKind} → Piece p rest k → Named k
piece-named (rule.blank h) = tt
piece-named (rule.line_comment e h) = tt
piece-named (rule.block_comment s h) = tt
piece-named (rule.pragma s e h) = tt
piece-named (rule.word {w} i n h) = each-ascii w i.bytes
piece-named (rule.number i h l r) = tt
piece-named (rule.quoted h i) = tt
piece-named (rule.mark {m} h i) = ascii-text m (every-one is_ascii_text marks m marks-ascii h)

front-taken : (t : List ℕ) (n : ℕ) (p rest : List ℕ) → t ≡ p ++ rest → n ≡ length p → p ≡ take n t
front-taken t n p rest e l = sym (take-append_seam p rest) ∙ ap (λ (m : ℕ). take m (p ++ rest)) (sym l) ∙ ap (λ (x : List ℕ). take n x) (sym e)

pub word-utf8 : (t : List ℕ) (n : ℕ) → Splits t n (λ p. Some (kind.Word p)) → IsUtf8 (take n t)
word-utf8 t n x = subst IsUtf8 (front-taken t n x.0 x.1 x.2 x.3) (IsUtf8-from_ascii x.0 (piece-named x.4))

pub mark-utf8 : (t : List ℕ) (n : ℕ) → Splits t n (λ p. Some (kind.Mark p)) → IsUtf8 (take n t)
mark-utf8 t n x = subst IsUtf8 (front-taken t n x.0 x.1 x.2 x.3) (IsUtf8-from_ascii x.0 (piece-named x.4))

-- ---- faults lie in the text

abbrev Within : ℕ → List ℕ → LexFault → Type 0
Within at t (fault.BadByte m) = m ≤ at + length t
Within at t (fault.OpenComment m) = Unit {0}
Within at t (fault.OpenText m) = Unit {0}
Within at t (fault.WideNumber m) = Unit {0}
Within at t (fault.Refused m n) = n ≤ length t
Within at t fault.NoMemory = Unit {0}

fault-within : {at : ℕ} {t : List ℕ} {f : LexFault} → FaultAt at t f → Within at t f
fault-within (rule.open_comment n) = tt
fault-within (rule.open_pragma e h) = tt
fault-within (rule.refused_word {at} {w} {rest} i h) = omega (arith, length-append w rest)
fault-within (rule.missing_digit {at} {s} rest i h) = omega (arith, length-append s rest)
fault-within (rule.wide_number rest i h l) = tt
fault-within (rule.number_runs_on {at} {n} {s} rest i h l r) = omega (arith, length-append s rest)
fault-within (rule.open_text h i r) = tt
fault-within (rule.refused_mark {at} {m} {rest} k h i) = omega (arith, length-append m rest)
fault-within (rule.bad_byte i) = omega arith

pub byte-within : {at m : ℕ} {t : List ℕ} → FaultAt at t (fault.BadByte m) → m ≤ at + length t
byte-within h = fault-within h

pub refused-within : {at m n : ℕ} {t : List ℕ} → FaultAt at t (fault.Refused m n) → n ≤ length t
refused-within h = fault-within h

-- ---- the end of the scan

pub none-left : (at : ℕ) (t : List ℕ) → length t ≡ 0 → TokenizesFrom at t []
none-left at [] h = rule.end
none-left at (b ∷ bs) h = absurd (omega (arith, h))
