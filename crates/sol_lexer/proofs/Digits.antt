-- How a text that begins with a digit is cut.
use Rattle.std.proofs.Common.{◌≡◌, ◌≢◌, ℕ, ◌*◌, ◌^◌, Bool, true, false, ◌||◌, ◌==◌, nat_lt, List, [], ◌∷◌, ◌++◌, length, refl, sym, subst, ap, ◌∙◌, arith, append_assoc, ◌⊎◌, inl, inr}
use Rattle.std.specs.Prelude.{codes, pos}
use Rattle.std.proofs.lemmas.Bool.{eqb-true, eqb-false, cases_Bool, ltb-true, ltb-false}
use Rattle.std.specs.Char.{is_ascii_digit}
use Rattle.sol_lexer.specs.Bytes.{begins, is_digit_of, is_exponent_letter}
use Rattle.sol_lexer.specs.Reading.{cut_of, number_of, placed_number}
use Rattle.sol_lexer.specs.Tokens.{Digits, Whole, Numeral, Unfinished, goes_on, spelled, last, next, spaced, runs_on}
use Rattle.sol_lexer.specs.Tokens as rule
use Rattle.sol_lexer.specs.declared.cut.Cut.{Cut}
use Rattle.sol_lexer.specs.declared.cut.Cut.TheVariants as cut
use Rattle.sol_lexer.proofs.Words.{cut-digit}
use Rattle.sol_lexer.proofs.Numerals.{numeral-reads, unfinished-reads}
use Rattle.sol_lexer.specs.Steps.{Says}
use Rattle.sol_lexer.proofs.Says.{said}

-- what goes on after a digit
abbrev Tail : Bool → List ℕ → List ℕ → Type 0
Tail hex s ds = (c : ℕ) → is_digit_of hex c ≡ true → Digits hex (c ∷ s) (c ∷ ds)

-- a text after a digit: digits to their end, or digits and a `_` that no digit follows
abbrev TailEnds : Bool → List ℕ → Type 0
TailEnds hex t = (s : List ℕ) × (ds : List ℕ) × (rest : List ℕ) × Tail hex s ds × (t ≡ s ++ rest) × (begins (goes_on hex) rest ≡ false)

abbrev TailWants : Bool → List ℕ → Type 0
TailWants hex t = (s : List ℕ) × (ds : List ℕ) × (rest : List ℕ) × Tail hex s ds × (t ≡ s ++ (95 ∷ rest)) × (begins (is_digit_of hex) rest ≡ false)

abbrev TailParts : Bool → List ℕ → Type 0
TailParts hex t = TailEnds hex t ⊎ TailWants hex t

alone : (hex : Bool) → Tail hex [] []
alone hex = λ c h. last h

after-digit : (hex : Bool) (b : ℕ) (bs : List ℕ) → is_digit_of hex b ≡ true → TailParts hex bs → TailParts hex (b ∷ bs)
after-digit hex b bs h (inl p) = inl (b ∷ p.0, b ∷ p.1, p.2, (λ c k. next k (p.3 b h)), ap (λ (x : List ℕ). b ∷ x) p.4, p.5)
after-digit hex b bs h (inr p) = inr (b ∷ p.0, b ∷ p.1, p.2, (λ c k. next k (p.3 b h)), ap (λ (x : List ℕ). b ∷ x) p.4, p.5)

after-gap : (hex : Bool) (b : ℕ) (bs : List ℕ) → is_digit_of hex b ≡ true → TailParts hex bs → TailParts hex (95 ∷ b ∷ bs)
after-gap hex b bs h (inl p) = inl (95 ∷ b ∷ p.0, b ∷ p.1, p.2, (λ c k. spaced k (p.3 b h)), ap (λ (x : List ℕ). 95 ∷ b ∷ x) p.4, p.5)
after-gap hex b bs h (inr p) = inr (95 ∷ b ∷ p.0, b ∷ p.1, p.2, (λ c k. spaced k (p.3 b h)), ap (λ (x : List ℕ). 95 ∷ b ∷ x) p.4, p.5)

gap-parts : (hex : Bool) (t : List ℕ) → ((c : ℕ) (cs : List ℕ) → t ≡ c ∷ cs → TailParts hex cs) → TailParts hex (95 ∷ t)
gap-parts hex [] i = inr ([], [], [], alone hex, refl, refl)
gap-parts hex (c ∷ cs) i = elim (cases_Bool (is_digit_of hex c)) [
  | inl h ↦ after-gap hex c cs h (i c cs refl)
  | inr h ↦ inr ([], [], c ∷ cs, alone hex, refl, h)
]

tail-step : (hex : Bool) (b : ℕ) (bs : List ℕ) → TailParts hex bs → ((c : ℕ) (cs : List ℕ) → bs ≡ c ∷ cs → TailParts hex cs) → TailParts hex (b ∷ bs)
tail-step hex b bs i j = elim (cases_Bool (is_digit_of hex b)) [
  | inl h ↦ after-digit hex b bs h i
  | inr h ↦ elim (cases_Bool (b == 95)) [
    | inl k ↦ subst (λ (x : ℕ). TailParts hex (x ∷ bs)) (sym (eqb-true b 95 k)) (gap-parts hex bs j)
    | inr k ↦ inl ([], [], b ∷ bs, alone hex, refl, rw (h, k) refl)
  ]
]

same-tail : (c d : ℕ) (cs ds : List ℕ) → c ∷ cs ≡ d ∷ ds → cs ≡ ds
same-tail c d cs ds h = cc

tail-parts : (hex : Bool) (t : List ℕ) → TailParts hex t
tail-parts hex [] = inl ([], [], [], alone hex, refl, refl)
tail-parts hex (b ∷ []) = tail-step hex b [] (tail-parts hex []) (λ c cs e. absurd (cc))
tail-parts hex (b ∷ c ∷ cs) = tail-step hex b (c ∷ cs) (tail-parts hex (c ∷ cs)) (λ d ds e. subst (λ (x : List ℕ). TailParts hex x) (same-tail c d cs ds e) (tail-parts hex cs))

-- a text where a digit must stand: digits, digits and a `_` that no digit follows, or no digit
abbrev Ends : Bool → List ℕ → Type 0
Ends hex t = (s : List ℕ) × (ds : List ℕ) × (rest : List ℕ) × Digits hex s ds × (t ≡ s ++ rest) × (begins (goes_on hex) rest ≡ false)

abbrev Wants : Bool → List ℕ → Type 0
Wants hex t = (s : List ℕ) × (ds : List ℕ) × (rest : List ℕ) × Digits hex s ds × (t ≡ s ++ (95 ∷ rest)) × (begins (is_digit_of hex) rest ≡ false)

abbrev DigitParts : Bool → List ℕ → Type 0
DigitParts hex t = (Ends hex t ⊎ Wants hex t) ⊎ (begins (is_digit_of hex) t ≡ false)

from-tail : (hex : Bool) (b : ℕ) (bs : List ℕ) → is_digit_of hex b ≡ true → TailParts hex bs → Ends hex (b ∷ bs) ⊎ Wants hex (b ∷ bs)
from-tail hex b bs h (inl p) = inl (b ∷ p.0, b ∷ p.1, p.2, p.3 b h, ap (λ (x : List ℕ). b ∷ x) p.4, p.5)
from-tail hex b bs h (inr p) = inr (b ∷ p.0, b ∷ p.1, p.2, p.3 b h, ap (λ (x : List ℕ). b ∷ x) p.4, p.5)

digit-parts : (hex : Bool) (t : List ℕ) → DigitParts hex t
digit-parts hex [] = inr refl
digit-parts hex (b ∷ bs) = elim (cases_Bool (is_digit_of hex b)) [
  | inl h ↦ inl (from-tail hex b bs h (tail-parts hex bs))
  | inr h ↦ inr h
]

-- ---- numbers

-- a number that nothing goes on with
abbrev Complete : List ℕ → Type 0
Complete t = (s : List ℕ) × (n : ℕ) × (hex : Bool) × (more : ℕ → Bool) × (rest : List ℕ) × Numeral s n hex more × (t ≡ s ++ rest) × (begins more rest ≡ false)

-- a number that wants a digit which does not follow
abbrev Short : List ℕ → Type 0
Short t = (s : List ℕ) × (hex : Bool) × (rest : List ℕ) × Unfinished s hex × (t ≡ s ++ rest) × (begins (is_digit_of hex) rest ≡ false)

abbrev NumberParts : List ℕ → Type 0
NumberParts t = Complete t ⊎ Short t

gap-joined : (s rest : List ℕ) → s ++ (95 ∷ rest) ≡ (s ++ (95 ∷ [])) ++ rest
gap-joined s rest = sym (append_assoc s (95 ∷ []) rest)

hexadecimal-parts : (t : List ℕ) → DigitParts true t → NumberParts (codes "0x" ++ t)
hexadecimal-parts t (inl (inl p)) = inl (codes "0x" ++ p.0, spelled true p.1, true, goes_on true, p.2, rule.hexadecimal p.3, ap (λ (x : List ℕ). codes "0x" ++ x) p.4, p.5)
hexadecimal-parts t (inl (inr p)) = inr ((codes "0x" ++ p.0) ++ (95 ∷ []), true, p.2, rule.after_gap (rule.hexadecimal p.3) refl, ap (λ (x : List ℕ). codes "0x" ++ x) p.4 ∙ gap-joined (codes "0x" ++ p.0) p.2, p.5)
hexadecimal-parts t (inr h) = inr (codes "0x", true, t, rule.after_x, refl, h)

scaled-parts : {s ds : List ℕ} {more : ℕ → Bool} → Whole s ds more → (e : ℕ) → is_exponent_letter e ≡ true → (t : List ℕ) → DigitParts false t → NumberParts (s ++ (e ∷ t))
scaled-parts {s} {ds} w e k t (inl (inl p)) = inl (s ++ (e ∷ p.0), spelled false ds * 10 ^ spelled false p.1, false, goes_on false, p.2, rule.scaled e w k p.3, ap (λ (x : List ℕ). s ++ (e ∷ x)) p.4 ∙ sym (append_assoc s (e ∷ p.0) p.2), p.5)
scaled-parts {s} {ds} w e k t (inl (inr p)) = inr ((s ++ (e ∷ p.0)) ++ (95 ∷ []), false, p.2, rule.after_gap (rule.scaled e w k p.3) refl, ap (λ (x : List ℕ). s ++ (e ∷ x)) p.4 ∙ sym (append_assoc s (e ∷ p.0) (95 ∷ p.2)) ∙ gap-joined (s ++ (e ∷ p.0)) p.2, p.5)
scaled-parts {s} {ds} w e k t (inr h) = inr (s ++ (e ∷ []), false, t, rule.after_letter e w k, sym (append_assoc s (e ∷ []) t), h)

-- after a whole part, what is taken besides a mark does not follow
whole-parts : {s ds : List ℕ} {more : ℕ → Bool} → Whole s ds more → (rest : List ℕ) → (begins is_exponent_letter rest ≡ false → begins more rest ≡ false) → NumberParts (s ++ rest)
whole-parts {s} {ds} {more} w [] h = inl (s, spelled false ds, false, more, [], rule.whole w, refl, refl)
whole-parts {s} {ds} {more} w (e ∷ t) h = elim (cases_Bool (is_exponent_letter e)) [
  | inl k ↦ scaled-parts w e k t (digit-parts false t)
  | inr k ↦ inl (s, spelled false ds, false, more, e ∷ t, rule.whole w, refl, h k)
]

or-false : (x y : Bool) → x ≡ false → y ≡ false → (x || y) ≡ false
or-false x y h k = grind arith

positive-more : (rest : List ℕ) → begins (goes_on false) rest ≡ false → begins is_exponent_letter rest ≡ false → begins (λ b. goes_on false b || is_exponent_letter b) rest ≡ false
positive-more [] h k = refl
positive-more (b ∷ bs) h k = or-false (goes_on false b) (is_exponent_letter b) h k

positive-parts : (d : ℕ) (t : List ℕ) → d ≢ 48 → is_ascii_digit d ≡ true → TailParts false t → NumberParts (d ∷ t)
positive-parts d t n h (inl p) = subst (λ (x : List ℕ). NumberParts (d ∷ x)) (sym p.4) (whole-parts (rule.positive n (p.3 d h)) p.2 (positive-more p.2 p.5))
positive-parts d t n h (inr p) = inr ((d ∷ p.0) ++ (95 ∷ []), false, p.2, rule.after_gap (rule.whole (rule.positive n (p.3 d h))) refl, ap (λ (x : List ℕ). d ∷ x) p.4 ∙ gap-joined (d ∷ p.0) p.2, p.5)

zero-parts : (t : List ℕ) → NumberParts (codes "0" ++ t)
zero-parts [] = whole-parts rule.zero_digit [] (λ h. refl)
zero-parts (b ∷ bs) = elim (cases_Bool (b == 120)) [
  | inl h ↦ subst (λ (x : ℕ). NumberParts (48 ∷ x ∷ bs)) (sym (eqb-true b 120 h)) (hexadecimal-parts bs (digit-parts true bs))
  | inr h ↦ whole-parts rule.zero_digit (b ∷ bs) (λ k. or-false (b == 120) (is_exponent_letter b) h k)
]

number-parts : (b : ℕ) (bs : List ℕ) → is_ascii_digit b ≡ true → NumberParts (b ∷ bs)
number-parts b bs h = elim (cases_Bool (b == 48)) [
  | inl k ↦ subst (λ (x : ℕ). NumberParts (x ∷ bs)) (sym (eqb-true b 48 k)) (zero-parts bs)
  | inr k ↦ positive-parts b bs (eqb-false b 48 k) h (tail-parts false bs)
]

-- ---- what is read is what the rules say

placed-told : {s : List ℕ} {n : ℕ} {hex : Bool} {more : ℕ → Bool} → Numeral s n hex more → (rest : List ℕ) → begins more rest ≡ false → (c d : Bool) → nat_lt n (2 ^ 127) ≡ c → runs_on rest ≡ d → Says (s ++ rest) (placed_number (length s) n hex rest)
placed-told {s} {n} {hex} i rest h false d j k =
    let e : cut.WideNumber ≡ placed_number (length s) n hex rest = rw j refl in
    subst (λ (x : Cut). Says (s ++ rest) x) e (λ at. rule.wide_number rest i h (ltb-false n (2 ^ 127) j))
placed-told {s} {n} {hex} i rest h true false j k =
    let e : cut.Number (length s) (pos n) hex ≡ placed_number (length s) n hex rest = rw (j, k) refl in
    subst (λ (x : Cut). Says (s ++ rest) x) e (s, rest, refl, refl, rule.number i h (ltb-true n (2 ^ 127) j) k)
placed-told {s} {n} {hex} i rest h true true j k =
    let e : cut.BadByte (length s) ≡ placed_number (length s) n hex rest = rw (j, k) refl in
    subst (λ (x : Cut). Says (s ++ rest) x) e (λ at. rule.number_runs_on rest i h (ltb-true n (2 ^ 127) j) k)

number-with : (t : List ℕ) → NumberParts t → Says t (number_of t)
number-with t (inl p) = said t (p.0 ++ p.4) (number_of t) (placed_number (length p.0) p.1 p.2 p.4) p.6 (ap number_of p.6 ∙ numeral-reads p.5 p.4 p.7) (placed-told p.5 p.4 p.7 (nat_lt p.1 (2 ^ 127)) (runs_on p.4) refl refl)
number-with t (inr p) = said t (p.0 ++ p.2) (number_of t) (cut.BadByte (length p.0)) p.4 (ap number_of p.4 ∙ unfinished-reads p.3 p.2 p.5) (λ at. rule.missing_digit p.2 p.3 p.5)

pub number-told : (b : ℕ) (bs : List ℕ) → is_ascii_digit b ≡ true → Says (b ∷ bs) (cut_of (b ∷ bs))
number-told b bs h = subst (λ (x : Cut). Says (b ∷ bs) x) (sym (cut-digit b bs h)) (number-with (b ∷ bs) (number-parts b bs h))
