-- Numbers: what is read is what the rules say, both ways.
use Rattle.std.proofs.Common.{◌≡◌, ◌≢◌, ℕ, ◌+◌, ◌*◌, ◌^◌, pos, Bool, true, false, ◌||◌, ◌==◌, nat_lt, if◌then◌else◌, List, [], ◌∷◌, ◌++◌, length, drop, Option, Some, refl, sym, ap, ◌∙◌, arith, append_assoc, length-append, ◌⊎◌, inl, inr}
use Rattle.std.specs.Prelude.{codes}
use Rattle.std.proofs.Math.Seq.{drop-append_seam}
use Rattle.std.proofs.lemmas.Bool.{ne_eqb, cases_lt, le-ltb}
use Rattle.std.proofs.lemmas.Bool.Decides.{nat_tests}
use Rattle.sol_lexer.specs.Bytes.{begins, is_digit_of, is_exponent_letter}
use Rattle.sol_lexer.specs.Reading.{after_zero, digits_of, digits_on, exponent_of, grown, hexadecimal_of, limited, longer, number_end, number_of, placed_number, positive_of, power_of, scaled}
use Rattle.sol_lexer.specs.Tokens.{Digits, Whole, Numeral, Unfinished, Piece, FaultAt, goes_on, spelled, last, next, spaced, runs_on}
use Rattle.sol_lexer.specs.Tokens as rule
use Rattle.sol_lexer.specs.declared.numbers.DigitRun.{DigitRun}
use Rattle.sol_lexer.specs.declared.cut.Cut.{Cut}
use Rattle.sol_lexer.specs.declared.cut.Cut.TheVariants as cut
use Rattle.sol_lexer.proofs.Spellings.{grown_by, limited-yes, limited-no, scaled-limited, spelled-limited}

-- ---- digits that are spelled are read

abbrev far : ℕ → DigitRun → DigitRun
far n d = record d { len = d.len + n }

longer-far : (n m : ℕ) (d : DigitRun) → n + 1 ≡ m → longer (far n d) ≡ far m d
longer-far n m d h =
    let e : (d.len + n) + 1 ≡ d.len + m = omega (arith, h) in
    ap (λ (k : ℕ). record d { len = k }) e

digits-next : (hex w : Bool) (v : Option ℕ) (b : ℕ) (bs : List ℕ) → is_digit_of hex b ≡ true → digits_on hex w v (b ∷ bs) ≡ longer (digits_on hex false (grown hex v b) bs)
digits-next hex w v b bs h = rw h refl

gap-digit : (hex : Bool) → is_digit_of hex 95 ≡ false
gap-digit true = refl
gap-digit false = refl

digits-gap : (hex : Bool) (v : Option ℕ) (bs : List ℕ) → digits_on hex false v (95 ∷ bs) ≡ longer (digits_on hex true v bs)
digits-gap hex v bs = rw (gap-digit hex) refl

digits-reads : {hex : Bool} {s ds : List ℕ} → Digits hex s ds → (w : Bool) (v : Option ℕ) (rest : List ℕ) → digits_on hex w v (s ++ rest) ≡ far (length s) (digits_on hex false (grown_by hex v ds) rest)
digits-reads (last {hex} {d} h) w v rest = digits-next hex w v d rest h
digits-reads (next {hex} {d} {s} {ds} h i) w v rest =
    let l : length s + 1 ≡ length (d ∷ s) = omega arith in
    digits-next hex w v d (s ++ rest) h ∙ ap longer (digits-reads i false (grown hex v d) rest) ∙ longer-far (length s) (length (d ∷ s)) (digits_on hex false (grown_by hex (grown hex v d) ds) rest) l
digits-reads (spaced {hex} {d} {s} {ds} h i) w v rest =
    let x = digits_on hex false (grown_by hex (grown hex v d) ds) rest in
    let l : length s + 1 ≡ length (95 ∷ s) = omega arith in
    let m : length (95 ∷ s) + 1 ≡ length (d ∷ 95 ∷ s) = omega arith in
    digits-next hex w v d (95 ∷ (s ++ rest)) h ∙ ap longer (digits-gap hex (grown hex v d) (s ++ rest)) ∙ ap (λ (r : DigitRun). longer (longer r)) (digits-reads i true (grown hex v d) rest) ∙ ap longer (longer-far (length s) (length (95 ∷ s)) x l) ∙ longer-far (length (95 ∷ s)) (length (d ∷ 95 ∷ s)) x m

abbrev run_of : ℕ → Option ℕ → Bool → DigitRun
run_of n v w = record { len = n; value = v; wanted = w }

goes_on-no_digit : (x y : Bool) → (x || y) ≡ false → (x ≡ false) × (y ≡ false)
goes_on-no_digit false false h = (refl, refl)
goes_on-no_digit false true h = absurd (cc)
goes_on-no_digit true y h = absurd (cc)

digits-stop : (hex : Bool) (v : Option ℕ) (rest : List ℕ) → begins (goes_on hex) rest ≡ false → digits_on hex false v rest ≡ run_of 0 v false
digits-stop hex v [] h = refl
digits-stop hex v (b ∷ bs) h = let p = goes_on-no_digit (is_digit_of hex b) (b == 95) h in rw (p.0, p.1) refl

digits-want : (hex : Bool) (v : Option ℕ) (rest : List ℕ) → begins (is_digit_of hex) rest ≡ false → digits_on hex true v rest ≡ run_of 0 v true
digits-want hex v [] h = refl
digits-want hex v (b ∷ bs) h = rw h refl

-- a whole spelling
spelling-read : {hex : Bool} {s ds : List ℕ} → Digits hex s ds → (rest : List ℕ) → begins (goes_on hex) rest ≡ false → digits_of hex (s ++ rest) ≡ run_of (length s) (limited (spelled hex ds)) false
spelling-read {hex} {s} {ds} i rest h =
    let l : 0 + length s ≡ length s = omega arith in
    digits-reads i true (Some 0) rest ∙ ap (far (length s)) (digits-stop hex (grown_by hex (Some 0) ds) rest h) ∙ ap (λ (n : ℕ). run_of n (grown_by hex (Some 0) ds) false) l ∙ ap (λ (v : Option ℕ). run_of (length s) v false) (spelled-limited hex ds)

-- a spelling that `_` follows
spelling-gap : {hex : Bool} {s ds : List ℕ} → Digits hex s ds → (rest : List ℕ) → begins (is_digit_of hex) rest ≡ false → digits_of hex (s ++ (95 ∷ rest)) ≡ run_of (length s + 1) (grown_by hex (Some 0) ds) true
spelling-gap {hex} {s} {ds} i rest h =
    let l : (0 + 1) + length s ≡ length s + 1 = omega arith in
    digits-reads i true (Some 0) (95 ∷ rest) ∙ ap (far (length s)) (digits-gap hex (grown_by hex (Some 0) ds) rest ∙ ap longer (digits-want hex (grown_by hex (Some 0) ds) rest h)) ∙ ap (λ (n : ℕ). run_of n (grown_by hex (Some 0) ds) true) l

-- ---- numbers that are spelled are read

end-limited : (len n : ℕ) (hex : Bool) (rest : List ℕ) → number_end len (limited n) hex rest ≡ placed_number len n hex rest
end-limited len n hex rest = elim (cases_lt n (2 ^ 128)) [
  | inl h ↦ ap (λ (v : Option ℕ). number_end len v hex rest) (limited-yes n h)
  | inr h ↦ let k : nat_lt n (2 ^ 127) ≡ false = le-ltb n (2 ^ 127) (omega (arith, h)) in ap (λ (v : Option ℕ). number_end len v hex rest) (limited-no n h) ∙ sym (ap (λ (c : Bool). if c then (if runs_on rest then cut.BadByte len else cut.Number len (pos n) hex) else cut.WideNumber) k)
]

exponent-none : (len : ℕ) (v : Option ℕ) (rest : List ℕ) → begins is_exponent_letter rest ≡ false → exponent_of len v rest ≡ number_end len v false rest
exponent-none len v [] h = refl
exponent-none len v (b ∷ bs) h = rw h refl

-- what each reader gives, by the digits that it reads
abbrev hexadecimal_by : List ℕ → DigitRun → Cut
hexadecimal_by t d = if d.wanted then cut.BadByte (d.len + 2) else number_end (d.len + 2) d.value true (drop d.len t)

abbrev power_by : ℕ → Option ℕ → List ℕ → DigitRun → Cut
power_by len v t d = if d.wanted then cut.BadByte (len + d.len) else number_end (len + d.len) (scaled v d.value) false (drop d.len t)

abbrev positive_by : List ℕ → DigitRun → Cut
positive_by t d = if d.wanted then cut.BadByte d.len else exponent_of d.len d.value (drop d.len t)

hexadecimal-reads : {s ds : List ℕ} → Digits true s ds → (rest : List ℕ) → begins (goes_on true) rest ≡ false → hexadecimal_of (s ++ rest) ≡ placed_number (length s + 2) (spelled true ds) true rest
hexadecimal-reads {s} {ds} i rest h = ap (hexadecimal_by (s ++ rest)) (spelling-read i rest h) ∙ ap (λ (x : List ℕ). number_end (length s + 2) (limited (spelled true ds)) true x) (drop-append_seam s rest) ∙ end-limited (length s + 2) (spelled true ds) true rest

power-reads : (len n : ℕ) {s ds : List ℕ} → Digits false s ds → (rest : List ℕ) → begins (goes_on false) rest ≡ false → power_of len (limited n) (s ++ rest) ≡ placed_number (len + length s) (n * 10 ^ spelled false ds) false rest
power-reads len n {s} {ds} i rest h = ap (power_by len (limited n) (s ++ rest)) (spelling-read i rest h) ∙ ap (λ (x : List ℕ). number_end (len + length s) (scaled (limited n) (limited (spelled false ds))) false x) (drop-append_seam s rest) ∙ ap (λ (v : Option ℕ). number_end (len + length s) v false rest) (scaled-limited n (spelled false ds)) ∙ end-limited (len + length s) (n * 10 ^ spelled false ds) false rest

-- what may stand after a whole part that is read to its end
abbrev pub Stops : (ℕ → Bool) → List ℕ → Type 0
Stops more rest = (begins is_exponent_letter rest ≡ true) ⊎ (begins more rest ≡ false)

letter-no_x : (b : ℕ) → is_exponent_letter b ≡ true → (b == 120) ≡ false
letter-no_x b h = grind (arith, nat_tests)

letter-no_digit : (b : ℕ) → is_exponent_letter b ≡ true → goes_on false b ≡ false
letter-no_digit b h = grind (arith, nat_tests)

zero-stops : (b : ℕ) (bs : List ℕ) → Stops (λ b. b == 120 || is_exponent_letter b) (b ∷ bs) → (b == 120) ≡ false
zero-stops b bs (inl h) = letter-no_x b h
zero-stops b bs (inr h) = (goes_on-no_digit (b == 120) (is_exponent_letter b) h).0

positive-stops : (rest : List ℕ) → Stops (λ b. goes_on false b || is_exponent_letter b) rest → begins (goes_on false) rest ≡ false
positive-stops [] h = refl
positive-stops (b ∷ bs) (inl h) = letter-no_digit b h
positive-stops (b ∷ bs) (inr h) = (goes_on-no_digit (goes_on false b) (is_exponent_letter b) h).0

zero-reads : (rest : List ℕ) → Stops (λ b. b == 120 || is_exponent_letter b) rest → after_zero rest ≡ exponent_of 1 (Some 0) rest
zero-reads [] h = refl
zero-reads (b ∷ bs) h = rw (zero-stops b bs h) refl

zero-limited : Some 0 ≡ limited (spelled false (codes "0"))
zero-limited = sym (limited-yes 0 (omega arith))

positive-number : (d : ℕ) (bs : List ℕ) → d ≢ 48 → number_of (d ∷ bs) ≡ positive_of (d ∷ bs)
positive-number d bs n = rw (ne_eqb d 48 n) refl

whole-reads : {s ds : List ℕ} {more : ℕ → Bool} → Whole s ds more → (rest : List ℕ) → Stops more rest → number_of (s ++ rest) ≡ exponent_of (length s) (limited (spelled false ds)) rest
whole-reads rule.zero_digit rest h = zero-reads rest h ∙ ap (λ (v : Option ℕ). exponent_of 1 v rest) zero-limited
whole-reads (rule.positive {d} {s} {ds} n i) rest h = positive-number d (s ++ rest) n ∙ ap (positive_by ((d ∷ s) ++ rest)) (spelling-read i rest (positive-stops rest h)) ∙ ap (λ (x : List ℕ). exponent_of (length (d ∷ s)) (limited (spelled false ds)) x) (drop-append_seam (d ∷ s) rest)

more-no_letter : {s ds : List ℕ} {more : ℕ → Bool} → Whole s ds more → (rest : List ℕ) → begins more rest ≡ false → begins is_exponent_letter rest ≡ false
more-no_letter w [] h = refl
more-no_letter rule.zero_digit (b ∷ bs) h = (goes_on-no_digit (b == 120) (is_exponent_letter b) h).1
more-no_letter (rule.positive n i) (b ∷ bs) h = (goes_on-no_digit (goes_on false b) (is_exponent_letter b) h).1

letter-reads : {s ds : List ℕ} {more : ℕ → Bool} → Whole s ds more → (e : ℕ) → is_exponent_letter e ≡ true → (rest : List ℕ) → number_of (s ++ (e ∷ rest)) ≡ power_of (length s + 1) (limited (spelled false ds)) rest
letter-reads {s} {ds} w e h rest = whole-reads w (e ∷ rest) (inl h) ∙ (rw h refl)

pub numeral-reads : {s : List ℕ} {n : ℕ} {hex : Bool} {more : ℕ → Bool} → Numeral s n hex more → (rest : List ℕ) → begins more rest ≡ false → number_of (s ++ rest) ≡ placed_number (length s) n hex rest
numeral-reads (rule.whole {s} {ds} w) rest h = whole-reads w rest (inr h) ∙ exponent-none (length s) (limited (spelled false ds)) rest (more-no_letter w rest h) ∙ end-limited (length s) (spelled false ds) false rest
numeral-reads (rule.scaled e {s} {ds} {t} {es} w k i) rest h =
    let l : (length s + 1) + length t ≡ length (s ++ (e ∷ t)) = omega (arith, length-append s (e ∷ t)) in
    ap number_of (append_assoc s (e ∷ t) rest) ∙ letter-reads w e k (t ++ rest) ∙ power-reads (length s + 1) (spelled false ds) i rest h ∙ ap (λ (m : ℕ). placed_number m (spelled false ds * 10 ^ spelled false es) false rest) l
numeral-reads (rule.hexadecimal {s} {ds} i) rest h =
    let l : length s + 2 ≡ length (codes "0x" ++ s) = omega arith in
    hexadecimal-reads i rest h ∙ ap (λ (m : ℕ). placed_number m (spelled true ds) true rest) l

-- ---- numbers that want a digit

hexadecimal-wants : (rest : List ℕ) → begins (is_digit_of true) rest ≡ false → hexadecimal_of rest ≡ cut.BadByte 2
hexadecimal-wants rest h = ap (hexadecimal_by rest) (digits-want true (Some 0) rest h)

hexadecimal-gap : {s ds : List ℕ} → Digits true s ds → (rest : List ℕ) → begins (is_digit_of true) rest ≡ false → hexadecimal_of (s ++ (95 ∷ rest)) ≡ cut.BadByte ((length s + 1) + 2)
hexadecimal-gap {s} i rest h = ap (hexadecimal_by (s ++ (95 ∷ rest))) (spelling-gap i rest h)

power-wants : (len : ℕ) (v : Option ℕ) (rest : List ℕ) → begins (is_digit_of false) rest ≡ false → power_of len v rest ≡ cut.BadByte (len + 0)
power-wants len v rest h = ap (power_by len v rest) (digits-want false (Some 0) rest h)

power-gap : (len : ℕ) (v : Option ℕ) {s ds : List ℕ} → Digits false s ds → (rest : List ℕ) → begins (is_digit_of false) rest ≡ false → power_of len v (s ++ (95 ∷ rest)) ≡ cut.BadByte (len + (length s + 1))
power-gap len v {s} i rest h = ap (power_by len v (s ++ (95 ∷ rest))) (spelling-gap i rest h)

positive-gap : {s ds : List ℕ} → Digits false s ds → (rest : List ℕ) → begins (is_digit_of false) rest ≡ false → positive_of (s ++ (95 ∷ rest)) ≡ cut.BadByte (length s + 1)
positive-gap {s} i rest h = ap (positive_by (s ++ (95 ∷ rest))) (spelling-gap i rest h)

whole-gap : {s ds : List ℕ} {more : ℕ → Bool} → Whole s ds more → more 95 ≡ true → (rest : List ℕ) → begins (is_digit_of false) rest ≡ false → number_of (s ++ (95 ∷ rest)) ≡ cut.BadByte (length s + 1)
whole-gap rule.zero_digit m rest h = absurd (cc)
whole-gap (rule.positive {d} {s} n i) m rest h = positive-number d (s ++ (95 ∷ rest)) n ∙ positive-gap i rest h

numeral-gap : {s : List ℕ} {n : ℕ} {hex : Bool} {more : ℕ → Bool} → Numeral s n hex more → more 95 ≡ true → (rest : List ℕ) → begins (is_digit_of hex) rest ≡ false → number_of (s ++ (95 ∷ rest)) ≡ cut.BadByte (length s + 1)
numeral-gap (rule.whole w) m rest h = whole-gap w m rest h
numeral-gap (rule.scaled e {s} {ds} {t} {es} w k i) m rest h =
    let l : (length s + 1) + (length t + 1) ≡ length (s ++ (e ∷ t)) + 1 = omega (arith, length-append s (e ∷ t)) in
    ap number_of (append_assoc s (e ∷ t) (95 ∷ rest)) ∙ letter-reads w e k (t ++ (95 ∷ rest)) ∙ power-gap (length s + 1) (limited (spelled false ds)) i rest h ∙ ap cut.BadByte l
numeral-gap (rule.hexadecimal {s} {ds} i) m rest h =
    let l : (length s + 1) + 2 ≡ length (codes "0x" ++ s) + 1 = omega arith in
    hexadecimal-gap i rest h ∙ ap cut.BadByte l

pub unfinished-reads : {s : List ℕ} {hex : Bool} → Unfinished s hex → (rest : List ℕ) → begins (is_digit_of hex) rest ≡ false → number_of (s ++ rest) ≡ cut.BadByte (length s)
unfinished-reads rule.after_x rest h = hexadecimal-wants rest h
unfinished-reads (rule.after_letter e {s} {ds} w k) rest h =
    let l : (length s + 1) + 0 ≡ length (s ++ (e ∷ [])) = omega (arith, length-append s (e ∷ [])) in
    ap number_of (append_assoc s (e ∷ []) rest) ∙ letter-reads w e k rest ∙ power-wants (length s + 1) (limited (spelled false ds)) rest h ∙ ap cut.BadByte l
unfinished-reads (rule.after_gap {n} {s} {hex} i m) rest h =
    let l : length s + 1 ≡ length (s ++ (95 ∷ [])) = omega (arith, length-append s (95 ∷ [])) in
    ap number_of (append_assoc s (95 ∷ []) rest) ∙ numeral-gap i m rest h ∙ ap cut.BadByte l
