-- Numbers and their spelling.
use Rattle.std.proofs.Common.{◌≡◌, ◌∙◌, refl, sym, ap, subst, cond, ℕ, zero, suc, ◌^◌, ◌<◌, ◌≤◌, List, [], ◌∷◌, ◌++◌, length, map, Option, Some, None, Bool, true, false, not, ◌&&◌, ◌==◌, pos, if◌then◌else◌, arith, drop}
use Rattle.std.proofs.lemmas.Int.{ints}
use lib.IntN.{ℤ, negsuc, neg_ℤ}
use lib.Signed.{lt_z, mag}
use Rattle.std.specs.Prelude.{bytes_eq}
use Rattle.std.specs.List.{list_all}
use Rattle.std.specs.Fmt.{decimal, signed_decimal}
use Rattle.std.specs.Str.{IsAscii, IsUtf8}
use mir.Val.{SFits as FitsSigned}
use mir.Syntax.{w128}
use Rattle.std.specs.Str.Parse.{AllDigits, IsNumeral, digits_value, starts_with_minus, without_leading_sign, without_leading_plus, signed_digits_value}
use Rattle.std.proofs.lemmas.Fmt.{decimal_is_IsNumeral_wide, IsAscii-from_digits}
use Rattle.std.proofs.lemmas.Str.{IsUtf8-from_ascii}
use Rattle.std.proofs.lemmas.Str.Parse.{digit_from_value}
use Rattle.std.proofs.lemmas.Slice.Eq.{bytes_eq-Decides}
use Rattle.std.proofs.lemmas.Bool.{and_parts, and_from}
use Rattle.lists.proofs.Tests.{same-not}
use Rattle.sol_script.specs.Lines.{is_short, number, numbers, before_numbers}
use Rattle.sol_script.specs.ScriptText.{with_numbers}
use Rattle.sol_script.proofs.Pieces.{lacks, all_lack, behind}
use Rattle.std.proofs.lemmas.List.{append_assoc, append-nil}

-- ---- the bytes of a number

digits-lack : (b : ℕ) (ds : List ℕ) → b < 48 → AllDigits 10 ds → lacks b ds ≡ true
digits-lack b [] small d = refl
digits-lack b (c ∷ cs) small d =
    let k = digit_from_value c d.0 in
    and_from (not (c == b)) (lacks b cs) (ap not (same-not c b (λ e. omega arith))) (digits-lack b cs small d.1)

short-below : (m : ℕ) → is_short (pos m) ≡ true → m < 10 ^ 64
short-below m h = grind (arith, ints)

short-above : (m : ℕ) → is_short (negsuc m) ≡ true → suc m < 10 ^ 64
short-above m h = grind (arith, ints)

pub signed-lacks : (b : ℕ) (n : ℤ) → b < 45 → is_short n ≡ true → lacks b (signed_decimal n) ≡ true
signed-lacks b (pos m) small h = digits-lack b (decimal m) (omega arith) (decimal_is_IsNumeral_wide m (short-below m h)).0.1
signed-lacks b (negsuc m) small h =
    and_from (not (45 == b)) (lacks b (decimal (suc m))) (ap not (same-not 45 b (λ e. omega arith))) (digits-lack b (decimal (suc m)) (omega arith) (decimal_is_IsNumeral_wide (suc m) (short-above m h)).0.1)

-- ---- a number and its spelling

plain-digits : (ds : List ℕ) → IsNumeral 10 ds → (starts_with_minus ds ≡ false) × (without_leading_sign ds ≡ ds)
plain-digits [] d = absurd (omega (arith, d.0))
plain-digits (c ∷ cs) d =
    let k = digit_from_value c d.1.0 in
    let minus : (c == 45) ≡ false = same-not c 45 (λ e. omega arith) in
    let plus : (c == 43) ≡ false = same-not c 43 (λ e. omega arith) in
    (minus, rw (minus, plus) refl)

plain-value : (ds : List ℕ) (m : ℕ) → starts_with_minus ds ≡ false → without_leading_sign ds ≡ ds → digits_value 10 ds ≡ m → signed_digits_value 10 ds ≡ pos m
plain-value ds m a b c =
    ap (λ t. cond t (neg_ℤ (pos (digits_value 10 (without_leading_sign ds)))) (pos (digits_value 10 (without_leading_sign ds)))) a
    ∙ ap (λ l. pos (digits_value 10 l)) b ∙ ap pos c

value-spelled : (n : ℤ) → is_short n ≡ true → signed_digits_value 10 (signed_decimal n) ≡ n
value-spelled (pos m) h =
    let k = decimal_is_IsNumeral_wide m (short-below m h) in
    let q = plain-digits (decimal m) k.0 in
    plain-value (decimal m) m q.0 q.1 k.1
value-spelled (negsuc m) h =
    let k = decimal_is_IsNumeral_wide (suc m) (short-above m h) in
    ap (λ v. neg_ℤ (pos v)) k.1

numeral-spelled : (n : ℤ) → is_short n ≡ true → IsNumeral 10 (without_leading_sign (signed_decimal n))
numeral-spelled (pos m) h =
    let k = decimal_is_IsNumeral_wide m (short-below m h) in
    subst (IsNumeral 10) (sym (plain-digits (decimal m) k.0).1) k.0
numeral-spelled (negsuc m) h = (decimal_is_IsNumeral_wide (suc m) (short-above m h)).0

short-fits : (n : ℤ) → is_short n ≡ true → FitsSigned w128 n
short-fits (pos m) h = record { sfits = below m h }
  where
    below : (k : ℕ) → is_short (pos k) ≡ true → k < 2 ^ 127
    below k i = grind (arith, ints)
short-fits (negsuc m) h = record { sfits = above m h }
  where
    above : (k : ℕ) → is_short (negsuc k) ≡ true → k < 2 ^ 127
    above k i = grind (arith, ints)

same-bytes : (xs : List ℕ) → bytes_eq xs xs ≡ true
same-bytes xs = (bytes_eq-Decides xs xs).1 refl

pub number-spelled : (n : ℤ) → is_short n ≡ true → number (signed_decimal n) ≡ Some n
number-spelled n h = rw (value-spelled n h, same-bytes (signed_decimal n), h) refl

if-some : (t : Bool) (a b : ℤ) → (if t then Some a else None) ≡ Some b → (t ≡ true) × (a ≡ b)
if-some true a b e = (refl, cc)
if-some false a b e = absurd (cc)

pub number-spells : (word : List ℕ) (n : ℤ) → number word ≡ Some n → (word ≡ signed_decimal n) × (is_short n ≡ true)
number-spells word n e =
    let v : ℤ = signed_digits_value 10 word in
    let q = if-some (bytes_eq (signed_decimal v) word && is_short v) v n e in
    let t = and_parts (bytes_eq (signed_decimal v) word) (is_short v) q.0 in
    (sym ((bytes_eq-Decides (signed_decimal v) word).0 t.0) ∙ ap signed_decimal q.1, subst (λ z. is_short z ≡ true) q.1 t.1)

if-none : (t : Bool) (v : ℤ) → (t ≡ true → ⊥) → (if t then Some v else None) ≡ None
if-none true v never = absurd (never refl)
if-none false v never = refl

-- a word that is the number's spelling is read as a number
pub unread : (word : List ℕ) → (IsNumeral 10 (without_leading_sign word) × FitsSigned w128 (signed_digits_value 10 word) → ⊥) → number word ≡ None
unread word never =
    let v : ℤ = signed_digits_value 10 word in
    if-none (bytes_eq (signed_decimal v) word && is_short v) v (λ t.
    let q = and_parts (bytes_eq (signed_decimal v) word) (is_short v) t in
    let same : signed_decimal v ≡ word = (bytes_eq-Decides (signed_decimal v) word).0 q.0 in
    never (subst (λ w. IsNumeral 10 (without_leading_sign w)) same (numeral-spelled v q.1), short-fits v q.1))

ascii-spelled : (n : ℤ) → is_short n ≡ true → IsAscii (signed_decimal n)
ascii-spelled (pos m) h i = IsAscii-from_digits (decimal m) (decimal_is_IsNumeral_wide m (short-below m h)).0.1 i
ascii-spelled (negsuc m) h zero = omega arith
ascii-spelled (negsuc m) h (suc i) = IsAscii-from_digits (decimal (suc m)) (decimal_is_IsNumeral_wide (suc m) (short-above m h)).0.1 i

pub no-text : (word : List ℕ) → (IsUtf8 word → ⊥) → number word ≡ None
no-text word never =
    let v : ℤ = signed_digits_value 10 word in
    if-none (bytes_eq (signed_decimal v) word && is_short v) v (λ t.
    let q = and_parts (bytes_eq (signed_decimal v) word) (is_short v) t in
    let same : signed_decimal v ≡ word = (bytes_eq-Decides (signed_decimal v) word).0 q.0 in
    never (subst IsUtf8 same (IsUtf8-from_ascii (signed_decimal v) (ascii-spelled v q.1))))

pub ruleset unread_words = (unread, no-text)

-- ---- several

pub numbers-spelled : (ns : List ℤ) → list_all is_short ns ≡ true → numbers (map signed_decimal ns) ≡ Some ns
numbers-spelled [] h = refl
numbers-spelled (n ∷ ns) h = let q = and_parts (is_short n) (list_all is_short ns) h in rw (number-spelled n q.0, numbers-spelled ns q.1) refl

some-same : (xs ys : List ℤ) → Some xs ≡ Some ys → xs ≡ ys
some-same xs ys e = ap (unwrap_or_nil) e
  where
    unwrap_or_nil : Option (List ℤ) → List ℤ
    unwrap_or_nil None = []
    unwrap_or_nil (Some zs) = zs

pub numbers-spell : (words : List (List ℕ)) (ns : List ℤ) → numbers words ≡ Some ns → (words ≡ map signed_decimal ns) × (list_all is_short ns ≡ true)
numbers-spell [] ns e = let same : [] ≡ ns = some-same [] ns e in (ap (map signed_decimal) same, subst (λ l. list_all is_short l ≡ true) same refl)
numbers-spell (word ∷ words) ns e = step (number word) (numbers words) ns refl refl e (numbers-spell words)
  where
    step : (o : Option ℤ) (os : Option (List ℤ)) (ms : List ℤ) → number word ≡ o → numbers words ≡ os → before_numbers o os ≡ Some ms → ((ks : List ℤ) → numbers words ≡ Some ks → (words ≡ map signed_decimal ks) × (list_all is_short ks ≡ true)) → (word ∷ words ≡ map signed_decimal ms) × (list_all is_short ms ≡ true)
    step None os ms p q f rest = absurd (cc)
    step (Some k) None ms p q f rest = absurd (cc)
    step (Some k) (Some ks) ms p q f rest =
        let same : k ∷ ks ≡ ms = some-same (k ∷ ks) ms f in
        let a = number-spells word k p in
        let b = rest ks q in
        (ap (λ w. w ∷ words) a.0 ∙ ap (λ ws. signed_decimal k ∷ ws) b.0 ∙ ap (map signed_decimal) same, subst (λ l. list_all is_short l ≡ true) same (and_from (is_short k) (list_all is_short ks) a.1 b.1))

-- ---- a text with numbers behind it

pub with_numbers-behind : (text : List ℕ) (ns : List ℤ) → with_numbers text ns ≡ text ++ behind 32 (map signed_decimal ns)
with_numbers-behind text [] = sym (append-nil text)
with_numbers-behind text (n ∷ ns) = ap (λ t. with_numbers t ns) (append_assoc text (32 ∷ []) (signed_decimal n)) ∙ with_numbers-behind (text ++ 32 ∷ signed_decimal n) ns ∙ append_assoc text (32 ∷ signed_decimal n) (behind 32 (map signed_decimal ns))

pub numbers-lack : (b : ℕ) (ns : List ℤ) → b < 45 → list_all is_short ns ≡ true → all_lack b (map signed_decimal ns) ≡ true
numbers-lack b [] small h = refl
numbers-lack b (n ∷ ns) small h = let q = and_parts (is_short n) (list_all is_short ns) h in and_from (lacks b (signed_decimal n)) (all_lack b (map signed_decimal ns)) (signed-lacks b n small q.0) (numbers-lack b ns small q.1)
