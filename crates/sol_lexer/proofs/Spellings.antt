-- Digits, and the numbers that they spell.
use Rattle.std.proofs.Common.{◌≡◌, ℕ, ◌+◌, ◌*◌, ◌^◌, ◌≤◌, ◌<◌, Bool, true, false, ◌==◌, List, [], ◌∷◌, Option, Some, None, refl, sym, ap, ◌∙◌, arith, inl, inr}
use Rattle.std.proofs.lemmas.Bool.{eqb-true, eqb-false, cases_Bool, cases_lt, lt-ltb, le-ltb}
use Rattle.std.proofs.Math.Nat.{pow-le-pow_right, one-le-pow, zero-mul}
use Rattle.sol_lexer.specs.Bytes.{base_of, digit_value}
use Rattle.sol_lexer.specs.Reading.{grown, limited, scaled, times_power}
use Rattle.sol_lexer.specs.Tokens.{spelled, spelled_after}

-- ---- values

pub limited-yes : (n : ℕ) → n < 2 ^ 128 → limited n ≡ Some n
unfolding limited
limited-yes n h = rw (lt-ltb n (2 ^ 128) h) refl

pub limited-no : (n : ℕ) → 2 ^ 128 ≤ n → limited n ≡ None
unfolding limited
limited-no n h = rw (le-ltb n (2 ^ 128) h) refl

base-positive : (hex : Bool) → 1 ≤ base_of hex
base-positive true = omega arith
base-positive false = omega arith

times-least : (n b : ℕ) → 1 ≤ b → n ≤ n * b
times-least n b h = grind arith

pub grown-limited : (hex : Bool) (n d : ℕ) → grown hex (limited n) d ≡ limited (n * base_of hex + digit_value d)
grown-limited hex n d =
    let more = times-least n (base_of hex) (base-positive hex) in
    elim (cases_lt n (2 ^ 128)) [
      | inl h ↦ elim (cases_lt (n * base_of hex) (2 ^ 128)) [
        | inl k ↦ rw (limited-yes n h) (rw (limited-yes (n * base_of hex) k) refl)
        | inr k ↦ rw (limited-yes n h) (rw (limited-no (n * base_of hex) k) (sym (limited-no (n * base_of hex + digit_value d) (omega (arith, k)))))
      ]
      | inr h ↦ rw (limited-no n h) (sym (limited-no (n * base_of hex + digit_value d) (omega (arith, h, more))))
    ]

-- a number with more digits
abbrev pub grown_by : Bool → Option ℕ → List ℕ → Option ℕ
grown_by hex v [] = v
grown_by hex v (d ∷ ds) = grown_by hex (grown hex v d) ds

pub grown_by-limited : (hex : Bool) (n : ℕ) (ds : List ℕ) → grown_by hex (limited n) ds ≡ limited (spelled_after hex n ds)
grown_by-limited hex n [] = refl
grown_by-limited hex n (d ∷ ds) = ap (λ (v : Option ℕ). grown_by hex v ds) (grown-limited hex n d) ∙ grown_by-limited hex (n * base_of hex + digit_value d) ds

pub spelled-limited : (hex : Bool) (ds : List ℕ) → grown_by hex (Some 0) ds ≡ limited (spelled hex ds)
spelled-limited hex ds = ap (λ (v : Option ℕ). grown_by hex v ds) (sym (limited-yes 0 (omega arith))) ∙ grown_by-limited hex 0 ds

-- ---- powers of ten

large-power : (k : ℕ) → 38 < k → 2 ^ 128 ≤ 10 ^ k
large-power k h =
    let a : 10 ^ 39 ≤ 10 ^ k = pow-le-pow_right {n = 10} (omega arith) {i = 39} {j = k} (omega (arith, h)) in
    omega arith

times-larger : (n p : ℕ) → 1 ≤ n → p ≤ n * p
times-larger n p h = grind arith

times_power-limited : (n k : ℕ) → 1 ≤ n → times_power n k ≡ limited (n * 10 ^ k)
times_power-limited n k h = elim (cases_lt 38 k) [
  | inl l ↦ rw (lt-ltb 38 k l) (sym (limited-no (n * 10 ^ k) (omega (arith, large-power k l, times-larger n (10 ^ k) h))))
  | inr l ↦ rw (le-ltb 38 k l) refl
]

power-larger : (k : ℕ) → 2 ^ 128 ≤ k → 38 < k
power-larger k h = omega (arith, h)

pub scaled-limited : (n k : ℕ) → scaled (limited n) (limited k) ≡ limited (n * 10 ^ k)
scaled-limited n k = elim (cases_lt n (2 ^ 128)) [
  | inr h ↦ rw (limited-no n h) (sym (limited-no (n * 10 ^ k) (omega (arith, h, times-least n (10 ^ k) (one-le-pow k 10 (omega arith))))))
  | inl h ↦ elim (cases_Bool (n == 0)) [
    | inl e ↦ let z = eqb-true n 0 e in let w : n * 10 ^ k ≡ 0 = rw z (zero-mul (10 ^ k)) in rw (limited-yes n h) (rw e (sym (ap limited w ∙ limited-yes 0 (omega arith))))
    | inr e ↦ let one : 1 ≤ n = omega (arith, eqb-false n 0 e) in elim (cases_lt k (2 ^ 128)) [
      | inl l ↦ rw (limited-yes n h) (rw e (rw (limited-yes k l) (times_power-limited n k one)))
      | inr l ↦ rw (limited-yes n h) (rw e (rw (limited-no k l) (sym (limited-no (n * 10 ^ k) (omega (arith, large-power k (power-larger k l), times-larger n (10 ^ k) one))))))
    ]
  ]
]
