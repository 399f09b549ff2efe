-- Numbers of 128 bits.
use Rattle.std.proofs.Common.{◌≡◌, ◌+ℤ◌, ◌*ℤ◌, ◌≤ℤ◌, ◌-◌, ◌^◌, pos, neg_ℤ, suc, Option, Some, None, arith, true, false, cond, refl, sym, subst, ◌⊎◌, inl, inr}
use lib.IntN.{ℤ, negsuc}
use Rattle.std.specs.Prelude.{FitsSigned}
use Rattle.std.specs.Int.{w128}
use Rattle.std.specs.Option.{SomeIff}
use Rattle.std.proofs.lemmas.Int.{ints}
use Rattle.std.proofs.lemmas.Bool.Decides.{nat_tests}
use Rattle.chc_nums.specs.Values.{with_value}
use Rattle.std.proofs.lemmas.Nat.{mul-le}
use Rattle.chc_nums.specs.Wide.{fits_128, in_128, IsShort}

pub in_128-yes : (z : ℤ) → FitsSigned w128 z → in_128 z ≡ Some z
unfolding in_128 fits_128
in_128-yes z h = grind (arith, ints)

pub fits_from : (z : ℤ) → fits_128 z ≡ true → FitsSigned w128 z
unfolding fits_128
fits_from z h = grind (arith, ints)

-- what the checked operations of std answer
pub in_128_of : (r : Option ℤ) (z : ℤ) → SomeIff r (FitsSigned w128 z) z → r ≡ in_128 z
unfolding in_128
in_128_of None z h = grind (arith, fits_from)
in_128_of (Some x) z h = grind (arith, in_128-yes)

pub fits_not : (z : ℤ) → fits_128 z ≡ false → FitsSigned w128 z → ⊥
unfolding fits_128
fits_not z h f = grind (arith, ints)

-- the two cases of a number
pub in_128-cases : (z : ℤ) → ((in_128 z ≡ Some z) × FitsSigned w128 z) ⊎ ((in_128 z ≡ None) × ¬ (FitsSigned w128 z))
unfolding in_128
in_128-cases z =
    elim (fits_128 z) as (λ b. fits_128 z ≡ b → ((cond b (Some z) None ≡ Some z) × FitsSigned w128 z) ⊎ ((cond b (Some z) None ≡ None) × ¬ (FitsSigned w128 z))) [
      | true ↦ (λ e. inl (refl, fits_from z e))
      | false ↦ (λ e. inr (refl, λ f. fits_not z e f))
    ] refl

pub mul_add-is : (r : Option ℤ) (p q : ℤ) → r ≡ with_value (in_128 p) (λ x. with_value (in_128 q) (λ y. in_128 (x +ℤ y))) → SomeIff r (FitsSigned w128 p × FitsSigned w128 q × FitsSigned w128 (p +ℤ q)) (p +ℤ q)
mul_add-is r p q e =
    let P : Option ℤ → Type 0 = λ o. SomeIff o (FitsSigned w128 p × FitsSigned w128 q × FitsSigned w128 (p +ℤ q)) (p +ℤ q) in
    subst P (sym e)
    (elim (in_128-cases p) [
      | inr h ↦ rw h.0 (λ x. h.1 x.0)
      | inl h ↦ rw h.0 (elim (in_128-cases q) [
        | inr k ↦ rw k.0 (λ x. k.1 x.1)
        | inl k ↦ rw k.0 (elim (in_128-cases (p +ℤ q)) [
          | inr l ↦ rw l.0 (λ x. l.1 x.2)
          | inl l ↦ rw l.0 ((h.1, k.1, l.1), refl)
        ])
      ])
    ])

pub in_128-value : (z s : ℤ) → in_128 z ≡ Some s → s ≡ z
unfolding in_128
in_128-value z s e = grind (arith, nat_tests)

pub in_128-fits : (z s : ℤ) → in_128 z ≡ Some s → FitsSigned w128 s
in_128-fits z s e =
    elim (in_128-cases z) [
      | inl h ↦ subst (FitsSigned w128) (sym (in_128-value z s e)) h.1
      | inr h ↦ absurd (cc (h.0, e))
    ]

-- a number between the bounds has 128 bits
pub fits-between : (z : ℤ) → neg_ℤ (pos (2 ^ 127)) ≤ℤ z → z ≤ℤ pos (2 ^ 127 - 1) → FitsSigned w128 z
fits-between (pos n) l h = record { sfits = omega (arith, ints, l, h) }
fits-between (negsuc n) l h = record { sfits = omega (arith, ints, l, h) }

pub fits-bounds : (z : ℤ) → FitsSigned w128 z → (neg_ℤ (pos (2 ^ 127)) ≤ℤ z) × (z ≤ℤ pos (2 ^ 127 - 1))
fits-bounds (pos n) f = let h = f.sfits in (omega (arith, ints, h), omega (arith, ints, h))
fits-bounds (negsuc n) f = let h = f.sfits in (omega (arith, ints, h), omega (arith, ints, h))

-- a product of two numbers that are no further from 0 than 2^63
pub short-product : (a b : ℤ) → IsShort a → IsShort b → FitsSigned w128 (a *ℤ b)
short-product (pos a) (pos b) f g =
    let h = mul-le a b (2 ^ 63) (2 ^ 63) (omega (arith, ints, f)) (omega (arith, ints, g)) in
    fits-between (pos a *ℤ pos b) (omega (arith, ints, h)) (omega (arith, ints, h))
short-product (pos a) (negsuc b) f g =
    let h = mul-le a (suc b) (2 ^ 63) (2 ^ 63) (omega (arith, ints, f)) (omega (arith, ints, g)) in
    fits-between (pos a *ℤ negsuc b) (omega (arith, ints, h)) (omega (arith, ints, h))
short-product (negsuc a) (pos b) f g =
    let h = mul-le (suc a) b (2 ^ 63) (2 ^ 63) (omega (arith, ints, f)) (omega (arith, ints, g)) in
    fits-between (negsuc a *ℤ pos b) (omega (arith, ints, h)) (omega (arith, ints, h))
short-product (negsuc a) (negsuc b) f g =
    let h = mul-le (suc a) (suc b) (2 ^ 63) (2 ^ 63) (omega (arith, ints, f)) (omega (arith, ints, g)) in
    fits-between (negsuc a *ℤ negsuc b) (omega (arith, ints, h)) (omega (arith, ints, h))

pub short-value : (a b : ℤ) → IsShort a → IsShort b → Some (a *ℤ b) ≡ in_128 (a *ℤ b)
short-value a b f g = sym (in_128-yes (a *ℤ b) (short-product a b f g))

pub one-value : (a b : ℤ) → a ≡ pos 1 → FitsSigned w128 b → Some b ≡ in_128 (a *ℤ b)
one-value a b e h =
    let same : pos 1 *ℤ b ≡ b = omega (arith, ints) in
    rw (e, same) (sym (in_128-yes b h))

pub ruleset products = (short-product, short-value, one-value)
