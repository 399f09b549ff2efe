-- Values that are there, and what a test on 0 says.
use Rattle.std.proofs.Common.{◌≡◌, ◌≢◌, refl, Option, Some, None, true, false, arith, pos, ◌+ℤ◌, ◌*ℤ◌}
use lib.IntN.{ℤ}
use Rattle.std.specs.Ordering.{int_eq}
use Rattle.std.proofs.lemmas.Int.{ints}
use Rattle.chc_nums.specs.Values.{with_value}
use Rattle.chc_nums.specs.Wide.{in_128, add_product}
use Rattle.chc_nums.proofs.Fits.{in_128-value}

pub value-some : {A B : Type 0} (o : Option A) (go : A → Option B) (z : B) → with_value o go ≡ Some z → (a : A) × (o ≡ Some a) × (go a ≡ Some z)
value-some None go z h = absurd (cc)
value-some (Some a) go z h = (a, refl, h)

-- a computed number is the true one
pub add_product-value : (s a b t : ℤ) → add_product s a b ≡ Some t → t ≡ s +ℤ (a *ℤ b)
add_product-value s a b t h =
    let p = value-some (in_128 (a *ℤ b)) (λ p. in_128 (s +ℤ p)) t h in
    omega (arith, ints, in_128-value (a *ℤ b) p.0 p.1, in_128-value (s +ℤ p.0) t p.2)

pub int_eq-true : (a : ℤ) → int_eq a (pos 0) ≡ true → a ≡ pos 0
int_eq-true a h = grind (arith, ints)

pub int_eq-false : (a : ℤ) → int_eq a (pos 0) ≡ false → a ≢ pos 0
int_eq-false a h e = grind (arith, ints)
