-- Tests, and the facts that they tell.
use Rattle.std.proofs.Common.{◌≡◌, ◌≢◌, ℕ, ◌<◌, ◌≤◌, ◌==◌, Bool, true, false, ◌||◌, refl, arith}
use Rattle.std.specs.Prelude.{nat_lt}
use Rattle.std.proofs.lemmas.Bool.Decides.{nat_tests}

pub or-left : (a b : Bool) → a ≡ true → (a || b) ≡ true
or-left true b h = refl
or-left false b h = absurd (cc)

pub or-right : (a b : Bool) → b ≡ true → (a || b) ≡ true
or-right true b h = refl
or-right false b h = h

pub same-is : (m n : ℕ) → m ≡ n → (m == n) ≡ true
same-is m n h = grind (arith, nat_tests)

pub same-true : (m n : ℕ) → (m == n) ≡ true → m ≡ n
same-true m n h = grind (arith, nat_tests)

pub same-false : (m n : ℕ) → (m == n) ≡ false → m ≢ n
same-false m n h e = grind (arith, nat_tests)

pub less-is : (m n : ℕ) → m < n → nat_lt m n ≡ true
less-is m n h = grind (arith, nat_tests)

pub less-not : (m n : ℕ) → n ≤ m → nat_lt m n ≡ false
less-not m n h = grind (arith, nat_tests)

pub less-true : (m n : ℕ) → nat_lt m n ≡ true → m < n
less-true m n h = grind (arith, nat_tests)

pub less-false : (m n : ℕ) → nat_lt m n ≡ false → n ≤ m
less-false m n h = grind (arith, nat_tests)

pub same-not : (m n : ℕ) → m ≢ n → (m == n) ≡ false
same-not m n h = grind (arith, nat_tests)
