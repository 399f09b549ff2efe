-- Steps of the loops that make lists, and of tests on numbers.
use Rattle.std.proofs.Common.{◌≡◌, sym, ap, refl, ℕ, zero, suc, ◌+◌, ◌≤◌, ◌%◌, ◌==◌, List, [], ◌∷◌, ◌++◌, append_assoc, append-nil, Option, Some, None, false, arith}
use Rattle.std.proofs.lemmas.Nat.Gcd.{IsGcd-from_zero, IsGcd-from_mod, IsGcd-swap, same_from_IsGcd}
use Rattle.std.specs.Int.{IsGcd, w128}
use lib.IntN.{ℤ, pos, negsuc}
use Rattle.std.specs.Prelude.{int_div, ◌+ℤ◌, unsigned_abs, FitsSigned, Result, Ok, Err}
use Rattle.std.specs.Result.{OkIff, result_ok}
use Rattle.chc_nums.proofs.Fits.{in_128_of}
use Rattle.std.specs.Ordering.{int_eq}
use Rattle.std.proofs.lemmas.Int.{ints, to_z-of_z}
use Rattle.std.proofs.Math.Nat.{div-zero, div-one}
use Rattle.chc_nums.specs.Wide.{in_128, fits_128, divided}
use Rattle.chc_nums.specs.Values.{with_value}
use Rattle.std.proofs.lemmas.Bool.Decides.{nat_tests}
use Rattle.chc_simplex.specs.Outcomes.{joined}
use Rattle.chc_simplex.specs.Divisors.{gcd, gcd_in}
use Rattle.chc_simplex.specs.Terms.{Terms}
use Rattle.chc_simplex.specs.Lines.{Tableau, common}
use Rattle.chc_simplex.specs.TableauRun.{nonbasic}

-- ---- one item more at the end

pub joined-nil : {A : Type 0} (rest : Option (List A)) → joined [] rest ≡ rest
joined-nil None = refl
joined-nil (Some more) = refl

pub joined-more : {A : Type 0} (made : List A) (a : A) (rest : Option (List A)) → joined (made ++ a ∷ []) rest ≡ joined made (with_value rest (λ more. Some (a ∷ more)))
joined-more made a None = refl
joined-more made a (Some more) = ap Some (append_assoc made (a ∷ []) more)

pub joined-all : {A : Type 0} (made : List A) → joined made (Some []) ≡ Some made
joined-all made = ap Some (append-nil made)

pub joined-none : {A : Type 0} (made : List A) → joined made None ≡ None
joined-none made = refl

pub ruleset joins = (joined-nil, joined-more, joined-all)

-- ---- repeated items

pub nonbasic-more : (n : ℕ) → nonbasic n ++ None ∷ [] ≡ nonbasic (n + 1)
nonbasic-more zero = refl
nonbasic-more (suc n) = let e : suc n + 1 ≡ suc (n + 1) = omega arith in rw e (ap (λ (xs : Tableau). None ∷ xs) (nonbasic-more n))

pub ruleset repeats = (nonbasic-more)

-- ---- the greatest common divisor

gcd_in-is : (k a b : ℕ) → b ≤ k → IsGcd a b (gcd_in k a b)
gcd_in-is zero a b h = IsGcd-from_zero a b (omega arith)
gcd_in-is (suc k) a zero h = IsGcd-from_zero a 0 refl
gcd_in-is (suc k) a (suc b) h =
    let e : (suc b == 0) ≡ false = grind (arith, nat_tests) in
    rw e (IsGcd-from_mod a (suc b) (gcd_in k (suc b) (a % suc b)) (gcd_in-is k (suc b) (a % suc b) (omega arith)))

pub gcd-is : (a b : ℕ) → IsGcd a b (gcd a b)
unfolding gcd
gcd-is a b = gcd_in-is b a b (omega arith)

pub gcd-same : (a b g : ℕ) → IsGcd a b g → g ≡ gcd a b
gcd-same a b g h = same_from_IsGcd a b g (gcd a b) h (gcd-is a b)

pub ruleset divisors = (gcd-same)

gcd-one : (x : ℕ) → gcd 1 x ≡ 1
gcd-one x = let e : x % 1 ≡ 0 = omega arith in sym (gcd-same 1 x 1 (IsGcd-swap x 1 1 (IsGcd-from_mod x 1 1 (IsGcd-from_zero 1 (x % 1) e))))

pub common-one : (ts : Terms) → common 1 ts ≡ 1
common-one [] = refl
common-one (t ∷ ts) = rw (gcd-one (unsigned_abs t.1)) (common-one ts)

pub ruleset ones = (common-one)

-- ---- quotients

quotient-zero : (a : ℤ) → int_div a (pos 0) ≡ pos 0
quotient-zero (pos a) = ap pos (div-zero a)
quotient-zero (negsuc a) = omega (arith, ints, div-zero (suc a))

pub quotient-by_zero : (a b : ℤ) → b ≡ pos 0 → Some (pos 0) ≡ in_128 (int_div a b)
unfolding in_128 fits_128
quotient-by_zero a b h = rw (h, quotient-zero a) refl

int_eq-false : (a : ℤ) → (a ≡ pos 0 → ⊥) → int_eq a (pos 0) ≡ false
int_eq-false a h = grind (arith, ints)

pub quotient-is : (a b : ℤ) → (b ≡ pos 0 → ⊥) → divided a b (int_div a b) ≡ in_128 (int_div a b)
unfolding divided in_128
quotient-is a b h = rw (int_eq-false b h) refl

pub quotient-one : (a : ℤ) → int_div a (pos 1) ≡ a
quotient-one (pos a) = ap pos (div-one a)
quotient-one (negsuc a) = omega (arith, ints, div-one (suc a))

pub quotient-by_one : (a b : ℤ) → b ≡ pos 1 → in_128 (a +ℤ pos 0) ≡ in_128 (int_div a b)
quotient-by_one a b h = let e : a +ℤ pos 0 ≡ a = omega (arith, ints) in rw (h, quotient-one a, e) refl

pub ruleset quotients = (quotient-by_one, quotient-by_zero, quotient-is, to_z-of_z)

-- a number with a sign, as std converts it
pub converted : {E : Type 0} (r : Result ℤ E) (z : ℤ) → OkIff r (FitsSigned w128 z) z → result_ok r ≡ in_128 z
converted (Ok x) z h = in_128_of (Some x) z h
converted (Err e) z h = in_128_of None z h
