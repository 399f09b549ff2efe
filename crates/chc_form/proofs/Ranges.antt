-- Sums of a function of the variables over a range, and a linear sum as one.
use Rattle.std.proofs.Common.{◌≡◌, ◌≢◌, ◌∙◌, sym, ap, subst, refl, ℕ, zero, suc, ◌+◌, ◌<◌, ◌≤◌, List, [], ◌∷◌, pos, ◌+ℤ◌, ◌*ℤ◌, ◌==◌, if◌then◌else◌, arith, inl, inr}
use lib.IntN.{ℤ}
use Rattle.std.proofs.lemmas.Int.{ints}
use Rattle.std.proofs.lemmas.Bool.Decides.{nat_tests}
use Rattle.std.proofs.lemmas.Bool.{cases_lt}
use Rattle.chc_nums.proofs.Ring.{mul-add, add-mul, mul-comm, zero-mul}
use Rattle.chc_form.specs.Linear.{sum_of}
use Rattle.chc_form.specs.Multipliers.{coef}

-- f i + .. + f (i + k - 1)
abbrev pub between : ℕ → ℕ → (ℕ → ℤ) → ℤ
between i zero f = pos 0
between i (suc k) f = f i +ℤ between (suc i) k f

pub between-same : (i k : ℕ) (f g : ℕ → ℤ) → ((v : ℕ) → i ≤ v → v < i + k → f v ≡ g v) → between i k f ≡ between i k g
between-same i zero f g h = refl
between-same i (suc k) f g h = omega (arith, ints, h i (omega arith) (omega arith), between-same (suc i) k f g (λ v l m. h v (omega arith) (omega arith)))

pub between-add : (i k : ℕ) (f g : ℕ → ℤ) → between i k (λ v. f v +ℤ g v) ≡ between i k f +ℤ between i k g
between-add i zero f g = refl
between-add i (suc k) f g = omega (arith, ints, between-add (suc i) k f g)

pub between-scale : (i k : ℕ) (m : ℤ) (f : ℕ → ℤ) → between i k (λ v. m *ℤ f v) ≡ m *ℤ between i k f
between-scale i zero m f = omega (arith, ints, zero-mul m, mul-comm m (pos 0))
between-scale i (suc k) m f = omega (arith, ints, between-scale (suc i) k m f, mul-add m (f i) (between (suc i) k f))

pub between-zero : (i k : ℕ) (f : ℕ → ℤ) → ((v : ℕ) → i ≤ v → v < i + k → f v ≡ pos 0) → between i k f ≡ pos 0
between-zero i zero f h = refl
between-zero i (suc k) f h = omega (arith, ints, h i (omega arith) (omega arith), between-zero (suc i) k f (λ v l m. h v (omega arith) (omega arith)))

-- c at j, and 0 elsewhere
abbrev pub only : ℕ → ℤ → ℕ → ℤ
only j c v = if j == v then c else pos 0

pub only-same : (j : ℕ) (c : ℤ) → only j c j ≡ c
only-same j c = grind (arith, nat_tests)

pub only-other : (j v : ℕ) (c : ℤ) → j ≢ v → only j c v ≡ pos 0
only-other j v c h = grind (arith, nat_tests)

only-here : (j v : ℕ) (c : ℤ) (x : ℕ → ℤ) → j ≡ v → only j c v *ℤ x v ≡ c *ℤ x j
only-here j v c x e = subst (λ (u : ℕ). only j c u *ℤ x u ≡ c *ℤ x j) e (ap (λ (z : ℤ). z *ℤ x j) (only-same j c))

only-elsewhere : (j v : ℕ) (c : ℤ) (x : ℕ → ℤ) → j ≢ v → only j c v *ℤ x v ≡ pos 0
only-elsewhere j v c x h = ap (λ (z : ℤ). z *ℤ x v) (only-other j v c h) ∙ zero-mul (x v)

pub between-only : (i k j : ℕ) (c : ℤ) (x : ℕ → ℤ) → i ≤ j → j < i + k → between i k (λ v. only j c v *ℤ x v) ≡ c *ℤ x j
between-only i zero j c x l m = absurd (omega arith)
between-only i (suc k) j c x l m =
    elim (cases_lt i j) [
      | inl h ↦ omega (arith, ints, only-elsewhere j i c x (omega arith), between-only (suc i) k j c x (omega arith) (omega arith))
      | inr h ↦ omega (arith, ints, only-here j i c x (omega arith), between-zero (suc i) k (λ v. only j c v *ℤ x v) (λ v n o. only-elsewhere j v c x (omega arith)))
    ]

-- each variable stands in the range
abbrev pub Ranged : ℕ → ℕ → List (ℕ × ℤ) → Type 0
Ranged i k [] = Unit {0}
Ranged i k (t ∷ ts) = (i ≤ t.0) × (t.0 < i + k) × Ranged i k ts

-- a linear sum by variables
pub sum-by_variable : (i k : ℕ) (ts : List (ℕ × ℤ)) (x : ℕ → ℤ) → Ranged i k ts → sum_of ts x ≡ between i k (λ v. coef ts v *ℤ x v)
sum-by_variable i k [] x h = sym (between-zero i k (λ v. pos 0 *ℤ x v) (λ v l m. zero-mul (x v)))
sum-by_variable i k (t ∷ ts) x h =
    let split : between i k (λ v. coef (t ∷ ts) v *ℤ x v) ≡ between i k (λ v. (only t.0 t.1 v *ℤ x v) +ℤ (coef ts v *ℤ x v)) =
    between-same i k _ _ (λ v l m. add-mul (only t.0 t.1 v) (coef ts v) (x v)) in
    omega (
      arith,
      ints,
      split,
      between-add i k (λ v. only t.0 t.1 v *ℤ x v) (λ v. coef ts v *ℤ x v),
      between-only i k t.0 t.1 x h.0 h.1,
      sum-by_variable i k ts x h.2,
    )
