-- Farkas' lemma, in the direction that a checker needs: multipliers that refute leave no numbers, and no fractions.
use Rattle.std.proofs.Common.{◌≡◌, ◌∙◌, sym, ap, ℕ, suc, ◌*◌, ◌<◌, ◌≤◌, max, List, [], ◌∷◌, pos, ◌+ℤ◌, ◌*ℤ◌, ◌≤ℤ◌, ◌<ℤ◌, arith}
use lib.IntN.{ℤ, negsuc}
use Rattle.std.proofs.Math.Nat.{mul-le-mul_left}
use Rattle.std.proofs.lemmas.Int.{ints}
use Rattle.chc_nums.proofs.Ring.{mul-add, add-mul, mul-assoc, mul-nonneg-nonpos, zero-mul}
use Rattle.chc_form.specs.declared.linear.Lin.{Lin}
use Rattle.chc_form.specs.Linear.{sum_of, Satisfies, Unsatisfiable, FracSatisfies, FracRefuted}
use Rattle.chc_form.specs.Multipliers.{coef, weighted, NoneNegative, Refutes}
use Rattle.chc_form.proofs.Ranges.{between, between-same, between-add, between-scale, between-zero, Ranged, sum-by_variable}

-- each variable of each sum is below n
abbrev AllRanged : ℕ → List Lin → Type 0
AllRanged n [] = Unit {0}
AllRanged n (l ∷ ls) = Ranged 0 n l.terms × AllRanged n ls

Ranged-wider : (m n : ℕ) (ts : List (ℕ × ℤ)) → m ≤ n → Ranged 0 m ts → Ranged 0 n ts
Ranged-wider m n [] h r = tt
Ranged-wider m n (t ∷ ts) h r = (omega arith, omega (arith, r.1), Ranged-wider m n ts h r.2)

AllRanged-wider : (m n : ℕ) (ls : List Lin) → m ≤ n → AllRanged m ls → AllRanged n ls
AllRanged-wider m n [] h r = tt
AllRanged-wider m n (l ∷ ls) h r = (Ranged-wider m n l.terms h r.0, AllRanged-wider m n ls h r.1)

ranged : (ts : List (ℕ × ℤ)) → (n : ℕ) × Ranged 0 n ts
ranged [] = (0, tt)
ranged (t ∷ ts) =
    let r = ranged ts in
    (max (suc t.0) r.0, (omega arith, omega arith, Ranged-wider r.0 (max (suc t.0) r.0) ts (omega arith) r.1))

all_ranged : (ls : List Lin) → (n : ℕ) × AllRanged n ls
all_ranged [] = (0, tt)
all_ranged (l ∷ ls) =
    let r = ranged l.terms in
    let s = all_ranged ls in
    (max r.0 s.0, (Ranged-wider r.0 (max r.0 s.0) l.terms (omega arith) r.1, AllRanged-wider s.0 (max r.0 s.0) ls (omega arith) s.1))

weighted-by_variable : (n : ℕ) (ms : List ℤ) (ls : List Lin) (x : ℕ → ℤ) → AllRanged n ls → weighted (λ l. sum_of l.terms x) ms ls ≡ between 0 n (λ v. weighted (λ l. coef l.terms v) ms ls *ℤ x v)
weighted-by_variable n [] ls x h = sym (between-zero 0 n (λ v. pos 0 *ℤ x v) (λ v l m. zero-mul (x v)))
weighted-by_variable n (m ∷ ms) [] x h = sym (between-zero 0 n (λ v. pos 0 *ℤ x v) (λ v l m. zero-mul (x v)))
weighted-by_variable n (m ∷ ms) (l ∷ ls) x h =
    let rest : ℕ → ℤ = λ v. weighted (λ l. coef l.terms v) ms ls in
    let split : between 0 n (λ v. ((m *ℤ coef l.terms v) +ℤ rest v) *ℤ x v) ≡ between 0 n (λ v. (m *ℤ (coef l.terms v *ℤ x v)) +ℤ (rest v *ℤ x v)) =
    between-same 0 n _ _ (λ v i j. add-mul (m *ℤ coef l.terms v) (rest v) (x v) ∙ ap (λ (z : ℤ). z +ℤ (rest v *ℤ x v)) (sym (mul-assoc m (coef l.terms v) (x v)))) in
    omega (
      arith,
      ints,
      split,
      between-add 0 n (λ v. m *ℤ (coef l.terms v *ℤ x v)) (λ v. rest v *ℤ x v),
      between-scale 0 n m (λ v. coef l.terms v *ℤ x v),
      ap (λ (z : ℤ). m *ℤ z) (sum-by_variable 0 n l.terms x h.0),
      weighted-by_variable n ms ls x h.1,
    )

weighted-split : (ms : List ℤ) (ls : List Lin) (x : ℕ → ℤ) (d : ℤ) → weighted (λ l. sum_of l.terms x +ℤ (l.konst *ℤ d)) ms ls ≡ weighted (λ l. sum_of l.terms x) ms ls +ℤ (weighted (λ l. l.konst) ms ls *ℤ d)
weighted-split [] ls x d = omega (arith, ints, zero-mul d)
weighted-split (m ∷ ms) [] x d = omega (arith, ints, zero-mul d)
weighted-split (m ∷ ms) (l ∷ ls) x d =
    omega (
      arith,
      ints,
      mul-add m (sum_of l.terms x) (l.konst *ℤ d),
      mul-assoc m l.konst d,
      add-mul (m *ℤ l.konst) (weighted (λ l. l.konst) ms ls) d,
      weighted-split ms ls x d,
    )

weighted-not_above : (ms : List ℤ) (ls : List Lin) (x : ℕ → ℤ) (d : ℤ) → NoneNegative ms → FracSatisfies ls x d → weighted (λ l. sum_of l.terms x +ℤ (l.konst *ℤ d)) ms ls ≤ℤ pos 0
weighted-not_above [] ls x d h t = omega (arith, ints)
weighted-not_above (m ∷ ms) [] x d h t = omega (arith, ints)
weighted-not_above (m ∷ ms) (l ∷ ls) x d h t =
    omega (arith, ints, mul-nonneg-nonpos m (sum_of l.terms x +ℤ (l.konst *ℤ d)) h.0 t.0, weighted-not_above ms ls x d h.1 t.1)

above-product : (a b : ℤ) → pos 0 <ℤ a → pos 1 ≤ℤ b → pos 0 <ℤ (a *ℤ b)
above-product (pos a) (pos b) h k =
    let one : 1 ≤ b = omega (arith, ints) in
    let some : 0 < a = omega (arith, ints) in
    let more : a * 1 ≤ a * b = mul-le-mul_left a one in
    omega (arith, ints)
above-product (negsuc a) b h k = absurd (omega (arith, ints))
above-product (pos a) (negsuc b) h k = absurd (omega (arith, ints))

-- no fractions
pub refutes-fractions : (ms : List ℤ) (ls : List Lin) → Refutes ms ls → FracRefuted ls
refutes-fractions ms ls r x d h t =
    let n = all_ranged ls in
    let none : between 0 n.0 (λ v. weighted (λ l. coef l.terms v) ms ls *ℤ x v) ≡ pos 0 =
    between-zero 0 n.0 _ (λ v i j. ap (λ (z : ℤ). z *ℤ x v) (r.gone v) ∙ zero-mul (x v)) in
    omega (
      arith,
      ints,
      none,
      weighted-by_variable n.0 ms ls x n.1,
      weighted-split ms ls x d,
      weighted-not_above ms ls x d r.signs t,
      above-product (weighted (λ l. l.konst) ms ls) d r.above h,
    )

satisfies-fractions : (ls : List Lin) (x : ℕ → ℤ) → Satisfies ls x → FracSatisfies ls x (pos 1)
satisfies-fractions [] x t = tt
satisfies-fractions (l ∷ ls) x t =
    let one : l.konst *ℤ pos 1 ≡ l.konst = omega (arith, ints) in
    (omega (arith, ints, one, t.0), satisfies-fractions ls x t.1)

-- fractions that are refuted are no whole numbers either
pub refuted-whole : (ls : List Lin) → FracRefuted ls → Unsatisfiable ls
refuted-whole ls r x t = r x (pos 1) (omega (arith, ints)) (satisfies-fractions ls x t)

-- no whole numbers
pub refutes-whole : (ms : List ℤ) (ls : List Lin) → Refutes ms ls → Unsatisfiable ls
refutes-whole ms ls r = refuted-whole ls (refutes-fractions ms ls r)

-- numbers that satisfy the inequalities are not refuted
pub satisfied-not_refuted : (ls : List Lin) (x : ℕ → ℤ) (d : ℤ) → FracSatisfies ls x d → pos 1 ≤ℤ d → FracRefuted ls → ⊥
satisfied-not_refuted ls x d t h r = r x d h t

pub ruleset refuting = (refutes-fractions, refutes-whole)

pub ruleset satisfying = (satisfied-not_refuted)
