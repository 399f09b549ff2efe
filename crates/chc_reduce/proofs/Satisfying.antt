-- A formula that is true at fractions has rows that they satisfy, and the other way round where it has no choice.
use Rattle.std.proofs.Common.{◌≡◌, ◌∙◌, sym, subst, refl, ℕ, List, [], ◌∷◌, ◌++◌, Bool, true, false, not, ◌||◌, map, pos, ◌+ℤ◌, ◌*ℤ◌, ◌≤ℤ◌, arith}
use Rattle.std.specs.List.{list_all, list_any}
use Rattle.std.proofs.lemmas.Int.{ints}
use Rattle.std.proofs.lemmas.Bool.{and_parts, and_from}
use lib.IntN.{ℤ}
use lib.Signed.{lt_z}
use Rattle.chc_form.specs.declared.linear.Lin.{Lin}
use Rattle.chc_form.specs.declared.formula.Formula.{Formula}
use Rattle.chc_form.specs.Formulas.{FracTrue, FormulaRefuted, frac_true}
use Rattle.chc_form.specs.Linear.{FracSatisfies, FracRefuted, sum_of}
use Rattle.chc_form.proofs.Truths.{frac_true-Le, frac_true-And, frac_true-Or}
use Rattle.chc_reduce.specs.Rows.{joined, only, rows_of, is_plain}
use Rattle.chc_reduce.proofs.Shapes.{rows_of-Le, rows_of-And, rows_of-Or, is_plain-And, is_plain-Or}
use Rattle.chc_reduce.proofs.Induction.{each-formula}

satisfies-append : (ks ls : List Lin) (x : ℕ → ℤ) (d : ℤ) → FracSatisfies ks x d → FracSatisfies ls x d → FracSatisfies (ks ++ ls) x d
satisfies-append [] ls x d h k = k
satisfies-append (l ∷ ks) ls x d h k = (h.0, satisfies-append ks ls x d h.1 k)

satisfies-first : (ks ls : List Lin) (x : ℕ → ℤ) (d : ℤ) → FracSatisfies (ks ++ ls) x d → FracSatisfies ks x d
satisfies-first [] ls x d h = tt
satisfies-first (l ∷ ks) ls x d h = (h.0, satisfies-first ks ls x d h.1)

satisfies-second : (ks ls : List Lin) (x : ℕ → ℤ) (d : ℤ) → FracSatisfies (ks ++ ls) x d → FracSatisfies ls x d
satisfies-second [] ls x d h = h
satisfies-second (l ∷ ks) ls x d h = satisfies-second ks ls x d h.1

pub not_above : (z : ℤ) → not (lt_z (pos 0) z) ≡ true → z ≤ℤ pos 0
not_above z h = grind (arith, ints)

pub above_not : (z : ℤ) → z ≤ℤ pos 0 → not (lt_z (pos 0) z) ≡ true
above_not z h = grind (arith, ints)

one-true : (a : Bool) → (a || false) ≡ true → a ≡ true
one-true true h = refl
one-true false h = absurd (cc)

true-one : (a : Bool) → a ≡ true → (a || false) ≡ true
true-one true h = refl
true-one false h = absurd (cc)

-- ---- a true formula's rows

abbrev Says : (ℕ → ℤ) → ℤ → Formula → Type 0
Says x d f = FracTrue x d f → FracSatisfies (rows_of f) x d

says-all : (x : ℕ → ℤ) (d : ℤ) (es : List ((f : Formula) × Says x d f)) → list_all (λ b. b) (map (frac_true x d) (map (λ e. e.0) es)) ≡ true → FracSatisfies (joined (map rows_of (map (λ e. e.0) es))) x d
says-all x d [] h = tt
says-all x d (e ∷ es) h =
    let p = and_parts (frac_true x d e.0) (list_all (λ b. b) (map (frac_true x d) (map (λ e. e.0) es))) h in
    satisfies-append (rows_of e.0) (joined (map rows_of (map (λ e. e.0) es))) x d (e.1 p.0) (says-all x d es p.1)

says-one : (x : ℕ → ℤ) (d : ℤ) (es : List ((f : Formula) × Says x d f)) → list_any (λ b. b) (map (frac_true x d) (map (λ e. e.0) es)) ≡ true → FracSatisfies (only (map rows_of (map (λ e. e.0) es)) [] (λ r. r)) x d
says-one x d [] h = tt
says-one x d (e ∷ []) h = e.1 (one-true (frac_true x d e.0) h)
says-one x d (e ∷ g ∷ more) h = tt

pub true-satisfies : (x : ℕ → ℤ) (d : ℤ) (f : Formula) → FracTrue x d f → FracSatisfies (rows_of f) x d
true-satisfies x d = each-formula (Says x d)
    (λ l h. subst (λ (ls : List Lin). FracSatisfies ls x d) (sym (rows_of-Le l)) (not_above (sum_of l.terms x +ℤ (l.konst *ℤ d)) (sym (frac_true-Le x d l) ∙ h), tt))
    (λ es h. subst (λ (ls : List Lin). FracSatisfies ls x d) (sym (rows_of-And (map (λ e. e.0) es))) (says-all x d es (sym (frac_true-And x d (map (λ e. e.0) es)) ∙ h)))
    (λ es h. subst (λ (ls : List Lin). FracSatisfies ls x d) (sym (rows_of-Or (map (λ e. e.0) es))) (says-one x d es (sym (frac_true-Or x d (map (λ e. e.0) es)) ∙ h)))

-- ---- a formula without a choice

abbrev Follows : (ℕ → ℤ) → ℤ → Formula → Type 0
Follows x d f = is_plain f ≡ true → FracSatisfies (rows_of f) x d → FracTrue x d f

follows-all : (x : ℕ → ℤ) (d : ℤ) (es : List ((f : Formula) × Follows x d f)) → list_all (λ b. b) (map is_plain (map (λ e. e.0) es)) ≡ true → FracSatisfies (joined (map rows_of (map (λ e. e.0) es))) x d → list_all (λ b. b) (map (frac_true x d) (map (λ e. e.0) es)) ≡ true
follows-all x d [] p h = refl
follows-all x d (e ∷ es) p h =
    let q = and_parts (is_plain e.0) (list_all (λ b. b) (map is_plain (map (λ e. e.0) es))) p in
    let ls = joined (map rows_of (map (λ e. e.0) es)) in
    and_from (frac_true x d e.0) (list_all (λ b. b) (map (frac_true x d) (map (λ e. e.0) es))) (e.1 q.0 (satisfies-first (rows_of e.0) ls x d h)) (follows-all x d es q.1 (satisfies-second (rows_of e.0) ls x d h))

follows-one : (x : ℕ → ℤ) (d : ℤ) (es : List ((f : Formula) × Follows x d f)) → only (map is_plain (map (λ e. e.0) es)) false (λ b. b) ≡ true → FracSatisfies (only (map rows_of (map (λ e. e.0) es)) [] (λ r. r)) x d → list_any (λ b. b) (map (frac_true x d) (map (λ e. e.0) es)) ≡ true
follows-one x d [] p h = absurd (cc)
follows-one x d (e ∷ []) p h = true-one (frac_true x d e.0) (e.1 p h)
follows-one x d (e ∷ g ∷ more) p h = absurd (cc)

pub satisfied-true : (x : ℕ → ℤ) (d : ℤ) (f : Formula) → is_plain f ≡ true → FracSatisfies (rows_of f) x d → FracTrue x d f
satisfied-true x d = each-formula (Follows x d)
    (λ l p h. frac_true-Le x d l ∙ above_not (sum_of l.terms x +ℤ (l.konst *ℤ d)) (subst (λ (ls : List Lin). FracSatisfies ls x d) (rows_of-Le l) h).0)
    (λ es p h. frac_true-And x d (map (λ e. e.0) es) ∙ follows-all x d es (sym (is_plain-And (map (λ e. e.0) es)) ∙ p) (subst (λ (ls : List Lin). FracSatisfies ls x d) (rows_of-And (map (λ e. e.0) es)) h))
    (λ es p h. frac_true-Or x d (map (λ e. e.0) es) ∙ follows-one x d es (sym (is_plain-Or (map (λ e. e.0) es)) ∙ p) (subst (λ (ls : List Lin). FracSatisfies ls x d) (rows_of-Or (map (λ e. e.0) es)) h))

-- ---- what is refuted

pub rows-refute : (f : Formula) → FracRefuted (rows_of f) → FormulaRefuted f
rows-refute f r x d above h = r x d above (true-satisfies x d f h)

pub plain-refutes : (f : Formula) → is_plain f ≡ true → FormulaRefuted f → FracRefuted (rows_of f)
plain-refutes f p r x d above h = r x d above (satisfied-true x d f p h)

pub ruleset refuting = (rows-refute, plain-refutes)
