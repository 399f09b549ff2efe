-- What a formula says, over fractions and over whole numbers.
use Rattle.std.specs.Prelude.{◌≡◌, ℕ, pos, ◌+ℤ◌, ◌*ℤ◌, ◌≤ℤ◌, Bool, true, not}
use Rattle.std.specs.List.{list_all, list_any}
use lib.IntN.{ℤ}
use lib.Signed.{lt_z}
use Rattle.chc_form.specs.declared.formula.Formula.{Formula}
use Rattle.chc_form.specs.declared.formula.Formula.TheOpen.{Formula-F}
use Rattle.chc_form.specs.declared.formula.Formula.TheFolds.{fold-Formula}
use Rattle.chc_form.specs.Linear.{sum_of}

-- a sum is at most 0; all of some formulas are true, or one of them is
abbrev pub frac_step : (ℕ → ℤ) → ℤ → Formula-F Bool → Bool
frac_step x d (Formula-F.Le l) = not (lt_z (pos 0) (sum_of l.terms x +ℤ (l.konst *ℤ d)))
frac_step x d (Formula-F.And bs) = list_all (λ b. b) bs
frac_step x d (Formula-F.Or bs) = list_any (λ b. b) bs

-- whether the formula is true at fractions: numerators x over one denominator d
unfoldable pub frac_true : (ℕ → ℤ) → ℤ → Formula → Bool
frac_true x d f = fold-Formula Bool (frac_step x d) f

-- the formula is true at these fractions
abbrev pub FracTrue : (ℕ → ℤ) → ℤ → Formula → Type 0
FracTrue x d f = frac_true x d f ≡ true

-- the formula is true at these whole numbers, which are fractions over 1
abbrev pub TrueAt : (ℕ → ℤ) → Formula → Type 0
TrueAt x f = frac_true x (pos 1) f ≡ true

-- no fractions make the formula true: whichever alternative is taken at each choice that is met, no fractions satisfy
-- all inequalities that are met so
abbrev pub FormulaRefuted : Formula → Type 0
FormulaRefuted f = (x : ℕ → ℤ) (d : ℤ) → pos 1 ≤ℤ d → FracTrue x d f → ⊥
