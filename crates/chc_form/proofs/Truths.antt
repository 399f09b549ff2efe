-- What each kind of formula says.
use Rattle.std.proofs.Common.{◌≡◌, ◌∙◌, sym, ap, ℕ, List, pos, ◌+ℤ◌, ◌*ℤ◌, Bool, not, map}
use lib.IntN.{ℤ}
use lib.Signed.{lt_z}
use Rattle.std.specs.List.{list_all, list_any}
use Rattle.chc_form.specs.declared.linear.Lin.{Lin}
use Rattle.chc_form.specs.declared.formula.Formula.{Formula, Le, And, Or}
use Rattle.chc_form.specs.declared.formula.Formula.TheOpen.{Formula-F}
use Rattle.chc_form.specs.declared.formula.Formula.TheVariants.{rolls-Le, rolls-And, rolls-Or}
use Rattle.chc_form.specs.declared.formula.Formula.TheFolds.{fold-Formula, fold-roll-Formula}
use Rattle.chc_form.specs.Linear.{sum_of}
use Rattle.chc_form.specs.Formulas.{frac_step, frac_true}

pub frac_true-Le : (x : ℕ → ℤ) (d : ℤ) (l : Lin) → frac_true x d (Le l) ≡ not (lt_z (pos 0) (sum_of l.terms x +ℤ (l.konst *ℤ d)))
unfolding frac_true
frac_true-Le x d l = ap (fold-Formula Bool (frac_step x d)) (sym (rolls-Le l)) ∙ fold-roll-Formula Bool (frac_step x d) (Formula-F.Le l)

pub frac_true-And : (x : ℕ → ℤ) (d : ℤ) (fs : List Formula) → frac_true x d (And fs) ≡ list_all (λ b. b) (map (frac_true x d) fs)
unfolding frac_true
frac_true-And x d fs = ap (fold-Formula Bool (frac_step x d)) (sym (rolls-And fs)) ∙ fold-roll-Formula Bool (frac_step x d) (Formula-F.And fs)

pub frac_true-Or : (x : ℕ → ℤ) (d : ℤ) (fs : List Formula) → frac_true x d (Or fs) ≡ list_any (λ b. b) (map (frac_true x d) fs)
unfolding frac_true
frac_true-Or x d fs = ap (fold-Formula Bool (frac_step x d)) (sym (rolls-Or fs)) ∙ fold-roll-Formula Bool (frac_step x d) (Formula-F.Or fs)

pub ruleset truths = (frac_true-Le, frac_true-And, frac_true-Or)
