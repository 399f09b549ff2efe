-- Why a formula stays open, and the limits that it may meet.
use Rattle.std.specs.Prelude.{◌≡◌, pos, ◌≤ℤ◌, false}
use Rattle.chc_form.specs.declared.linear.Limits.{Limits}
use Rattle.chc_form.specs.declared.formula.Formula.{Formula}
use Rattle.chc_form.specs.Linear.{FracRefuted}
use Rattle.chc_form.specs.Formulas.{FracTrue}
use Rattle.chc_simplex.specs.declared.data.Lp.TheVariants as lp
use Rattle.chc_simplex.specs.Rounds.{number_at}
use Rattle.chc_simplex.specs.TableauRun.{tableau_run}
use Rattle.chc_reduce.specs.Rows.{rows_of, is_plain, branch_of}
use Rattle.chc_ask.specs.declared.open.Why.{Why}
use Rattle.chc_ask.specs.declared.open.Why.TheVariants as why
use Rattle.chc_ask.specs.declared.open.Open.{Open}

-- the run on the formula's rows leaves 128 bits or takes too many pivots; or the formula has a choice, and isn't refuted by
-- what stands outside
pub data MeetsLimit (l : Limits) (f : Formula) : Type 0 where
  wide : tableau_run (rows_of f) l.pivots ≡ lp.Wide → MeetsLimit l f
  pivots : tableau_run (rows_of f) l.pivots ≡ lp.Pivots → MeetsLimit l f
  choice : is_plain f ≡ false → (FracRefuted (rows_of f) → ⊥) → MeetsLimit l f

-- the cause is right: fractions at the point make the formula true, or the limit that is named is met
abbrev pub HasCause : Limits → Formula → Why → Type 0
HasCause l f (why.Point x d) = (pos 1 ≤ℤ d) × FracTrue (number_at x) d f
HasCause l f why.Wide = tableau_run (rows_of f) l.pivots ≡ lp.Wide
HasCause l f why.Pivots = tableau_run (rows_of f) l.pivots ≡ lp.Pivots
HasCause l f why.Nodes = (is_plain f ≡ false) × (FracRefuted (rows_of f) → ⊥)

-- the formula stays open on this branch, for this cause
pub record StaysOpen (l : Limits) (f : Formula) (o : Open) : Type 0 where
  pub branch : o.branch ≡ branch_of f
  pub cause : HasCause l f o.why
