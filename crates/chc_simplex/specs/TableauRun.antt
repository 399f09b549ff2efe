-- The run of the simplex tableau by Bland's rule: which answer it has for a list of rows.
-- The variables come first by number, and then a slack for each row, with the row's sum as its value and the opposite
-- of the row's constant as its bound. At first the variables are nonbasic at 0 and the slacks basic. In each round the
-- least-numbered basic slack above its bound leaves, and rests at it from then on, and the least-numbered suitable
-- variable of its line enters. A number that leaves 128 bits ends the run as `Wide`.
use Rattle.std.specs.Prelude.{ℕ, zero, suc, ◌++◌, List, [], ◌∷◌, Option, Some, None, pos, neg_ℤ}
use lib.IntN.{ℤ}
use Rattle.chc_nums.specs.Wide.{in_128}
use Rattle.chc_nums.specs.Values.{with_value}
use Rattle.chc_form.specs.declared.linear.Lin.{Lin}
use Rattle.chc_simplex.specs.declared.data.Step.{Step}
use Rattle.chc_simplex.specs.declared.data.Step.TheVariants as step
use Rattle.chc_simplex.specs.declared.data.Lp.{Lp}
use Rattle.chc_simplex.specs.declared.data.Lp.TheVariants as lp
use Rattle.chc_form.specs.RowSums.{width}
use Rattle.chc_simplex.specs.Lines.{Tableau, line, pivot}
use Rattle.chc_simplex.specs.Rounds.{next_step}
use Rattle.chc_simplex.specs.Endings.{point, refutation}

-- the bounds of the slacks
abbrev pub bounds_of : List Lin → Option (List ℤ)
bounds_of [] = Some []
bounds_of (r ∷ rs) = with_value (in_128 (neg_ℤ r.konst)) (λ b. with_value (bounds_of rs) (λ bs. Some (b ∷ bs)))

-- n nonbasic variables
abbrev pub nonbasic : ℕ → Tableau
nonbasic zero = []
nonbasic (suc n) = None ∷ nonbasic n

-- each slack with its row
abbrev pub slack_lines : List Lin → Tableau
slack_lines [] = []
slack_lines (r ∷ rs) = Some (line (pos 1) r.terms) ∷ slack_lines rs

abbrev pub first_tableau : List Lin → Tableau
first_tableau rows = nonbasic (width rows) ++ slack_lines rows

-- what a step leads to, where `go` follows a pivot
abbrev pub followed : List Lin → List ℤ → Tableau → (ℕ → ℕ → Option Lp) → Step → Option Lp
followed rows bounds tab go step.AllHold = point (width rows) bounds tab
followed rows bounds tab go (step.Stuck s) = refutation (width rows) rows tab s
followed rows bounds tab go (step.Pivot s e) = go s e

-- the run from a tableau on, with so many pivots left
unfoldable pub run_from : List Lin → List ℤ → ℕ → Tableau → Option Lp
run_from rows bounds zero tab = with_value (next_step (width rows) bounds tab) (followed rows bounds tab (λ s e. Some lp.Pivots))
run_from rows bounds (suc k) tab =
    with_value (next_step (width rows) bounds tab) (followed rows bounds tab (λ s e. with_value (pivot tab s e) (run_from rows bounds k)))

abbrev pub or_wide : Option Lp → Lp
or_wide None = lp.Wide
or_wide (Some answer) = answer

-- the run from the rows on
unfoldable pub whole_run : List Lin → ℕ → Option Lp
whole_run rows pivots = with_value (bounds_of rows) (λ bounds. run_from rows bounds pivots (first_tableau rows))

-- the run's answer
abbrev pub tableau_run : List Lin → ℕ → Lp
tableau_run rows pivots = or_wide (whole_run rows pivots)
