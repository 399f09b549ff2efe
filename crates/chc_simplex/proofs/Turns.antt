-- What a round of the run does.
use Rattle.std.proofs.Common.{◌≡◌, refl, ℕ, zero, suc, ◌-◌, ◌<◌, List, Some, None, arith}
use lib.IntN.{ℤ}
use Rattle.chc_form.specs.declared.linear.Lin.{Lin}
use Rattle.chc_simplex.specs.declared.data.Lp.TheVariants as lp
use Rattle.chc_simplex.specs.declared.data.Step.TheVariants as step
use Rattle.chc_simplex.specs.Lines.{Tableau, pivot}
use Rattle.chc_simplex.specs.Rounds.{next_step}
use Rattle.chc_simplex.specs.Endings.{point, refutation}
use Rattle.chc_simplex.specs.TableauRun.{run_from}
use Rattle.chc_form.specs.RowSums.{width}

pub round-wide : (rows : List Lin) (bounds : List ℤ) (k : ℕ) (tab : Tableau) → next_step (width rows) bounds tab ≡ None → run_from rows bounds k tab ≡ None
unfolding run_from
round-wide rows bounds zero tab h = rw h refl
round-wide rows bounds (suc k) tab h = rw h refl

pub round-holds : (rows : List Lin) (bounds : List ℤ) (k : ℕ) (tab : Tableau) → next_step (width rows) bounds tab ≡ Some step.AllHold → run_from rows bounds k tab ≡ point (width rows) bounds tab
unfolding run_from
round-holds rows bounds zero tab h = rw h refl
round-holds rows bounds (suc k) tab h = rw h refl

pub round-stuck : (rows : List Lin) (bounds : List ℤ) (k : ℕ) (tab : Tableau) (s : ℕ) → next_step (width rows) bounds tab ≡ Some (step.Stuck s) → run_from rows bounds k tab ≡ refutation (width rows) rows tab s
unfolding run_from
round-stuck rows bounds zero tab s h = rw h refl
round-stuck rows bounds (suc k) tab s h = rw h refl

pub round-none_left : (rows : List Lin) (bounds : List ℤ) (k : ℕ) (tab : Tableau) (s e : ℕ) → next_step (width rows) bounds tab ≡ Some (step.Pivot s e) → k ≡ 0 → run_from rows bounds k tab ≡ Some lp.Pivots
unfolding run_from
round-none_left rows bounds zero tab s e h z = rw h refl
round-none_left rows bounds (suc k) tab s e h z = absurd (omega arith)

pub round-pivot : (rows : List Lin) (bounds : List ℤ) (k : ℕ) (tab : Tableau) (s e : ℕ) (next : Tableau) → next_step (width rows) bounds tab ≡ Some (step.Pivot s e) → 0 < k → pivot tab s e ≡ Some next → run_from rows bounds k tab ≡ run_from rows bounds (k - 1) next
unfolding run_from
round-pivot rows bounds zero tab s e next h z p = absurd (omega arith)
round-pivot rows bounds (suc k) tab s e next h z p = let q : suc k - 1 ≡ k = omega arith in rw (h, p, q) refl

pub round-pivot_wide : (rows : List Lin) (bounds : List ℤ) (k : ℕ) (tab : Tableau) (s e : ℕ) → next_step (width rows) bounds tab ≡ Some (step.Pivot s e) → 0 < k → pivot tab s e ≡ None → run_from rows bounds k tab ≡ None
unfolding run_from
round-pivot_wide rows bounds zero tab s e h z p = absurd (omega arith)
round-pivot_wide rows bounds (suc k) tab s e h z p = rw (h, p) refl

pub ruleset rounds = (round-wide, round-holds, round-stuck, round-none_left, round-pivot, round-pivot_wide)
