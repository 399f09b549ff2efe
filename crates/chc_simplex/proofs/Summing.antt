-- The sums of the multipliers that a run answers stay within 128 bits, since the run takes them.
use Rattle.std.proofs.Common.{◌≡◌, subst, refl, ℕ, zero, suc, List, Option, Some, None, pos}
use lib.IntN.{ℤ}
use Rattle.chc_nums.specs.Values.{with_value}
use Rattle.chc_form.specs.declared.linear.Lin.{Lin}
use Rattle.chc_form.specs.RowSums.{width, variable_sums, constant_sum, zeros, Summed}
use Rattle.chc_simplex.specs.declared.data.Step.TheVariants as step
use Rattle.chc_simplex.specs.declared.data.Lp.{Lp}
use Rattle.chc_simplex.specs.declared.data.Lp.TheVariants as lp
use Rattle.chc_simplex.specs.Lines.{Tableau, line_at, terms_of, denominator_of, pivot}
use Rattle.chc_simplex.specs.Rounds.{next_step}
use Rattle.chc_simplex.specs.Endings.{fractions, multiples, numerators, point_of, point, multipliers, summed, refutation}
use Rattle.chc_simplex.specs.TableauRun.{bounds_of, first_tableau, followed, run_from, or_wide, whole_run, tableau_run}
use Rattle.chc_nums.proofs.Values.{value-some}

-- of an answer with multipliers
abbrev AllSummed : List Lin → Lp → Type 0
AllSummed ls (lp.Infeasible ms) = Summed ms ls
AllSummed ls (lp.Feasible x d) = Unit {0}
AllSummed ls lp.Wide = Unit {0}
AllSummed ls lp.Pivots = Unit {0}

summed-summed : (ls : List Lin) (ms : List ℤ) (answer : Lp) → summed (width ls) ls ms ≡ Some answer → AllSummed ls answer
summed-summed ls ms answer h =
    let sums = value-some (variable_sums ms ls (zeros (width ls))) (λ sums. with_value (constant_sum (pos 0) ms ls) (λ c. Some (lp.Infeasible ms))) answer h in
    let c = value-some (constant_sum (pos 0) ms ls) (λ c. Some (lp.Infeasible ms)) answer sums.2 in
    let same : lp.Infeasible ms ≡ answer = cc (c.2) in
    let t : Summed ms ls = record { sums = sums.0; constant = c.0; variables = sums.1; constants = c.1 } in
    subst (AllSummed ls) same t

refutation-summed : (ls : List Lin) (tab : Tableau) (s : ℕ) (answer : Lp) → refutation (width ls) ls tab s ≡ Some answer → AllSummed ls answer
unfolding refutation
refutation-summed ls tab s answer h =
    let ms = value-some (multipliers s (denominator_of (line_at tab s)) (terms_of (line_at tab s)) (width ls) ls) (summed (width ls) ls) answer h in
    summed-summed ls ms.0 answer ms.2

point-summed : (ls : List Lin) (bounds : List ℤ) (tab : Tableau) (answer : Lp) → point (width ls) bounds tab ≡ Some answer → AllSummed ls answer
unfolding point
point-summed ls bounds tab answer h =
    let fs = value-some (fractions (width ls) bounds 0 tab) point_of answer h in
    let m = value-some (multiples (pos 1) fs.0) (λ m. with_value (numerators m fs.0) (λ xs. Some (lp.Feasible xs m))) answer fs.2 in
    let xs = value-some (numerators m.0 fs.0) (λ xs. Some (lp.Feasible xs m.0)) answer m.2 in
    let same : lp.Feasible xs.0 m.0 ≡ answer = cc (xs.2) in
    subst (AllSummed ls) same tt

step-summed : (ls : List Lin) (bounds : List ℤ) (tab : Tableau) (go : ℕ → ℕ → Option Lp) (answer : Lp) → ((s e : ℕ) (a : Lp) → go s e ≡ Some a → AllSummed ls a) → with_value (next_step (width ls) bounds tab) (followed ls bounds tab go) ≡ Some answer → AllSummed ls answer
step-summed ls bounds tab go answer g h =
    let t = value-some (next_step (width ls) bounds tab) (followed ls bounds tab go) answer h in
    elim t.0 as (λ st. followed ls bounds tab go st ≡ Some answer → AllSummed ls answer) [
      | step.AllHold ↦ λ k. point-summed ls bounds tab answer k
      | step.Stuck s ↦ λ k. refutation-summed ls tab s answer k
      | step.Pivot s e ↦ λ k. g s e answer k
    ] t.2

run_from-summed : (ls : List Lin) (bounds : List ℤ) (k : ℕ) (tab : Tableau) (answer : Lp) → run_from ls bounds k tab ≡ Some answer → AllSummed ls answer
unfolding run_from
run_from-summed ls bounds zero tab answer h =
    step-summed ls bounds tab (λ s e. Some lp.Pivots) answer (λ s e a q. let same : lp.Pivots ≡ a = cc (q) in subst (AllSummed ls) same tt) h
run_from-summed ls bounds (suc k) tab answer h =
    step-summed ls bounds tab (λ s e. with_value (pivot tab s e) (run_from ls bounds k)) answer
    (λ s e a q.
    let next = value-some (pivot tab s e) (run_from ls bounds k) a q in
    run_from-summed ls bounds k next.0 a next.2)
    h

whole_run-summed : (ls : List Lin) (pivots : ℕ) (answer : Lp) → whole_run ls pivots ≡ Some answer → AllSummed ls answer
unfolding whole_run
whole_run-summed ls pivots answer h =
    let b = value-some (bounds_of ls) (λ bounds. run_from ls bounds pivots (first_tableau ls)) answer h in
    run_from-summed ls b.0 pivots (first_tableau ls) answer b.2

run-summed : (ls : List Lin) (pivots : ℕ) → AllSummed ls (tableau_run ls pivots)
run-summed ls pivots =
    elim (whole_run ls pivots) as (λ o. whole_run ls pivots ≡ o → AllSummed ls (or_wide o)) [
      | None ↦ λ e. tt
      | Some answer ↦ λ e. whole_run-summed ls pivots answer e
    ] refl

pub multipliers-summed : (ls : List Lin) (pivots : ℕ) (ms : List ℤ) → tableau_run ls pivots ≡ lp.Infeasible ms → Summed ms ls
multipliers-summed ls pivots ms e = subst (AllSummed ls) e (run-summed ls pivots)
