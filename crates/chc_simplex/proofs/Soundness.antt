-- Each answer of the run says something true of the rows.
use Rattle.std.proofs.Common.{◌≡◌, ◌∙◌, sym, ap, subst, refl, ℕ, zero, suc, ◌+◌, List, length, Option, Some, None, arith}
use lib.IntN.{ℤ}
use Rattle.chc_nums.specs.Values.{with_value}
use Rattle.chc_form.specs.declared.linear.Lin.{Lin}
use Rattle.chc_form.specs.Linear.{AllAscend}
use Rattle.chc_simplex.specs.declared.data.Line.{Line}
use Rattle.chc_simplex.specs.declared.data.Lp.{Lp}
use Rattle.chc_simplex.specs.declared.data.Lp.TheVariants as lp
use Rattle.chc_simplex.specs.Lines.{Tableau, line_at, terms_of, pivot}
use Rattle.chc_simplex.specs.Rounds.{first_above, entering, leaves_for, step_of, next_step}
use Rattle.chc_simplex.specs.TableauRun.{bounds_of, first_tableau, followed, run_from, or_wide, whole_run, tableau_run}
use Rattle.chc_form.specs.RowSums.{width}
use Rattle.chc_simplex.specs.Answers.{Answers}
use Rattle.chc_nums.proofs.Values.{value-some}
use Rattle.chc_simplex.proofs.Invariance.{Nonbasic, Invariant, pivot-keeps, first-invariant}
use Rattle.chc_simplex.proofs.Scanning.{Found, first-found, one-enters}
use Rattle.chc_simplex.proofs.Refuting.{refutation-answers}
use Rattle.chc_simplex.proofs.Pointing.{point-answers}

-- the run goes on soundly after each pivot
abbrev GoesOn : List Lin → Tableau → (ℕ → ℕ → Option Lp) → Type 0
GoesOn rows tab go = (s e : ℕ) (old : Line) (answer : Lp) → line_at tab s ≡ Some old → entering (width rows) old.terms ≡ Some e → go s e ≡ Some answer → Answers rows answer

leaving-answers : (rows : List Lin) (bounds : List ℤ) (tab : Tableau) (go : ℕ → ℕ → Option Lp) (s : ℕ) (answer : Lp) → Invariant rows tab → bounds_of rows ≡ Some bounds → GoesOn rows tab go → Found (width rows) bounds 0 tab s → followed rows bounds tab go (leaves_for s (entering (width rows) (terms_of (line_at tab s)))) ≡ Some answer → Answers rows answer
leaving-answers rows bounds tab go s answer i b g f h =
    let place : f.place ≡ s = omega (arith, f.number) in
    let stands : line_at tab s ≡ Some f.line = sym (ap (line_at tab) place) ∙ f.stands in
    elim (entering (width rows) (terms_of (line_at tab s))) as (λ o. entering (width rows) (terms_of (line_at tab s)) ≡ o → followed rows bounds tab go (leaves_for s o) ≡ Some answer → Answers rows answer) [
      | None ↦ λ q k. refutation-answers rows bounds tab s answer i b f q k
      | Some e ↦ λ q k. g s e f.line answer stands (subst (λ (o : Option Line). entering (width rows) (terms_of o) ≡ Some e) stands q) k
    ] refl h

step-answers : (rows : List Lin) (bounds : List ℤ) (tab : Tableau) (go : ℕ → ℕ → Option Lp) (answer : Lp) → Invariant rows tab → bounds_of rows ≡ Some bounds → GoesOn rows tab go → with_value (next_step (width rows) bounds tab) (followed rows bounds tab go) ≡ Some answer → Answers rows answer
unfolding next_step
step-answers rows bounds tab go answer i b g h =
    let t = value-some (next_step (width rows) bounds tab) (followed rows bounds tab go) answer h in
    let f = value-some (first_above (width rows) bounds 0 tab) (λ s. Some (step_of (width rows) tab s)) t.0 t.1 in
    let same : step_of (width rows) tab f.0 ≡ t.0 = cc (f.2) in
    let k : followed rows bounds tab go (step_of (width rows) tab f.0) ≡ Some answer = ap (followed rows bounds tab go) same ∙ t.2 in
    elim f.0 as (λ o. first_above (width rows) bounds 0 tab ≡ Some o → followed rows bounds tab go (step_of (width rows) tab o) ≡ Some answer → Answers rows answer) [
      | None ↦ λ q r. point-answers rows bounds tab answer i b q r
      | Some s ↦ λ q r. leaving-answers rows bounds tab go s answer i b g (first-found (width rows) bounds 0 tab s q) r
    ] f.1 k

run_from-answers : (rows : List Lin) (bounds : List ℤ) (k : ℕ) (tab : Tableau) (answer : Lp) → Invariant rows tab → bounds_of rows ≡ Some bounds → run_from rows bounds k tab ≡ Some answer → Answers rows answer
unfolding run_from
run_from-answers rows bounds zero tab answer i b h =
    step-answers rows bounds tab (λ s e. Some lp.Pivots) answer i b (λ s e old a w n q. let same : lp.Pivots ≡ a = cc (q) in subst (Answers rows) same tt) h
run_from-answers rows bounds (suc k) tab answer i b h =
    step-answers rows bounds tab (λ s e. with_value (pivot tab s e) (run_from rows bounds k)) answer i b
    (λ s e old a w n q.
    let next = value-some (pivot tab s e) (run_from rows bounds k) a q in
    let x = one-enters (Nonbasic (width rows + length rows) tab) (width rows) 0 e old.terms (i.valid.lines s old w).1 n in
    run_from-answers rows bounds k next.0 a (pivot-keeps rows tab next.0 s e old i w x.1 x.0 next.1) b next.2)
    h

-- the whole run
pub run-answers : (rows : List Lin) (pivots : ℕ) (answer : Lp) → AllAscend rows → whole_run rows pivots ≡ Some answer → Answers rows answer
unfolding whole_run
run-answers rows pivots answer a h =
    let b = value-some (bounds_of rows) (λ bounds. run_from rows bounds pivots (first_tableau rows)) answer h in
    run_from-answers rows b.0 pivots (first_tableau rows) answer (first-invariant rows a) b.1 b.2

pub ruleset answers = (run-answers)

-- what the run answers, whatever it is
pub tableau-answers : (rows : List Lin) (pivots : ℕ) → AllAscend rows → Answers rows (tableau_run rows pivots)
tableau-answers rows pivots a =
    elim (whole_run rows pivots) as (λ o. whole_run rows pivots ≡ o → Answers rows (or_wide o)) [
      | None ↦ λ e. tt
      | Some answer ↦ λ e. run-answers rows pivots answer a e
    ] refl
