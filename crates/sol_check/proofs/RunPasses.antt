-- The multipliers of a run of the tableau pass.
use Rattle.std.proofs.Common.{◌≡◌, subst, ℕ, List, true}
use lib.IntN.{ℤ}
use Rattle.chc_form.specs.declared.Lin.{Lin}
use Rattle.chc_form.specs.Linear.{AllAscend}
use Rattle.chc_simplex.specs.declared.Lp.TheVariants as lp
use Rattle.chc_simplex.specs.TableauRun.{tableau_run}
use Rattle.chc_simplex.specs.Answers.{Answers}
use Rattle.chc_simplex.proofs.Soundness.{tableau-answers}
use Rattle.chc_simplex.proofs.Summing.{multipliers-summed}
use Rattle.chc_cert.specs.Passing.{passes}
use Rattle.chc_cert.proofs.Laws.{refutes-passes}

pub run-passes : (ls : List Lin) (pivots : ℕ) (ms : List ℤ) → AllAscend ls → tableau_run ls pivots ≡ lp.Infeasible ms → passes ms ls ≡ true
run-passes ls pivots ms a e = refutes-passes ms ls (subst (Answers ls) e (tableau-answers ls pivots a)) (multipliers-summed ls pivots ms e)
