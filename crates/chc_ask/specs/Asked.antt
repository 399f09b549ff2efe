-- What one run of the tableau says of a formula: multipliers that refute its rows, or why it stays open.
use Rattle.std.specs.Prelude.{ℕ, List, Bool, true, false}
use lib.IntN.{ℤ}
use Rattle.chc_form.specs.declared.linear.Limits.{Limits}
use Rattle.chc_form.specs.declared.formula.Formula.{Formula}
use Rattle.chc_simplex.specs.declared.data.Lp.{Lp}
use Rattle.chc_simplex.specs.declared.data.Lp.TheVariants as lp
use Rattle.chc_simplex.specs.TableauRun.{tableau_run}
use Rattle.chc_reduce.specs.Rows.{rows_of, is_plain, branch_of}
use Rattle.chc_ask.specs.declared.open.Why.{Why}
use Rattle.chc_ask.specs.declared.open.Why.TheVariants as why
use Rattle.chc_ask.specs.declared.open.Asked.{Asked}
use Rattle.chc_ask.specs.declared.open.Asked.TheVariants as asked

abbrev pub left_open : List ℕ → Why → Asked
left_open b w = asked.Open (record { branch = b; why = w })

-- a point of the rows is one of the formula where it has no choice
abbrev pub pointed : Bool → List ℕ → List ℤ → ℤ → Asked
pointed true b x d = left_open b (why.Point x d)
pointed false b x d = left_open b why.Nodes

abbrev pub answered : Bool → List ℕ → Lp → Asked
answered plain b (lp.Infeasible ms) = asked.Refuted ms
answered plain b (lp.Feasible x d) = pointed plain b x d
answered plain b lp.Wide = left_open b why.Wide
answered plain b lp.Pivots = left_open b why.Pivots

unfoldable pub asked_of : Limits → Formula → Asked
asked_of l f = answered (is_plain f) (branch_of f) (tableau_run (rows_of f) l.pivots)
