-- What the answers of a run say of the formula whose rows it took.
use Rattle.std.proofs.Common.{◌≡◌, subst, refl, List, Bool, true, false, ◌⊎◌, inl, inr, pos, ◌≤ℤ◌}
use lib.IntN.{ℤ}
use Rattle.chc_form.specs.declared.linear.Limits.{Limits}
use Rattle.chc_form.specs.declared.formula.Formula.{Formula}
use Rattle.chc_form.specs.Linear.{AllAscend, FracSatisfies}
use Rattle.chc_form.specs.Multipliers.{Refutes}
use Rattle.chc_form.specs.Formulas.{FormulaRefuted}
use Rattle.chc_form.proofs.Farkas.{refutes-fractions, satisfied-not_refuted}
use Rattle.chc_simplex.specs.declared.data.Lp.{Lp}
use Rattle.chc_simplex.specs.declared.data.Lp.TheVariants as lp
use Rattle.chc_simplex.specs.Answers.{Answers}
use Rattle.chc_simplex.specs.Rounds.{number_at}
use Rattle.chc_simplex.specs.TableauRun.{tableau_run}
use Rattle.chc_simplex.proofs.Soundness.{tableau-answers}
use Rattle.chc_reduce.specs.Rows.{rows_of, is_plain, branch_of}
use Rattle.chc_reduce.proofs.Satisfying.{satisfied-true, rows-refute}
use Rattle.chc_ask.specs.declared.open.Why.{Why}
use Rattle.chc_ask.specs.declared.open.Why.TheVariants as why
use Rattle.chc_ask.specs.declared.open.Open.{Open}
use Rattle.chc_ask.specs.declared.open.Asked.{Asked}
use Rattle.chc_ask.specs.declared.open.Asked.TheVariants as asked
use Rattle.chc_ask.specs.Asked.{pointed, answered, asked_of}
use Rattle.chc_ask.specs.Open.{MeetsLimit, wide, pivots, choice, HasCause, StaysOpen}

-- what each answer says
abbrev Says : Limits → Formula → Asked → Type 0
Says l f (asked.Refuted ms) = Refutes ms (rows_of f) × FormulaRefuted f
Says l f (asked.Open o) = StaysOpen l f o

pointed-says : (l : Limits) (f : Formula) (plain : Bool) (x : List ℤ) (d : ℤ) → is_plain f ≡ plain → pos 1 ≤ℤ d → FracSatisfies (rows_of f) (number_at x) d → Says l f (pointed plain (branch_of f) x d)
pointed-says l f true x d p above h = record { branch = refl; cause = (above, satisfied-true (number_at x) d f p h) }
pointed-says l f false x d p above h = record { branch = refl; cause = (p, satisfied-not_refuted (rows_of f) (number_at x) d h above) }

answered-says : (l : Limits) (f : Formula) (a : Lp) → tableau_run (rows_of f) l.pivots ≡ a → Answers (rows_of f) a → Says l f (answered (is_plain f) (branch_of f) a)
answered-says l f (lp.Infeasible ms) e h = (h, rows-refute f (refutes-fractions ms (rows_of f) h))
answered-says l f (lp.Feasible x d) e h = pointed-says l f (is_plain f) x d refl h.above h.satisfies
answered-says l f lp.Wide e h = record { branch = refl; cause = e }
answered-says l f lp.Pivots e h = record { branch = refl; cause = e }

asked-says : (l : Limits) (f : Formula) → AllAscend (rows_of f) → Says l f (asked_of l f)
unfolding asked_of
asked-says l f a = answered-says l f (tableau_run (rows_of f) l.pivots) refl (tableau-answers (rows_of f) l.pivots a)

pub asked-refuted : (l : Limits) (f : Formula) (ms : List ℤ) → AllAscend (rows_of f) → asked_of l f ≡ asked.Refuted ms → Refutes ms (rows_of f) × FormulaRefuted f
asked-refuted l f ms a e = subst (Says l f) e (asked-says l f a)

pub asked-open : (l : Limits) (f : Formula) (o : Open) → AllAscend (rows_of f) → asked_of l f ≡ asked.Open o → StaysOpen l f o
asked-open l f o a e = subst (Says l f) e (asked-says l f a)

cause-meets : (l : Limits) (f : Formula) (w : Why) → HasCause l f w → (FormulaRefuted f → ⊥) ⊎ MeetsLimit l f
cause-meets l f (why.Point x d) h = inl (λ r. r (number_at x) d h.0 h.1)
cause-meets l f why.Wide h = inr (wide h)
cause-meets l f why.Pivots h = inr (pivots h)
cause-meets l f why.Nodes h = inr (choice h.0 h.1)

pub open-meets : (l : Limits) (f : Formula) (o : Open) → StaysOpen l f o → (FormulaRefuted f → ⊥) ⊎ MeetsLimit l f
open-meets l f o h = cause-meets l f o.why h.cause

complete-by : (l : Limits) (f : Formula) (a : Asked) → asked_of l f ≡ a → AllAscend (rows_of f) → FormulaRefuted f → (MeetsLimit l f → ⊥) → (ms : List ℤ) × (asked_of l f ≡ asked.Refuted ms)
complete-by l f (asked.Refuted ms) e a r within = (ms, e)
complete-by l f (asked.Open o) e a r within =
    elim (open-meets l f o (asked-open l f o a e)) [
      | inl other ↦ absurd (other r)
      | inr limit ↦ absurd (within limit)
    ]

pub asked-complete : (l : Limits) (f : Formula) → AllAscend (rows_of f) → FormulaRefuted f → (MeetsLimit l f → ⊥) → (ms : List ℤ) × (asked_of l f ≡ asked.Refuted ms)
asked-complete l f a r within = complete-by l f (asked_of l f) refl a r within

pub ruleset answers = (asked-refuted, asked-open, open-meets, asked-complete)
