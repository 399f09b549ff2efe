-- The rows of a goal between the others.
use Rattle.std.proofs.Common.{◌≡◌, ◌∙◌, sym, ap, subst, refl, ℕ, List, [], ◌∷◌, ◌++◌, append_assoc, Some}
use Rattle.std.proofs.Math.Seq.{take-append_seam, drop-append_seam}
use Rattle.chc_form.specs.declared.linear.Lin.{Lin}
use Rattle.chc_form.specs.declared.linear.Row.{Row}
use Rattle.chc_form.specs.declared.linear.Limits.{Limits}
use Rattle.chc_form.specs.declared.formula.Formula.{Formula}
use Rattle.chc_form.specs.declared.system.System.{System}
use Rattle.chc_form.specs.declared.system.Part.TheVariants as part
use Rattle.chc_form.specs.declared.lemma.Lemma.{Lemma}
use Rattle.chc_form.specs.Linear.{AllAscend, lins}
use Rattle.chc_simplex.specs.TableauRun.{tableau_run}
use Rattle.chc_reduce.specs.declared.premises.Premises.{Premises}
use Rattle.chc_reduce.specs.Reduced.{reduced}
use Rattle.chc_reduce.specs.Rows.{rows_of, is_plain, branch_of}
use Rattle.chc_reduce.specs.Premises.{goal_part, ArePremises, InOrder}
use Rattle.chc_reduce.proofs.Ordered.{ascend-append, goal-rows-ordered}
use Rattle.chc_ask.specs.Asked.{answered, asked_of}

-- ---- rows put together and taken apart

pub ruleset seams = (take-append_seam, drop-append_seam)

lins-append : (xs ys : List Row) → lins (xs ++ ys) ≡ lins xs ++ lins ys
lins-append [] ys = refl
lins-append (x ∷ xs) ys = ap (λ (ls : List Lin). x.lin ∷ ls) (lins-append xs ys)

lins-between : (b r a : List Row) → lins ((b ++ r) ++ a) ≡ lins b ++ (lins r ++ lins a)
lins-between b r a = ap lins (append_assoc b r a) ∙ lins-append b (r ++ a) ∙ ap (λ (ls : List Lin). lins b ++ ls) (lins-append r a)

pub between-ordered : (g : Premises) (goal : Lemma) (r : List Row) → InOrder g → lins r ≡ rows_of (goal_part g.head goal) → AllAscend (lins ((g.before ++ r) ++ g.after))
between-ordered g goal r h e =
    subst AllAscend (sym (lins-between g.before r g.after))
    (ascend-append (lins g.before) (lins r ++ lins g.after) h.before (ascend-append (lins r) (lins g.after) (subst AllAscend (sym e) (goal-rows-ordered g.head goal)) h.after))

-- ---- the answer

answer-by : (l : Limits) (f : Formula) (g : Premises) (r : List Row) → rows_of f ≡ lins ((g.before ++ r) ++ g.after) → branch_of f ≡ g.branch → is_plain f ≡ g.plain → answered g.plain g.branch (tableau_run (lins ((g.before ++ r) ++ g.after)) l.pivots) ≡ asked_of l f
unfolding asked_of
answer-by l f g r e b p = rw (← e, ← b, ← p) refl

pub goal-answered : (l : Limits) (goal : Lemma) (g : Premises) (r : List Row) → lins r ≡ rows_of (goal_part g.head goal) → (s : System) (i : ℕ) (ls : List Lemma) → ArePremises s i ls g → answered g.plain g.branch (tableau_run (lins ((g.before ++ r) ++ g.after)) l.pivots) ≡ asked_of l (reduced s (part.Rule i) (Some goal) ls)
goal-answered l goal g r e s i ls h =
    answer-by l (reduced s (part.Rule i) (Some goal) ls) g r
    (h.rows goal ∙ ap (λ (rs : List Lin). lins g.before ++ (rs ++ lins g.after)) (sym e) ∙ sym (lins-between g.before r g.after)) (h.branch goal) (h.plain goal)

pub ruleset goals = (between-ordered, goal-answered)
