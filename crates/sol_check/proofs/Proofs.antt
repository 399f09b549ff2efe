-- The proofs of the last round pass.
use Rattle.std.proofs.Common.{◌≡◌, sym, ap, subst, refl, ℕ, suc, ◌<◌, ◌≤◌, length, arith, ◌==◌, List, [], ◌∷◌, ◌++◌, Bool, true, false, Some, None, if◌then◌else◌}
use lib.IntN.{ℤ}
use Rattle.std.specs.List.{list_all, Contains}
use Rattle.chc_form.specs.declared.Formula.{Formula}
use Rattle.chc_form.specs.declared.Limits.{Limits}
use Rattle.chc_form.specs.declared.Rule.{Rule}
use Rattle.chc_form.specs.declared.System.{System}
use Rattle.chc_form.specs.declared.Part.TheVariants as part
use Rattle.chc_form.specs.declared.Lemma.{Lemma}
use Rattle.chc_form.specs.Linear.{AllAscend}
use Rattle.chc_form.specs.WellMade.{well_made, of_system}
use Rattle.chc_form.proofs.Passing.{entry-passes}
use Rattle.chc_form.proofs.Entries.{contains-first, contains-later}
use Rattle.chc_simplex.specs.declared.Lp.{Lp}
use Rattle.chc_simplex.specs.declared.Lp.TheVariants as lp
use Rattle.chc_simplex.specs.TableauRun.{tableau_run}
use Rattle.chc_cert.specs.Passing.{passes}
use Rattle.sol_check.proofs.RunPasses.{run-passes}
use Rattle.chc_reduce.specs.Reduced.{reduced}
use Rattle.chc_reduce.specs.Rows.{rows_of, is_plain, branch_of}
use Rattle.chc_reduce.specs.Obligations.{Obligation, at_rules, for_lemmas, obligations}
use Rattle.chc_reduce.proofs.Ordered.{reduced-ordered}
use Rattle.chc_reduce.proofs.Few.{queries-few}
use Rattle.chc_encode.specs.Systems.{system_of}
use Rattle.chc_encode.proofs.Laws.{asks}
use Rattle.sol_first.specs.declared.Contract.{Contract}
use Rattle.sol_first.specs.Elaborated.{program_of}
use Rattle.chc_ask.specs.declared.Asked.TheVariants as asked
use Rattle.chc_ask.specs.Asked.{answered, asked_of}
use Rattle.chc_templates.specs.Candidates.{candidates_of}
use Rattle.chc_templates.proofs.Laws.{candidates-of, candidates-few}
use Rattle.chc_houdini.specs.declared.Greatest.{Greatest}
use Rattle.chc_houdini.specs.Drops.{kept}
use Rattle.chc_houdini.specs.Proofs.{AllAsked}
use Rattle.chc_houdini.proofs.Kept.{kept-contained, kept-few}
use Rattle.pool_state.specs.Unproved.{unproved}
use Rattle.sol_check.specs.Verdicts.{limits}
use Rattle.sol_check.specs.Found.{IsGreatest}

-- multipliers that were answered are those of the run
answered-run : (plain : Bool) (b : List ℕ) (a : Lp) (ms : List ℤ) → answered plain b a ≡ asked.Refuted ms → a ≡ lp.Infeasible ms
answered-run plain b (lp.Infeasible ns) ms e = let same : ns ≡ ms = cc in subst (λ (k : List ℤ). lp.Infeasible ns ≡ lp.Infeasible k) same refl
answered-run true b (lp.Feasible x d) ms e = absurd (cc)
answered-run false b (lp.Feasible x d) ms e = absurd (cc)
answered-run plain b lp.Wide ms e = absurd (cc)
answered-run plain b lp.Pivots ms e = absurd (cc)

asked-passes : (l : Limits) (f : Formula) (ms : List ℤ) → AllAscend (rows_of f) → asked_of l f ≡ asked.Refuted ms → passes ms (rows_of f) ≡ true
unfolding asked_of
asked-passes l f ms a e = run-passes (rows_of f) l.pivots ms a (answered-run (is_plain f) (branch_of f) (tableau_run (rows_of f) l.pivots) ms e)

-- the formulas of obligations have rows in order
abbrev AllOrdered : List Obligation → Type 0
AllOrdered [] = Unit {0}
AllOrdered (o ∷ os) = AllAscend (rows_of o.formula) × AllOrdered os

ordered-append : (os ps : List Obligation) → AllOrdered os → AllOrdered ps → AllOrdered (os ++ ps)
ordered-append [] ps h k = k
ordered-append (o ∷ os) ps h k = (h.0, ordered-append os ps h.1 k)

either-ordered : (b : Bool) (o : Obligation) (os : List Obligation) → AllAscend (rows_of o.formula) → AllOrdered os → AllOrdered (if b then o ∷ os else os)
either-ordered true o os h k = (h, k)
either-ordered false o os h k = k

rules-ordered : (s : System) (have : List Lemma) (k : ℕ) (l : Lemma) (i : ℕ) (rs : List Rule) → well_made s ≡ true → AllOrdered (at_rules s have k l i rs)
rules-ordered s have k l i [] w = tt
rules-ordered s have k l i (r ∷ rs) w = either-ordered (r.head.pred == l.pred) (record { lemma = k; rule = i; formula = reduced s (part.Rule i) (Some l) have }) (at_rules s have k l (suc i) rs) (reduced-ordered s (part.Rule i) (Some l) have w) (rules-ordered s have k l (suc i) rs w)

lemmas-ordered : (s : System) (have : List Lemma) (k : ℕ) (ls : List Lemma) → well_made s ≡ true → AllOrdered (for_lemmas s have k ls)
lemmas-ordered s have k [] w = tt
lemmas-ordered s have k (l ∷ ls) w = ordered-append (at_rules s have k l 0 s.rules) (for_lemmas s have (suc k) ls) (rules-ordered s have k l 0 s.rules w) (lemmas-ordered s have (suc k) ls w)

-- proofs that were answered for obligations leave none open
asked-proved : (l : Limits) (os : List Obligation) (ps : List (List ℤ)) → AllOrdered os → AllAsked l os ps → unproved os ps ≡ None
asked-proved l [] [] w h = refl
asked-proved l [] (p ∷ ps) w h = absurd h
asked-proved l (o ∷ os) [] w h = absurd h
asked-proved l (o ∷ os) (p ∷ ps) w h = let e : passes p (rows_of o.formula) ≡ true = asked-passes l o.formula p w.0 h.0 in rw e (asked-proved l os ps w.1 h.1)

pub greatest_proved : (s : System) (g : Greatest) → well_made s ≡ true → IsGreatest s g → unproved (obligations s [] g.lemmas) g.proofs ≡ None
greatest_proved s g w h = asked-proved limits (obligations s [] g.lemmas) g.proofs (lemmas-ordered s ([] ++ g.lemmas) 0 g.lemmas w) h.proofs

all-pass : {A : Type 0} → (f : A → Bool) (xs : List A) → ((x : A) → Contains xs x → f x ≡ true) → list_all f xs ≡ true
all-pass f [] h = refl
all-pass f (x ∷ xs) h = rw (h x (contains-first x xs)) (all-pass f xs (λ y i. h y (contains-later x y xs i)))

-- the kept lemmas are of the system, and few
pub greatest_of : (s : System) (g : Greatest) → well_made s ≡ true → IsGreatest s g → list_all (of_system s) g.lemmas ≡ true
greatest_of s g w h = subst (λ (ls : List Lemma). list_all (of_system s) ls ≡ true) (sym h.kept) (all-pass (of_system s) (kept g.drops (candidates_of s)) (λ l i. entry-passes (of_system s) (candidates_of s) l (candidates-of s w) (kept-contained g.drops (candidates_of s) l i)))

pub greatest_few : (s : System) (g : Greatest) → IsGreatest s g → length g.lemmas ≤ 1024
greatest_few s g h = let n : length g.lemmas ≡ length (kept g.drops (candidates_of s)) = ap (length {A = Lemma}) h.kept in omega (arith, n, kept-few g.drops (candidates_of s), candidates-few s)

pub candidates_few : (s : System) → length (candidates_of s) < 4294967296
candidates_few s = let n = candidates-few s in omega arith

-- a program has as many targets as its rules have queries
pub sites_few : (c : Contract) → well_made (system_of c) ≡ true → length (program_of c).sites < 4294967296
sites_few c w =
    let same : length (system_of c).queries ≡ length (program_of c).sites = (asks c).count in
    omega (arith, queries-few (system_of c) w)

pub ruleset greatests = (greatest_proved, greatest_of, greatest_few)

pub ruleset counts = (candidates_few, sites_few)
