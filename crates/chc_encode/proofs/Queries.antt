-- How many queries there are, and how they grow.
use Rattle.std.proofs.Common.{◌≡◌, ◌∙◌, sym, ap, refl, ℕ, suc, ◌+◌, List, [], ◌∷◌, ◌++◌, length, map, drop, ◌<◌, arith, length-append, append_assoc}
use Rattle.std.proofs.Math.ListN.{get_or}
use Rattle.std.proofs.Math.Seq.{drop-cons}
use Rattle.chc_form.specs.declared.Rule.{Rule}
use Rattle.chc_form.specs.declared.Query.{Query}
use Rattle.sol_first.specs.declared.Variable.{Variable}
use Rattle.sol_first.specs.declared.Step.{Step}
use Rattle.sol_first.specs.declared.Step.TheVariants as step
use Rattle.sol_first.specs.declared.Function.{Function}
use Rattle.sol_first.specs.Elaborated.{sites_of_step, sites_of_steps, sites_of}
use Rattle.chc_encode.specs.declared.path.Path.{Path}
use Rattle.chc_encode.specs.PathRows.{after, entry}
use Rattle.chc_encode.specs.Systems.{rule_of, own_query, queries_of_steps, queries_of}

pub own-count : (vars : List Variable) (t : ℕ) (s : Step) (p : Path) → length (own_query vars t s p) ≡ length (sites_of_step s)
own-count vars t (step.Require i o n) p = refl
own-count vars t (step.Assert l c i o n) p = refl
own-count vars t (step.Put to n) p = refl
own-count vars t (step.Move to from) p = refl
own-count vars t (step.Add l c to from n) p = refl
own-count vars t (step.Subtract l c to from n) p = refl

pub steps-count : (vars : List Variable) (t : ℕ) (ss : List Step) (p : Path) → length (queries_of_steps vars t ss p) ≡ length (sites_of_steps ss)
steps-count vars t [] p = refl
steps-count vars t (s ∷ ss) p =
    let u : ℕ = t + length (sites_of_step s) in
    omega (arith, length-append (own_query vars t s p) (queries_of_steps vars (t + length (sites_of_step s)) ss (after vars s p)), length-append (sites_of_step s) (sites_of_steps ss), own-count vars t s p, steps-count vars (t + length (sites_of_step s)) ss (after vars s p))

pub queries-count : (vars : List Variable) (t : ℕ) (fs : List Function) → length (queries_of vars t fs) ≡ length (sites_of fs)
queries-count vars t [] = refl
queries-count vars t (f ∷ fs) =
    omega (arith, length-append (queries_of_steps vars t f.steps (entry vars)) (queries_of vars (t + length (sites_of_steps f.steps)) fs), length-append (sites_of_steps f.steps) (sites_of fs), steps-count vars t f.steps (entry vars), queries-count vars (t + length (sites_of_steps f.steps)) fs)

-- ---- more queries, at the end of those that there are

pub steps-go : (vars : List Variable) (s : Step) (ss : List Step) (p : Path) (qs all : List Query) → qs ++ queries_of_steps vars (length qs) (s ∷ ss) p ≡ all → (qs ++ own_query vars (length qs) s p) ++ queries_of_steps vars (length (qs ++ own_query vars (length qs) s p)) ss (after vars s p) ≡ all
steps-go vars s ss p qs all e =
    let n : length (qs ++ own_query vars (length qs) s p) ≡ length qs + length (sites_of_step s) = omega (arith, length-append qs (own_query vars (length qs) s p), own-count vars (length qs) s p) in
    ap (λ (t : ℕ). (qs ++ own_query vars (length qs) s p) ++ queries_of_steps vars t ss (after vars s p)) n ∙ append_assoc qs (own_query vars (length qs) s p) (queries_of_steps vars (length qs + length (sites_of_step s)) ss (after vars s p)) ∙ e

-- a list from a place on
pub drop-at : {A : Type 0} → (xs : List A) (i : ℕ) (x : A) → i < length xs → x ≡ get_or xs i x → drop i xs ≡ x ∷ drop (i + 1) xs
drop-at {A} xs i x l e =
    let n : i + 1 ≡ suc i = omega arith in
    drop-cons xs i x l ∙ ap (λ (y : A). y ∷ drop (suc i) xs) (sym e) ∙ ap (λ (k : ℕ). x ∷ drop k xs) (sym n)

pub rules-go : (vars : List Variable) (fs : List Function) (i : ℕ) (f : Function) (rs new all : List Rule) → drop i fs ≡ f ∷ drop (i + 1) fs → new ≡ rs ++ rule_of vars f ∷ [] → rs ++ map (rule_of vars) (drop i fs) ≡ all → new ++ map (rule_of vars) (drop (i + 1) fs) ≡ all
rules-go vars fs i f rs new all d n e =
    ap (λ (l : List Rule). l ++ map (rule_of vars) (drop (i + 1) fs)) n ∙ append_assoc rs (rule_of vars f ∷ []) (map (rule_of vars) (drop (i + 1) fs)) ∙ ap (λ (l : List Function). rs ++ map (rule_of vars) l) (sym d) ∙ e

functions-go : (vars : List Variable) (f : Function) (fs : List Function) (qs all : List Query) → qs ++ queries_of vars (length qs) (f ∷ fs) ≡ all → (qs ++ queries_of_steps vars (length qs) f.steps (entry vars)) ++ queries_of vars (length (qs ++ queries_of_steps vars (length qs) f.steps (entry vars))) fs ≡ all
functions-go vars f fs qs all e =
    let n : length (qs ++ queries_of_steps vars (length qs) f.steps (entry vars)) ≡ length qs + length (sites_of_steps f.steps) = omega (arith, length-append qs (queries_of_steps vars (length qs) f.steps (entry vars)), steps-count vars (length qs) f.steps (entry vars)) in
    ap (λ (t : ℕ). (qs ++ queries_of_steps vars (length qs) f.steps (entry vars)) ++ queries_of vars t fs) n ∙ append_assoc qs (queries_of_steps vars (length qs) f.steps (entry vars)) (queries_of vars (length qs + length (sites_of_steps f.steps)) fs) ∙ e

pub queries-go : (vars : List Variable) (fs : List Function) (i : ℕ) (f : Function) (qs new all : List Query) → drop i fs ≡ f ∷ drop (i + 1) fs → new ≡ qs ++ queries_of_steps vars (length qs) f.steps (entry vars) → qs ++ queries_of vars (length qs) (drop i fs) ≡ all → new ++ queries_of vars (length new) (drop (i + 1) fs) ≡ all
queries-go vars fs i f qs new all d n e =
    ap (λ (l : List Query). l ++ queries_of vars (length l) (drop (i + 1) fs)) n ∙ functions-go vars f (drop (i + 1) fs) qs all (ap (λ (l : List Function). qs ++ queries_of vars (length qs) l) (sym d) ∙ e)

pub ruleset growth = (steps-go)
