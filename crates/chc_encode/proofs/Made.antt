-- Each query has its target's number, and asks at the values at entry.
use Rattle.std.proofs.Common.{◌≡◌, subst, refl, ℕ, zero, suc, ◌+◌, List, [], ◌∷◌, ◌++◌, length, arith, Option, Some, None, slice_get, option_map, option_to_list}
use Rattle.chc_form.specs.declared.Row.{Row}
use Rattle.chc_form.specs.declared.Query.{Query}
use Rattle.sol_first.specs.declared.Variable.{Variable}
use Rattle.sol_first.specs.declared.Step.{Step}
use Rattle.sol_first.specs.declared.Function.{Function}
use Rattle.sol_first.specs.Elaborated.{sites_of_step, sites_of_steps}
use Rattle.chc_encode.specs.declared.path.Path.{Path}
use Rattle.chc_encode.specs.PathRows.{after, entry, target}
use Rattle.chc_encode.specs.Systems.{at_entry, query_at, own_query, queries_of_steps, queries_of}
use Rattle.chc_encode.proofs.Queries.{own-count, steps-count}

pub record IsMade (vars : List Variable) (t : ℕ) (q : Query) : Type 0 where
  pub number : q.target ≡ t
  pub body : q.body ≡ at_entry vars ∷ []

-- the queries have the numbers from a first one on
abbrev pub AllMade : List Variable → ℕ → List Query → Type 0
AllMade vars t [] = Unit {0}
AllMade vars t (q ∷ qs) = IsMade vars t q × AllMade vars (suc t) qs

made-append : (vars : List Variable) (t u : ℕ) (ps qs : List Query) → u ≡ t + length ps → AllMade vars t ps → AllMade vars u qs → AllMade vars t (ps ++ qs)
made-append vars t u [] qs e h k = let f : u ≡ t = omega arith in subst (λ (n : ℕ). AllMade vars n qs) f k
made-append vars t u (p ∷ ps) qs e h k = (h.0, made-append vars (suc t) u ps qs (omega arith) h.1 k)

own-made : (vars : List Variable) (t : ℕ) (p : Path) (o : Option Row) → AllMade vars t (option_to_list (option_map (query_at vars p t) o))
own-made vars t p None = tt
own-made vars t p (Some r) = (record { number = refl; body = refl }, tt)

steps-made : (vars : List Variable) (t : ℕ) (ss : List Step) (p : Path) → AllMade vars t (queries_of_steps vars t ss p)
steps-made vars t [] p = tt
steps-made vars t (s ∷ ss) p =
    made-append vars t (t + length (sites_of_step s)) (own_query vars t s p) (queries_of_steps vars (t + length (sites_of_step s)) ss (after vars s p)) (omega (arith, own-count vars t s p)) (own-made vars t p (target vars s p)) (steps-made vars (t + length (sites_of_step s)) ss (after vars s p))

pub queries-made : (vars : List Variable) (t : ℕ) (fs : List Function) → AllMade vars t (queries_of vars t fs)
queries-made vars t [] = tt
queries-made vars t (f ∷ fs) =
    made-append vars t (t + length (sites_of_steps f.steps)) (queries_of_steps vars t f.steps (entry vars)) (queries_of vars (t + length (sites_of_steps f.steps)) fs) (omega (arith, steps-count vars t f.steps (entry vars))) (steps-made vars t f.steps (entry vars)) (queries-made vars (t + length (sites_of_steps f.steps)) fs)

pub made-at : (vars : List Variable) (t k : ℕ) (qs : List Query) (q : Query) → AllMade vars t qs → slice_get qs k ≡ Some q → IsMade vars (t + k) q
made-at vars t k [] q h e = absurd (cc)
made-at vars t zero (p ∷ ps) q h e =
    let n : t ≡ t + 0 = omega arith in
    let same : p ≡ q = cc in
    subst (λ (m : ℕ). IsMade vars m q) n (subst (IsMade vars t) same h.0)
made-at vars t (suc k) (p ∷ ps) q h e =
    let n : suc t + k ≡ t + suc k = omega arith in
    subst (λ (m : ℕ). IsMade vars m q) n (made-at vars (suc t) k ps q h.1 e)
