-- Within the limits of the language the lists of a contract's rules are short.
use Rattle.std.proofs.Common.{◌≡◌, ◌∙◌, refl, ℕ, zero, suc, ◌+◌, ◌*◌, ◌<◌, ◌≤◌, ◌^◌, ◌&&◌, List, [], ◌∷◌, ◌++◌, length, map, pos, neg_ℤ, true, arith, Option, Some, None, option_map, option_to_list, length-append}
use Rattle.std.specs.List.{list_all}
use Rattle.std.proofs.lemmas.Bool.{and_from, lt-ltb}
use Rattle.std.proofs.lemmas.List.{length-map}
use Rattle.std.proofs.lemmas.List.Folds.{list_all-append}
use Rattle.chc_nums.specs.declared.Ty.TheVariants as ty
use Rattle.chc_form.specs.declared.Row.{Row}
use Rattle.chc_form.specs.declared.Con.TheVariants as con
use Rattle.chc_form.specs.declared.Rule.{Rule}
use Rattle.chc_form.specs.declared.Query.{Query}
use Rattle.chc_form.specs.declared.Sort.TheVariants as sort
use Rattle.chc_form.specs.WellMade.{is_few}
use Rattle.sol_first.specs.declared.Variable.{Variable}
use Rattle.sol_first.specs.declared.Step.{Step}
use Rattle.sol_first.specs.declared.Step.TheVariants as step
use Rattle.sol_first.specs.declared.Function.{Function}
use Rattle.sol_first.specs.declared.Contract.{Contract}
use Rattle.sol_first.specs.Elaborated.{type_at, sites_of_step, sites_of_steps, sites_of}
use Rattle.chc_encode.specs.declared.path.Path.{Path}
use Rattle.chc_encode.specs.PathRows.{plus, minus, plus_minus, minus_plus, within, holds, most, now_at, next_at, sorts_of, entry, assigned, after, after_all, target}
use Rattle.chc_encode.specs.Systems.{cons_of, zeros_from, zero_rule, rule_at, rule_of, query_at, own_query, queries_of_steps, queries_of, system_of}
use Rattle.chc_encode.specs.Few.{rule_few, query_few, are_few, statement_count, IsWithinLimits}
use Rattle.chc_encode.proofs.Queries.{queries-count}

short : {A : Type 0} (xs : List A) → length xs ≤ 65536 → is_few xs ≡ true
short xs h = let n : length xs < 2 ^ 31 = omega arith in lt-ltb (length xs) (2 ^ 31) n

cons-length : (rows : List Row) → length (cons_of rows) ≡ length rows
cons-length rows = length-map rows (λ r. con.Le r.lin)

-- a path has at most a sort and four rows more after each statement, and a query one row more
record Room (p : Path) (n : ℕ) : Type 0 where
  sorts : length p.sorts + n ≤ 8192
  rows : length p.rows + 4 * n ≤ 32768

assigned-sorts : (vars : List Variable) (p : Path) (to : ℕ) (more : List Row) → length (assigned vars p to more).sorts ≡ length p.sorts + 1
assigned-sorts vars p to more = length-append p.sorts (sort.Whole (type_at vars to) ∷ [])

assigned-rows : (vars : List Variable) (p : Path) (to : ℕ) (more : List Row) → length (assigned vars p to more).rows ≡ length p.rows + length more
assigned-rows vars p to more = length-append p.rows more

room-assigned : (vars : List Variable) (p : Path) (to : ℕ) (more : List Row) (n : ℕ) → length more ≤ 4 → Room p (suc n) → Room (assigned vars p to more) n
room-assigned vars p to more n few h = record {
  sorts = omega (arith, assigned-sorts vars p to more, h.sorts);
  rows = omega (arith, assigned-rows vars p to more, h.rows, few);
}

room-row : (p : Path) (r : Row) (n : ℕ) → Room p (suc n) → Room (record p { rows = p.rows ++ r ∷ [] }) n
room-row p r n h = record { sorts = omega (arith, h.sorts); rows = omega (arith, length-append p.rows (r ∷ []), h.rows) }

room-after : (vars : List Variable) (s : Step) (p : Path) (n : ℕ) → Room p (suc n) → Room (after vars s p) n
room-after vars (step.Require i o m) p n h = room-row p (holds o (now_at p i) m) n h
room-after vars (step.Assert l c i o m) p n h = room-row p (holds o (now_at p i) m) n h
room-after vars (step.Put to m) p n h = room-assigned vars p to (minus (next_at p) m ∷ plus (next_at p) (neg_ℤ m) ∷ []) n (omega arith) h
room-after vars (step.Move to from) p n h = room-assigned vars p to (plus_minus (now_at p from) (next_at p) (pos 0) ∷ minus_plus (now_at p from) (next_at p) (pos 0) ∷ []) n (omega arith) h
room-after vars (step.Add l c to from m) p n h = room-assigned vars p to (plus_minus (now_at p from) (next_at p) m ∷ minus_plus (now_at p from) (next_at p) (neg_ℤ m) ∷ within (next_at p) (most vars from)) n (omega arith) h
room-after vars (step.Subtract l c to from m) p n h = room-assigned vars p to (plus_minus (now_at p from) (next_at p) (neg_ℤ m) ∷ minus_plus (now_at p from) (next_at p) m ∷ within (next_at p) (most vars from)) n (omega arith) h

room-all : (vars : List Variable) (ss : List Step) (p : Path) → Room p (length ss) → Room (after_all vars ss p) 0
room-all vars [] p h = h
room-all vars (s ∷ ss) p h = room-all vars ss (after vars s p) (room-after vars s p (length ss) h)

room-entry : (vars : List Variable) (n : ℕ) → length vars ≤ 48 → n ≤ 4096 → Room (entry vars) n
room-entry vars n few h = record { sorts = omega (arith, length-map vars (λ v. sort.Whole (ty.Uint v.size))); rows = omega arith }

path-few : (vars : List Variable) (p : Path) (n : ℕ) → Room p n → rule_few (rule_at vars p) ≡ true
path-few vars p n h = and_from (is_few p.sorts) (is_few (cons_of p.rows)) (short p.sorts (omega (arith, h.sorts))) (short (cons_of p.rows) (omega (arith, cons-length p.rows, h.rows)))

asked-few : (vars : List Variable) (p : Path) (t : ℕ) (r : Row) (n : ℕ) → Room p n → query_few (query_at vars p t r) ≡ true
asked-few vars p t r n h = and_from (is_few p.sorts) (is_few (cons_of (p.rows ++ r ∷ []))) (short p.sorts (omega (arith, h.sorts))) (short (cons_of (p.rows ++ r ∷ [])) (omega (arith, cons-length (p.rows ++ r ∷ []), length-append p.rows (r ∷ []), h.rows)))

own-few : (vars : List Variable) (t : ℕ) (p : Path) (o : Option Row) (n : ℕ) → Room p n → list_all query_few (option_to_list (option_map (query_at vars p t) o)) ≡ true
own-few vars t p None n h = refl
own-few vars t p (Some r) n h = and_from (query_few (query_at vars p t r)) true (asked-few vars p t r n h) refl

steps-few : (vars : List Variable) (t : ℕ) (ss : List Step) (p : Path) → Room p (length ss) → list_all query_few (queries_of_steps vars t ss p) ≡ true
steps-few vars t [] p h = refl
steps-few vars t (s ∷ ss) p h =
    list_all-append query_few (own_query vars t s p) (queries_of_steps vars (t + length (sites_of_step s)) ss (after vars s p))
    ∙ and_from (list_all query_few (own_query vars t s p)) (list_all query_few (queries_of_steps vars (t + length (sites_of_step s)) ss (after vars s p))) (own-few vars t p (target vars s p) (suc (length ss)) h) (steps-few vars (t + length (sites_of_step s)) ss (after vars s p) (room-after vars s p (length ss) h))

queries-few : (vars : List Variable) (t : ℕ) (fs : List Function) → length vars ≤ 48 → statement_count fs ≤ 4096 → list_all query_few (queries_of vars t fs) ≡ true
queries-few vars t [] few h = refl
queries-few vars t (f ∷ fs) few h =
    list_all-append query_few (queries_of_steps vars t f.steps (entry vars)) (queries_of vars (t + length (sites_of_steps f.steps)) fs)
    ∙ and_from (list_all query_few (queries_of_steps vars t f.steps (entry vars))) (list_all query_few (queries_of vars (t + length (sites_of_steps f.steps)) fs)) (steps-few vars t f.steps (entry vars) (room-entry vars (length f.steps) few (omega (arith, h)))) (queries-few vars (t + length (sites_of_steps f.steps)) fs few (omega (arith, h)))

rules-few : (vars : List Variable) (fs : List Function) → length vars ≤ 48 → statement_count fs ≤ 4096 → list_all rule_few (map (rule_of vars) fs) ≡ true
rules-few vars [] few h = refl
rules-few vars (f ∷ fs) few h =
    and_from (rule_few (rule_of vars f)) (list_all rule_few (map (rule_of vars) fs)) (path-few vars (after_all vars f.steps (entry vars)) 0 (room-all vars f.steps (entry vars) (room-entry vars (length f.steps) few (omega (arith, h))))) (rules-few vars fs few (omega (arith, h)))

zeros-length : (i : ℕ) (vars : List Variable) → length (zeros_from i vars) ≡ 2 * length vars
zeros-length i [] = refl
zeros-length i (v ∷ vars) = omega (arith, zeros-length (suc i) vars)

zero-few : (vars : List Variable) → length vars ≤ 48 → rule_few (zero_rule vars) ≡ true
zero-few vars few = and_from (is_few (sorts_of vars)) (is_few (zeros_from 0 vars)) (short (sorts_of vars) (omega (arith, length-map vars (λ v. sort.Whole (ty.Uint v.size))))) (short (zeros_from 0 vars) (omega (arith, zeros-length 0 vars)))

-- at most one target a statement
step-sites : (s : Step) → length (sites_of_step s) ≤ 1
step-sites (step.Require i o n) = omega arith
step-sites (step.Assert l c i o n) = omega arith
step-sites (step.Put to n) = omega arith
step-sites (step.Move to from) = omega arith
step-sites (step.Add l c to from n) = omega arith
step-sites (step.Subtract l c to from n) = omega arith

steps-sites : (ss : List Step) → length (sites_of_steps ss) ≤ length ss
steps-sites [] = omega arith
steps-sites (s ∷ ss) = omega (arith, length-append (sites_of_step s) (sites_of_steps ss), step-sites s, steps-sites ss)

functions-sites : (fs : List Function) → length (sites_of fs) ≤ statement_count fs
functions-sites [] = omega arith
functions-sites (f ∷ fs) = omega (arith, length-append (sites_of_steps f.steps) (sites_of fs), steps-sites f.steps, functions-sites fs)

pub limits-few : (c : Contract) → IsWithinLimits c → are_few (system_of c) ≡ true
unfolding are_few
limits-few c h =
    let rules : List Rule = zero_rule c.variables ∷ map (rule_of c.variables) c.functions in
    let queries : List Query = queries_of c.variables 0 c.functions in
    let variables : length c.variables ≤ 48 = h.variables in
    let functions : length c.functions ≤ 64 = h.functions in
    let statements : statement_count c.functions ≤ 4096 = h.statements in
    let count : length (map (rule_of c.variables) c.functions) ≡ length c.functions = length-map c.functions (rule_of c.variables) in
    and_from (is_few rules && list_all rule_few rules) (is_few queries && list_all query_few queries)
    (and_from (is_few rules) (list_all rule_few rules) (short rules (omega (arith, count, functions))) (and_from (rule_few (zero_rule c.variables)) (list_all rule_few (map (rule_of c.variables) c.functions)) (zero-few c.variables variables) (rules-few c.variables c.functions variables statements)))
    (and_from (is_few queries) (list_all query_few queries) (short queries (omega (arith, queries-count c.variables 0 c.functions, functions-sites c.functions, statements))) (queries-few c.variables 0 c.functions variables statements))
