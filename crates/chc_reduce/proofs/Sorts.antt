-- The sorts of variables in a well-made system, and turns of the loop over them.
use Rattle.std.proofs.Common.{◌≡◌, sym, ℕ, ◌+◌, ◌<◌, suc, List, [], ◌∷◌, ◌++◌, true, Some, length, slice_get, arith, append_assoc}
use Rattle.std.specs.List.{list_all, Contains}
use Rattle.std.proofs.lemmas.Bool.{and_parts}
use Rattle.chc_nums.specs.declared.Ty.{Ty}
use Rattle.chc_nums.specs.declared.Ty.TheVariants as ty
use Rattle.chc_nums.specs.Types.{IsType}
use Rattle.chc_form.specs.declared.formula.Formula.{Formula}
use Rattle.chc_form.specs.declared.system.Sort.{Sort}
use Rattle.chc_form.specs.declared.system.Sort.TheVariants as sort
use Rattle.chc_form.specs.declared.system.Rule.{Rule}
use Rattle.chc_form.specs.declared.system.Query.{Query}
use Rattle.chc_form.specs.declared.system.System.{System}
use Rattle.chc_form.specs.WellMade.{is_few, all_few, is_sized, is_sort, well_made}
use Rattle.chc_form.proofs.Entries.{got-contained}
use Rattle.chc_form.proofs.Passing.{first-sort, rest-sorts, rule-made, query-made}
use Rattle.chc_reduce.specs.Reduced.{ranges}
use Rattle.chc_reduce.proofs.Few.{rule-few, query-few}

sized-type : (t : Ty) → is_sized t ≡ true → IsType t
sized-type ty.Bool h = tt
sized-type (ty.Uint n) h = grind arith
sized-type (ty.Int n) h = grind arith
sized-type ty.Addr h = tt

pub sort_type : (t : Ty) (s : Sort) → s ≡ sort.Whole t → is_sort s ≡ true → IsType t
sort_type t s e h = sized-type t (rw e at h)

pub ruleset sorts = (sort_type)

-- one variable, and then those after it
pub ranges_turn : (made : List Formula) (x : ℕ) (s : Sort) (ss : List Sort) → (made ++ ranges x (s ∷ [])) ++ ranges (x + 1) ss ≡ made ++ ranges x (s ∷ ss)
ranges_turn made x (sort.Whole t) ss = let e : x + 1 ≡ suc x = omega arith in rw e (append_assoc made (ranges x (sort.Whole t ∷ [])) (ranges (suc x) ss))
ranges_turn made x sort.Free ss = let e : x + 1 ≡ suc x = omega arith in rw e (append_assoc made [] (ranges (suc x) ss))
ranges_turn made x (sort.Map ks v) ss = let e : x + 1 ≡ suc x = omega arith in rw e (append_assoc made [] (ranges (suc x) ss))

pub ruleset turns = (ranges_turn, first-sort, rest-sorts)

rule-sorts : (s : System) (r : Rule) → well_made s ≡ true → Contains s.rules r → list_all is_sort r.vars ≡ true
rule-sorts s r h i =
    let a = and_parts (all_few is_sort r.vars) _ (rule-made s r h i) in
    (and_parts (is_few r.vars) (list_all is_sort r.vars) a.0).1

query-sorts : (s : System) (q : Query) → well_made s ≡ true → Contains s.queries q → list_all is_sort q.vars ≡ true
query-sorts s q h i =
    let a = and_parts (all_few is_sort q.vars) _ (query-made s q h i) in
    (and_parts (is_few q.vars) (list_all is_sort q.vars) a.0).1

pub got_rule : (s : System) (i : ℕ) (r : Rule) → Some r ≡ slice_get s.rules i → well_made s ≡ true → list_all is_sort r.vars ≡ true
got_rule s i r e h = rule-sorts s r h (got-contained s.rules i r (sym e))

pub got_query : (s : System) (i : ℕ) (q : Query) → Some q ≡ slice_get s.queries i → well_made s ≡ true → list_all is_sort q.vars ≡ true
got_query s i q e h = query-sorts s q h (got-contained s.queries i q (sym e))

pub few_rule : (s : System) (i : ℕ) (r : Rule) → Some r ≡ slice_get s.rules i → well_made s ≡ true → length r.vars < 2147483648
few_rule s i r e h = rule-few s r h (got-contained s.rules i r (sym e))

pub few_query : (s : System) (i : ℕ) (q : Query) → Some q ≡ slice_get s.queries i → well_made s ≡ true → length q.vars < 2147483648
few_query s i q e h = query-few s q h (got-contained s.queries i q (sym e))

pub ruleset parts = (got_rule, got_query, few_rule, few_query)
