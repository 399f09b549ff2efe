-- A well-made system has few rules and queries, and each of them few variables: their numbers have 31 bits.
use Rattle.std.proofs.Common.{◌≡◌, ◌<◌, List, Bool, length, true, arith}
use Rattle.std.specs.List.{list_all, Contains}
use Rattle.std.proofs.lemmas.Bool.{and_parts}
use Rattle.std.proofs.lemmas.Bool.Decides.{nat_tests}
use Rattle.chc_form.specs.declared.system.Rule.{Rule}
use Rattle.chc_form.specs.declared.system.Query.{Query}
use Rattle.chc_form.specs.declared.system.System.{System}
use Rattle.chc_form.specs.WellMade.{is_few, all_few, is_sort, is_rule, is_query, well_made}
use Rattle.chc_form.proofs.Passing.{rule-made, query-made}

few-below : {A : Type 0} (xs : List A) → is_few xs ≡ true → length xs < 2147483648
few-below xs h = grind (arith, nat_tests)

all-few-below : {A : Type 0} (f : A → Bool) (xs : List A) → all_few f xs ≡ true → length xs < 2147483648
all-few-below f xs h = few-below xs (and_parts (is_few xs) (list_all f xs) h).0

pub rules-few : (s : System) → well_made s ≡ true → length s.rules < 2147483648
unfolding well_made
rules-few s h =
    let a = and_parts (all_few (all_few is_sort) s.preds) _ h in
    all-few-below (is_rule s.preds) s.rules (and_parts (all_few (is_rule s.preds) s.rules) _ a.1).0

pub queries-few : (s : System) → well_made s ≡ true → length s.queries < 2147483648
unfolding well_made
queries-few s h =
    let a = and_parts (all_few (all_few is_sort) s.preds) _ h in
    all-few-below (is_query s.preds) s.queries (and_parts (all_few (is_rule s.preds) s.rules) _ a.1).1

pub rule-few : (s : System) (r : Rule) → well_made s ≡ true → Contains s.rules r → length r.vars < 2147483648
rule-few s r h i = all-few-below is_sort r.vars (and_parts (all_few is_sort r.vars) _ (rule-made s r h i)).0

pub query-few : (s : System) (q : Query) → well_made s ≡ true → Contains s.queries q → length q.vars < 2147483648
query-few s q h i = all-few-below is_sort q.vars (and_parts (all_few is_sort q.vars) _ (query-made s q h i)).0

pub ruleset numbers = (rules-few, queries-few)
