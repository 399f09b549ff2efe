-- What a test that passes says: of both sides, of each entry, of a place.
use Rattle.std.proofs.Common.{◌≡◌, refl, ℕ, suc, ap, ◌<◌, List, [], ◌∷◌, length, Bool, true, false, inl, inr}
use Rattle.std.specs.Prelude.{Option, Some, None, slice_get}
use Rattle.std.specs.List.{list_all, Contains}
use Rattle.std.proofs.lemmas.List.Elements.{All-contains}
use Rattle.std.proofs.lemmas.List.Sums.{AllPass-from_list_all}
use Rattle.std.proofs.lemmas.Option.{slice_get_cases}
use Rattle.std.proofs.lemmas.Bool.{and_parts}
use Rattle.chc_form.specs.declared.system.Sort.{Sort}
use Rattle.chc_form.specs.declared.system.App.{App}
use Rattle.chc_form.specs.declared.system.Rule.{Rule}
use Rattle.chc_form.specs.declared.system.Query.{Query}
use Rattle.chc_form.specs.declared.system.System.{System}
use Rattle.chc_form.specs.WellMade.{is_few, all_few, is_sort, is_con, is_app, are_args, are_args_of, both_same, is_rule, is_query, well_made}

pub entry-passes : {A : Type 0} (f : A → Bool) (xs : List A) (x : A) → list_all f xs ≡ true → Contains xs x → f x ≡ true
entry-passes f xs x h i = All-contains (λ y. f y ≡ true) xs x (AllPass-from_list_all f xs h) i

pub few-passes : {A : Type 0} (f : A → Bool) (xs : List A) (x : A) → all_few f xs ≡ true → Contains xs x → f x ≡ true
few-passes f xs x h i = entry-passes f xs x (and_parts (is_few xs) (list_all f xs) h).1 i

pub first-sort : (s : Sort) (ss : List Sort) → list_all is_sort (s ∷ ss) ≡ true → is_sort s ≡ true
first-sort s ss h = (and_parts (is_sort s) (list_all is_sort ss) h).0

pub rest-sorts : (s : Sort) (ss : List Sort) → list_all is_sort (s ∷ ss) ≡ true → list_all is_sort ss ≡ true
rest-sorts s ss h = (and_parts (is_sort s) (list_all is_sort ss) h).1

-- a place whose entry passes is there
pub place-there : {A : Type 0} (f : Option A → Bool) (xs : List A) (i : ℕ) → f None ≡ false → f (slice_get xs i) ≡ true → i < length xs
place-there f xs i none h =
    elim (slice_get_cases xs i).1 [
      | inl there ↦ there.1
      | inr past ↦ let e = rw past.1 at h in absurd (cc)
    ]

-- ---- systems

pub rule-made : (s : System) (r : Rule) → well_made s ≡ true → Contains s.rules r → is_rule s.preds r ≡ true
unfolding well_made
rule-made s r h i =
    let rest = and_parts (all_few (all_few is_sort) s.preds) _ h in
    few-passes (is_rule s.preds) s.rules r (and_parts (all_few (is_rule s.preds) s.rules) _ rest.1).0 i

pub query-made : (s : System) (q : Query) → well_made s ≡ true → Contains s.queries q → is_query s.preds q ≡ true
unfolding well_made
query-made s q h i =
    let rest = and_parts (all_few (all_few is_sort) s.preds) _ h in
    few-passes (is_query s.preds) s.queries q (and_parts (all_few (is_rule s.preds) s.rules) _ rest.1).1 i

pub rule-head : (preds : List (List Sort)) (r : Rule) → is_rule preds r ≡ true → is_app preds r.vars r.head ≡ true
rule-head preds r h =
    let a = and_parts (all_few is_sort r.vars) _ h in
    let b = and_parts (all_few (is_app preds r.vars) r.body) _ a.1 in
    (and_parts (all_few (is_con r.vars) r.cons) (is_app preds r.vars r.head) b.1).1

pub rule-cons : (preds : List (List Sort)) (r : Rule) → is_rule preds r ≡ true → all_few (is_con r.vars) r.cons ≡ true
rule-cons preds r h =
    let a = and_parts (all_few is_sort r.vars) _ h in
    let b = and_parts (all_few (is_app preds r.vars) r.body) _ a.1 in
    (and_parts (all_few (is_con r.vars) r.cons) (is_app preds r.vars r.head) b.1).0

pub query-cons : (preds : List (List Sort)) (q : Query) → is_query preds q ≡ true → all_few (is_con q.vars) q.cons ≡ true
query-cons preds q h =
    let a = and_parts (all_few is_sort q.vars) _ h in
    (and_parts (all_few (is_app preds q.vars) q.body) _ a.1).1

-- ---- atoms

args-count : (vars sorts : List Sort) (xs : List ℕ) → are_args vars sorts xs ≡ true → length sorts ≡ length xs
args-count vars [] [] h = refl
args-count vars [] (x ∷ xs) h = absurd (cc)
args-count vars (s ∷ ss) [] h = absurd (cc)
args-count vars (s ∷ ss) (x ∷ xs) h = ap suc (args-count vars ss xs (and_parts (both_same (slice_get vars x) (Some s)) _ h).1)

args-places : (vars : List Sort) (o : Option (List Sort)) (xs : List ℕ) → are_args_of vars o xs ≡ true → (places : List Sort) × (o ≡ Some places) × (length places ≡ length xs)
args-places vars None xs h = absurd (cc)
args-places vars (Some sorts) xs h = (sorts, refl, args-count vars sorts xs h)

-- the predicate of an atom has as many places as the atom has arguments
pub atom-places : (preds : List (List Sort)) (vars : List Sort) (a : App) → is_app preds vars a ≡ true → (places : List Sort) × (slice_get preds a.pred ≡ Some places) × (length places ≡ length a.args)
atom-places preds vars a h = args-places vars (slice_get preds a.pred) a.args (and_parts (is_few a.args) _ h).1
