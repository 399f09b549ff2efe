-- Sums that pass the test are in order.
use Rattle.std.proofs.Common.{◌≡◌, ◌≢◌, subst, ℕ, List, [], ◌∷◌, Bool, true, not, ◌&&◌, pos}
use Rattle.std.specs.Prelude.{nat_lt, slice_get}
use Rattle.std.specs.List.{list_all, Contains}
use Rattle.std.specs.Ordering.{int_eq}
use Rattle.std.proofs.lemmas.Bool.{ltb-true, and_parts}
use lib.IntN.{ℤ}
use Rattle.chc_form.specs.declared.linear.Lin.{Lin}
use Rattle.chc_form.specs.declared.system.Sort.{Sort}
use Rattle.chc_form.specs.declared.system.Con.{Con}
use Rattle.chc_form.specs.declared.system.Con.TheVariants as con
use Rattle.chc_form.specs.declared.system.Rule.{Rule}
use Rattle.chc_form.specs.declared.system.Query.{Query}
use Rattle.chc_form.specs.declared.system.System.{System}
use Rattle.chc_form.specs.Linear.{AscendFrom, Ascend, AllAscend}
use Rattle.chc_form.specs.Sums.{sums_of}
use Rattle.chc_form.specs.WellMade.{is_few, all_few, is_number, ascends_from, ascends, is_sum, is_con, well_made}
use Rattle.chc_form.proofs.Passing.{few-passes, rule-made, query-made, rule-cons, query-cons}

unlike-zero : (z : ℤ) → not (int_eq z (pos 0)) ≡ true → z ≢ pos 0
unlike-zero z h e = let none : not (int_eq (pos 0) (pos 0)) ≡ true = subst (λ (y : ℤ). not (int_eq y (pos 0)) ≡ true) e h in absurd (cc)

ascending-from : (n : ℕ) (ts : List (ℕ × ℤ)) → ascends_from n ts ≡ true → AscendFrom n ts
ascending-from n [] h = tt
ascending-from n (t ∷ ts) h =
    let a = and_parts (nat_lt n t.0) (not (int_eq t.1 (pos 0)) && ascends_from t.0 ts) h in
    let b = and_parts (not (int_eq t.1 (pos 0))) (ascends_from t.0 ts) a.1 in
    (ltb-true n t.0 a.0, unlike-zero t.1 b.0, ascending-from t.0 ts b.1)

ascending : (ts : List (ℕ × ℤ)) → ascends ts ≡ true → Ascend ts
ascending [] h = tt
ascending (t ∷ ts) h =
    let b = and_parts (not (int_eq t.1 (pos 0))) (ascends_from t.0 ts) h in
    (unlike-zero t.1 b.0, ascending-from t.0 ts b.1)

pub sum-ascends : (vars : List Sort) (l : Lin) → is_sum vars l ≡ true → Ascend l.terms
sum-ascends vars l h = ascending l.terms (and_parts (all_few (λ t. is_number (slice_get vars t.0)) l.terms) (ascends l.terms) h).1

all-ascend : (vars : List Sort) (ls : List Lin) → list_all (is_sum vars) ls ≡ true → AllAscend ls
all-ascend vars [] h = tt
all-ascend vars (l ∷ ls) h = let a = and_parts (is_sum vars l) (list_all (is_sum vars) ls) h in (sum-ascends vars l a.0, all-ascend vars ls a.1)

few-ascend : (vars : List Sort) (ls : List Lin) → all_few (is_sum vars) ls ≡ true → AllAscend ls
few-ascend vars ls h = all-ascend vars ls (and_parts (is_few ls) (list_all (is_sum vars) ls) h).1

two-ascend : (vars : List Sort) (a b : Lin) (c : Bool) → (is_sum vars a && (is_sum vars b && c)) ≡ true → AllAscend (a ∷ b ∷ [])
two-ascend vars a b c h =
    let first = and_parts (is_sum vars a) (is_sum vars b && c) h in
    (sum-ascends vars a first.0, (sum-ascends vars b (and_parts (is_sum vars b) c first.1).0, tt))

con-ascends : (vars : List Sort) (c : Con) → is_con vars c ≡ true → AllAscend (sums_of c)
con-ascends vars (con.Le l) h = (sum-ascends vars l h, tt)
con-ascends vars (con.Differ l) h = (sum-ascends vars l h, tt)
con-ascends vars (con.Mul a b w) h = two-ascend vars a b (is_number (slice_get vars w)) h
con-ascends vars (con.Div a b w) h = two-ascend vars a b (is_number (slice_get vars w)) h
con-ascends vars (con.Rem a b w) h = two-ascend vars a b (is_number (slice_get vars w)) h
con-ascends vars (con.Sel m ks x) h = few-ascend vars ks (and_parts (all_few (is_sum vars) ks) _ h).0
con-ascends vars (con.Sto n m ks e) h =
    let first = and_parts (all_few (is_sum vars) ks) _ h in
    (sum-ascends vars e (and_parts (is_sum vars e) _ first.1).0, few-ascend vars ks first.0)
con-ascends vars (con.Zero m) h = tt

-- each sum of a rule's constraint
pub rule-ascends : (s : System) (r : Rule) (c : Con) → well_made s ≡ true → Contains s.rules r → Contains r.cons c → AllAscend (sums_of c)
rule-ascends s r c h i j = con-ascends r.vars c (few-passes (is_con r.vars) r.cons c (rule-cons s.preds r (rule-made s r h i)) j)

-- each sum of a query's constraint
pub query-ascends : (s : System) (q : Query) (c : Con) → well_made s ≡ true → Contains s.queries q → Contains q.cons c → AllAscend (sums_of c)
query-ascends s q c h i j = con-ascends q.vars c (few-passes (is_con q.vars) q.cons c (query-cons s.preds q (query-made s q h i)) j)
