-- The rules and queries of a contract are well made, where their lists are short enough.
use Rattle.std.proofs.Common.{◌≡◌, ◌∙◌, sym, ap, subst, refl, ℕ, zero, suc, ◌+◌, ◌<◌, ◌≤◌, ◌^◌, ◌&&◌, ◌==◌, List, [], ◌∷◌, ◌++◌, length, map, pos, ◌+ℤ◌, ◌-ℤ◌, neg_ℤ, Bool, true, nat_lt, arith, inl, inr, Option, Some, None, slice_get, slice_set, unwrap_or, option_map, option_to_list, length-append, length-set}
use lib.IntN.{ℤ}
use Rattle.std.specs.List.{All, list_all, range_with_len}
use Rattle.std.proofs.lemmas.Bool.{and_from, and_parts, eq-eqb, cases_eq, lt-ltb, ltb-true}
use Rattle.std.proofs.lemmas.List.{length-map}
use Rattle.std.proofs.lemmas.List.Elements.{All-head, All-tail}
use Rattle.std.proofs.lemmas.List.Folds.{list_all-append}
use Rattle.std.proofs.lemmas.List.FromFn.{length-range_with_len}
use Rattle.chc_nums.specs.declared.Ty.TheVariants as ty
use Rattle.chc_nums.specs.Types.{IsSize}
use Rattle.chc_form.specs.declared.Row.{Row}
use Rattle.chc_form.specs.declared.Con.{Con}
use Rattle.chc_form.specs.declared.Con.TheVariants as con
use Rattle.chc_form.specs.declared.Rule.{Rule}
use Rattle.chc_form.specs.declared.Query.{Query}
use Rattle.chc_form.specs.declared.System.{System}
use Rattle.chc_form.specs.declared.Sort.{Sort}
use Rattle.chc_form.specs.declared.Sort.TheVariants as sort
use Rattle.chc_form.specs.WellMade.{is_few, all_few, is_size, is_sort, is_number, both_same, ascends, is_con, are_args, is_app, is_rule, is_query, well_made}
use Rattle.sol_first.specs.declared.Variable.{Variable}
use Rattle.sol_first.specs.declared.Order.{Order}
use Rattle.sol_first.specs.declared.Order.TheVariants as order
use Rattle.sol_first.specs.declared.Step.{Step}
use Rattle.sol_first.specs.declared.Step.TheVariants as step
use Rattle.sol_first.specs.declared.Function.{Function}
use Rattle.sol_first.specs.declared.Contract.{Contract}
use Rattle.sol_first.specs.Typed.{size_at, StepTyped, IsTyped}
use Rattle.sol_first.specs.Elaborated.{type_at, sites_of_step, sites_of_steps}
use Rattle.chc_encode.specs.declared.path.Path.{Path}
use Rattle.chc_encode.specs.PathRows.{plus, minus, plus_minus, minus_plus, within, holds, opposite, most, now_at, next_at, sorts_of, entry, assigned, after, after_all, target}
use Rattle.chc_encode.specs.Systems.{at_entry, cons_of, zeros_from, zero_rule, rule_at, rule_of, query_at, own_query, queries_of_steps, queries_of, system_of}
use Rattle.chc_encode.specs.Few.{rule_few, query_few, are_few}
use Rattle.chc_encode.proofs.Valuations.{Below, AllBelow, all_below-more, all_below-append, holds-below}
use Rattle.chc_encode.proofs.Places.{entry-now}
use Rattle.chc_encode.proofs.Forms.{size-within}
use Rattle.chc_encode.proofs.Steps.{set-same, set-other}

-- ---- lists with more entries

get-left : {A : Type 0} (xs ys : List A) (i : ℕ) → i < length xs → slice_get (xs ++ ys) i ≡ slice_get xs i
get-left [] ys i l = absurd (omega arith)
get-left (x ∷ xs) ys zero l = refl
get-left (x ∷ xs) ys (suc i) l = get-left xs ys i (omega arith)

get-last : {A : Type 0} (xs : List A) (y : A) (i : ℕ) → i ≡ length xs → slice_get (xs ++ y ∷ []) i ≡ Some y
get-last [] y zero e = refl
get-last [] y (suc i) e = absurd (omega arith)
get-last (x ∷ xs) y zero e = absurd (omega arith)
get-last (x ∷ xs) y (suc i) e = get-last xs y i (omega arith)

all-joined : {A : Type 0} (f : A → Bool) (xs ys : List A) → list_all f xs ≡ true → list_all f ys ≡ true → list_all f (xs ++ ys) ≡ true
all-joined f xs ys h k = list_all-append f xs ys ∙ and_from (list_all f xs) (list_all f ys) h k

few-shorter : {A B : Type 0} (xs : List A) (ys : List B) → length ys ≤ length xs → is_few xs ≡ true → is_few ys ≡ true
few-shorter xs ys l e = let h : length xs < 2 ^ 31 = ltb-true (length xs) (2 ^ 31) e in lt-ltb (length ys) (2 ^ 31) (omega arith)

-- ---- rows in order

abbrev InOrder : Row → Type 0
InOrder r = (is_few r.lin.terms ≡ true) × (ascends r.lin.terms ≡ true)

abbrev AllInOrder : List Row → Type 0
AllInOrder [] = Unit {0}
AllInOrder (r ∷ rs) = InOrder r × AllInOrder rs

order-append : (ps qs : List Row) → AllInOrder ps → AllInOrder qs → AllInOrder (ps ++ qs)
order-append [] qs h k = k
order-append (p ∷ ps) qs h k = (h.0, order-append ps qs h.1 k)

plus-order : (x : ℕ) (k : ℤ) → InOrder (plus x k)
plus-order x k = (refl, refl)

minus-order : (x : ℕ) (k : ℤ) → InOrder (minus x k)
minus-order x k = (refl, refl)

plus_minus-order : (x y : ℕ) (k : ℤ) → x < y → InOrder (plus_minus x y k)
plus_minus-order x y k h = let e : nat_lt x y ≡ true = lt-ltb x y h in (refl, rw e refl)

minus_plus-order : (x y : ℕ) (k : ℤ) → x < y → InOrder (minus_plus x y k)
minus_plus-order x y k h = let e : nat_lt x y ≡ true = lt-ltb x y h in (refl, rw e refl)

holds-order : (o : Order) (x : ℕ) (n : ℤ) → InOrder (holds o x n)
holds-order order.Less x n = (refl, refl)
holds-order order.LessEqual x n = (refl, refl)
holds-order order.Greater x n = (refl, refl)
holds-order order.GreaterEqual x n = (refl, refl)

-- ---- paths

-- the variables of a path are there and have sizes, its rows are in order and speak of them, and each state variable is
-- held by one of its own type, at entry and now
record PathMade (vars : List Variable) (p : Path) : Type 0 where
  sorts : list_all is_sort p.sorts ≡ true
  numbers : (i : ℕ) → i < next_at p → is_number (slice_get p.sorts i) ≡ true
  room : length vars ≤ next_at p
  below : AllBelow (next_at p) p.rows
  ordered : AllInOrder p.rows
  count : length p.current ≡ length vars
  first : (i : ℕ) → i < length vars → slice_get p.sorts i ≡ Some (sort.Whole (type_at vars i))
  held : (i : ℕ) → i < length vars → slice_get p.sorts (now_at p i) ≡ Some (sort.Whole (type_at vars i))
  held_below : (i : ℕ) → i < length vars → now_at p i < next_at p

size-tested : (s : ℕ) → IsSize s → is_size s ≡ true
size-tested s h = and_from (nat_lt 0 s) (nat_lt s 13) (lt-ltb 0 s (omega (arith, h))) (lt-ltb s 13 (omega (arith, h)))

sorts-sized : (vars : List Variable) → All (λ v. IsSize v.size) vars → list_all is_sort (sorts_of vars) ≡ true
sorts-sized [] h = refl
sorts-sized (v ∷ vars) h = and_from (is_size v.size) (list_all is_sort (sorts_of vars)) (size-tested v.size (All-head (λ v. IsSize v.size) v vars h)) (sorts-sized vars (All-tail (λ v. IsSize v.size) v vars h))

sorted-at : (vars : List Variable) (i : ℕ) → i < length vars → slice_get (sorts_of vars) i ≡ Some (sort.Whole (type_at vars i))
sorted-at [] i l = absurd (omega arith)
sorted-at (v ∷ vars) zero l = refl
sorted-at (v ∷ vars) (suc i) l = sorted-at vars i (omega arith)

sorts-length : (vars : List Variable) → length (sorts_of vars) ≡ length vars
sorts-length vars = length-map vars (λ v. sort.Whole (ty.Uint v.size))

whole-number : (s : Option Sort) (vars : List Variable) (i : ℕ) → s ≡ Some (sort.Whole (type_at vars i)) → is_number s ≡ true
whole-number s vars i e = ap is_number e

entry-made : (vars : List Variable) → All (λ v. IsSize v.size) vars → PathMade vars (entry vars)
entry-made vars h =
    let n : length (sorts_of vars) ≡ length vars = sorts-length vars in record {
      sorts = sorts-sized vars h;
      numbers = λ i l. whole-number (slice_get (sorts_of vars) i) vars i (sorted-at vars i (omega (arith, n)));
      room = omega (arith, n);
      below = tt;
      ordered = tt;
      count = length-range_with_len 0 (length vars);
      first = λ i l. sorted-at vars i l;
      held = λ i l. ap (slice_get (sorts_of vars)) (entry-now vars i l) ∙ sorted-at vars i l;
      held_below = λ i l. omega (arith, n, entry-now vars i l);
    }

row-made : (vars : List Variable) (p : Path) (r : Row) → PathMade vars p → Below (next_at p) r.lin.terms → InOrder r → PathMade vars (record p { rows = p.rows ++ r ∷ [] })
row-made vars p r h b o = record {
  sorts = h.sorts;
  numbers = h.numbers;
  room = h.room;
  below = all_below-append (next_at p) p.rows (r ∷ []) h.below (b, tt);
  ordered = order-append p.rows (r ∷ []) h.ordered (o, tt);
  count = h.count;
  first = h.first;
  held = h.held;
  held_below = h.held_below;
}

assigned-made : (vars : List Variable) (p : Path) (to : ℕ) (more : List Row) → All (λ v. IsSize v.size) vars → to < length vars → PathMade vars p → AllBelow (suc (next_at p)) more → AllInOrder more → PathMade vars (assigned vars p to more)
assigned-made vars p to more sizes l h b o =
    let t : Sort = sort.Whole (type_at vars to) in
    let m : length (p.sorts ++ sort.Whole (type_at vars to) ∷ []) ≡ suc (length p.sorts) = omega (arith, length-append p.sorts (sort.Whole (type_at vars to) ∷ [])) in
    let room : length vars ≤ length p.sorts = h.room in
    let last : slice_get (p.sorts ++ sort.Whole (type_at vars to) ∷ []) (length p.sorts) ≡ Some (sort.Whole (type_at vars to)) = get-last p.sorts (sort.Whole (type_at vars to)) (length p.sorts) refl in record {
      sorts = all-joined is_sort p.sorts (sort.Whole (type_at vars to) ∷ []) h.sorts (and_from (is_size (size_at vars to)) true (size-tested (size_at vars to) (size-within vars to sizes l)) refl);
      numbers = λ i k. elim (cases_eq i (length p.sorts)) [
        | inl e ↦ whole-number (slice_get (p.sorts ++ sort.Whole (type_at vars to) ∷ []) i) vars to (ap (slice_get (p.sorts ++ sort.Whole (type_at vars to) ∷ [])) e ∙ last)
        | inr n ↦ let j : i < length p.sorts = omega (arith, m, k) in ap is_number (get-left p.sorts (sort.Whole (type_at vars to) ∷ []) i j) ∙ h.numbers i j
      ];
      room = omega (arith, m, room);
      below = subst (λ (n : ℕ). AllBelow n (p.rows ++ more)) (sym m) (all_below-append (suc (length p.sorts)) p.rows more (all_below-more (length p.sorts) (suc (length p.sorts)) p.rows (omega arith) h.below) b);
      ordered = order-append p.rows more h.ordered o;
      count = length-set p.current to (length p.sorts) ∙ h.count;
      first = λ i k. get-left p.sorts (sort.Whole (type_at vars to) ∷ []) i (omega (arith, room)) ∙ h.first i k;
      held = λ i k. elim (cases_eq i to) [
        | inl e ↦
            ap (slice_get (p.sorts ++ sort.Whole (type_at vars to) ∷ [])) (set-same p.current to i (length p.sorts) 0 (omega (arith, h.count)) e) ∙ last ∙ ap (λ (k : ℕ). Some (sort.Whole (type_at vars k))) (sym e)
        | inr n ↦
            ap (slice_get (p.sorts ++ sort.Whole (type_at vars to) ∷ [])) (set-other p.current to i (length p.sorts) 0 n)
            ∙ get-left p.sorts (sort.Whole (type_at vars to) ∷ []) (now_at p i) (h.held_below i k) ∙ h.held i k
      ];
      held_below = λ i k. elim (cases_eq i to) [
        | inl e ↦ omega (arith, m, set-same p.current to i (length p.sorts) 0 (omega (arith, h.count)) e)
        | inr n ↦ omega (arith, m, set-other p.current to i (length p.sorts) 0 n, h.held_below i k)
      ];
    }

step-made : (vars : List Variable) (s : Step) (p : Path) → All (λ v. IsSize v.size) vars → StepTyped vars s → PathMade vars p → PathMade vars (after vars s p)
step-made vars (step.Require i o n) p sizes t h = row-made vars p (holds o (now_at p i) n) h (holds-below o (now_at p i) n (next_at p) (h.held_below i t.0)) (holds-order o (now_at p i) n)
step-made vars (step.Assert l c i o n) p sizes t h = row-made vars p (holds o (now_at p i) n) h (holds-below o (now_at p i) n (next_at p) (h.held_below i t.0)) (holds-order o (now_at p i) n)
step-made vars (step.Put to n) p sizes t h =
    let new : next_at p < suc (next_at p) = omega arith in
    assigned-made vars p to (minus (next_at p) n ∷ plus (next_at p) (neg_ℤ n) ∷ []) sizes t.0 h ((new, tt), ((new, tt), tt)) (minus-order (next_at p) n, (plus-order (next_at p) (neg_ℤ n), tt))
step-made vars (step.Move to from) p sizes t h =
    let new : next_at p < suc (next_at p) = omega arith in
    let old : now_at p from < next_at p = h.held_below from t.1 in
    let read : now_at p from < suc (next_at p) = omega (arith, old) in
    assigned-made vars p to (plus_minus (now_at p from) (next_at p) (pos 0) ∷ minus_plus (now_at p from) (next_at p) (pos 0) ∷ []) sizes t.0 h ((read, (new, tt)), ((read, (new, tt)), tt)) (plus_minus-order (now_at p from) (next_at p) (pos 0) old, (minus_plus-order (now_at p from) (next_at p) (pos 0) old, tt))
step-made vars (step.Add l c to from n) p sizes t h =
    let new : next_at p < suc (next_at p) = omega arith in
    let old : now_at p from < next_at p = h.held_below from t.1 in
    let read : now_at p from < suc (next_at p) = omega (arith, old) in
    assigned-made vars p to (plus_minus (now_at p from) (next_at p) n ∷ minus_plus (now_at p from) (next_at p) (neg_ℤ n) ∷ within (next_at p) (most vars from)) sizes t.0 h ((read, (new, tt)), ((read, (new, tt)), ((new, tt), ((new, tt), tt))))
    (plus_minus-order (now_at p from) (next_at p) n old, (minus_plus-order (now_at p from) (next_at p) (neg_ℤ n) old, (minus-order (next_at p) (pos 0), (plus-order (next_at p) (neg_ℤ (most vars from)), tt))))
step-made vars (step.Subtract l c to from n) p sizes t h =
    let new : next_at p < suc (next_at p) = omega arith in
    let old : now_at p from < next_at p = h.held_below from t.1 in
    let read : now_at p from < suc (next_at p) = omega (arith, old) in
    assigned-made vars p to (plus_minus (now_at p from) (next_at p) (neg_ℤ n) ∷ minus_plus (now_at p from) (next_at p) n ∷ within (next_at p) (most vars from)) sizes t.0 h ((read, (new, tt)), ((read, (new, tt)), ((new, tt), ((new, tt), tt))))
    (plus_minus-order (now_at p from) (next_at p) (neg_ℤ n) old, (minus_plus-order (now_at p from) (next_at p) n old, (minus-order (next_at p) (pos 0), (plus-order (next_at p) (neg_ℤ (most vars from)), tt))))

steps-made : (vars : List Variable) (ss : List Step) (p : Path) → All (λ v. IsSize v.size) vars → All (StepTyped vars) ss → PathMade vars p → PathMade vars (after_all vars ss p)
steps-made vars [] p sizes t h = h
steps-made vars (s ∷ ss) p sizes t h = steps-made vars ss (after vars s p) sizes (All-tail (StepTyped vars) s ss t) (step-made vars s p sizes (All-head (StepTyped vars) s ss t) h)

-- ---- constraints and atoms

terms-there : (sorts : List Sort) (ts : List (ℕ × ℤ)) → ((i : ℕ) → i < length sorts → is_number (slice_get sorts i) ≡ true) → Below (length sorts) ts → list_all (λ t. is_number (slice_get sorts t.0)) ts ≡ true
terms-there sorts [] h b = refl
terms-there sorts (t ∷ ts) h b = and_from (is_number (slice_get sorts t.0)) (list_all (λ t. is_number (slice_get sorts t.0)) ts) (h t.0 b.0) (terms-there sorts ts h b.1)

row-sum : (sorts : List Sort) (r : Row) → ((i : ℕ) → i < length sorts → is_number (slice_get sorts i) ≡ true) → Below (length sorts) r.lin.terms → InOrder r → is_con sorts (con.Le r.lin) ≡ true
row-sum sorts r h b o =
    and_from (all_few (λ t. is_number (slice_get sorts t.0)) r.lin.terms) (ascends r.lin.terms)
    (and_from (is_few r.lin.terms) (list_all (λ t. is_number (slice_get sorts t.0)) r.lin.terms) o.0 (terms-there sorts r.lin.terms h b)) o.1

rows-sums : (sorts : List Sort) (rs : List Row) → ((i : ℕ) → i < length sorts → is_number (slice_get sorts i) ≡ true) → AllBelow (length sorts) rs → AllInOrder rs → list_all (is_con sorts) (cons_of rs) ≡ true
rows-sums sorts [] h b o = refl
rows-sums sorts (r ∷ rs) h b o = and_from (is_con sorts (con.Le r.lin)) (list_all (is_con sorts) (cons_of rs)) (row-sum sorts r h b.0 o.0) (rows-sums sorts rs h b.1 o.1)

zeros-sums : (sorts : List Sort) (i : ℕ) (vars : List Variable) → ((i : ℕ) → i < length sorts → is_number (slice_get sorts i) ≡ true) → i + length vars ≤ length sorts → list_all (is_con sorts) (zeros_from i vars) ≡ true
zeros-sums sorts i [] h l = refl
zeros-sums sorts i (v ∷ vars) h l =
    let here : i < length sorts = omega arith in
    and_from (is_con sorts (con.Le (plus i (pos 0)).lin)) (is_con sorts (con.Le (minus i (pos 0)).lin) && list_all (is_con sorts) (zeros_from (suc i) vars)) (row-sum sorts (plus i (pos 0)) h (here, tt) (plus-order i (pos 0)))
    (and_from (is_con sorts (con.Le (minus i (pos 0)).lin)) (list_all (is_con sorts) (zeros_from (suc i) vars)) (row-sum sorts (minus i (pos 0)) h (here, tt) (minus-order i (pos 0))) (zeros-sums sorts (suc i) vars h (omega arith)))

args-made : (sorts ss : List Sort) (xs : List ℕ) → length xs ≡ length ss → ((i : ℕ) → i < length ss → both_same (slice_get sorts (unwrap_or (slice_get xs i) 0)) (slice_get ss i) ≡ true) → are_args sorts ss xs ≡ true
args-made sorts [] [] n h = refl
args-made sorts [] (x ∷ xs) n h = absurd (omega arith)
args-made sorts (s ∷ ss) [] n h = absurd (omega arith)
args-made sorts (s ∷ ss) (x ∷ xs) n h =
    and_from (both_same (slice_get sorts x) (Some s)) (are_args sorts ss xs) (h 0 (omega arith)) (args-made sorts ss xs (omega arith) (λ i l. h (suc i) (omega arith)))

same-whole : (r s : Option Sort) (n : ℕ) → r ≡ Some (sort.Whole (ty.Uint n)) → s ≡ Some (sort.Whole (ty.Uint n)) → both_same r s ≡ true
same-whole r s n e f = rw (e, f) (eq-eqb n n refl)

app-made : (vars : List Variable) (sorts : List Sort) (xs : List ℕ) → length vars ≤ length sorts → is_few sorts ≡ true → length xs ≡ length vars → ((i : ℕ) → i < length vars → slice_get sorts (unwrap_or (slice_get xs i) 0) ≡ Some (sort.Whole (type_at vars i))) → is_app (sorts_of vars ∷ []) sorts (record { pred = 0; args = xs }) ≡ true
app-made vars sorts xs room few n h =
    let m : length (sorts_of vars) ≡ length vars = sorts-length vars in
    and_from (is_few xs) (are_args sorts (sorts_of vars) xs) (few-shorter sorts xs (omega (arith, n, room)) few)
    (args-made sorts (sorts_of vars) xs (omega (arith, n, m)) (λ i l. let k : i < length vars = omega (arith, m) in same-whole (slice_get sorts (unwrap_or (slice_get xs i) 0)) (slice_get (sorts_of vars) i) (size_at vars i) (h i k) (sorted-at vars i k)))

entry-app : (vars : List Variable) (p : Path) → PathMade vars p → is_few p.sorts ≡ true → is_app (sorts_of vars ∷ []) p.sorts (at_entry vars) ≡ true
entry-app vars p h few =
    app-made vars p.sorts (range_with_len 0 (length vars)) h.room few (length-range_with_len 0 (length vars)) (λ i l. ap (slice_get p.sorts) (entry-now vars i l) ∙ h.first i l)

-- ---- rules and queries

-- what holds of each entry of a list that passes a test
abbrev Each : {A : Type 0} → (A → Type 0) → List A → Type 0
Each P [] = Unit {0}
Each P (x ∷ xs) = P x × Each P xs

each-append : {A : Type 0} (P : A → Type 0) (xs ys : List A) → Each P xs → Each P ys → Each P (xs ++ ys)
each-append P [] ys h k = k
each-append P (x ∷ xs) ys h k = (h.0, each-append P xs ys h.1 k)

each-passes : {A : Type 0} (f g : A → Bool) (xs : List A) → Each (λ x. f x ≡ true → g x ≡ true) xs → list_all f xs ≡ true → list_all g xs ≡ true
each-passes f g [] h e = refl
each-passes f g (x ∷ xs) h e = let both = and_parts (f x) (list_all f xs) e in and_from (g x) (list_all g xs) (h.0 both.0) (each-passes f g xs h.1 both.1)

abbrev RuleMade : List Variable → Rule → Type 0
RuleMade vars r = rule_few r ≡ true → is_rule (sorts_of vars ∷ []) r ≡ true

abbrev QueryMade : List Variable → Query → Type 0
QueryMade vars q = query_few q ≡ true → is_query (sorts_of vars ∷ []) q ≡ true

body-made : (vars : List Variable) (p : Path) → PathMade vars p → is_few p.sorts ≡ true → all_few (is_app (sorts_of vars ∷ []) p.sorts) (at_entry vars ∷ []) ≡ true
body-made vars p h few = and_from (is_app (sorts_of vars ∷ []) p.sorts (at_entry vars)) true (entry-app vars p h few) refl

rule-made : (vars : List Variable) (p : Path) → PathMade vars p → RuleMade vars (rule_at vars p)
rule-made vars p h e =
    let few = and_parts (is_few p.sorts) (is_few (cons_of p.rows)) e in
    let head : is_app (sorts_of vars ∷ []) p.sorts (record { pred = 0; args = p.current }) ≡ true = app-made vars p.sorts p.current h.room few.0 h.count h.held in
    and_from (all_few is_sort p.sorts) (all_few (is_app (sorts_of vars ∷ []) p.sorts) (at_entry vars ∷ []) && (all_few (is_con p.sorts) (cons_of p.rows) && is_app (sorts_of vars ∷ []) p.sorts (record { pred = 0; args = p.current })))
    (and_from (is_few p.sorts) (list_all is_sort p.sorts) few.0 h.sorts)
    (and_from (all_few (is_app (sorts_of vars ∷ []) p.sorts) (at_entry vars ∷ [])) (all_few (is_con p.sorts) (cons_of p.rows) && is_app (sorts_of vars ∷ []) p.sorts (record { pred = 0; args = p.current })) (body-made vars p h few.0)
    (and_from (all_few (is_con p.sorts) (cons_of p.rows)) (is_app (sorts_of vars ∷ []) p.sorts (record { pred = 0; args = p.current })) (and_from (is_few (cons_of p.rows)) (list_all (is_con p.sorts) (cons_of p.rows)) few.1 (rows-sums p.sorts p.rows h.numbers h.below h.ordered)) head))

zero-made : (vars : List Variable) → All (λ v. IsSize v.size) vars → RuleMade vars (zero_rule vars)
zero-made vars sizes e =
    let h : PathMade vars (entry vars) = entry-made vars sizes in
    let few = and_parts (is_few (sorts_of vars)) (is_few (zeros_from 0 vars)) e in
    let n : length (sorts_of vars) ≡ length vars = sorts-length vars in
    and_from (all_few is_sort (sorts_of vars)) (all_few (is_con (sorts_of vars)) (zeros_from 0 vars) && is_app (sorts_of vars ∷ []) (sorts_of vars) (at_entry vars))
    (and_from (is_few (sorts_of vars)) (list_all is_sort (sorts_of vars)) few.0 h.sorts)
    (and_from (all_few (is_con (sorts_of vars)) (zeros_from 0 vars)) (is_app (sorts_of vars ∷ []) (sorts_of vars) (at_entry vars)) (and_from (is_few (zeros_from 0 vars)) (list_all (is_con (sorts_of vars)) (zeros_from 0 vars)) few.1 (zeros-sums (sorts_of vars) 0 vars h.numbers (omega (arith, n)))) (entry-app vars (entry vars) h few.0))

query-made : (vars : List Variable) (t : ℕ) (p : Path) (r : Row) → PathMade vars p → Below (next_at p) r.lin.terms → InOrder r → QueryMade vars (query_at vars p t r)
query-made vars t p r h b o e =
    let few = and_parts (is_few p.sorts) (is_few (cons_of (p.rows ++ r ∷ []))) e in
    let rows : list_all (is_con p.sorts) (cons_of (p.rows ++ r ∷ [])) ≡ true = rows-sums p.sorts (p.rows ++ r ∷ []) h.numbers (all_below-append (next_at p) p.rows (r ∷ []) h.below (b, tt)) (order-append p.rows (r ∷ []) h.ordered (o, tt)) in
    and_from (all_few is_sort p.sorts) (all_few (is_app (sorts_of vars ∷ []) p.sorts) (at_entry vars ∷ []) && all_few (is_con p.sorts) (cons_of (p.rows ++ r ∷ [])))
    (and_from (is_few p.sorts) (list_all is_sort p.sorts) few.0 h.sorts)
    (and_from (all_few (is_app (sorts_of vars ∷ []) p.sorts) (at_entry vars ∷ [])) (all_few (is_con p.sorts) (cons_of (p.rows ++ r ∷ []))) (body-made vars p h few.0) (and_from (is_few (cons_of (p.rows ++ r ∷ []))) (list_all (is_con p.sorts) (cons_of (p.rows ++ r ∷ []))) few.1 rows))

own-made : (vars : List Variable) (t : ℕ) (s : Step) (p : Path) → StepTyped vars s → PathMade vars p → Each (QueryMade vars) (own_query vars t s p)
own-made vars t (step.Require i o n) p y h = tt
own-made vars t (step.Assert l c i o n) p y h = (query-made vars t p (holds (opposite o) (now_at p i) n) h (holds-below (opposite o) (now_at p i) n (next_at p) (h.held_below i y.0)) (holds-order (opposite o) (now_at p i) n), tt)
own-made vars t (step.Put to n) p y h = tt
own-made vars t (step.Move to from) p y h = tt
own-made vars t (step.Add l c to from n) p y h = (query-made vars t p (minus (now_at p from) ((most vars from +ℤ pos 1) -ℤ n)) h (h.held_below from y.1, tt) (refl, refl), tt)
own-made vars t (step.Subtract l c to from n) p y h = (query-made vars t p (plus (now_at p from) (pos 1 -ℤ n)) h (h.held_below from y.1, tt) (refl, refl), tt)

queries-of-steps-made : (vars : List Variable) (t : ℕ) (ss : List Step) (p : Path) → All (λ v. IsSize v.size) vars → All (StepTyped vars) ss → PathMade vars p → Each (QueryMade vars) (queries_of_steps vars t ss p)
queries-of-steps-made vars t [] p sizes y h = tt
queries-of-steps-made vars t (s ∷ ss) p sizes y h =
    each-append (QueryMade vars) (own_query vars t s p) (queries_of_steps vars (t + length (sites_of_step s)) ss (after vars s p)) (own-made vars t s p (All-head (StepTyped vars) s ss y) h)
    (queries-of-steps-made vars (t + length (sites_of_step s)) ss (after vars s p) sizes (All-tail (StepTyped vars) s ss y) (step-made vars s p sizes (All-head (StepTyped vars) s ss y) h))

queries-of-made : (vars : List Variable) (t : ℕ) (fs : List Function) → All (λ v. IsSize v.size) vars → All (λ f. All (StepTyped vars) f.steps) fs → Each (QueryMade vars) (queries_of vars t fs)
queries-of-made vars t [] sizes y = tt
queries-of-made vars t (f ∷ fs) sizes y =
    each-append (QueryMade vars) (queries_of_steps vars t f.steps (entry vars)) (queries_of vars (t + length (sites_of_steps f.steps)) fs) (queries-of-steps-made vars t f.steps (entry vars) sizes (All-head (λ f. All (StepTyped vars) f.steps) f fs y) (entry-made vars sizes))
    (queries-of-made vars (t + length (sites_of_steps f.steps)) fs sizes (All-tail (λ f. All (StepTyped vars) f.steps) f fs y))

rules-of-made : (vars : List Variable) (fs : List Function) → All (λ v. IsSize v.size) vars → All (λ f. All (StepTyped vars) f.steps) fs → Each (RuleMade vars) (map (rule_of vars) fs)
rules-of-made vars [] sizes y = tt
rules-of-made vars (f ∷ fs) sizes y =
    (rule-made vars (after_all vars f.steps (entry vars)) (steps-made vars f.steps (entry vars) sizes (All-head (λ f. All (StepTyped vars) f.steps) f fs y) (entry-made vars sizes)), rules-of-made vars fs sizes (All-tail (λ f. All (StepTyped vars) f.steps) f fs y))

-- ---- the system

pub few-made : (c : Contract) → IsTyped c → are_few (system_of c) ≡ true → well_made (system_of c) ≡ true
unfolding well_made are_few
few-made c y e =
    let vars : List Variable = c.variables in
    let preds : List (List Sort) = sorts_of c.variables ∷ [] in
    let rules : List Rule = zero_rule c.variables ∷ map (rule_of c.variables) c.functions in
    let queries : List Query = queries_of c.variables 0 c.functions in
    let both = and_parts (is_few rules && list_all rule_few rules) (is_few queries && list_all query_few queries) e in
    let of_rules = and_parts (is_few rules) (list_all rule_few rules) both.0 in
    let of_queries = and_parts (is_few queries) (list_all query_few queries) both.1 in
    let zeros = and_parts (rule_few (zero_rule c.variables)) (list_all rule_few (map (rule_of c.variables) c.functions)) of_rules.1 in
    let few : is_few (sorts_of c.variables) ≡ true = (and_parts (is_few (sorts_of c.variables)) (is_few (zeros_from 0 c.variables)) zeros.0).0 in
    and_from (all_few (all_few is_sort) preds) (all_few (is_rule preds) rules && all_few (is_query preds) queries)
    (and_from (all_few is_sort (sorts_of c.variables)) true (and_from (is_few (sorts_of c.variables)) (list_all is_sort (sorts_of c.variables)) few (sorts-sized c.variables y.sizes)) refl)
    (and_from (all_few (is_rule preds) rules) (all_few (is_query preds) queries)
    (and_from (is_few rules) (list_all (is_rule preds) rules) of_rules.0 (each-passes rule_few (is_rule preds) rules (zero-made c.variables y.sizes, rules-of-made c.variables c.functions y.sizes y.steps) of_rules.1))
    (and_from (is_few queries) (list_all (is_query preds) queries) of_queries.0 (each-passes query_few (is_query preds) queries (queries-of-made c.variables 0 c.functions y.sizes y.steps) of_queries.1)))

pub system-made : (c : Contract) (s : System) → IsTyped c → s ≡ system_of c → are_few s ≡ true → well_made s ≡ true
system-made c s y same e = subst (λ (t : System). well_made t ≡ true) (sym same) (few-made c y (ap are_few (sym same) ∙ e))

pub ruleset making = (system-made)
