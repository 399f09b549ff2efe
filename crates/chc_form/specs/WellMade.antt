-- When a system is well made, and when a lemma is of it.
use Rattle.std.specs.Prelude.{ℕ, ◌^◌, List, [], ◌∷◌, length, Bool, true, false, not, ◌&&◌, ◌==◌, nat_lt, pos, Option, Some, None, slice_get}
use Rattle.std.specs.List.{list_all}
use Rattle.std.specs.Ordering.{int_eq}
use lib.IntN.{ℤ}
use Rattle.chc_nums.specs.declared.Ty.{Ty}
use Rattle.chc_nums.specs.declared.Ty.TheVariants as ty
use Rattle.chc_form.specs.declared.linear.Lin.{Lin}
use Rattle.chc_form.specs.declared.system.Sort.{Sort}
use Rattle.chc_form.specs.declared.system.Sort.TheVariants as sort
use Rattle.chc_form.specs.declared.system.Con.{Con}
use Rattle.chc_form.specs.declared.system.Con.TheVariants as con
use Rattle.chc_form.specs.declared.system.App.{App}
use Rattle.chc_form.specs.declared.system.Rule.{Rule}
use Rattle.chc_form.specs.declared.system.Query.{Query}
use Rattle.chc_form.specs.declared.system.System.{System}
use Rattle.chc_form.specs.declared.lemma.KeyTerm.{KeyTerm}
use Rattle.chc_form.specs.declared.lemma.KeyTerm.TheVariants as key
use Rattle.chc_form.specs.declared.lemma.LitTerm.{LitTerm}
use Rattle.chc_form.specs.declared.lemma.LitTerm.TheVariants as term
use Rattle.chc_form.specs.declared.lemma.Lit.{Lit}
use Rattle.chc_form.specs.declared.lemma.Lemma.{Lemma}

-- a list is short enough that its places have 31 bits
abbrev pub is_few : {A : Type 0} → List A → Bool
is_few xs = nat_lt (length xs) (2 ^ 31)

-- a short list, all of whose entries pass
abbrev pub all_few : {A : Type 0} → (A → Bool) → List A → Bool
all_few f xs = is_few xs && list_all f xs

-- ---- types and sorts

-- 1 to 12 bytes
abbrev pub is_size : ℕ → Bool
is_size n = nat_lt 0 n && nat_lt n 13

abbrev pub is_sized : Ty → Bool
is_sized ty.Bool = true
is_sized (ty.Uint n) = is_size n
is_sized (ty.Int n) = is_size n
is_sized ty.Addr = true

abbrev pub same_type : Ty → Ty → Bool
same_type ty.Bool ty.Bool = true
same_type ty.Bool (ty.Uint n) = false
same_type ty.Bool (ty.Int n) = false
same_type ty.Bool ty.Addr = false
same_type (ty.Uint m) ty.Bool = false
same_type (ty.Uint m) (ty.Uint n) = m == n
same_type (ty.Uint m) (ty.Int n) = false
same_type (ty.Uint m) ty.Addr = false
same_type (ty.Int m) ty.Bool = false
same_type (ty.Int m) (ty.Uint n) = false
same_type (ty.Int m) (ty.Int n) = m == n
same_type (ty.Int m) ty.Addr = false
same_type ty.Addr ty.Bool = false
same_type ty.Addr (ty.Uint n) = false
same_type ty.Addr (ty.Int n) = false
same_type ty.Addr ty.Addr = true

abbrev pub same_types : List Ty → List Ty → Bool
same_types [] [] = true
same_types [] (u ∷ us) = false
same_types (t ∷ ts) [] = false
same_types (t ∷ ts) (u ∷ us) = same_type t u && same_types ts us

abbrev pub is_sort : Sort → Bool
is_sort (sort.Whole t) = is_sized t
is_sort sort.Free = true
is_sort (sort.Map keys value) = all_few is_sized keys && is_sized value

abbrev pub same_sort : Sort → Sort → Bool
same_sort (sort.Whole t) (sort.Whole u) = same_type t u
same_sort (sort.Whole t) sort.Free = false
same_sort (sort.Whole t) (sort.Map keys value) = false
same_sort sort.Free (sort.Whole u) = false
same_sort sort.Free sort.Free = true
same_sort sort.Free (sort.Map keys value) = false
same_sort (sort.Map keys value) (sort.Whole u) = false
same_sort (sort.Map keys value) sort.Free = false
same_sort (sort.Map keys value) (sort.Map others other) = same_types keys others && same_type value other

-- two sorts that are there and the same
abbrev pub both_same : Option Sort → Option Sort → Bool
both_same None s = false
both_same (Some r) None = false
both_same (Some r) (Some s) = same_sort r s

-- a variable that is there and no mapping
abbrev pub is_number : Option Sort → Bool
is_number None = false
is_number (Some (sort.Whole t)) = true
is_number (Some sort.Free) = true
is_number (Some (sort.Map keys value)) = false

-- a variable that is there and a mapping with so many keys, one or two
abbrev pub has_keys : Option Sort → ℕ → Bool
has_keys None n = false
has_keys (Some (sort.Whole t)) n = false
has_keys (Some sort.Free) n = false
has_keys (Some (sort.Map keys value)) n = (length keys == n) && (nat_lt 0 n && nat_lt n 3)

-- a variable that is there and a mapping with one or two keys
abbrev pub is_mapping : Option Sort → Bool
is_mapping None = false
is_mapping (Some (sort.Whole t)) = false
is_mapping (Some sort.Free) = false
is_mapping (Some (sort.Map keys value)) = nat_lt 0 (length keys) && nat_lt (length keys) 3

-- ---- sums, constraints and atoms

-- variables ascend from a first one on, and no coefficient is 0
abbrev pub ascends_from : ℕ → List (ℕ × ℤ) → Bool
ascends_from n [] = true
ascends_from n (t ∷ ts) = nat_lt n t.0 && (not (int_eq t.1 (pos 0)) && ascends_from t.0 ts)

abbrev pub ascends : List (ℕ × ℤ) → Bool
ascends [] = true
ascends (t ∷ ts) = not (int_eq t.1 (pos 0)) && ascends_from t.0 ts

-- a short sum in order, whose variables are there and no mappings
abbrev pub is_sum : List Sort → Lin → Bool
is_sum vars l = all_few (λ t. is_number (slice_get vars t.0)) l.terms && ascends l.terms

abbrev pub is_con : List Sort → Con → Bool
is_con vars (con.Le l) = is_sum vars l
is_con vars (con.Differ l) = is_sum vars l
is_con vars (con.Mul a b w) = is_sum vars a && (is_sum vars b && is_number (slice_get vars w))
is_con vars (con.Div a b q) = is_sum vars a && (is_sum vars b && is_number (slice_get vars q))
is_con vars (con.Rem a b r) = is_sum vars a && (is_sum vars b && is_number (slice_get vars r))
is_con vars (con.Sel m ks x) = all_few (is_sum vars) ks && (has_keys (slice_get vars m) (length ks) && is_number (slice_get vars x))
is_con vars (con.Sto n m ks e) = all_few (is_sum vars) ks && (is_sum vars e && (has_keys (slice_get vars m) (length ks) && both_same (slice_get vars n) (slice_get vars m)))
is_con vars (con.Zero m) = is_mapping (slice_get vars m)

-- variables of these sorts, one by one
abbrev pub are_args : List Sort → List Sort → List ℕ → Bool
are_args vars [] [] = true
are_args vars [] (x ∷ xs) = false
are_args vars (s ∷ ss) [] = false
are_args vars (s ∷ ss) (x ∷ xs) = both_same (slice_get vars x) (Some s) && are_args vars ss xs

abbrev pub are_args_of : List Sort → Option (List Sort) → List ℕ → Bool
are_args_of vars None xs = false
are_args_of vars (Some sorts) xs = are_args vars sorts xs

-- a predicate that is there, and variables of its arguments' sorts
abbrev pub is_app : List (List Sort) → List Sort → App → Bool
is_app preds vars a = is_few a.args && are_args_of vars (slice_get preds a.pred) a.args

-- ---- systems

abbrev pub is_rule : List (List Sort) → Rule → Bool
is_rule preds r = all_few is_sort r.vars && (all_few (is_app preds r.vars) r.body && (all_few (is_con r.vars) r.cons && is_app preds r.vars r.head))

abbrev pub is_query : List (List Sort) → Query → Bool
is_query preds q = all_few is_sort q.vars && (all_few (is_app preds q.vars) q.body && all_few (is_con q.vars) q.cons)

-- every list is short, every size from 1 to 12, every number in range, every sum in order and without mappings; atoms,
-- results and mappings have the sorts that stand there
unfoldable pub well_made : System → Bool
well_made s = all_few (all_few is_sort) s.preds && (all_few (is_rule s.preds) s.rules && all_few (is_query s.preds) s.queries)

-- ---- lemmas

-- a place of the predicate whose sort is just this type
abbrev pub is_of_type : Option Sort → Ty → Bool
is_of_type None t = false
is_of_type (Some (sort.Whole u)) t = same_type u t
is_of_type (Some sort.Free) t = false
is_of_type (Some (sort.Map keys value)) t = false

-- a bound key of just this type
abbrev pub is_key_of_type : Option Ty → Ty → Bool
is_key_of_type None t = false
is_key_of_type (Some u) t = same_type u t

abbrev pub is_key_term : List Sort → List Ty → Ty → KeyTerm → Bool
is_key_term places keys t (key.Arg i) = is_of_type (slice_get places i) t
is_key_term places keys t (key.Key i) = is_key_of_type (slice_get keys i) t

-- as many keys as types, each of just its type
abbrev pub are_key_terms : List Sort → List Ty → List Ty → List KeyTerm → Bool
are_key_terms places keys [] [] = true
are_key_terms places keys [] (k ∷ ks) = false
are_key_terms places keys (t ∷ ts) [] = false
are_key_terms places keys (t ∷ ts) (k ∷ ks) = is_key_term places keys t k && are_key_terms places keys ts ks

abbrev pub is_read : List Sort → List Ty → Option Sort → List KeyTerm → Bool
is_read places keys None ks = false
is_read places keys (Some (sort.Whole t)) ks = false
is_read places keys (Some sort.Free) ks = false
is_read places keys (Some (sort.Map types value)) ks = are_key_terms places keys types ks

abbrev pub is_term : List Sort → List Ty → LitTerm → Bool
is_term places keys (term.Arg i) = is_number (slice_get places i)
is_term places keys (term.Key i) = nat_lt i (length keys)
is_term places keys (term.Read i ks) = is_read places keys (slice_get places i) ks

abbrev pub is_lit : List Sort → List Ty → Lit → Bool
is_lit places keys l = list_all (λ t. is_term places keys t.0) l.terms

-- at most two bound keys, of sizes from 1 to 12, and literals on the predicate's places
abbrev pub is_lemma_of : Option (List Sort) → Lemma → Bool
is_lemma_of None l = false
is_lemma_of (Some places) l = nat_lt (length l.keys) 3 && (list_all is_sized l.keys && list_all (is_lit places l.keys) l.lits)

-- the lemma's predicate is there, and it is of it
unfoldable pub of_system : System → Lemma → Bool
of_system s l = is_lemma_of (slice_get s.preds l.pred) l
