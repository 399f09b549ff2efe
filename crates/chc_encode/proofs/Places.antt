-- What variables stand for, sort by sort, and the places of lists.
use Rattle.std.proofs.Common.{◌≡◌, ◌∙◌, sym, ap, subst, refl, ℕ, zero, suc, ◌+◌, ◌<◌, List, [], ◌∷◌, ◌++◌, length, map, pos, arith, ◌⊎◌, inl, inr, Some, slice_get, unwrap_or}
use lib.IntN.{ℤ}
use Rattle.std.specs.List.{range_with_len, Contains, slice_index_or}
use Rattle.std.proofs.lemmas.Option.{unwrap_or-slice_get}
use Rattle.std.proofs.lemmas.List.FromFn.{get_or-range_with_len}
use Rattle.chc_nums.specs.declared.Ty.TheVariants as ty
use Rattle.chc_nums.specs.Types.{InRange}
use Rattle.chc_form.specs.declared.Row.{Row}
use Rattle.chc_form.specs.declared.Sort.{Sort}
use Rattle.chc_form.specs.declared.Sort.TheVariants as sort
use Rattle.chc_form.specs.Valuations.{Valuation, HasSort, HasSorts}
use Rattle.chc_form.specs.Constraints.{ConsAt}
use Rattle.chc_form.proofs.Entries.{contains-later}
use Rattle.sol_first.specs.declared.Variable.{Variable}
use Rattle.sol_first.specs.Typed.{size_at}
use Rattle.chc_encode.specs.PathRows.{sorts_of, now_at, entry}
use Rattle.chc_encode.specs.Systems.{cons_of}
use Rattle.chc_encode.proofs.Valuations.{AllHold, put, put-other}

-- numbers, and no mapping
abbrev pub point : (ℕ → ℤ) → Valuation
point x = record { number = x; mapping = λ j ks. pos 0 }

sort-same : (s : Sort) (i : ℕ) (x y : ℕ → ℤ) → x i ≡ y i → HasSort (point x) i s → HasSort (point y) i s
sort-same (sort.Whole t) i x y e h = subst (InRange t) e h
sort-same sort.Free i x y e h = tt
sort-same (sort.Map keys value) i x y e h = h

-- an entry of a list with one more
pub get-push : {A : Type 0} → (xs : List A) (x y : A) (i : ℕ) → slice_get (xs ++ x ∷ []) i ≡ Some y → ((i < length xs) × (slice_get xs i ≡ Some y)) ⊎ ((i ≡ length xs) × (x ≡ y))
get-push [] x y zero e = inr (refl, cc)
get-push [] x y (suc i) e = absurd (cc)
get-push (w ∷ xs) x y zero e = inl (omega arith, e)
get-push (w ∷ xs) x y (suc i) e =
    elim (get-push xs x y i e) [
      | inl h ↦ inl (omega (arith, h.0), h.1)
      | inr h ↦ inr (omega (arith, h.0), h.1)
    ]

-- one variable more, with a value of its sort
pub sorts-put : (ss : List Sort) (x : ℕ → ℤ) (z : ℤ) (t : Sort) → HasSorts (point x) ss → HasSort (point (put x (length ss) z)) (length ss) t → HasSorts (point (put x (length ss) z)) (ss ++ t ∷ [])
sorts-put ss x z t h k i s e =
    elim (get-push ss t s i e) [
      | inl j ↦
          let l : i < length ss = j.0 in
          sort-same s i x (put x (length ss) z) (sym (put-other x (length ss) z i (omega arith))) (h i s j.1)
      | inr j ↦ subst (λ (n : ℕ). HasSort (point (put x (length ss) z)) n s) (sym j.0) (subst (λ (u : Sort). HasSort (point (put x (length ss) z)) (length ss) u) j.1 k)
    ]

sort-at : (vs : List Variable) (i : ℕ) (s : Sort) → slice_get (sorts_of vs) i ≡ Some s → (i < length vs) × (sort.Whole (ty.Uint (size_at vs i)) ≡ s)
sort-at [] i s e = absurd (cc)
sort-at (v ∷ vs) zero s e = (omega arith, cc)
sort-at (v ∷ vs) (suc i) s e = let r = sort-at vs i s e in (omega (arith, r.0), r.1)

-- values in their types have the sorts of the state variables
pub entry-sorts : (vs : List Variable) (x : ℕ → ℤ) → ((i : ℕ) → i < length vs → InRange (ty.Uint (size_at vs i)) (x i)) → HasSorts (point x) (sorts_of vs)
entry-sorts vs x h i s e = let r = sort-at vs i s e in subst (HasSort (point x) i) r.1 (h i r.0)

-- at entry a state variable is held by the row variable of its own number
pub entry-now : (vars : List Variable) (i : ℕ) → i < length vars → now_at (entry vars) i ≡ i
entry-now vars i l =
    let e : unwrap_or (slice_get (range_with_len 0 (length vars)) i) 0 ≡ 0 + i = unwrap_or-slice_get (range_with_len 0 (length vars)) i 0 ∙ get_or-range_with_len 0 (length vars) i 0 l in
    omega (arith, e)

-- rows that hold are constraints that are true
pub cons-hold : (sorts : List Sort) (v : Valuation) (rows : List Row) → AllHold rows v.number → ConsAt sorts v (cons_of rows)
cons-hold sorts v [] h = tt
cons-hold sorts v (r ∷ rs) h = (h.0, cons-hold sorts v rs h.1)

pub hold-cons : (sorts : List Sort) (v : Valuation) (rows : List Row) → ConsAt sorts v (cons_of rows) → AllHold rows v.number
hold-cons sorts v [] h = tt
hold-cons sorts v (r ∷ rs) h = (h.0, hold-cons sorts v rs h.1)

-- ---- members

contains-map-at : {A B : Type 0} → (f : A → B) (xs : List A) (x : A) (k : ℕ) → k < length xs → slice_index_or xs k x ≡ x → Contains (map f xs) (f x)
contains-map-at f [] x k l e = absurd (omega arith)
contains-map-at f (y ∷ ys) x zero l e = (0, omega arith, ap f e)
contains-map-at f (y ∷ ys) x (suc k) l e = contains-later (f y) (f x) (map f ys) (contains-map-at f ys x k (omega arith) e)

pub contains-map : {A B : Type 0} → (f : A → B) (xs : List A) (x : A) → Contains xs x → Contains (map f xs) (f x)
contains-map f xs x h = contains-map-at f xs x h.0 h.1 h.2
