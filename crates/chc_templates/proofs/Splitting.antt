-- Steps of the search: constants of literals, and lemmas as far as there is room.
use Rattle.std.proofs.Common.{◌≡◌, ◌∙◌, sym, ap, refl, ℕ, zero, suc, ◌+◌, ◌<◌, ◌≤◌, ◌^◌, List, [], ◌∷◌, ◌++◌, length, take, append_assoc, append-nil, Some, None, true, neg_ℤ, ◌≤ℤ◌, ◌<ℤ◌, arith}
use lib.IntN.{ℤ}
use Rattle.std.specs.Prelude.{nat_lt, if◌then◌else◌}
use Rattle.std.specs.List.{list_all}
use Rattle.std.proofs.lemmas.Int.{ints}
use Rattle.std.proofs.lemmas.Bool.{ltb-true, and_parts}
use Rattle.std.proofs.lemmas.List.{take-append-le}
use Rattle.chc_nums.specs.declared.Ty.{Ty}
use Rattle.chc_nums.specs.declared.Ty.TheVariants as ty
use Rattle.chc_nums.specs.Types.{IsType, IsSize, least, greatest}
use Rattle.chc_nums.specs.Wide.{in_128, fits_128}
use Rattle.chc_nums.proofs.Ranges.{least-bound, greatest-bound}
use Rattle.chc_form.specs.declared.system.Sort.{Sort}
use Rattle.chc_form.specs.declared.system.System.{System}
use Rattle.chc_form.specs.declared.lemma.Lemma.{Lemma}
use Rattle.chc_form.specs.WellMade.{is_size, is_sized, is_sort, is_few, all_few, well_made}
use Rattle.chc_form.proofs.Passing.{first-sort, rest-sorts}
use Rattle.chc_templates.specs.Candidates.{splits, on_place, on_places, on_preds, on_numbers}

-- ---- sizes

size-of : (n : ℕ) → is_size n ≡ true → IsSize n
size-of n h = let a = and_parts (nat_lt 0 n) (nat_lt n 13) h in (omega (arith, ltb-true 0 n a.0), omega (arith, ltb-true n 13 a.1))

pub type-of_size : (t : Ty) → is_sized t ≡ true → IsType t
type-of_size ty.Bool h = tt
type-of_size (ty.Uint n) h = size-of n h
type-of_size (ty.Int n) h = size-of n h
type-of_size ty.Addr h = tt

pub made-few : (s : System) → well_made s ≡ true → length s.preds < 2 ^ 31
unfolding well_made
made-few s h =
    let a = and_parts (all_few (all_few is_sort) s.preds) _ h in
    ltb-true (length s.preds) (2 ^ 31) (and_parts (is_few s.preds) (list_all (all_few is_sort) s.preds) a.0).0

pub made-sorts : (s : System) → well_made s ≡ true → list_all (all_few is_sort) s.preds ≡ true
unfolding well_made
made-sorts s h =
    let a = and_parts (all_few (all_few is_sort) s.preds) _ h in
    (and_parts (is_few s.preds) (list_all (all_few is_sort) s.preds) a.0).1

-- ---- constants of literals

pub splits-fits : (k : ℤ) (t : Ty) → IsType t → least t ≤ℤ k → k <ℤ greatest t → in_128 (neg_ℤ k) ≡ (if splits k t then Some (neg_ℤ k) else None)
unfolding in_128 fits_128
splits-fits k t h a b = grind (arith, ints, least-bound t h, greatest-bound t h)

pub ruleset splitting = (splits-fits, type-of_size)

-- ---- as many as there is room for

take-front : (n : ℕ) (xs ys : List Lemma) → take n (take n xs ++ ys) ≡ take n (xs ++ ys)
take-front zero xs ys = refl
take-front (suc n) [] ys = refl
take-front (suc n) (x ∷ xs) ys = ap (λ (ls : List Lemma). x ∷ ls) (take-front n xs ys)

pub take-under : (n : ℕ) (xs ys zs : List Lemma) → take n (take n (xs ++ ys) ++ zs) ≡ take n (xs ++ (ys ++ zs))
take-under n xs ys zs = take-front n (xs ++ ys) zs ∙ ap (take n) (append_assoc xs ys zs)

pub full-place : (xs ys : List Lemma) → 1024 ≤ length xs → take 1024 xs ≡ take 1024 (xs ++ ys)
full-place xs ys h = sym (take-append-le 1024 xs ys h)

pub nothing-more : (xs : List Lemma) → take 1024 (xs ++ []) ≡ take 1024 xs
nothing-more xs = ap (take 1024) (append-nil xs)

-- the first ones, item by item
abbrev pub places_onward : ℤ → ℕ → ℕ → List Lemma → List Sort → List Lemma
places_onward k p i ls [] = take 1024 ls
places_onward k p i ls (s ∷ ss) = places_onward k p (i + 1) (take 1024 (ls ++ on_place k p i s)) ss

pub places_onward-is : (k : ℤ) (p i : ℕ) (ls : List Lemma) (ss : List Sort) → places_onward k p i ls ss ≡ take 1024 (ls ++ on_places k p i ss)
places_onward-is k p i ls [] = sym (nothing-more ls)
places_onward-is k p i ls (s ∷ ss) = places_onward-is k p (i + 1) (take 1024 (ls ++ on_place k p i s)) ss ∙ take-under 1024 ls (on_place k p i s) (on_places k p (i + 1) ss)

pub places-end : (k : ℤ) (p i : ℕ) (ls : List Lemma) (ss : List Sort) → length ss < 1 → take 1024 ls ≡ places_onward k p i ls ss
places-end k p i ls [] h = refl
places-end k p i ls (s ∷ ss) h = absurd (omega arith)

abbrev pub preds_onward : ℤ → ℕ → List Lemma → List (List Sort) → List Lemma
preds_onward k p ls [] = take 1024 ls
preds_onward k p ls (ss ∷ more) = preds_onward k (p + 1) (take 1024 (ls ++ on_places k p 0 ss)) more

pub preds_onward-is : (k : ℤ) (p : ℕ) (ls : List Lemma) (preds : List (List Sort)) → preds_onward k p ls preds ≡ take 1024 (ls ++ on_preds k p preds)
preds_onward-is k p ls [] = sym (nothing-more ls)
preds_onward-is k p ls (ss ∷ more) = preds_onward-is k (p + 1) (take 1024 (ls ++ on_places k p 0 ss)) more ∙ take-under 1024 ls (on_places k p 0 ss) (on_preds k (p + 1) more)

pub preds-end : (k : ℤ) (p : ℕ) (ls : List Lemma) (preds : List (List Sort)) → length preds < 1 → take 1024 ls ≡ preds_onward k p ls preds
preds-end k p ls [] h = refl
preds-end k p ls (ss ∷ more) h = absurd (omega arith)

abbrev pub numbers_onward : List (List Sort) → List Lemma → List ℤ → List Lemma
numbers_onward preds ls [] = take 1024 ls
numbers_onward preds ls (k ∷ ks) = numbers_onward preds (take 1024 (ls ++ on_preds k 0 preds)) ks

numbers_onward-all : (preds : List (List Sort)) (ls : List Lemma) (ks : List ℤ) → numbers_onward preds ls ks ≡ take 1024 (ls ++ on_numbers preds ks)
numbers_onward-all preds ls [] = sym (nothing-more ls)
numbers_onward-all preds ls (k ∷ ks) = numbers_onward-all preds (take 1024 (ls ++ on_preds k 0 preds)) ks ∙ take-under 1024 ls (on_preds k 0 preds) (on_numbers preds ks)

pub numbers_onward-is : (preds : List (List Sort)) (ks : List ℤ) → numbers_onward preds [] ks ≡ take 1024 (on_numbers preds ks)
numbers_onward-is preds ks = numbers_onward-all preds [] ks

pub places-few : (ss : List Sort) (more : List (List Sort)) → list_all (all_few is_sort) (ss ∷ more) ≡ true → length ss < 2 ^ 31
places-few ss more h =
    let a = and_parts (all_few is_sort ss) (list_all (all_few is_sort) more) h in
    ltb-true (length ss) (2 ^ 31) (and_parts (is_few ss) (list_all is_sort ss) a.0).0

pub places-sorts : (ss : List Sort) (more : List (List Sort)) → list_all (all_few is_sort) (ss ∷ more) ≡ true → list_all is_sort ss ≡ true
places-sorts ss more h =
    let a = and_parts (all_few is_sort ss) (list_all (all_few is_sort) more) h in
    (and_parts (is_few ss) (list_all is_sort ss) a.0).1

pub other-places : (ss : List Sort) (more : List (List Sort)) → list_all (all_few is_sort) (ss ∷ more) ≡ true → list_all (all_few is_sort) more ≡ true
other-places ss more h = (and_parts (all_few is_sort ss) (list_all (all_few is_sort) more) h).1

pub ruleset places = (full-place, nothing-more)

pub ruleset steps = (places_onward-is, preds_onward-is, numbers_onward-is, first-sort, rest-sorts, places-few, places-sorts, other-places, made-few, made-sorts)
