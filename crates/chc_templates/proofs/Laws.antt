-- Candidates are lemmas of the system, few, and plain.
use Rattle.std.proofs.Common.{◌≡◌, ◌∙◌, ap, refl, ℕ, zero, suc, ◌+◌, ◌≤◌, List, [], ◌∷◌, ◌++◌, length, take, Bool, true, false, cond, neg_ℤ, arith}
use lib.IntN.{ℤ}
use Rattle.std.specs.Prelude.{Option, Some, None, slice_get}
use Rattle.std.specs.List.{list_all, All}
use Rattle.std.proofs.lemmas.List.{length-take}
use Rattle.std.proofs.lemmas.List.Elements.{All-take, All-append}
use Rattle.std.proofs.lemmas.Bool.{and_parts, and_from}
use Rattle.chc_form.specs.declared.system.Sort.{Sort}
use Rattle.chc_form.specs.declared.system.Sort.TheVariants as sort
use Rattle.chc_form.specs.declared.system.System.{System}
use Rattle.chc_form.specs.declared.lemma.Lemma.{Lemma}
use Rattle.chc_form.specs.WellMade.{is_number, well_made, of_system}
use Rattle.chc_templates.specs.Constants.{constants_of}
use Rattle.chc_templates.specs.Candidates.{splits_sort, konst_for, lemma_on, lemmas_on, on_place, on_places, on_preds, on_numbers, candidates_of}

-- ---- each passes a test that holds of the lemmas on numbers

list_all-join : (f : Lemma → Bool) (xs ys : List Lemma) → list_all f xs ≡ true → list_all f ys ≡ true → list_all f (xs ++ ys) ≡ true
list_all-join f [] ys h k = k
list_all-join f (x ∷ xs) ys h k =
    let a = and_parts (f x) (list_all f xs) h in
    and_from (f x) (list_all f (xs ++ ys)) a.0 (list_all-join f xs ys a.1 k)

list_all-front : (f : Lemma → Bool) (n : ℕ) (xs : List Lemma) → list_all f xs ≡ true → list_all f (take n xs) ≡ true
list_all-front f zero xs h = refl
list_all-front f (suc n) [] h = refl
list_all-front f (suc n) (x ∷ xs) h =
    let a = and_parts (f x) (list_all f xs) h in
    and_from (f x) (list_all f (take n xs)) a.0 (list_all-front f n xs a.1)

-- the entries at places from i on
abbrev From : {A : Type 0} → List A → ℕ → List A → Type 0
From {A} all i xs = (j : ℕ) → slice_get all (i + j) ≡ slice_get xs j

from-first : {A : Type 0} (all : List A) (i : ℕ) (x : A) (xs : List A) → From all i (x ∷ xs) → slice_get all i ≡ Some x
from-first all i x xs f = let e : i ≡ i + 0 = omega arith in ap (slice_get all) e ∙ f 0

from-more : {A : Type 0} (all : List A) (i : ℕ) (x : A) (xs : List A) → From all i (x ∷ xs) → From all (i + 1) xs
from-more all i x xs f j = let e : i + 1 + j ≡ i + suc j = omega arith in ap (slice_get all) e ∙ f (suc j)

split-number : (k : ℤ) (s : Sort) → splits_sort k s ≡ true → is_number (Some s) ≡ true
split-number k (sort.Whole t) h = refl
split-number k sort.Free h = refl
split-number k (sort.Map keys value) h = absurd (cc (h))

on_place-all : (f : Lemma → Bool) (b : Bool) (p i : ℕ) (c : ℤ) → (b ≡ true → f (lemma_on p i c) ≡ true) → list_all f (lemmas_on p i (cond b (Some c) None)) ≡ true
on_place-all f true p i c h = and_from (f (lemma_on p i c)) true (h refl) refl
on_place-all f false p i c h = refl

-- a lemma on a place whose entry is a number
of-place : (s : System) (p i : ℕ) (c : ℤ) (sorts : List Sort) → slice_get s.preds p ≡ Some sorts → is_number (slice_get sorts i) ≡ true → of_system s (lemma_on p i c) ≡ true
unfolding of_system
of-place s p i c sorts e h = rw (e, h) refl

on_places-of : (s : System) (k : ℤ) (p i : ℕ) (sorts ss : List Sort) → slice_get s.preds p ≡ Some sorts → From sorts i ss → list_all (of_system s) (on_places k p i ss) ≡ true
unfolding konst_for
on_places-of s k p i sorts [] e f = refl
on_places-of s k p i sorts (t ∷ ss) e f =
    list_all-join (of_system s) (on_place k p i t) (on_places k p (i + 1) ss)
    (on_place-all (of_system s) (splits_sort k t) p i (neg_ℤ k) (λ h. of-place s p i (neg_ℤ k) sorts e (ap is_number (from-first sorts i t ss f) ∙ split-number k t h)))
    (on_places-of s k p (i + 1) sorts ss e (from-more sorts i t ss f))

on_preds-of : (s : System) (k : ℤ) (p : ℕ) (preds : List (List Sort)) → From s.preds p preds → list_all (of_system s) (on_preds k p preds) ≡ true
on_preds-of s k p [] f = refl
on_preds-of s k p (ss ∷ more) f =
    list_all-join (of_system s) (on_places k p 0 ss) (on_preds k (p + 1) more)
    (on_places-of s k p 0 ss ss (from-first s.preds p ss more f) (λ j. let e : 0 + j ≡ j = omega arith in ap (slice_get ss) e))
    (on_preds-of s k (p + 1) more (from-more s.preds p ss more f))

on_numbers-of : (s : System) (ks : List ℤ) → list_all (of_system s) (on_numbers s.preds ks) ≡ true
on_numbers-of s [] = refl
on_numbers-of s (k ∷ ks) =
    list_all-join (of_system s) (on_preds k 0 s.preds) (on_numbers s.preds ks)
    (on_preds-of s k 0 s.preds (λ j. let e : 0 + j ≡ j = omega arith in ap (slice_get s.preds) e))
    (on_numbers-of s ks)

-- each candidate is of the system
pub candidates-of : (s : System) → well_made s ≡ true → list_all (of_system s) (candidates_of s) ≡ true
unfolding candidates_of
candidates-of s h = list_all-front (of_system s) 1024 (on_numbers s.preds (take 8 (constants_of s))) (on_numbers-of s (take 8 (constants_of s)))

-- there are at most 1,024
pub candidates-few : (s : System) → length (candidates_of s) ≤ 1024
unfolding candidates_of
candidates-few s = omega (arith, length-take 1024 (on_numbers s.preds (take 8 (constants_of s))))

-- ---- no bound keys and one literal

abbrev pub IsPlain : Lemma → Type 0
IsPlain l = (l.keys ≡ []) × (length l.lits ≡ 1)

plain-nil : All IsPlain []
plain-nil j d h = absurd (omega arith)

plain-one : (p i : ℕ) (c : ℤ) → All IsPlain (lemma_on p i c ∷ [])
plain-one p i c zero d h = (refl, refl)
plain-one p i c (suc j) d h = absurd (omega arith)

plain-place : (p i : ℕ) (o : Option ℤ) → All IsPlain (lemmas_on p i o)
plain-place p i None = plain-nil
plain-place p i (Some c) = plain-one p i c

plain-places : (k : ℤ) (p i : ℕ) (ss : List Sort) → All IsPlain (on_places k p i ss)
plain-places k p i [] = plain-nil
plain-places k p i (s ∷ ss) = All-append IsPlain (on_place k p i s) (on_places k p (i + 1) ss) (plain-place p i (konst_for k s)) (plain-places k p (i + 1) ss)

plain-preds : (k : ℤ) (p : ℕ) (preds : List (List Sort)) → All IsPlain (on_preds k p preds)
plain-preds k p [] = plain-nil
plain-preds k p (ss ∷ more) = All-append IsPlain (on_places k p 0 ss) (on_preds k (p + 1) more) (plain-places k p 0 ss) (plain-preds k (p + 1) more)

plain-numbers : (preds : List (List Sort)) (ks : List ℤ) → All IsPlain (on_numbers preds ks)
plain-numbers preds [] = plain-nil
plain-numbers preds (k ∷ ks) = All-append IsPlain (on_preds k 0 preds) (on_numbers preds ks) (plain-preds k 0 preds) (plain-numbers preds ks)

-- each candidate has no bound keys and one literal
pub candidates-plain : (s : System) → All (λ l. (l.keys ≡ []) × (length l.lits ≡ 1)) (candidates_of s)
unfolding candidates_of
candidates-plain s = All-take IsPlain 1024 (on_numbers s.preds (take 8 (constants_of s))) (plain-numbers s.preds (take 8 (constants_of s)))
