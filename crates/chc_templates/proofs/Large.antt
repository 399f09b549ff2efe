-- Numbers of more than 96 bits stand behind all others, and give no candidate.
use Rattle.std.proofs.Common.{◌≡◌, ◌∙◌, sym, ap, refl, ℕ, zero, suc, ◌+◌, List, [], ◌∷◌, ◌++◌, take, Bool, true, false, cond, pos, arith, ◌⊎◌, inl, inr}
use lib.IntN.{ℤ}
use Rattle.std.specs.List.{filter, list_all}
use Rattle.std.specs.Ordering.{int_eq}
use Rattle.std.proofs.lemmas.Int.{ints}
use Rattle.std.proofs.lemmas.Bool.Decides.{nat_tests}
use Rattle.std.proofs.lemmas.Bool.{and_parts, cases_Bool}
use Rattle.chc_nums.specs.declared.Ty.{Ty}
use Rattle.chc_nums.specs.declared.Ty.TheVariants as ty
use Rattle.chc_nums.specs.Types.{IsType}
use Rattle.chc_nums.proofs.Ranges.{least-bound, greatest-bound}
use Rattle.chc_form.specs.declared.system.Sort.{Sort}
use Rattle.chc_form.specs.declared.system.Sort.TheVariants as sort
use Rattle.chc_form.specs.declared.system.System.{System}
use Rattle.chc_form.specs.WellMade.{is_sort, all_few, is_few, well_made}
use Rattle.chc_templates.specs.Constants.{is_before, placed, placed_all, constants_in}
use Rattle.chc_templates.specs.Firsts.{is_small, firsts}
use Rattle.chc_templates.specs.Candidates.{splits, konst_for, on_place, on_places, on_preds, on_numbers, candidates_of}
use Rattle.chc_templates.proofs.Orders.{take-shorter}
use Rattle.chc_templates.proofs.Splitting.{type-of_size, made-few, made-sorts}

-- ---- the order

small-before : (x y : ℤ) → is_small x ≡ true → is_small y ≡ false → is_before x y ≡ true
unfolding is_small
small-before x y h k = grind (arith, nat_tests)

large-not_before : (x y : ℤ) → is_small x ≡ false → is_small y ≡ true → is_before x y ≡ false
unfolding is_small
large-not_before x y h k = grind (arith, nat_tests)

large-unlike : (x y : ℤ) → is_small x ≡ false → is_small y ≡ true → int_eq x y ≡ false
unfolding is_small
large-unlike x y h k = grind (arith, ints)

abbrev Small : List ℤ → Type 0
Small [] = Unit {0}
Small (x ∷ xs) = (is_small x ≡ true) × Small xs

abbrev Large : List ℤ → Type 0
Large [] = Unit {0}
Large (x ∷ xs) = (is_small x ≡ false) × Large xs

small-step : (a b : Bool) (x y : ℤ) (ys zs : List ℤ) → placed x (ys ++ zs) ≡ placed x ys ++ zs → cond a (x ∷ y ∷ (ys ++ zs)) (cond b (y ∷ (ys ++ zs)) (y ∷ placed x (ys ++ zs))) ≡ cond a (x ∷ y ∷ ys) (cond b (y ∷ ys) (y ∷ placed x ys)) ++ zs
small-step true b x y ys zs h = refl
small-step false true x y ys zs h = refl
small-step false false x y ys zs h = ap (λ (ws : List ℤ). y ∷ ws) h

placed-small : (x : ℤ) (ys zs : List ℤ) → is_small x ≡ true → Large zs → placed x (ys ++ zs) ≡ placed x ys ++ zs
placed-small x [] [] h l = refl
placed-small x [] (z ∷ zs) h l = rw (small-before x z h l.0) refl
placed-small x (y ∷ ys) zs h l = small-step (is_before x y) (int_eq x y) x y ys zs (placed-small x ys zs h l)

keeps-step : (P : List ℤ → Type 0) (a b : Bool) (x y : ℤ) (ys : List ℤ) → P (x ∷ y ∷ ys) → P (y ∷ ys) → P (y ∷ placed x ys) → P (cond a (x ∷ y ∷ ys) (cond b (y ∷ ys) (y ∷ placed x ys)))
keeps-step P true b x y ys f g h = f
keeps-step P false true x y ys f g h = g
keeps-step P false false x y ys f g h = h

small-placed : (x : ℤ) (ys : List ℤ) → is_small x ≡ true → Small ys → Small (placed x ys)
small-placed x [] h s = (h, tt)
small-placed x (y ∷ ys) h s = keeps-step Small (is_before x y) (int_eq x y) x y ys (h, s) s (s.0, small-placed x ys h s.1)

large-placed : (x : ℤ) (ys : List ℤ) → is_small x ≡ false → Large ys → Large (placed x ys)
large-placed x [] h s = (h, tt)
large-placed x (y ∷ ys) h s = keeps-step Large (is_before x y) (int_eq x y) x y ys (h, s) s (s.0, large-placed x ys h s.1)

placed-large : (x : ℤ) (ys zs : List ℤ) → is_small x ≡ false → Small ys → placed x (ys ++ zs) ≡ ys ++ placed x zs
placed-large x [] zs h s = refl
placed-large x (y ∷ ys) zs h s = rw (large-not_before x y h s.0, large-unlike x y h s.0) (ap (λ (ws : List ℤ). y ∷ ws) (placed-large x ys zs h s.1))

filter-yes : (x : ℤ) (xs : List ℤ) → is_small x ≡ true → filter is_small (x ∷ xs) ≡ x ∷ filter is_small xs
filter-yes x xs h = rw h refl

filter-no : (x : ℤ) (xs : List ℤ) → is_small x ≡ false → filter is_small (x ∷ xs) ≡ filter is_small xs
filter-no x xs h = rw h refl

-- the small ones of some numbers come first
split : (ys zs xs : List ℤ) → Small ys → Large zs → (more : List ℤ) × Large more × (placed_all (ys ++ zs) xs ≡ placed_all ys (filter is_small xs) ++ more)
unfolding placed_all
split ys zs [] s l = (zs, l, refl)
split ys zs (x ∷ xs) s l =
    elim (cases_Bool (is_small x)) [
      | inl h ↦
          let r = split (placed x ys) zs xs (small-placed x ys h s) l in (
            r.0,
            r.1,
            ap (λ (ws : List ℤ). placed_all ws xs) (placed-small x ys zs h l) ∙ r.2 ∙ ap (λ (ws : List ℤ). placed_all ys ws ++ r.0) (sym (filter-yes x xs h)),
          )
      | inr h ↦
          let r = split ys (placed x zs) xs s (large-placed x zs h l) in (
            r.0,
            r.1,
            ap (λ (ws : List ℤ). placed_all ws xs) (placed-large x ys zs h s) ∙ r.2 ∙ ap (λ (ws : List ℤ). placed_all ys ws ++ r.0) (sym (filter-no x xs h)),
          )
    ]

-- ---- no candidate

large-splits : (k : ℤ) (t : Ty) → IsType t → is_small k ≡ false → splits k t ≡ false
unfolding is_small
large-splits k t h s = grind (arith, ints, least-bound t h, greatest-bound t h)

large-on_place : (k : ℤ) (p i : ℕ) (s : Sort) → is_sort s ≡ true → is_small k ≡ false → on_place k p i s ≡ []
unfolding konst_for
large-on_place k p i (sort.Whole ty.Bool) h l = rw (large-splits k ty.Bool (type-of_size ty.Bool h) l) refl
large-on_place k p i (sort.Whole (ty.Uint n)) h l = rw (large-splits k (ty.Uint n) (type-of_size (ty.Uint n) h) l) refl
large-on_place k p i (sort.Whole (ty.Int n)) h l = rw (large-splits k (ty.Int n) (type-of_size (ty.Int n) h) l) refl
large-on_place k p i (sort.Whole ty.Addr) h l = refl
large-on_place k p i sort.Free h l = refl
large-on_place k p i (sort.Map keys value) h l = refl

large-on_places : (k : ℤ) (p i : ℕ) (ss : List Sort) → list_all is_sort ss ≡ true → is_small k ≡ false → on_places k p i ss ≡ []
large-on_places k p i [] h l = refl
large-on_places k p i (s ∷ ss) h l =
    let a = and_parts (is_sort s) (list_all is_sort ss) h in
    rw (large-on_place k p i s a.0 l, large-on_places k p (i + 1) ss a.1 l) refl

large-on_preds : (k : ℤ) (p : ℕ) (preds : List (List Sort)) → list_all (all_few is_sort) preds ≡ true → is_small k ≡ false → on_preds k p preds ≡ []
large-on_preds k p [] h l = refl
large-on_preds k p (ss ∷ more) h l =
    let a = and_parts (all_few is_sort ss) (list_all (all_few is_sort) more) h in
    rw (large-on_places k p 0 ss (and_parts (is_few ss) (list_all is_sort ss) a.0).1 l, large-on_preds k (p + 1) more a.1 l) refl

large-on_numbers : (preds : List (List Sort)) (n : ℕ) (ks : List ℤ) → list_all (all_few is_sort) preds ≡ true → Large ks → on_numbers preds (take n ks) ≡ []
large-on_numbers preds zero ks h l = refl
large-on_numbers preds (suc n) [] h l = refl
large-on_numbers preds (suc n) (k ∷ ks) h l = rw (large-on_preds k 0 preds h l.0) (large-on_numbers preds n ks h l.1)

front-on_numbers : (preds : List (List Sort)) (n : ℕ) (ks more : List ℤ) → list_all (all_few is_sort) preds ≡ true → Large more → on_numbers preds (take n (ks ++ more)) ≡ on_numbers preds (take n ks)
front-on_numbers preds zero ks more h l = refl
front-on_numbers preds (suc n) [] more h l = large-on_numbers preds (suc n) more h l
front-on_numbers preds (suc n) (k ∷ ks) more h l = ap (λ (ls : List _). on_preds k 0 preds ++ ls) (front-on_numbers preds n ks more h l)

from-zero : (cs : List ℤ) → placed_all [] (pos 0 ∷ pos 1 ∷ cs) ≡ placed_all (pos 0 ∷ pos 1 ∷ []) cs
unfolding placed_all
from-zero cs = refl

-- the candidates are those of the small constants
pub candidates-small : (s : System) → well_made s ≡ true → take 1024 (on_numbers s.preds (take 8 (firsts (pos 0 ∷ pos 1 ∷ []) (constants_in s)))) ≡ candidates_of s
unfolding candidates_of firsts is_small
candidates-small s h =
    let r = split (pos 0 ∷ pos 1 ∷ []) [] (constants_in s) (refl, (refl, tt)) tt in
    let sorts = made-sorts s h in
    let all : placed_all [] (pos 0 ∷ pos 1 ∷ constants_in s) ≡ placed_all (pos 0 ∷ pos 1 ∷ []) (filter is_small (constants_in s)) ++ r.0 = from-zero (constants_in s) ∙ r.2 in
    let left : on_numbers s.preds (take 8 (take 16 (placed_all (pos 0 ∷ pos 1 ∷ []) (filter is_small (constants_in s))))) ≡ on_numbers s.preds (take 8 (placed_all (pos 0 ∷ pos 1 ∷ []) (filter is_small (constants_in s)))) =
    ap (on_numbers s.preds) (take-shorter 8 16 (placed_all (pos 0 ∷ pos 1 ∷ []) (filter is_small (constants_in s))) (omega arith)) in
    let right : on_numbers s.preds (take 8 (take 16 (placed_all [] (pos 0 ∷ pos 1 ∷ constants_in s)))) ≡ on_numbers s.preds (take 8 (placed_all (pos 0 ∷ pos 1 ∷ []) (filter is_small (constants_in s)) ++ r.0)) =
    ap (on_numbers s.preds) (take-shorter 8 16 (placed_all [] (pos 0 ∷ pos 1 ∷ constants_in s)) (omega arith) ∙ ap (take 8) all) in
    ap (take 1024) (left ∙ sym (front-on_numbers s.preds 8 (placed_all (pos 0 ∷ pos 1 ∷ []) (filter is_small (constants_in s))) r.0 sorts r.1) ∙ sym right)

pub ruleset wholes = (candidates-small, made-few, made-sorts)
