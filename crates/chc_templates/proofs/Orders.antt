-- Numbers in order: the first ones depend on the first ones alone.
use Rattle.std.proofs.Common.{◌≡◌, ◌∙◌, sym, ap, refl, ℕ, zero, suc, ◌≤◌, List, [], ◌∷◌, ◌++◌, take, Option, Some, None, Bool, true, false, cond, pos, ◌+ℤ◌, ◌-ℤ◌, neg_ℤ, arith}
use lib.IntN.{ℤ}
use Rattle.std.specs.List.{filter, flat_map}
use Rattle.std.specs.Option.{option_to_list}
use Rattle.std.specs.Ordering.{int_eq}
use Rattle.std.proofs.lemmas.Int.{ints}
use Rattle.std.proofs.lemmas.List.Elements.{filter-append}
use Rattle.chc_nums.specs.Wide.{in_128, fits_128}
use Rattle.chc_nums.proofs.Fits.{in_128-value}
use Rattle.chc_templates.specs.Constants.{upper, lower, is_before, placed, placed_all}
use Rattle.chc_templates.specs.Firsts.{is_small, firsts}

-- ---- the first ones

pub take-shorter : {A : Type 0} (m n : ℕ) (xs : List A) → m ≤ n → take m (take n xs) ≡ take m xs
take-shorter zero n xs h = refl
take-shorter (suc m) zero xs h = absurd (omega arith)
take-shorter (suc m) (suc n) [] h = refl
take-shorter {A} (suc m) (suc n) (x ∷ xs) h = ap (λ (ys : List A). x ∷ ys) (take-shorter m n xs (omega arith))

take-cons : (n : ℕ) (y : ℤ) (ys : List ℤ) → take n (y ∷ take n ys) ≡ take n (y ∷ ys)
take-cons zero y ys = refl
take-cons (suc n) y ys = ap (λ (zs : List ℤ). y ∷ zs) (take-shorter n (suc n) ys (omega arith))

placed-step : (a b : Bool) (n : ℕ) (x y : ℤ) (ys : List ℤ) → take n (placed x (take n ys)) ≡ take n (placed x ys) → take (suc n) (cond a (x ∷ y ∷ take n ys) (cond b (y ∷ take n ys) (y ∷ placed x (take n ys)))) ≡ take (suc n) (cond a (x ∷ y ∷ ys) (cond b (y ∷ ys) (y ∷ placed x ys)))
placed-step true b n x y ys h = ap (λ (zs : List ℤ). x ∷ zs) (take-cons n y ys)
placed-step false true n x y ys h = ap (λ (zs : List ℤ). y ∷ zs) (take-shorter n n ys (omega arith))
placed-step false false n x y ys h = ap (λ (zs : List ℤ). y ∷ zs) h

take-placed : (n : ℕ) (x : ℤ) (ys : List ℤ) → take n (placed x (take n ys)) ≡ take n (placed x ys)
take-placed zero x ys = refl
take-placed (suc n) x [] = refl
take-placed (suc n) x (y ∷ ys) = placed-step (is_before x y) (int_eq x y) n x y ys (take-placed n x ys)

take-placed_all : (n : ℕ) (ys xs : List ℤ) → take n (placed_all (take n ys) xs) ≡ take n (placed_all ys xs)
unfolding placed_all
take-placed_all n ys [] = take-shorter n n ys (omega arith)
take-placed_all n ys (x ∷ xs) =
    sym (take-placed_all n (placed x (take n ys)) xs) ∙ ap (λ (zs : List ℤ). take n (placed_all zs xs)) (take-placed n x ys) ∙ take-placed_all n (placed x ys) xs

placed_all-append : (ys xs zs : List ℤ) → placed_all ys (xs ++ zs) ≡ placed_all (placed_all ys xs) zs
unfolding placed_all
placed_all-append ys [] zs = refl
placed_all-append ys (x ∷ xs) zs = placed_all-append (placed x ys) xs zs

pub firsts-nil : (ys : List ℤ) → firsts ys [] ≡ take 16 ys
unfolding firsts placed_all
firsts-nil ys = refl

pub firsts-append : (ys xs zs : List ℤ) → firsts (firsts ys xs) zs ≡ firsts ys (xs ++ zs)
unfolding firsts
firsts-append ys xs zs =
    take-placed_all 16 (placed_all ys (filter is_small xs)) (filter is_small zs) ∙ ap (take 16) (sym (placed_all-append ys (filter is_small xs) (filter is_small zs))) ∙ ap (λ (ws : List ℤ). take 16 (placed_all ys ws)) (sym (filter-append is_small xs zs))

pub firsts-small : (ys more : List ℤ) (x : ℤ) → is_small x ≡ true → more ≡ placed x ys → take 16 more ≡ firsts ys (x ∷ [])
unfolding firsts placed_all
firsts-small ys more x h e = rw (h, e) refl

pub firsts-large : (ys : List ℤ) (x : ℤ) → is_small x ≡ false → take 16 ys ≡ firsts ys (x ∷ [])
unfolding firsts placed_all
firsts-large ys x h = rw h refl

-- the first ones, item by item
abbrev pub onward : {A : Type 0} → (A → List ℤ) → List ℤ → List A → List ℤ
onward f ys [] = take 16 ys
onward f ys (x ∷ xs) = onward f (firsts ys (f x)) xs

pub onward-is : {A : Type 0} (f : A → List ℤ) (ys : List ℤ) (xs : List A) → onward f ys xs ≡ firsts ys (flat_map f xs)
onward-is f ys [] = sym (firsts-nil ys)
onward-is f ys (x ∷ xs) = onward-is f (firsts ys (f x)) xs ∙ firsts-append ys (f x) (flat_map f xs)

pub ruleset firsts_of = (firsts-nil, firsts-append, firsts-small, firsts-large, onward-is)

-- ---- numbers that may leave 128 bits

wide-large : (z : ℤ) → in_128 z ≡ None → is_small z ≡ false
unfolding in_128 fits_128 is_small
wide-large z h = grind (arith, ints)

some-listed : (ys : List ℤ) (z : ℤ) (o : Option ℤ) → in_128 z ≡ o → firsts ys (option_to_list o) ≡ firsts ys (z ∷ [])
some-listed ys z None e = firsts-nil ys ∙ firsts-large ys z (wide-large z e)
some-listed ys z (Some s) e = ap (λ (y : ℤ). firsts ys (y ∷ [])) (in_128-value z s e)

pub some-firsts : (ys : List ℤ) (z : ℤ) → firsts ys (option_to_list (in_128 z)) ≡ firsts ys (z ∷ [])
some-firsts ys z = some-listed ys z (in_128 z) refl

two-firsts : (ys : List ℤ) (y z : ℤ) → firsts (firsts ys (y ∷ [])) (option_to_list (in_128 z)) ≡ firsts ys (y ∷ z ∷ [])
two-firsts ys y z = some-firsts (firsts ys (y ∷ [])) z ∙ firsts-append ys (y ∷ []) (z ∷ [])

pub upper-firsts : (ys : List ℤ) (c : ℤ) → firsts (firsts ys (option_to_list (in_128 (neg_ℤ c)))) (option_to_list (in_128 (pos 1 -ℤ c))) ≡ firsts ys (upper c)
upper-firsts ys c =
    let e : pos 1 -ℤ c ≡ neg_ℤ c +ℤ pos 1 = omega (arith, ints) in
    ap (λ (zs : List ℤ). firsts zs (option_to_list (in_128 (pos 1 -ℤ c)))) (some-firsts ys (neg_ℤ c)) ∙ two-firsts ys (neg_ℤ c) (pos 1 -ℤ c) ∙ ap (λ (z : ℤ). firsts ys (neg_ℤ c ∷ z ∷ [])) e

pub lower-firsts : (ys : List ℤ) (c : ℤ) → firsts (firsts ys (c ∷ [])) (option_to_list (in_128 (c -ℤ pos 1))) ≡ firsts ys (lower c)
lower-firsts ys c = two-firsts ys c (c -ℤ pos 1)

pub ruleset pairs = (some-firsts, upper-firsts, lower-firsts)
