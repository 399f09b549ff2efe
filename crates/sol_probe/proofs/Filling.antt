-- Lists that are filled up to 4,096 entries.
use Rattle.std.proofs.Common.{◌≡◌, ◌∙◌, sym, refl, ap, ℕ, zero, suc, ◌+◌, ◌-◌, ◌<◌, ◌≤◌, List, [], ◌∷◌, ◌++◌, length, take, map, arith, append-nil, append_assoc, length-append}
use Rattle.std.specs.List.{flat_map}
use Rattle.std.proofs.lemmas.List.{take-map, length-take}
use Rattle.sol_probe.specs.Filled.{filled}

take-none : {A : Type 0} (n : ℕ) → take {A = A} n [] ≡ []
take-none zero = refl
take-none (suc n) = refl

-- a front of a longer front
pub take-within : {A : Type 0} (k n : ℕ) (xs : List A) → k ≤ n → take k (take n xs) ≡ take k xs
take-within zero n xs h = refl
take-within (suc k) zero xs h = absurd (omega arith)
take-within (suc k) (suc n) [] h = refl
take-within {A = A} (suc k) (suc n) (x ∷ xs) h = let p : k ≤ n = omega arith in ap (λ (ys : List A). x ∷ ys) (take-within k n xs p)

-- a front of two lists
pub take-two : {A : Type 0} (n : ℕ) (xs ys : List A) → take n (xs ++ ys) ≡ take n xs ++ take (n - length (take n xs)) ys
take-two zero xs ys = refl
take-two (suc n) [] ys = let e : suc n - 0 ≡ suc n = omega arith in rw e refl
take-two {A = A} (suc n) (x ∷ xs) ys =
    let e : suc n - suc (length (take n xs)) ≡ n - length (take n xs) = omega arith in
    rw e (ap (λ (zs : List A). x ∷ zs) (take-two n xs ys))

pub take-joined : {A : Type 0} (n : ℕ) (xs ys : List A) → take n (take n xs ++ take n ys) ≡ take n (xs ++ ys)
take-joined {A = A} n xs ys =
    let self : take n (take n xs) ≡ take n xs = take-within n n xs (omega arith) in
    let few : n - length (take n xs) ≤ n = omega arith in
    let first : take n (take n xs ++ take n ys) ≡ take n xs ++ take (n - length (take n xs)) (take n ys) =
    take-two n (take n xs) (take n ys) ∙ ap (λ (zs : List A). zs ++ take (n - length zs) (take n ys)) self in
    first ∙ ap (λ (zs : List A). take n xs ++ zs) (take-within (n - length (take n xs)) n ys few) ∙ sym (take-two n xs ys)

pub filled-none : {A : Type 0} (all : List A) → filled all [] ≡ all
unfolding filled
filled-none {A = A} all = ap (λ (zs : List A). all ++ zs) (take-none (4096 - length all)) ∙ append-nil all

pub filled-room : {A : Type 0} (all : List A) (x : A) (xs : List A) → length all < 4096 → filled all (x ∷ xs) ≡ filled (all ++ x ∷ []) xs
unfolding filled
filled-room all x xs h =
    let count : length (all ++ x ∷ []) ≡ length all + 1 = length-append all (x ∷ []) in
    let left : 4096 - length all ≡ suc (4096 - length (all ++ x ∷ [])) = omega arith in
    rw left (sym (append_assoc all (x ∷ []) (take (4096 - length (all ++ x ∷ [])) xs)))

pub filled-full : {A : Type 0} (all xs : List A) → 4096 ≤ length all → filled all xs ≡ all
unfolding filled
filled-full all xs h = let none : 4096 - length all ≡ 0 = omega arith in rw none (append-nil all)

pub filled-more : {A : Type 0} (all xs ys : List A) → filled (filled all xs) ys ≡ filled all (xs ++ ys)
unfolding filled
filled-more {A = A} all xs ys =
    let count : length (all ++ take (4096 - length all) xs) ≡ length all + length (take (4096 - length all) xs) = length-append all (take (4096 - length all) xs) in
    let left : 4096 - length (all ++ take (4096 - length all) xs) ≡ (4096 - length all) - length (take (4096 - length all) xs) = omega arith in
    rw left (append_assoc all (take (4096 - length all) xs) (take ((4096 - length all) - length (take (4096 - length all) xs)) ys) ∙ ap (λ (zs : List A). all ++ zs) (sym (take-two (4096 - length all) xs ys)))

pub filled-start : {A : Type 0} (xs : List A) → filled [] xs ≡ take 4096 xs
unfolding filled
filled-start xs = refl

-- a list that is longer than what can be filled up may be cut off before
pub filled-cut : {A : Type 0} (all xs : List A) → filled all (take 4096 xs) ≡ filled all xs
unfolding filled
filled-cut {A = A} all xs = let few : 4096 - length all ≤ 4096 = omega arith in ap (λ (zs : List A). all ++ zs) (take-within (4096 - length all) 4096 xs few)

pub filled-map-cut : {A B : Type 0} (f : A → B) (all : List B) (xs : List A) → filled all (map f (take 4096 xs)) ≡ filled all (map f xs)
filled-map-cut {B = B} f all xs = ap (λ (zs : List B). filled all zs) (sym (take-map f 4096 xs)) ∙ filled-cut all (map f xs)

-- lists one after another, each of which fills up as another does
pub filled-each : {A B : Type 0} (f g : A → List B) → ((x : A) (all : List B) → filled all (f x) ≡ filled all (g x)) → (all : List B) (xs : List A) → filled all (flat_map f xs) ≡ filled all (flat_map g xs)
filled-each f g h all [] = refl
filled-each {B = B} f g h all (x ∷ xs) =
    sym (filled-more all (f x) (flat_map f xs)) ∙ ap (λ (zs : List B). filled zs (flat_map f xs)) (h x all) ∙ filled-each f g h (filled all (g x)) xs ∙ filled-more all (g x) (flat_map g xs)

-- of lists that all have entries, the first n have the first n entries
pub take-rows : {A B : Type 0} (f : A → List B) → ((x : A) → 0 < length (f x)) → (k n : ℕ) (xs : List A) → k ≤ n → take k (flat_map f (take n xs)) ≡ take k (flat_map f xs)
take-rows f some zero zero xs h = refl
take-rows f some (suc k) zero xs h = absurd (omega arith)
take-rows f some k (suc n) [] h = refl
take-rows {B = B} f some k (suc n) (x ∷ xs) h =
    let entries : 0 < length (f x) = some x in
    let few : k - length (take k (f x)) ≤ n = omega (arith, length-take k (f x)) in
    take-two k (f x) (flat_map f (take n xs)) ∙ ap (λ (zs : List B). take k (f x) ++ zs) (take-rows f some (k - length (take k (f x))) n xs few) ∙ sym (take-two k (f x) (flat_map f xs))

pub ruleset filling = (filled-none, filled-room, filled-full, filled-more, filled-start)
