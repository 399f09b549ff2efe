-- One value for each item of a list.
use Rattle.std.proofs.Common.{◌≡◌, ◌∙◌, sym, ℕ, ◌+◌, ◌<◌, zero, suc, List, [], ◌∷◌, ◌++◌, length, map, take, refl, ap, arith, append_assoc}

pub filled-more : {A B : Type 0} (z : B) (xs : List A) (i : ℕ) → i < length xs → map {A = A} {B = B} (λ x. z) (take (i + 1) xs) ≡ map {A = A} {B = B} (λ x. z) (take i xs) ++ z ∷ []
filled-more z [] i h = absurd (omega arith)
filled-more z (x ∷ xs) zero h = refl
filled-more {A = A} {B = B} z (x ∷ xs) (suc i) h =
    let e : suc i + 1 ≡ suc (i + 1) = omega arith in
    let p : i < length xs = omega arith in
    rw e (ap (λ (zs : List B). z ∷ zs) (filled-more z xs i p))

pub filled-after : {A B : Type 0} (z : B) (ys : List B) (xs : List A) (i : ℕ) → i < length xs → ys ++ map {A = A} {B = B} (λ x. z) (take (i + 1) xs) ≡ (ys ++ map {A = A} {B = B} (λ x. z) (take i xs)) ++ z ∷ []
filled-after {A = A} {B = B} z ys xs i h = ap (λ (zs : List B). ys ++ zs) (filled-more z xs i h) ∙ sym (append_assoc ys (map (λ (x : A). z) (take i xs)) (z ∷ []))
