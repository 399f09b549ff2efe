-- Entries of lists that are written.
use Rattle.std.proofs.Common.{◌≡◌, ◌∙◌, sym, ap, refl, ℕ, zero, suc, ◌-◌, ◌<◌, ◌≤◌, List, [], ◌∷◌, ◌++◌, Option, Some, None, length, take, get_or, arith}
use Rattle.std.proofs.Math.Seq.{take-length}
use Rattle.std.proofs.lemmas.List.{take-append-le, length-append}
use Rattle.std.specs.Prelude.{slice_set, option_to_list, IfNone}
use lib.IntN.{ℤ}
use Rattle.sol_meaning.specs.Frames.{array_at}

-- what is written last stands there
pub set-again : {A : Type 0} (xs : List A) (i : ℕ) (x y : A) → slice_set (slice_set xs i x) i y ≡ slice_set xs i y
set-again [] i x y = refl
set-again (z ∷ xs) zero x y = refl
set-again {A} (z ∷ xs) (suc i) x y = ap (λ (ys : List A). z ∷ ys) (set-again xs i x y)

pub set-past : {A : Type 0} (xs : List A) (i : ℕ) (x : A) → length xs ≤ i → slice_set xs i x ≡ xs
set-past [] i x h = refl
set-past (z ∷ xs) zero x h = absurd (omega arith)
set-past {A} (z ∷ xs) (suc i) x h = ap (λ (ys : List A). z ∷ ys) (set-past xs i x (omega arith))

pub array-past : (xs : List (List ℤ)) (i : ℕ) → length xs ≤ i → array_at xs i ≡ []
array-past [] i h = refl
array-past (z ∷ xs) zero h = absurd (omega arith)
array-past (z ∷ xs) (suc i) h = array-past xs i (omega arith)

pub array-there : (xs : List (List ℤ)) (i : ℕ) (x : List ℤ) → i < length xs → x ≡ get_or xs i x → x ≡ array_at xs i
array-there [] i x h e = absurd (omega arith)
array-there (z ∷ xs) zero x h e = e
array-there (z ∷ xs) (suc i) x h e = array-there xs i x (omega arith) e

-- all but the last
pub front : {A : Type 0} (xs ys : List A) (o : Option A) → xs ≡ ys ++ option_to_list o → IfNone o (ys ≡ []) → take (length xs - 1) xs ≡ ys
front {A} xs ys None e n =
    let y : ys ≡ [] = n in
    let x : xs ≡ [] = e ∙ ap (λ (zs : List A). zs ++ []) y in
    ap (λ (zs : List A). take (length zs - 1) zs) x ∙ sym y
front {A} xs ys (Some x) e n =
    let less : length (ys ++ x ∷ []) - 1 ≡ length ys = omega (arith, length-append ys (x ∷ [])) in
    let within : length ys ≤ length ys = omega arith in
    ap (λ (zs : List A). take (length zs - 1) zs) e ∙ ap (λ (k : ℕ). take k (ys ++ x ∷ [])) less ∙ take-append-le (length ys) ys (x ∷ []) within ∙ take-length ys

pub ruleset written = (set-again, set-past, array-past, array-there)
