-- Entries of lists.
use Rattle.std.proofs.Common.{◌≡◌, subst, refl, ℕ, suc, List, ◌∷◌, Some, slice_get, arith}
use Rattle.std.specs.List.{Contains}
use Rattle.std.proofs.lemmas.Option.{get_or_from_slice_get, slice_get_within}
use Rattle.std.proofs.lemmas.List.Elements.{Contains-get_or}

pub contains-first : {A : Type 0} → (x : A) (xs : List A) → Contains (x ∷ xs) x
contains-first x xs = (0, omega arith, refl)

pub contains-later : {A : Type 0} → (x y : A) (xs : List A) → Contains xs y → Contains (x ∷ xs) y
contains-later x y xs i = (suc i.0, omega (arith, i.1), i.2)

-- what stands at a place
pub got-contained : {A : Type 0} → (xs : List A) (i : ℕ) (x : A) → slice_get xs i ≡ Some x → Contains xs x
got-contained {A} xs i x e = subst (Contains xs) (get_or_from_slice_get xs i x x e) (Contains-get_or xs i x (slice_get_within xs i x e))
