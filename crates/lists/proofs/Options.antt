-- The two cases of an option.
use Rattle.std.proofs.Common.{◌≡◌, Option, Some, None, refl, ◌⊎◌, inl, inr}

pub none-or_some : {A : Type 0} (o : Option A) → (o ≡ None) ⊎ ((x : A) × (o ≡ Some x))
none-or_some None = inl refl
none-or_some (Some x) = inr (x, refl)
