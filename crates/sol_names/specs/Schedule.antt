-- In which order units are linearized: those that a unit needs, each behind its bases.
use Rattle.std.specs.Prelude.{◌≡◌, ◌<◌, ℕ, List, [], ◌∷◌, ◌++◌, length, Option, Some, None, slice_get, Bool, true, ◌==◌}
use Rattle.std.specs.List.{list_any}
use Rattle.sol_names.specs.Linearization.{Linearizes}

-- a number stands in a list
abbrev pub has : ℕ → List ℕ → Bool
has u xs = list_any (λ y. y == u) xs

-- a unit has no linearization unless another has one
abbrev pub IsNeeded : List (List ℕ) → ℕ → ℕ → Type 0
IsNeeded g u w = (o : List ℕ) → Linearizes g u o → (p : List ℕ) × Linearizes g w p

-- the bases of a unit stand among others
abbrev pub HasBases : List (List ℕ) → List ℕ → ℕ → Type 0
HasBases g before w = (bs : List ℕ) (b : ℕ) → slice_get g w ≡ Some bs → has b bs ≡ true → has b before ≡ true

-- each of some units stands behind its bases, where others stand before them all
abbrev pub AreBehind : List (List ℕ) → List ℕ → List ℕ → Type 0
AreBehind g before [] = Unit {0}
AreBehind g before (w ∷ ws) = HasBases g before w × AreBehind g (before ++ w ∷ []) ws

-- a unit and others that it needs, each behind its bases
pub record IsSchedule (g : List (List ℕ)) (u : ℕ) (ws : List ℕ) : Type 0 where
  pub needed : (w : ℕ) → has w ws ≡ true → IsNeeded g u w
  pub behind : AreBehind g [] ws
  pub own : has u ws ≡ true
  pub within : u < length g

-- such units, or none where the unit has no linearization
abbrev pub FindsSchedule : List (List ℕ) → ℕ → Option (List ℕ) → Type 0
FindsSchedule g u None = (o : List ℕ) → Linearizes g u o → ⊥
FindsSchedule g u (Some ws) = IsSchedule g u ws
