-- What merging and ordering answer, and the orders that are known so far.
use Rattle.std.specs.Prelude.{◌≡◌, ◌+◌, ℕ, List, [], ◌∷◌, ◌++◌, Option, Some, None, is_some, unwrap_or, slice_get, slice_index, Bool, true, false, ◌⊎◌}
use Rattle.chc_nums.specs.Values.{with_value}
use Rattle.sol_names.specs.Linearization.{Merges, Linearizes}
use Rattle.sol_names.specs.Schedule.{has}
use Rattle.sol_names.specs.Tails.{Below, times}

-- the lists merged into one, or none where they can't be merged
abbrev pub IsMerge : List (List ℕ) → Option (List ℕ) → Type 0
IsMerge ls None = (o : List ℕ) → Merges ls o → ⊥
IsMerge ls (Some o) = Merges ls o

-- the linearization of a unit, or none where it has none
abbrev pub IsOrder : List (List ℕ) → ℕ → Option (List ℕ) → Type 0
IsOrder g u None = (o : List ℕ) → Linearizes g u o → ⊥
IsOrder g u (Some o) = Linearizes g u o

-- ---- orders that are known so far

-- the order of a unit, where it is known
abbrev pub known : List (Option (List ℕ)) → ℕ → Option (List ℕ)
known os u = unwrap_or (slice_get os u) None

-- the orders of units, where all are known
abbrev pub all_known : List (Option (List ℕ)) → List ℕ → Option (List (List ℕ))
all_known os [] = Some []
all_known os (u ∷ us) = with_value (known os u) (λ o. with_value (all_known os us) (λ more. Some (o ∷ more)))

-- the orders of the bases, and then the bases themselves
abbrev pub to_merge : List (Option (List ℕ)) → List ℕ → Option (List (List ℕ))
to_merge os bs = with_value (all_known os bs) (λ ls. Some (ls ++ bs ∷ []))

-- the order of a unit with these bases, as far as orders are known: none where that of a base isn't, or where they can't be
-- merged
abbrev pub IsNext : List (Option (List ℕ)) → List ℕ → ℕ → Option (List ℕ) → Type 0
IsNext os bs u None = (ls : List (List ℕ)) (o : List ℕ) → to_merge os bs ≡ Some ls → Merges ls o → ⊥
IsNext os bs u (Some o) = (ls : List (List ℕ)) × (rest : List ℕ) × (to_merge os bs ≡ Some ls) × Merges ls rest × (o ≡ u ∷ rest)

-- known orders are linearizations
abbrev pub AreRight : List (List ℕ) → List (Option (List ℕ)) → Type 0
AreRight g os = (u : ℕ) (o : List ℕ) → known os u ≡ Some o → Linearizes g u o

-- the numbers of known orders are below another
abbrev pub KnownBelow : ℕ → List (Option (List ℕ)) → Type 0
KnownBelow n os = (u : ℕ) (o : List ℕ) → known os u ≡ Some o → Below n o

-- the orders of some units are known
abbrev pub AllKnown : List (Option (List ℕ)) → List ℕ → Type 0
AllKnown os bs = (b : ℕ) → has b bs ≡ true → is_some (known os b) ≡ true

-- ---- how often orders are used

-- the bases of a unit
abbrev pub bases_of : List (List ℕ) → ℕ → List ℕ
bases_of g u = unwrap_or (slice_get g u) []

-- how often a unit is a base of some units
abbrev pub uses : List (List ℕ) → ℕ → List ℕ → ℕ
uses g x [] = 0
uses g x (w ∷ ws) = times x (bases_of g w) + uses g x ws

-- known orders stay, but for some of bases that are used just once
abbrev pub Forgets : List ℕ → List ℕ → List (Option (List ℕ)) → List (Option (List ℕ)) → Type 0
Forgets used bs old new = (x : ℕ) → (known new x ≡ known old x) ⊎ ((known new x ≡ None) × (has x bs ≡ true) × (slice_index used x ≡ 1))

-- what is found of a unit with these bases
abbrev pub Finds : List (List ℕ) → List (Option (List ℕ)) → List ℕ → ℕ → Option (List ℕ) → Type 0
Finds g os bs w None = AllKnown os bs → (o : List ℕ) → Linearizes g w o → ⊥
Finds g os bs w (Some o) = Linearizes g w o

-- what one unit adds: its order, or nothing where it has none
abbrev pub Settles : List (List ℕ) → List ℕ → List (Option (List ℕ)) → ℕ → Bool → List (Option (List ℕ)) → Type 0
Settles g used old w true new = (o : List ℕ) × Linearizes g w o × (known new w ≡ Some o) × ((x : ℕ) → (x ≡ w → ⊥) → (known new x ≡ known old x) ⊎ ((known new x ≡ None) × (has x (bases_of g w) ≡ true) × (slice_index used x ≡ 1)))
Settles g used old w false new = AllKnown old (bases_of g w) → (o : List ℕ) → Linearizes g w o → ⊥

-- the order of the last unit became known, or it has none
abbrev pub SettlesAll : List (List ℕ) → ℕ → Bool → List (Option (List ℕ)) → Type 0
SettlesAll g u true new = AreRight g new × (is_some (known new u) ≡ true)
SettlesAll g u false new = (o : List ℕ) → Linearizes g u o → ⊥
