-- The C3 linearization: a unit, and then the merge of the linearizations of its bases and of the list of these bases. A
-- merge takes the first head that stands in no tail, as often as there is one, until nothing is left.
use Rattle.std.specs.Prelude.{◌≡◌, ℕ, List, [], ◌∷◌, ◌++◌, map, Option, Some, None, slice_get, Bool, true, false, ◌==◌, if◌then◌else◌}
use Rattle.std.specs.List.{list_any, list_all}

-- a number stands in the tail of a list
abbrev pub is_behind : ℕ → List ℕ → Bool
is_behind u [] = false
is_behind u (x ∷ xs) = list_any (λ y. y == u) xs

-- the first head among some lists that stands in no tail of all lists
abbrev pub next_among : List (List ℕ) → List (List ℕ) → Option ℕ
next_among all [] = None
next_among all ([] ∷ ls) = next_among all ls
next_among all ((h ∷ t) ∷ ls) = if list_any (is_behind h) all then next_among all ls else Some h

abbrev pub next_of : List (List ℕ) → Option ℕ
next_of ls = next_among ls ls

-- a list without a number at its head
abbrev pub without_head : ℕ → List ℕ → List ℕ
without_head h [] = []
without_head h (x ∷ xs) = if x == h then xs else x ∷ xs

abbrev pub is_empty : List ℕ → Bool
is_empty [] = true
is_empty (x ∷ xs) = false

-- lists are merged into one
pub data Merges : List (List ℕ) → List ℕ → Type 0 where
  ended : {ls : List (List ℕ)} → list_all is_empty ls ≡ true → Merges ls []
  taken : {ls : List (List ℕ)} {h : ℕ} {rest : List ℕ} → next_of ls ≡ Some h → Merges (map (without_head h) ls) rest → Merges ls (h ∷ rest)

-- In a graph that has for each unit the list of its bases, the last base first.
mutual
  -- the linearization of a unit
  pub data Linearizes (g : List (List ℕ)) : ℕ → List ℕ → Type 0 where
    linear : {u : ℕ} {bs : List ℕ} {os : List (List ℕ)} {rest : List ℕ} → slice_get g u ≡ Some bs → AllLinearize g bs os → Merges (os ++ bs ∷ []) rest → Linearizes g u (u ∷ rest)

  -- those of units, one by one
  pub data AllLinearize (g : List (List ℕ)) : List ℕ → List (List ℕ) → Type 0 where
    none : AllLinearize g [] []
    more : {u : ℕ} {o : List ℕ} {us : List ℕ} {os : List (List ℕ)} → Linearizes g u o → AllLinearize g us os → AllLinearize g (u ∷ us) (o ∷ os)
