-- Lists that grow, of items with the numbers of those who appended them.
use Rattle.std.specs.Prelude.{◌≡◌, ℕ, ◌+◌, ◌<◌, ◌==◌, List, [], ◌∷◌, ◌++◌, length, drop, slice_get, Some, if◌then◌else◌}

-- the list begins with these
abbrev pub StartsWith : {A : Type 0} → List A → List A → Type 0
StartsWith {A} all front = (rest : List A) × (all ≡ front ++ rest)

-- the copies stand for a beginning of the list
abbrev pub CopiesPrefix : {A C : Type 0} → (List A → C → Type 0) → List A → C → Type 0
CopiesPrefix {A} copied all have = (front : List A) × StartsWith all front × copied front have

module _ {X : Type 0} where
  -- the items of one number, each with its place, where the first entry stands at place n
  abbrev pub items_of : ℕ → ℕ → List (ℕ × X) → List (ℕ × X)
  items_of k n [] = []
  items_of k n (e ∷ es) = if e.0 == k then (n, e.1) ∷ items_of k (n + 1) es else items_of k (n + 1) es

  -- the items of one number behind the opening list, each with its place
  abbrev pub items_behind : List (ℕ × X) → List (ℕ × X) → ℕ → List (ℕ × X)
  items_behind start all k = items_of k (length start) (drop (length start) all)

  -- each item stands at its place, with this number
  abbrev pub AllStand : ℕ → List (ℕ × X) → List (ℕ × X) → Type 0
  AllStand k all [] = Unit {0}
  AllStand k all (p ∷ ps) = (slice_get all p.0 ≡ Some (k, p.1)) × AllStand k all ps

  -- each entry's number lies below n
  abbrev pub AllBelow : ℕ → List (ℕ × X) → Type 0
  AllBelow n [] = Unit {0}
  AllBelow n (e ∷ es) = (e.0 < n) × AllBelow n es
