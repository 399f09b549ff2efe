-- A text cut at each of its bytes of one kind.
use Rattle.std.specs.Prelude.{ℕ, List, [], ◌∷◌, ◌++◌, ◌==◌, if◌then◌else◌}

-- a byte before the first of some pieces; where there is none, it is not ended
abbrev pub before_first : ℕ → List (List ℕ) → List (List ℕ)
before_first x [] = []
before_first x (piece ∷ more) = (x ∷ piece) ∷ more

-- the pieces that a byte ends
abbrev pub ended : ℕ → List ℕ → List (List ℕ)
ended b [] = []
ended b (x ∷ xs) = if x == b then [] ∷ ended b xs else before_first x (ended b xs)

abbrev pub before_tail : ℕ → List (List ℕ) → List ℕ → List ℕ
before_tail x [] tail = x ∷ tail
before_tail x (piece ∷ more) tail = tail

-- what stands behind the last of those bytes
abbrev pub tail : ℕ → List ℕ → List ℕ
tail b [] = []
tail b (x ∷ xs) = if x == b then tail b xs else before_tail x (ended b xs) (tail b xs)

-- the pieces between those bytes: n of them leave n + 1 pieces
abbrev pub pieces : ℕ → List ℕ → List (List ℕ)
pieces b text = ended b text ++ tail b text ∷ []
