-- What is left of a text after its first cut.
use Rattle.std.specs.Prelude.{◌≡◌, ℕ, List, [], ◌∷◌, ◌++◌, Option, Some, None}
use Rattle.sol_script.specs.Pieces.{ended, tail, pieces}

-- the pieces between the spaces of a text, where there is one
abbrev pub pieces_of : Option (List ℕ) → List (List ℕ)
pieces_of None = []
pieces_of (Some text) = pieces 32 text

-- a text is what stands before its first byte of a kind, that byte, and what stands behind it; or it has none
abbrev pub IsCut : ℕ → List ℕ → Option (List ℕ × List ℕ) → Type 0
IsCut b text None = (ended b text ≡ []) × (tail b text ≡ text)
IsCut b text (Some (front, back)) = (text ≡ front ++ b ∷ back) × (ended b text ≡ front ∷ ended b back) × (tail b text ≡ tail b back)
