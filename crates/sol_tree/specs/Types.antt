-- The elementary types and their spellings: `bool`, `address`, and `uintN` and `intN` of N / 8 bytes for
-- N = 8, 16, .. 96 (Solidity's documentation, "Value Types").
use Rattle.std.specs.Prelude.{ℕ, ◌*◌, List, ◌∷◌, ◌++◌, map, codes}
use Rattle.std.specs.List.{range_with_len}
use Rattle.chc_nums.specs.declared.typed.Ty.{Ty}
use Rattle.chc_nums.specs.declared.typed.Ty.TheVariants as ty
use Rattle.sol_tree.specs.Numerals.{numeral}

-- a stem with the bits of each size from 1 to 12 bytes, and the type of that size
abbrev pub sized_types : List ℕ → (ℕ → Ty) → List (List ℕ × Ty)
sized_types stem of_size = map (λ size. (stem ++ numeral (8 * size), of_size size)) (range_with_len 1 12)

-- the spellings of the types
abbrev pub type_words : List (List ℕ × Ty)
type_words = (codes "bool", ty.Bool) ∷ (codes "address", ty.Addr) ∷ (sized_types (codes "uint") ty.Uint ++ sized_types (codes "int") ty.Int)
