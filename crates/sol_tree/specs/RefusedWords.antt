-- The words of Solidity that are outside the language, but for the fixed-point types: integer types without a number
-- or of 104, 112, .. 256 bits, the types of bytes and texts, and words of forms that are not read (Solidity's
-- documentation, "Language Grammar" and "Units and Globally Available Variables").
use Rattle.std.specs.Prelude.{ℕ, ◌*◌, List, [], ◌∷◌, ◌++◌, map, codes}
use Rattle.std.specs.List.{range_with_len}
use Rattle.sol_tree.specs.Numerals.{numeral}

-- a stem with the bits of each size from 13 to 32 bytes
abbrev pub wide_types : List ℕ → List (List ℕ)
wide_types stem = map (λ size. stem ++ numeral (8 * size)) (range_with_len 13 20)

-- `bytes1` to `bytes32`
abbrev pub fixed_bytes : List (List ℕ)
fixed_bytes = map (λ n. codes "bytes" ++ numeral n) (range_with_len 1 32)

abbrev pub type_words_outside : List (List ℕ)
type_words_outside = codes "uint" ∷ codes "int" ∷ (wide_types (codes "uint") ++ (wide_types (codes "int") ++ (codes "bytes" ∷ (fixed_bytes ++ (codes "string" ∷ [])))))

abbrev pub plain_words_outside : List (List ℕ)
plain_words_outside =
    codes "struct" ∷ codes "enum" ∷ codes "memory" ∷ codes "calldata" ∷ codes "storage" ∷
    codes "payable" ∷ codes "receive" ∷ codes "fallback" ∷ codes "library" ∷ codes "using" ∷
    codes "import" ∷ codes "assembly" ∷ codes "new" ∷ codes "try" ∷ codes "catch" ∷
    codes "this" ∷ codes "block" ∷ codes "tx" ∷ codes "abi" ∷ codes "gasleft" ∷
    codes "blockhash" ∷ codes "keccak256" ∷ codes "sha256" ∷ codes "ripemd160" ∷ codes "ecrecover" ∷
    codes "addmod" ∷ codes "mulmod" ∷ codes "selfdestruct" ∷ []

abbrev pub words_outside : List (List ℕ)
words_outside = type_words_outside ++ plain_words_outside
