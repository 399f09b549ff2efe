-- The words of the grammar, but for those of types and units. `error` is a name too, and is not among them
-- (Solidity's documentation, "Language Grammar").
use Rattle.std.specs.Prelude.{ℕ, List, [], ◌∷◌, codes}

abbrev pub words_of_grammar : List (List ℕ)
words_of_grammar =
    codes "abstract" ∷ codes "contract" ∷ codes "interface" ∷ codes "is" ∷ codes "public" ∷ codes "internal" ∷
    codes "private" ∷ codes "constant" ∷ codes "immutable" ∷ codes "override" ∷ codes "function" ∷ codes "returns" ∷
    codes "external" ∷ codes "view" ∷ codes "pure" ∷ codes "virtual" ∷ codes "constructor" ∷ codes "modifier" ∷
    codes "event" ∷ codes "anonymous" ∷ codes "indexed" ∷ codes "mapping" ∷ codes "unchecked" ∷ codes "if" ∷
    codes "else" ∷ codes "while" ∷ codes "do" ∷ codes "for" ∷ codes "break" ∷ codes "continue" ∷
    codes "return" ∷ codes "_" ∷ codes "emit" ∷ codes "revert" ∷ codes "require" ∷ codes "assert" ∷
    codes "delete" ∷ codes "true" ∷ codes "false" ∷ codes "type" ∷ codes "msg" ∷ codes "super" ∷ []
