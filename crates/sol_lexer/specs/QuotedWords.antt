-- The words that begin a text where a quote follows them, and are outside the language there (Solidity's
-- documentation, "Hexadecimal Literals" and "Unicode Literals").
use Rattle.std.specs.Prelude.{ℕ, List, [], ◌∷◌, codes}

unfoldable pub quoted_words : List (List ℕ)
quoted_words = codes "unicode" ∷ codes "hex" ∷ []
