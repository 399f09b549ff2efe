-- The punctuators of Solidity that are outside the language (Solidity's documentation, "Language Grammar").
use Rattle.std.specs.Prelude.{ℕ, List, [], ◌∷◌, codes}

unfoldable pub refused_marks : List (List ℕ)
refused_marks =
    codes "&" ∷ codes "|" ∷ codes "^" ∷ codes "~" ∷ codes "<<" ∷ codes ">>" ∷ codes ">>>" ∷ codes "&=" ∷ codes "|=" ∷
    codes "^=" ∷ codes "<<=" ∷ codes ">>=" ∷ codes ">>>=" ∷ codes "->" ∷ codes ":=" ∷ []
