-- The list of a program's targets, line by line.
use Rattle.std.specs.Prelude.{ℕ, List, [], ◌∷◌, ◌++◌, codes, decimal, map, length}
use Rattle.sol_core.specs.Kinds.{kind_word}
use Rattle.sol_core.specs.declared.Site.{Site}

-- `L:C KIND`
abbrev pub listed_line : Site → List ℕ
listed_line s = decimal s.line ++ codes ":" ++ decimal s.col ++ codes " " ++ kind_word s.kind ++ codes "\n"

-- `targets T`
abbrev pub count_line : List Site → List ℕ
count_line sites = codes "targets " ++ decimal (length sites) ++ codes "\n"

abbrev pub listing_of : List Site → List (List ℕ)
listing_of sites = map listed_line sites ++ count_line sites ∷ []
