-- The least of some numbers.
use Rattle.std.specs.Prelude.{ℕ, min, List, [], ◌∷◌, Option, Some, None}

abbrev pub lesser : Option ℕ → ℕ → Option ℕ
lesser None n = Some n
lesser (Some m) n = Some (min m n)

-- the least of a number, if there is one, and of others
abbrev pub least_from : Option ℕ → List ℕ → Option ℕ
least_from m [] = m
least_from m (n ∷ ns) = least_from (lesser m n) ns

-- the least of numbers, or none where there are none
abbrev pub least_in : List ℕ → Option ℕ
least_in ns = least_from None ns
