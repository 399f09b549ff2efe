-- Items that hold nothing, by the numbers of those who appended them.
use Rattle.std.specs.Prelude.{ℕ, List, [], ◌∷◌}

abbrev pub items_by : List ℕ → List (ℕ × Unit {0})
items_by [] = []
items_by (k ∷ ks) = (k, tt) ∷ items_by ks
