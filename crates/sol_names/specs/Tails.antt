-- How often numbers stand in the tails of lists, counted once and kept up while lists are merged.
use Rattle.std.specs.Prelude.{◌≡◌, ◌<◌, ℕ, ◌+◌, List, [], ◌∷◌, map, length, slice_index, ◌==◌, if◌then◌else◌}
use denote.Ref.{Bor}

-- what slices hold
abbrev pub views : List (Bor (List ℕ)) → List (List ℕ)
views rs = map (λ r. r.now) rs

-- numbers below another
abbrev pub Below : ℕ → List ℕ → Type 0
Below n [] = Unit {0}
Below n (x ∷ xs) = (x < n) × Below n xs

abbrev pub AllBelow : ℕ → List (List ℕ) → Type 0
AllBelow n [] = Unit {0}
AllBelow n (l ∷ ls) = Below n l × AllBelow n ls

-- how often a number stands in a list
abbrev pub times : ℕ → List ℕ → ℕ
times u [] = 0
times u (x ∷ xs) = (if x == u then 1 else 0) + times u xs

-- how often it stands in the tail of a list
abbrev pub times_behind : ℕ → List ℕ → ℕ
times_behind u [] = 0
times_behind u (x ∷ xs) = times u xs

-- how often it stands in the tails of lists
abbrev pub times_in_tails : ℕ → List (List ℕ) → ℕ
times_in_tails u [] = 0
times_in_tails u (l ∷ ls) = times_behind u l + times_in_tails u ls

-- for each number that there is a place for, how often it stands in the tails of lists
abbrev pub AreTails : List ℕ → List (List ℕ) → Type 0
AreTails counts ls = (u : ℕ) → u < length counts → slice_index counts u ≡ times_in_tails u ls
