-- A number below 1,000 in decimal digits.
use Rattle.std.specs.Prelude.{ℕ, ◌+◌, ◌/◌, ◌%◌, nat_lt, if◌then◌else◌, List, [], ◌∷◌}

-- a digit of a number, where `0` is 48
abbrev pub digit : ℕ → ℕ
digit n = 48 + n % 10

abbrev pub numeral : ℕ → List ℕ
numeral n =
    if nat_lt n 10 then digit n ∷ []
    else (if nat_lt n 100 then digit (n / 10) ∷ digit n ∷ []
    else digit (n / 100) ∷ digit (n / 10) ∷ digit n ∷ [])
