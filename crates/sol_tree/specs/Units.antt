-- The units that may follow a number, and what each multiplies it by (Solidity's documentation, "Units and Globally
-- Available Variables").
use Rattle.std.specs.Prelude.{ℕ, ◌^◌, List, [], ◌∷◌, codes}
use Rattle.sol_tree.specs.declared.expr.NumberUnit.{NumberUnit}
use Rattle.sol_tree.specs.declared.expr.NumberUnit.TheVariants as unit

-- the words of the units
abbrev pub unit_words : List (List ℕ × NumberUnit)
unit_words =
    (codes "seconds", unit.Seconds)
    ∷ (codes "minutes", unit.Minutes)
    ∷ (codes "hours", unit.Hours)
    ∷ (codes "days", unit.Days)
    ∷ (codes "weeks", unit.Weeks)
    ∷ (codes "wei", unit.Wei)
    ∷ (codes "gwei", unit.Gwei)
    ∷ (codes "ether", unit.Ether)
    ∷ []

-- what a unit multiplies its number by
abbrev pub multiplier : NumberUnit → ℕ
multiplier unit.Seconds = 1
multiplier unit.Minutes = 60
multiplier unit.Hours = 3600
multiplier unit.Days = 86400
multiplier unit.Weeks = 604800
multiplier unit.Wei = 1
multiplier unit.Gwei = 10 ^ 9
multiplier unit.Ether = 10 ^ 18
