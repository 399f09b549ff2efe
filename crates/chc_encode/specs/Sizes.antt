-- Numbers that are small enough to compute with.
use Rattle.std.specs.Prelude.{◌^◌, pos, ◌≤ℤ◌, ◌<ℤ◌}
use lib.IntN.{ℤ}

-- from 0 on, with at most 96 bits: the values of every type of a state variable
abbrev pub IsSmall : ℤ → Type 0
IsSmall z = (pos 0 ≤ℤ z) × (z <ℤ pos (2 ^ 96))
