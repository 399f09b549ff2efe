-- Sums as so many times 2^64 and a number below 2^64.
use Rattle.std.specs.Prelude.{ℕ, ◌*◌, ◌^◌, pos, neg_ℤ, ◌+ℤ◌, ◌*ℤ◌, ◌≤ℤ◌}
use lib.IntN.{ℤ}
use Rattle.chc_nums.specs.declared.total.Total.TheInside.{Inside}

abbrev pub half : ℤ
half = pos 18446744073709551616

abbrev pub total_of : Inside → ℤ
total_of t = (t.high *ℤ half) +ℤ t.low

abbrev pub IsTotal : Inside → Type 0
IsTotal t = (pos 0 ≤ℤ t.low) × (t.low ≤ℤ pos 18446744073709551615)

-- no further from 0 than a sum of so many numbers of 128 bits
abbrev pub IsWithin : ℕ → ℤ → Type 0
IsWithin k z = (neg_ℤ (pos (k * 2 ^ 127)) ≤ℤ z) × (z ≤ℤ pos (k * 2 ^ 127))
