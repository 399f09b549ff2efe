-- Numbers of 128 bits with a sign, and results that stop where they leave them.
use Rattle.std.specs.Prelude.{◌≤ℤ◌, Option, Some, None, pos, ◌+ℤ◌, ◌*ℤ◌, neg_ℤ, Bool, not, ◌&&◌, if◌then◌else◌, ◌^◌, int_div}
use lib.IntN.{ℤ}
use lib.Signed.{lt_z}
use Rattle.std.specs.Ordering.{int_eq}
use Rattle.chc_nums.specs.Values.{with_value}

-- whether a number has 128 bits
unfoldable pub fits_128 : ℤ → Bool
fits_128 z = not (lt_z z (neg_ℤ (pos (2 ^ 127)))) && lt_z z (pos (2 ^ 127))

-- a number that has 128 bits, or none
unfoldable pub in_128 : ℤ → Option ℤ
in_128 z = if fits_128 z then Some z else None

-- one product more, or none where the product or the sum leaves 128 bits
abbrev pub add_product : ℤ → ℤ → ℤ → Option ℤ
add_product s a b = with_value (in_128 (a *ℤ b)) (λ p. in_128 (s +ℤ p))

-- x, where a can be divided by b: b is not 0, and the quotient has 128 bits
unfoldable pub divided : ℤ → ℤ → ℤ → Option ℤ
divided a b x = if int_eq b (pos 0) then None else (if fits_128 (int_div a b) then Some x else None)

-- no further from 0 than 2^63, so that a product of two such numbers has 128 bits
abbrev pub IsShort : ℤ → Type 0
IsShort z = (neg_ℤ (pos (2 ^ 63)) ≤ℤ z) × (z ≤ℤ pos (2 ^ 63))
