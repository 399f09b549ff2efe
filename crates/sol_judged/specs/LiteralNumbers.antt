-- Numbers of literal expressions: whole, and below 2^127 in absolute value.
use Rattle.std.specs.Prelude.{ℕ, zero, suc, ◌^◌, pos, ◌*ℤ◌, Option, Some, None, Bool, true, false, nat_lt, if◌then◌else◌, int_div, int_rem, unsigned_abs}
use lib.IntN.{ℤ, negsuc}
use Rattle.std.specs.Ordering.{int_eq}
use Rattle.chc_nums.specs.Values.{with_value}
use Rattle.sol_tree.specs.declared.expr.NumberUnit.{NumberUnit}
use Rattle.sol_tree.specs.Units.{multiplier}

-- a number that a part of a literal expression may have, or none
unfoldable pub whole : ℤ → Option ℤ
whole z = if nat_lt (unsigned_abs z) (2 ^ 127) then Some z else None

-- a number as it is written; a unit doesn't follow a hexadecimal one
abbrev pub written : ℤ → Bool → Option NumberUnit → Option ℤ
written z hex None = whole z
written z true (Some unit) = None
written z false (Some unit) = with_value (whole z) (λ x. whole (x *ℤ pos (multiplier unit)))

-- the exact quotient, where it is whole
unfoldable pub exact_quotient : ℤ → ℤ → Option ℤ
exact_quotient a b = if int_eq b (pos 0) then None else (if int_eq (int_rem a b) (pos 0) then whole (int_div a b) else None)

-- what a quotient leaves, with the sign of the left operand
unfoldable pub exact_remainder : ℤ → ℤ → Option ℤ
exact_remainder a b = if int_eq b (pos 0) then None else whole (int_rem a b)

unfoldable pub power_of : ℤ → ℕ → ℤ
power_of a zero = pos 1
power_of a (suc n) = a *ℤ power_of a n

-- a power, whose exponent isn't negative
unfoldable pub exact_power : ℤ → ℤ → Option ℤ
exact_power a (pos n) = whole (power_of a n)
exact_power a (negsuc n) = None
