-- Numbers taken into a type, as Solidity's conversions and its arithmetic inside `unchecked` take them.
use Rattle.std.specs.Prelude.{ℕ, ◌-◌, ◌*◌, ◌^◌, ◌%◌, pos, ◌+ℤ◌, ◌-ℤ◌, ◌*ℤ◌, neg_ℤ, if◌then◌else◌, int_div, int_rem}
use lib.IntN.{ℤ, negsuc}
use Rattle.std.specs.Ordering.{int_eq}
use Rattle.chc_nums.specs.declared.Ty.{Ty}
use Rattle.chc_nums.specs.declared.Ty.TheVariants as ty
use Rattle.chc_nums.specs.declared.Op.{Op}
use Rattle.chc_nums.specs.declared.Op.TheVariants as op
use Rattle.chc_nums.specs.declared.Num.{Num}
use Rattle.chc_nums.specs.declared.Num.TheVariants as num

-- the number from 0 to m - 1 that differs from z by a multiple of m
abbrev pub modulo : ℤ → ℕ → ℕ
modulo (pos n) m = n % m
modulo (negsuc n) m = m - 1 - n % m

-- the number of a type that differs from z by a multiple of the number of the type's values
abbrev pub wrapped : Ty → ℤ → ℤ
wrapped ty.Bool z = pos (modulo z 2)
wrapped (ty.Uint s) z = pos (modulo z (2 ^ (8 * s)))
wrapped (ty.Int s) z = pos (modulo (z +ℤ pos (2 ^ (8 * s - 1))) (2 ^ (8 * s))) -ℤ pos (2 ^ (8 * s - 1))
wrapped ty.Addr z = pos (modulo z (2 ^ 96))

-- a result that is taken into its type, where the divisor is not 0
abbrev pub wrapped_by : Ty → ℤ → ℤ → Num
wrapped_by t b z = if int_eq b (pos 0) then num.ByZero else num.Value (wrapped t z)

-- the true result, taken into the type; a quotient is truncated towards zero, and a negation reads its first operand alone
abbrev pub unchecked : Op → Ty → ℤ → ℤ → Num
unchecked op.Add t a b = num.Value (wrapped t (a +ℤ b))
unchecked op.Sub t a b = num.Value (wrapped t (a -ℤ b))
unchecked op.Mul t a b = num.Value (wrapped t (a *ℤ b))
unchecked op.Div t a b = wrapped_by t b (int_div a b)
unchecked op.Rem t a b = wrapped_by t b (int_rem a b)
unchecked op.Neg t a b = num.Value (wrapped t (neg_ℤ a))
