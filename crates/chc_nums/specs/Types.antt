-- The ranges of types, and what a checked operation gives.
use Rattle.std.specs.Prelude.{ℕ, ◌-◌, ◌*◌, ◌^◌, ◌≤◌, pos, ◌+ℤ◌, ◌-ℤ◌, ◌*ℤ◌, ◌≤ℤ◌, neg_ℤ, if◌then◌else◌, int_div, int_rem, unsigned_abs, ◌<◌, ◌≡◌}
use lib.IntN.{ℤ}
use lib.Signed.{lt_z}
use Rattle.std.specs.Ordering.{int_eq}
use Rattle.chc_nums.specs.declared.typed.Ty.{Ty}
use Rattle.chc_nums.specs.declared.typed.Ty.TheVariants as ty
use Rattle.chc_nums.specs.declared.typed.Op.{Op}
use Rattle.chc_nums.specs.declared.typed.Op.TheVariants as op
use Rattle.chc_nums.specs.declared.typed.Num.{Num}
use Rattle.chc_nums.specs.declared.typed.Num.TheVariants as num

abbrev pub IsSize : ℕ → Type 0
IsSize s = (1 ≤ s) × (s ≤ 12)

abbrev pub IsType : Ty → Type 0
IsType ty.Bool = Unit {0}
IsType (ty.Uint s) = IsSize s
IsType (ty.Int s) = IsSize s
IsType ty.Addr = Unit {0}

abbrev pub IsInteger : Ty → Type 0
IsInteger ty.Bool = ⊥
IsInteger (ty.Uint s) = IsSize s
IsInteger (ty.Int s) = IsSize s
IsInteger ty.Addr = ⊥

abbrev pub least : Ty → ℤ
least ty.Bool = pos 0
least (ty.Uint s) = pos 0
least (ty.Int s) = neg_ℤ (pos (2 ^ (8 * s - 1)))
least ty.Addr = pos 0

abbrev pub greatest : Ty → ℤ
greatest ty.Bool = pos 1
greatest (ty.Uint s) = pos (2 ^ (8 * s) - 1)
greatest (ty.Int s) = pos (2 ^ (8 * s - 1) - 1)
greatest ty.Addr = pos (2 ^ 96 - 1)

abbrev pub InRange : Ty → ℤ → Type 0
InRange t z = (least t ≤ℤ z) × (z ≤ℤ greatest t)

-- where a number lies against a type's range
unfoldable pub placed : Ty → ℤ → Num
placed t z = if lt_z z (least t) then num.Under else (if lt_z (greatest t) z then num.Over else num.Value z)

abbrev pub by : Ty → ℤ → ℤ → Num
by t b z = if int_eq b (pos 0) then num.ByZero else placed t z

-- the true result, where it lies in the type; a quotient is truncated towards zero, and a negation reads its first operand alone
abbrev pub judged : Op → Ty → ℤ → ℤ → Num
judged op.Add t a b = placed t (a +ℤ b)
judged op.Sub t a b = placed t (a -ℤ b)
judged op.Mul t a b = placed t (a *ℤ b)
judged op.Div t a b = by t b (int_div a b)
judged op.Rem t a b = by t b (int_rem a b)
judged op.Neg t a b = placed t (neg_ℤ a)

-- q is a by b, truncated towards zero, and r is what it leaves, with the sign of a
abbrev pub Truncated : ℤ → ℤ → ℤ → ℤ → Type 0
Truncated a b q r = ((q *ℤ b) +ℤ r ≡ a) × (unsigned_abs r < unsigned_abs b) × (pos 0 ≤ℤ a → pos 0 ≤ℤ r) × (a ≤ℤ pos 0 → r ≤ℤ pos 0)
