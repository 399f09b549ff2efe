-- Explicit conversions, to an elementary type or to an interface (Solidity's documentation, "Explicit Conversions"). Rule 11.
use Rattle.std.specs.Prelude.{ℕ, Option, Some, None, Bool, false, not, ◌&&◌, if◌then◌else◌, pos}
use lib.IntN.{ℤ}
use lib.Signed.{lt_z}
use Rattle.chc_nums.specs.declared.typed.Ty.{Ty}
use Rattle.chc_nums.specs.declared.typed.Ty.TheVariants as ty
use Rattle.chc_nums.specs.Types.{greatest}
use Rattle.sol_core.specs.declared.program.Expr.{Expr, Num}
use Rattle.sol_judged.specs.declared.rules.Rule.TheVariants as rule
use Rattle.sol_judged.specs.declared.types.ValueType.TheVariants as type
use Rattle.sol_judged.specs.declared.findings.Found.TheVariants as is
use Rattle.sol_judged.specs.declared.findings.Value.{Value}
use Rattle.sol_judged.specs.Judged.{Judged, sound, broken, ◌>>=◌}
use Rattle.sol_judged.specs.Types.{program_type, converts, becomes_interface}
use Rattle.sol_judged.specs.LiteralTypes.{fits_elementary, smallest}
use Rattle.sol_judged.specs.Found.{Seen, Known, blank, value, cast}
use Rattle.sol_judged.specs.Operands.{side, unfit}

-- a literal may be converted to a type: to an integer type that it fits, or to `address` from 0 to 2^96 - 1
abbrev pub literal_converts : Ty → ℤ → Bool
literal_converts ty.Bool z = false
literal_converts (ty.Uint n) z = fits_elementary (ty.Uint n) z
literal_converts (ty.Int n) z = fits_elementary (ty.Int n) z
literal_converts ty.Addr z = not (lt_z z (pos 0)) && not (lt_z (greatest ty.Addr) z)

abbrev pub literal_to : ℕ → Ty → ℕ → ℤ → Judged Expr
literal_to opened t first z = if literal_converts t z then sound (Num z t) else unfit rule.Conversion opened (type.Elementary t) first (smallest z)

abbrev pub converted_to : ℕ → Ty → Option Value → Judged Expr
converted_to opened t None = sound (blank (type.Elementary t))
converted_to opened t (Some v) = if converts v.ty t then sound (cast (program_type v.ty) t v.expr) else broken rule.Conversion opened (blank (type.Elementary t))

unfoldable pub converted_value : ℕ → Ty → ℕ → Seen → Judged Expr
converted_value opened t first (Known (is.Literal z)) = literal_to opened t first z
converted_value opened t first s = side rule.Conversion opened None first s >>= converted_to opened t

-- a conversion to an elementary type; else rule 11 is broken at the `(`
unfoldable pub converted : ℕ → Ty → ℕ → Seen → Judged Seen
converted opened t first s = converted_value opened t first s >>= λ e. sound (value (type.Elementary t) e)

abbrev pub interface_from : ℕ → ℕ → Option Value → Judged Seen
interface_from opened i None = sound (value (type.Interface i) (blank (type.Interface i)))
interface_from opened i (Some v) = if becomes_interface v.ty then sound (value (type.Interface i) v.expr) else broken rule.Conversion opened (value (type.Interface i) (blank (type.Interface i)))

-- a conversion to an interface, whose values are addresses; else rule 11 is broken at the `(`. No literal is converted.
unfoldable pub interface_of : ℕ → ℕ → ℕ → Seen → Judged Seen
interface_of opened i first (Known (is.Literal z)) = broken rule.Conversion opened (value (type.Interface i) (blank (type.Interface i)))
interface_of opened i first s = side rule.Conversion opened None first s >>= interface_from opened i
