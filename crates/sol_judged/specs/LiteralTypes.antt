-- The types that a literal takes.
use Rattle.std.specs.Prelude.{ℕ, zero, suc, ◌+◌, Option, Some, None, Bool, true, false, not, ◌&&◌, if◌then◌else◌, pos}
use lib.IntN.{ℤ}
use lib.Signed.{lt_z}
use Rattle.chc_nums.specs.declared.typed.Ty.{Ty}
use Rattle.chc_nums.specs.declared.typed.Ty.TheVariants as ty
use Rattle.chc_nums.specs.Types.{least, greatest}
use Rattle.sol_judged.specs.declared.types.ValueType.{ValueType}
use Rattle.sol_judged.specs.declared.types.ValueType.TheVariants as type
use Rattle.sol_judged.specs.Types.{is_integer_type}

-- a number is one of an integer type
unfoldable pub fits_elementary : Ty → ℤ → Bool
fits_elementary t z = is_integer_type t && (not (lt_z z (least t)) && not (lt_z (greatest t) z))

-- a literal fits a type
abbrev pub fits : ValueType → ℤ → Bool
fits (type.Elementary t) z = fits_elementary t z
fits (type.Interface i) z = false

abbrev pub sized : Bool → ℕ → Ty
sized true n = ty.Int n
sized false n = ty.Uint n

-- the first type that a literal fits, of so many sizes from one on
unfoldable pub smallest_of : Bool → ℕ → ℕ → ℤ → Option ValueType
smallest_of signed zero n z = None
smallest_of signed (suc k) n z = if fits_elementary (sized signed n) z then Some (type.Elementary (sized signed n)) else smallest_of signed k (n + 1) z

-- the smallest type that holds a literal, the unsigned one where both would
abbrev pub smallest : ℤ → Option ValueType
smallest z = smallest_of (lt_z z (pos 0)) 12 1 z

-- the type that a literal takes beside an operand of a type: that type if it fits, else its smallest one
abbrev pub adopted : Option ValueType → ℤ → Option ValueType
adopted None z = smallest z
adopted (Some t) z = if fits t z then Some t else smallest z
