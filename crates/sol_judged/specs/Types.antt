-- Which types go together (Solidity's documentation, "Conversions between Elementary Types").
use Rattle.std.specs.Prelude.{ℕ, max, Option, Some, None, Bool, true, false, not, ◌&&◌, nat_lt, ◌==◌, if◌then◌else◌}
use Rattle.std.specs.Option.{option_map}
use Rattle.chc_nums.specs.declared.typed.Ty.{Ty}
use Rattle.chc_nums.specs.declared.typed.Ty.TheVariants as ty
use Rattle.sol_judged.specs.declared.types.ValueType.{ValueType}
use Rattle.sol_judged.specs.declared.types.ValueType.TheVariants as type

-- what holds the values of a type in a program: an interface's are addresses
abbrev pub program_type : ValueType → Ty
program_type (type.Elementary t) = t
program_type (type.Interface i) = ty.Addr

-- ---- elementary types

abbrev pub same_elementary : Ty → Ty → Bool
same_elementary ty.Bool ty.Bool = true
same_elementary (ty.Uint m) (ty.Uint n) = m == n
same_elementary (ty.Int m) (ty.Int n) = m == n
same_elementary ty.Addr ty.Addr = true
same_elementary _ _ = false

-- the wider one of two integer types of one sign, or a type that is both
abbrev pub common_elementary : Ty → Ty → Option Ty
common_elementary ty.Bool ty.Bool = Some ty.Bool
common_elementary (ty.Uint m) (ty.Uint n) = Some (ty.Uint (max m n))
common_elementary (ty.Int m) (ty.Int n) = Some (ty.Int (max m n))
common_elementary ty.Addr ty.Addr = Some ty.Addr
common_elementary _ _ = None

-- the same sign and no smaller width, or the same type
abbrev pub widens_elementary : Ty → Ty → Bool
widens_elementary ty.Bool ty.Bool = true
widens_elementary (ty.Uint m) (ty.Uint n) = not (nat_lt n m)
widens_elementary (ty.Int m) (ty.Int n) = not (nat_lt n m)
widens_elementary ty.Addr ty.Addr = true
widens_elementary _ _ = false

-- the sign or the width of an integer changes, not both
abbrev pub converts_elementary : Ty → Ty → Bool
converts_elementary (ty.Uint m) (ty.Uint n) = true
converts_elementary (ty.Int m) (ty.Int n) = true
converts_elementary (ty.Uint m) (ty.Int n) = m == n
converts_elementary (ty.Int m) (ty.Uint n) = m == n
converts_elementary _ _ = false

abbrev pub is_size : ℕ → Bool
is_size n = nat_lt 0 n && nat_lt n 13

-- ---- types of values

abbrev pub is_same : ValueType → ValueType → Bool
is_same (type.Elementary a) (type.Elementary b) = same_elementary a b
is_same (type.Interface i) (type.Interface j) = i == j
is_same _ _ = false

-- the type that two operands have together: that of the wider integer of one sign, or the type of both
abbrev pub common : ValueType → ValueType → Option ValueType
common (type.Elementary a) (type.Elementary b) = option_map type.Elementary (common_elementary a b)
common (type.Interface i) (type.Interface j) = if i == j then Some (type.Interface i) else None
common _ _ = None

-- a value of the first type converts implicitly to the second
abbrev pub widens : ValueType → ValueType → Bool
widens (type.Elementary a) (type.Elementary b) = widens_elementary a b
widens (type.Interface i) (type.Interface j) = i == j
widens _ _ = false

-- a value of a type may be converted to an elementary one: an integer to an integer, and an interface to `address`
abbrev pub converts : ValueType → Ty → Bool
converts (type.Elementary a) t = converts_elementary a t
converts (type.Interface i) ty.Addr = true
converts (type.Interface i) _ = false

-- a value of a type may be converted to an interface: an address, or an interface
abbrev pub becomes_interface : ValueType → Bool
becomes_interface (type.Elementary ty.Addr) = true
becomes_interface (type.Elementary _) = false
becomes_interface (type.Interface i) = true

abbrev pub is_integer_type : Ty → Bool
is_integer_type ty.Bool = false
is_integer_type (ty.Uint n) = is_size n
is_integer_type (ty.Int n) = is_size n
is_integer_type ty.Addr = false

abbrev pub is_integer : ValueType → Bool
is_integer (type.Elementary t) = is_integer_type t
is_integer (type.Interface i) = false

abbrev pub is_unsigned : ValueType → Bool
is_unsigned (type.Elementary (ty.Uint n)) = is_size n
is_unsigned _ = false

abbrev pub is_signed : ValueType → Bool
is_signed (type.Elementary (ty.Int n)) = is_size n
is_signed _ = false

abbrev pub is_bool : ValueType → Bool
is_bool (type.Elementary ty.Bool) = true
is_bool _ = false
