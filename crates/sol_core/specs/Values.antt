-- Types and the numbers in them, as tests.
use Rattle.std.specs.Prelude.{ℕ, ◌^◌, List, [], ◌∷◌, Option, Some, None, pos, Bool, true, false, not, ◌&&◌, ◌==◌, nat_le}
use Rattle.std.specs.List.{list_all}
use lib.IntN.{ℤ}
use lib.Signed.{lt_z}
use Rattle.chc_nums.specs.declared.Ty.{Ty}
use Rattle.chc_nums.specs.declared.Ty.TheVariants as ty
use Rattle.chc_nums.specs.Types.{least, greatest}

-- from 1 to 12 bytes
abbrev pub is_size : ℕ → Bool
is_size s = nat_le 1 s && nat_le s 12

-- a type of a size that Solidity has
abbrev pub is_type : Ty → Bool
is_type ty.Bool = true
is_type (ty.Uint s) = is_size s
is_type (ty.Int s) = is_size s
is_type ty.Addr = true

abbrev pub is_integer : Ty → Bool
is_integer ty.Bool = false
is_integer (ty.Uint s) = is_size s
is_integer (ty.Int s) = is_size s
is_integer ty.Addr = false

abbrev pub is_unsigned : Ty → Bool
is_unsigned ty.Bool = false
is_unsigned (ty.Uint s) = is_size s
is_unsigned (ty.Int s) = false
is_unsigned ty.Addr = false

abbrev pub same_type : Ty → Ty → Bool
same_type ty.Bool ty.Bool = true
same_type (ty.Uint m) (ty.Uint n) = m == n
same_type (ty.Int m) (ty.Int n) = m == n
same_type ty.Addr ty.Addr = true
same_type _ _ = false

-- a value of the first type converts implicitly to the second: it is the same, or an integer type of its sign and no smaller
abbrev pub widens : Ty → Ty → Bool
widens ty.Bool ty.Bool = true
widens (ty.Uint m) (ty.Uint n) = nat_le m n
widens (ty.Int m) (ty.Int n) = nat_le m n
widens ty.Addr ty.Addr = true
widens _ _ = false

-- a number lies in a type
abbrev pub in_range : Ty → ℤ → Bool
in_range t z = not (lt_z z (least t)) && not (lt_z (greatest t) z)

-- from 1 to 2^96 - 1
abbrev pub is_sender : ℤ → Bool
is_sender z = not (lt_z z (pos 1)) && lt_z z (pos (2 ^ 96))

-- as many numbers as types, each in its type
abbrev pub takes : List Ty → List ℤ → Bool
takes [] [] = true
takes [] (z ∷ zs) = false
takes (t ∷ ts) [] = false
takes (t ∷ ts) (z ∷ zs) = in_range t z && takes ts zs

abbrev pub each : List Bool → Bool
each bs = list_all (λ b. b) bs
