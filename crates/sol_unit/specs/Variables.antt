-- State variables and constants (Solidity's documentation, "State Variables", "Constant and Immutable State Variables"). Scalars,
-- mappings and arrays are numbered each for themselves, and constants are none of them.
use Rattle.std.specs.Prelude.{ℕ, ◌+◌, List, [], ◌∷◌, ◌++◌, length, Option, Some, None, Bool, true, false}
use Rattle.std.specs.List.{list_any}
use Rattle.sol_tree.specs.declared.file.Var.{Var}
use Rattle.sol_tree.specs.declared.types.Type as types
use Rattle.sol_tree.specs.declared.types.Type.TheOpen.{Type-F}
use Rattle.sol_tree.specs.declared.types.Type.TheViews.{out-Type}
use Rattle.sol_judged.specs.declared.tables.Meaning.TheVariants as means
use Rattle.sol_judged.specs.declared.types.ValueType.{ValueType}
use Rattle.sol_judged.specs.Found.{blank}
use Rattle.sol_judged.specs.Settings.{Setting}
use Rattle.sol_declared.specs.declared.state_types.StateType.{StateType}
use Rattle.sol_declared.specs.declared.state_types.StateType.TheVariants as state
use Rattle.sol_declared.specs.Specifiers.{is_constant}
use Rattle.sol_unit.specs.declared.tables.Tables.{Tables}
use Rattle.sol_unit.specs.Reads.{Read, Readable, then_read, read_type}
use Rattle.sol_unit.specs.Added.{Added, added_if_read}

-- ---- what a variable holds

abbrev pub read_double : Setting → ValueType → types.Type → types.Type → Read StateType
read_double w k second value = then_read (read_type w second) (λ l. then_read (read_type w value) (λ v. Readable (state.Mapping k (Some l) v)))

abbrev pub read_single : Setting → ValueType → types.Type → Read StateType
read_single w k value = then_read (read_type w value) (λ v. Readable (state.Mapping k None v))

-- what a mapping has behind its first key: a value, or a second key and a value
abbrev pub read_behind_key : Setting → ValueType → types.Type → Type-F types.Type → Read StateType
read_behind_key w k whole (Type-F.Mapping at key key_name value value_name) = read_double w k key value
read_behind_key w k whole _ = read_single w k whole

abbrev pub read_mapping : Setting → types.Type → types.Type → Read StateType
read_mapping w key value = then_read (read_type w key) (λ k. read_behind_key w k value (out-Type value))

abbrev pub read_array : Setting → types.Type → Read StateType
read_array w element = then_read (read_type w element) (λ t. Readable (state.Array t))

abbrev pub read_value : Setting → types.Type → Read StateType
read_value w value = then_read (read_type w value) (λ t. Readable (state.Value t))

abbrev pub read_layer : Setting → types.Type → Type-F types.Type → Read StateType
read_layer w whole (Type-F.Array at element) = read_array w element
read_layer w whole (Type-F.Mapping at key key_name value value_name) = read_mapping w key value
read_layer w whole _ = read_value w whole

unfoldable pub read_state : Setting → types.Type → Read StateType
read_state w t = read_layer w t (out-Type t)

-- ---- what it adds

abbrev pub added_scalar : ValueType → Tables → Added Tables
added_scalar v t = record { meaning = means.Scalar t.scalars v; tables = record t { scalars = t.scalars + 1 } }

abbrev pub added_array : ValueType → Tables → Added Tables
added_array v t = record { meaning = means.Array t.arrays v; tables = record t { arrays = t.arrays + 1 } }

abbrev pub keys_of : ValueType → Option ValueType → List ValueType
keys_of k None = k ∷ []
keys_of k (Some l) = k ∷ l ∷ []

abbrev pub added_mapping : List ValueType → ValueType → Tables → Added Tables
added_mapping ks v t = record { meaning = means.Mapping (length t.maps); tables = record t { maps = t.maps ++ (record { keys = ks; value = v }) ∷ [] } }

-- a constant stands for a value of its type
abbrev pub added_constant : ValueType → Tables → Added Tables
added_constant v t = record { meaning = means.Constant (length t.constants); tables = record t { constants = t.constants ++ (record { ty = v; value = blank v }) ∷ [] } }

abbrev pub added_value : Bool → ValueType → Tables → Added Tables
added_value true v t = added_constant v t
added_value false v t = added_scalar v t

-- mappings and arrays are never constant
unfoldable pub added_state : Bool → StateType → Tables → Added Tables
added_state constant (state.Value v) t = added_value constant v t
added_state constant (state.Array v) t = added_array v t
added_state constant (state.Mapping k l v) t = added_mapping (keys_of k l) v t

unfoldable pub variable : Setting → Var → Tables → Added Tables
variable w v t = added_if_read (read_state w v.ty) (added_state (list_any is_constant v.specifiers)) t
