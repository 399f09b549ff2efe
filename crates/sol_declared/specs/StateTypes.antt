-- Types of state variables: values, arrays of values, and mappings with one or two keys (Solidity's documentation, "Mapping Types",
-- "Arrays"). Where a part isn't allowed, rule 2 is broken at the part and at the first token of the whole, and a name in a type
-- breaks rules 1 and 2 by itself.
use Rattle.std.specs.Prelude.{ℕ, List, [], ◌∷◌, ◌++◌, Option, Some, None, Bool, true, false, ◌||◌, if◌then◌else◌}
use Rattle.sol_tree.specs.declared.types.Type as types
use Rattle.sol_tree.specs.declared.types.Type.TheOpen.{Type-F}
use Rattle.sol_tree.specs.declared.types.Type.TheViews.{out-Type}
use Rattle.sol_tree.specs.Places.{type_place_of}
use Rattle.sol_judged.specs.declared.rules.Rule.{Rule}
use Rattle.sol_judged.specs.declared.rules.Rule.TheVariants as rule
use Rattle.sol_judged.specs.Settings.{Setting}
use Rattle.sol_judged.specs.Judged.{Judged, sound, broken, ◌>>=◌}
use Rattle.sol_stated.specs.Contexts.{Typed, OfType, Mistyped}
use Rattle.sol_stated.specs.ValueTypes.{value_type}
use Rattle.sol_declared.specs.declared.state_types.StateType.{StateType}
use Rattle.sol_declared.specs.declared.state_types.StateType.TheVariants as state

abbrev pub is_type_rule : Rule → Bool
is_type_rule rule.DeclaredType = true
is_type_rule _ = false

abbrev pub has_type_fault : List (Rule × ℕ) → Bool
has_type_fault [] = false
has_type_fault (f ∷ fs) = is_type_rule f.0 || has_type_fault fs

-- where rule 2 is broken at a part, it is at the first token of the whole too
abbrev pub also_whole : {A : Type 0} → ℕ → Judged A → Judged A
also_whole at j = record { found = j.found; faults = j.faults ++ (if has_type_fault j.faults then (rule.DeclaredType, at) ∷ [] else []) }

abbrev pub as_value : Typed → Option StateType
as_value (OfType t) = Some (state.Value t)
as_value (Mistyped broken_rule place) = None

abbrev pub as_array : Typed → Option StateType
as_array (OfType t) = Some (state.Array t)
as_array (Mistyped broken_rule place) = None

abbrev pub as_mapping : Typed → Typed → Option StateType
as_mapping (OfType k) (OfType v) = Some (state.Mapping k None v)
as_mapping _ _ = None

abbrev pub as_double : Typed → Typed → Typed → Option StateType
as_double (OfType k) (OfType l) (OfType v) = Some (state.Mapping k (Some l) v)
as_double _ _ _ = None

-- the value behind two keys; a third key breaks the rule too
abbrev pub second_value : Setting → types.Type → Type-F types.Type → Judged Typed
second_value w whole (Type-F.Mapping at key key_name value value_name) = value_type w whole >>= λ v. broken rule.DeclaredType (type_place_of key) v
second_value w whole _ = value_type w whole

abbrev pub double_mapping : Setting → Typed → types.Type → types.Type → Judged (Option StateType)
double_mapping w k second value = do
  l ← value_type w second
  v ← second_value w value (out-Type value)
  sound (as_double k l v)

abbrev pub single_mapping : Setting → Typed → types.Type → Judged (Option StateType)
single_mapping w k value = value_type w value >>= λ v. sound (as_mapping k v)

-- what a mapping has behind its first key: a value, or a second key and a value
abbrev pub behind_key : Setting → Typed → types.Type → Type-F types.Type → Judged (Option StateType)
behind_key w k whole (Type-F.Mapping at key key_name value value_name) = double_mapping w k key value
behind_key w k whole _ = single_mapping w k whole

abbrev pub mapping : Setting → types.Type → types.Type → Judged (Option StateType)
mapping w key value = value_type w key >>= λ k. behind_key w k value (out-Type value)

abbrev pub array : Setting → types.Type → Judged (Option StateType)
array w element = value_type w element >>= λ t. sound (as_array t)

abbrev pub value : Setting → types.Type → Judged (Option StateType)
value w t = value_type w t >>= λ v. sound (as_value v)

abbrev pub state_layer : Setting → types.Type → Type-F types.Type → Judged (Option StateType)
state_layer w whole (Type-F.Array at element) = array w element
state_layer w whole (Type-F.Mapping at key key_name value value_name) = mapping w key value
state_layer w whole _ = value w whole

unfoldable pub state_type : Setting → types.Type → Judged (Option StateType)
state_type w t = also_whole (type_place_of t) (state_layer w t (out-Type t))
