-- Which contract of a file is checked, in which order it has its bases, and why there may be none. Names mean units of the
-- file; the C3 linearization is that of the Solidity documentation, section "Multiple Inheritance and Linearization".
use Rattle.std.specs.Prelude.{◌≡◌, ℕ, suc, List, [], ◌∷◌, ◌++◌, map, reverse, Option, Some, None, is_some, Result, Ok, Err, slice_get, Bool, true, false, not, ◌&&◌, ◌||◌, bytes_eq, if◌then◌else◌}
use Rattle.std.specs.List.{list_any, filter_map, flat_map, position_from}
use Rattle.std.specs.Option.{option_map_or, option_or}
use Rattle.sol_tree.specs.declared.types.Identifier.{Identifier}
use Rattle.sol_tree.specs.declared.file.Unit as units
use Rattle.sol_tree.specs.declared.file.Base.{Base}
use Rattle.sol_tree.specs.declared.file.Member.{Member}
use Rattle.sol_tree.specs.declared.file.Member.TheVariants as member
use Rattle.sol_names.specs.declared.fault.NameFault.{NameFault}
use Rattle.sol_names.specs.declared.fault.NameFault.TheVariants as fault
use Rattle.sol_names.specs.declared.lineage.Lineage.{Lineage}
use Rattle.sol_names.specs.Units.{is_contract, is_interface, is_concrete, unit_name, bases, members, member_name, is_private, implemented, exposed}
use Rattle.sol_names.specs.Linearization.{Linearizes}
use Rattle.sol_names.specs.Least.{least_in}

-- ---- names that stand twice

abbrev pub is_called : List ℕ → Identifier → Bool
is_called name i = bytes_eq i.name name

-- the places of names that an earlier one is equal to, where some stand before
abbrev pub repeated_after : List Identifier → List Identifier → List ℕ
repeated_after before [] = []
repeated_after before (i ∷ is) = (if list_any (is_called i.name) before then i.at ∷ [] else []) ++ repeated_after (before ++ i ∷ []) is

abbrev pub repeated : List Identifier → List ℕ
repeated is = repeated_after [] is

-- two units of the file, or two members of one unit, functions of one name included
abbrev pub named_twice : List units.Unit → List ℕ
named_twice us = repeated (map unit_name us) ++ flat_map (λ u. repeated (map member_name (members u))) us

-- ---- what names mean

abbrev pub is_contract_of : List ℕ → units.Unit → Bool
is_contract_of name u = is_contract u && bytes_eq (unit_name u).name name

-- the place of the contract or interface of a name
abbrev pub contract_named : List ℕ → List units.Unit → Option ℕ
contract_named name us = position_from (is_contract_of name) 0 us

-- the place of the last contract that is neither abstract nor an interface, where the first unit has this place
abbrev pub last_concrete : ℕ → List units.Unit → Option ℕ
last_concrete k [] = None
last_concrete k (u ∷ us) = option_or (last_concrete (suc k) us) (if is_concrete u then Some k else None)

-- the contract to check: the one that is named, or else the last
abbrev pub chosen : Option (List ℕ) → List units.Unit → Option ℕ
chosen (Some name) us = contract_named name us
chosen None us = last_concrete 0 us

-- ---- bases

-- the places of bases that name no contract and no interface
abbrev pub unknown_among : List units.Unit → List Base → List ℕ
unknown_among us bs = flat_map (λ b. if is_some (contract_named b.name.name us) then [] else b.name.at ∷ []) bs

abbrev pub unknown_of : List units.Unit → units.Unit → List ℕ
unknown_of us u = unknown_among us (bases u)

abbrev pub unknown_bases : List units.Unit → List ℕ
unknown_bases us = flat_map (unknown_of us) us

-- the places of the units that are bases of a unit, the last base first
abbrev pub base_places : List units.Unit → units.Unit → List ℕ
base_places us u = reverse (filter_map (λ b. contract_named b.name.name us) (bases u))

abbrev pub base_graph : List units.Unit → List (List ℕ)
base_graph us = map (base_places us) us

-- ---- functions that have no body anywhere

-- a member gives this name
abbrev pub gives : (Member → Option (List ℕ)) → List ℕ → Member → Bool
gives f name m = option_map_or (λ n. bytes_eq n name) (f m) false

-- a member of the unit at a place does
abbrev pub given_at : List units.Unit → (Member → Option (List ℕ)) → List ℕ → ℕ → Bool
given_at us f name w = option_map_or (λ u. list_any (gives f name) (members u)) (slice_get us w) false

-- one of the units at these places has a body for a function of this name; or the function is an interface's, and one of them
-- has a public variable that stands for it
abbrev pub is_supplied : List units.Unit → List ℕ → units.Unit → List ℕ → Bool
is_supplied us before u name = list_any (given_at us implemented name) before || (is_interface u && list_any (given_at us exposed name) before)

-- a function of a unit has no body, and none of the units at these places supplies it; a private one is supplied by none
abbrev pub is_missing : List units.Unit → List ℕ → units.Unit → Member → Bool
is_missing us before u (member.Var at v) = false
is_missing us before u (member.Fun at f) = not (is_some f.body) && (is_private f || not (is_supplied us before u f.name.name))
is_missing us before u (member.Constructor at c) = false
is_missing us before u (member.Modifier at m) = false
is_missing us before u (member.Event at e) = false
is_missing us before u (member.Error at e) = false

abbrev pub misses : List units.Unit → List ℕ → units.Unit → Bool
misses us before u = list_any (is_missing us before u) (members u)

-- some unit at the later places has a function that is missing, where those before it are more derived
abbrev pub misses_after : List units.Unit → List ℕ → List ℕ → Bool
misses_after us before [] = false
misses_after us before (v ∷ vs) = option_map_or (misses us before) (slice_get us v) false || misses_after us (before ++ v ∷ []) vs

-- the contract at a place can't be deployed: it is abstract or an interface, or a function of its linearization is missing
abbrev pub is_abstract : List units.Unit → ℕ → List ℕ → Bool
is_abstract us u order = not (option_map_or is_concrete (slice_get us u) false) || misses_after us [] order

-- ---- the whole

-- where the name of the unit at a place stands
abbrev pub name_place : List units.Unit → ℕ → ℕ
name_place us u = option_map_or (λ w. (unit_name w).at) (slice_get us u) 0

-- no name stands twice, this contract is chosen, and every base is known
pub record IsReady (us : List units.Unit) (name : Option (List ℕ)) (u : ℕ) : Type 0 where
  pub once : least_in (named_twice us) ≡ None
  pub choice : chosen name us ≡ Some u
  pub known : least_in (unknown_bases us) ≡ None

-- the linearization of the chosen contract, which can be deployed; or the first cause why there is none
abbrev pub Orders : List units.Unit → Option (List ℕ) → Result Lineage NameFault → Type 0
Orders us name (Ok l) = (u : ℕ) × IsReady us name u × Linearizes (base_graph us) u l.units × (is_abstract us u l.units ≡ false)
Orders us name (Err (fault.TwiceNamed at)) = least_in (named_twice us) ≡ Some at
Orders us name (Err fault.NoContract) = (least_in (named_twice us) ≡ None) × (chosen name us ≡ None)
Orders us name (Err (fault.UnknownBase at)) = (u : ℕ) × (least_in (named_twice us) ≡ None) × (chosen name us ≡ Some u) × (least_in (unknown_bases us) ≡ Some at)
Orders us name (Err (fault.NoOrder at)) = (u : ℕ) × IsReady us name u × ((o : List ℕ) → Linearizes (base_graph us) u o → ⊥) × (at ≡ name_place us u)
Orders us name (Err (fault.Abstract at)) = (u : ℕ) × (o : List ℕ) × IsReady us name u × Linearizes (base_graph us) u o × (is_abstract us u o ≡ true) × (at ≡ name_place us u)
Orders us name (Err fault.NoMemory) = Unit {0}
