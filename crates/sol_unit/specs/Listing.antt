-- Members by their names (Solidity's documentation, "Scoping and Declarations"). A constructor has no name, and a private member is
-- seen in its own unit alone.
use Rattle.std.specs.Prelude.{ℕ, List, [], ◌∷◌, ◌++◌, Option, Some, None, Bool, true, false, slice_get}
use Rattle.std.specs.List.{list_any}
use Rattle.std.specs.Option.{option_map_or}
use Rattle.sol_tree.specs.declared.file.Member.{Member}
use Rattle.sol_tree.specs.declared.file.Member.TheVariants as member
use Rattle.sol_tree.specs.declared.file.Unit as units
use Rattle.sol_tree.specs.declared.file.Var.{Var}
use Rattle.sol_tree.specs.declared.file.VarSpecifier.{VarSpecifier}
use Rattle.sol_tree.specs.declared.file.VarSpecifier.TheVariants as var_mark
use Rattle.sol_judged.specs.declared.tables.Meaning.{Meaning}
use Rattle.sol_judged.specs.Listed.{Listed}
use Rattle.sol_names.specs.Units.{members, is_private}

-- the name by which a member is found
abbrev pub name_of : Member → Option (List ℕ)
name_of (member.Var at v) = Some v.name.name
name_of (member.Fun at f) = Some f.name.name
name_of (member.Constructor at c) = None
name_of (member.Modifier at m) = Some m.name.name
name_of (member.Event at e) = Some e.name.name
name_of (member.Error at e) = Some e.name.name

abbrev pub is_private_mark : VarSpecifier → Bool
is_private_mark (var_mark.Private at) = true
is_private_mark _ = false

abbrev pub is_private_variable : Var → Bool
is_private_variable v = list_any is_private_mark v.specifiers

abbrev pub is_private_member : Member → Bool
is_private_member (member.Var at v) = is_private_variable v
is_private_member (member.Fun at f) = is_private f
is_private_member _ = false

-- one more entry for a name, if there is one
abbrev pub with_name : ℕ → Bool → Meaning → Option (List ℕ) → List Listed → List Listed
with_name u private what None ls = ls
with_name u private what (Some name) ls = ls ++ (record { name = name; unit = u; is_private = private; meaning = what }) ∷ []

-- one more entry for a member of the unit at a place
unfoldable pub with_member : ℕ → Member → Meaning → List Listed → List Listed
with_member u m what ls = with_name u (is_private_member m) what (name_of m) ls

-- the members of the unit at a place
abbrev pub members_at : List units.Unit → ℕ → List Member
members_at us u = option_map_or members (slice_get us u) []
