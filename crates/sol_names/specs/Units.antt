-- What the units of a file and their members are called, and which bases a unit lists.
use Rattle.std.specs.Prelude.{ℕ, List, [], codes, Bool, true, false, not, ◌&&◌, Option, Some, None, is_some, if◌then◌else◌}
use Rattle.std.specs.List.{list_any}
use Rattle.sol_tree.specs.declared.types.Identifier.{Identifier}
use Rattle.sol_tree.specs.declared.file.Unit as units
use Rattle.sol_tree.specs.declared.file.Unit.TheVariants as unit
use Rattle.sol_tree.specs.declared.file.Base.{Base}
use Rattle.sol_tree.specs.declared.file.Member.{Member}
use Rattle.sol_tree.specs.declared.file.Member.TheVariants as member
use Rattle.sol_tree.specs.declared.file.VarSpecifier.{VarSpecifier}
use Rattle.sol_tree.specs.declared.file.VarSpecifier.TheVariants as varspecifier
use Rattle.sol_tree.specs.declared.file.Var.{Var}
use Rattle.sol_tree.specs.declared.file.FunSpecifier.{FunSpecifier}
use Rattle.sol_tree.specs.declared.file.FunSpecifier.TheVariants as funspecifier
use Rattle.sol_tree.specs.declared.file.Fun.{Fun}

-- a contract or an interface
abbrev pub is_contract : units.Unit → Bool
is_contract (unit.Contract at a n bs ms) = true
is_contract (unit.Interface at n bs ms) = true
is_contract (unit.Event at e) = false
is_contract (unit.Error at e) = false

abbrev pub is_interface : units.Unit → Bool
is_interface (unit.Contract at a n bs ms) = false
is_interface (unit.Interface at n bs ms) = true
is_interface (unit.Event at e) = false
is_interface (unit.Error at e) = false

-- a contract that is neither abstract nor an interface
abbrev pub is_concrete : units.Unit → Bool
is_concrete (unit.Contract at a n bs ms) = not a
is_concrete (unit.Interface at n bs ms) = false
is_concrete (unit.Event at e) = false
is_concrete (unit.Error at e) = false

abbrev pub unit_name : units.Unit → Identifier
unit_name (unit.Contract at a n bs ms) = n
unit_name (unit.Interface at n bs ms) = n
unit_name (unit.Event at e) = e.name
unit_name (unit.Error at e) = e.name

abbrev pub bases : units.Unit → List Base
bases (unit.Contract at a n bs ms) = bs
bases (unit.Interface at n bs ms) = bs
bases (unit.Event at e) = []
bases (unit.Error at e) = []

abbrev pub members : units.Unit → List Member
members (unit.Contract at a n bs ms) = ms
members (unit.Interface at n bs ms) = ms
members (unit.Event at e) = []
members (unit.Error at e) = []

-- a constructor's name is its word, which is the name of nothing else
abbrev pub member_name : Member → Identifier
member_name (member.Var at v) = v.name
member_name (member.Fun at f) = f.name
member_name (member.Constructor at c) = record { at = at; name = codes "constructor" }
member_name (member.Modifier at m) = m.name
member_name (member.Event at e) = e.name
member_name (member.Error at e) = e.name

-- ---- specifiers

abbrev pub is_private_specifier : FunSpecifier → Bool
is_private_specifier (funspecifier.Public at) = false
is_private_specifier (funspecifier.External at) = false
is_private_specifier (funspecifier.Internal at) = false
is_private_specifier (funspecifier.Private at) = true
is_private_specifier (funspecifier.View at) = false
is_private_specifier (funspecifier.Pure at) = false
is_private_specifier (funspecifier.Virtual at) = false
is_private_specifier (funspecifier.Override at m) = false
is_private_specifier (funspecifier.Base at b) = false

abbrev pub is_private : Fun → Bool
is_private f = list_any is_private_specifier f.specifiers

abbrev pub is_public_specifier : VarSpecifier → Bool
is_public_specifier (varspecifier.Public at) = true
is_public_specifier (varspecifier.Internal at) = false
is_public_specifier (varspecifier.Private at) = false
is_public_specifier (varspecifier.Constant at) = false
is_public_specifier (varspecifier.Immutable at) = false
is_public_specifier (varspecifier.Override at m) = false

abbrev pub is_public : Var → Bool
is_public v = list_any is_public_specifier v.specifiers

-- ---- what a member gives to more general contracts

-- the name of a function that has a body and isn't private
abbrev pub implemented : Member → Option (List ℕ)
implemented (member.Var at v) = None
implemented (member.Fun at f) = if is_some f.body && not (is_private f) then Some f.name.name else None
implemented (member.Constructor at c) = None
implemented (member.Modifier at m) = None
implemented (member.Event at e) = None
implemented (member.Error at e) = None

-- the name of a public variable
abbrev pub exposed : Member → Option (List ℕ)
exposed (member.Var at v) = if is_public v then Some v.name.name else None
exposed (member.Fun at f) = None
exposed (member.Constructor at c) = None
exposed (member.Modifier at m) = None
exposed (member.Event at e) = None
exposed (member.Error at e) = None
