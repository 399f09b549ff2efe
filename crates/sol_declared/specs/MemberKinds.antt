-- Which members a unit may have (Solidity's documentation, "Interfaces", "Abstract Contracts"). Rule 26 is broken at a member's
-- first token and at its name; a constructor has no name.
use Rattle.std.specs.Prelude.{ℕ, Option, Some, None, Bool, true, false, ◌&&◌, if◌then◌else◌}
use Rattle.sol_tree.specs.declared.file.Member.{Member}
use Rattle.sol_tree.specs.declared.file.Member.TheVariants as member
use Rattle.sol_tree.specs.declared.stmt.Block.{Block}
use Rattle.sol_judged.specs.declared.rules.Rule.TheVariants as rule
use Rattle.sol_judged.specs.Judged.{broken_both}
use Rattle.sol_stated.specs.Checks.{Check, pass, fail}
use Rattle.sol_declared.specs.declared.kinds.UnitKind.{UnitKind}
use Rattle.sol_declared.specs.declared.kinds.UnitKind.TheVariants as unit
use Rattle.sol_declared.specs.Specifiers.{is_there, is_external}

abbrev pub misplaced_member : ℕ → ℕ → Check
misplaced_member at name_at = broken_both rule.MemberKind at rule.MemberKind name_at tt

abbrev pub has_no_body : Option Block → Bool
has_no_body None = true
has_no_body (Some b) = false

-- an interface has functions that are external and have no body, events and errors
abbrev pub interface_member : Member → Check
interface_member (member.Var at v) = misplaced_member at v.name.at
interface_member (member.Fun at f) = if has_no_body f.body && is_there is_external f.specifiers then pass else misplaced_member at f.name.at
interface_member (member.Constructor at f) = fail rule.MemberKind at
interface_member (member.Modifier at m) = misplaced_member at m.name.at
interface_member (member.Event at e) = pass
interface_member (member.Error at e) = pass

-- a contract that isn't abstract has no function without a body
abbrev pub concrete_member : Member → Check
concrete_member (member.Fun at f) = if has_no_body f.body then misplaced_member at f.name.at else pass
concrete_member _ = pass

abbrev pub member_kind : UnitKind → Member → Check
member_kind unit.Interface m = interface_member m
member_kind unit.Abstract m = pass
member_kind unit.Concrete m = concrete_member m
