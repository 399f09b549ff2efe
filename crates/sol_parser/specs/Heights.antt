-- How many levels a file has.
use Rattle.std.specs.Prelude.{ℕ, ◌+◌, max, List, [], ◌∷◌, map, Option, Some, None}
use Rattle.sol_tree.specs.declared.stmt.Block.{Block}
use Rattle.sol_tree.specs.declared.file.File.{File}
use Rattle.sol_tree.specs.declared.file.Unit as units
use Rattle.sol_tree.specs.declared.file.Unit.TheVariants as unit
use Rattle.sol_tree.specs.declared.file.Base.{Base}
use Rattle.sol_tree.specs.declared.file.Member.{Member}
use Rattle.sol_tree.specs.declared.file.Member.TheVariants as member
use Rattle.sol_tree.specs.declared.file.Var.{Var}
use Rattle.sol_tree.specs.declared.file.Param.{Param}
use Rattle.sol_tree.specs.declared.file.FunSpecifier.{FunSpecifier}
use Rattle.sol_tree.specs.declared.file.FunSpecifier.TheVariants as funspecifier
use Rattle.sol_tree.specs.declared.file.Fun.{Fun}
use Rattle.sol_tree.specs.declared.file.ConstructorSpecifier.{ConstructorSpecifier}
use Rattle.sol_tree.specs.declared.file.ConstructorSpecifier.TheVariants as ctorspecifier
use Rattle.sol_tree.specs.declared.file.Constructor.{Constructor}
use Rattle.sol_tree.specs.declared.file.Modifier.{Modifier}
use Rattle.sol_tree.specs.declared.file.EventParam.{EventParam}
use Rattle.sol_tree.specs.declared.file.Event.{Event}
use Rattle.sol_tree.specs.declared.file.Error.{Error}
use Rattle.sol_parse_expr.specs.Heights.{type_height, greatest}
use Rattle.sol_parse_stmt.specs.Heights.{arguments_height, initial_height, block_height}

-- the greatest of what the elements have
abbrev pub greatest_by : {A : Type 0} → (A → ℕ) → List A → ℕ
greatest_by f xs = greatest (map f xs)

abbrev pub may_by : {A : Type 0} → (A → ℕ) → Option A → ℕ
may_by f None = 0
may_by f (Some x) = f x

abbrev pub base_height : Base → ℕ
base_height b = may_by arguments_height b.arguments

abbrev pub param_height : Param → ℕ
param_height p = type_height p.ty

abbrev pub event_param_height : EventParam → ℕ
event_param_height p = type_height p.ty

abbrev pub fun_specifier_height : FunSpecifier → ℕ
fun_specifier_height (funspecifier.Public at) = 0
fun_specifier_height (funspecifier.External at) = 0
fun_specifier_height (funspecifier.Internal at) = 0
fun_specifier_height (funspecifier.Private at) = 0
fun_specifier_height (funspecifier.View at) = 0
fun_specifier_height (funspecifier.Pure at) = 0
fun_specifier_height (funspecifier.Virtual at) = 0
fun_specifier_height (funspecifier.Override at mark) = 0
fun_specifier_height (funspecifier.Base at base) = base_height base

abbrev pub constructor_specifier_height : ConstructorSpecifier → ℕ
constructor_specifier_height (ctorspecifier.Public at) = 0
constructor_specifier_height (ctorspecifier.Internal at) = 0
constructor_specifier_height (ctorspecifier.Base at base) = base_height base

abbrev pub var_height : Var → ℕ
var_height v = max (type_height v.ty) (initial_height v.initial) + 1

abbrev pub fun_height : Fun → ℕ
fun_height f = max (greatest_by param_height f.params) (max (greatest_by fun_specifier_height f.specifiers) (max (may_by param_height f.returns) (may_by block_height f.body))) + 1

abbrev pub constructor_height : Constructor → ℕ
constructor_height c = max (greatest_by param_height c.params) (max (greatest_by constructor_specifier_height c.specifiers) (block_height c.body)) + 1

abbrev pub modifier_height : Modifier → ℕ
modifier_height m = max (greatest_by param_height m.params) (may_by block_height m.body) + 1

abbrev pub event_height : Event → ℕ
event_height e = greatest_by event_param_height e.params + 1

abbrev pub error_height : Error → ℕ
error_height e = greatest_by param_height e.params + 1

-- a member is one level above the types, expressions and statements directly inside it
abbrev pub member_height : Member → ℕ
member_height (member.Var at v) = var_height v
member_height (member.Fun at f) = fun_height f
member_height (member.Constructor at c) = constructor_height c
member_height (member.Modifier at m) = modifier_height m
member_height (member.Event at e) = event_height e
member_height (member.Error at e) = error_height e

-- a contract is no level: its members and the expressions of its bases are at level 1, as are events and errors of the file
abbrev pub unit_height : units.Unit → ℕ
unit_height (unit.Contract at is_abstract name bases members) = max (greatest_by base_height bases) (greatest_by member_height members)
unit_height (unit.Interface at name bases members) = max (greatest_by base_height bases) (greatest_by member_height members)
unit_height (unit.Event at e) = event_height e
unit_height (unit.Error at e) = error_height e

-- how many levels a file has
abbrev pub file_height : File → ℕ
file_height f = greatest_by unit_height f.units
