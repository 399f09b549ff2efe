-- Members: `length`, `push` and `pop` of an array, `sender` of `msg`, `min` and `max` of an integer type, and functions of an
-- interface, of `super` and of a base. Rule 16.
use Rattle.std.specs.Prelude.{ℕ, Option, Some, None, true, bytes_eq, codes, if◌then◌else◌}
use Rattle.chc_nums.specs.declared.typed.Ty.{Ty}
use Rattle.chc_nums.specs.declared.typed.Ty.TheVariants as ty
use Rattle.chc_nums.specs.Types.{least, greatest}
use Rattle.sol_core.specs.declared.program.Expr.{Expr, Num, Sender, Len}
use Rattle.sol_tree.specs.declared.types.Identifier.{Identifier}
use Rattle.sol_judged.specs.declared.rules.Rule.TheVariants as rule
use Rattle.sol_judged.specs.declared.types.ValueType.{ValueType}
use Rattle.sol_judged.specs.declared.types.ValueType.TheVariants as type
use Rattle.sol_judged.specs.declared.tables.Meaning.{Meaning}
use Rattle.sol_judged.specs.declared.tables.Meaning.TheVariants as means
use Rattle.sol_judged.specs.Settings.{Setting}
use Rattle.sol_judged.specs.declared.findings.Found.TheVariants as is
use Rattle.sol_judged.specs.declared.findings.Thing.TheVariants as thing
use Rattle.sol_judged.specs.declared.findings.Value.{Value}
use Rattle.sol_judged.specs.Judged.{Judged, sound, broken, broken_both, ◌>>=◌}
use Rattle.sol_judged.specs.Types.{is_integer_type}
use Rattle.sol_judged.specs.Found.{Seen, Known, Spoilt, Unknown, value}
use Rattle.sol_judged.specs.Operands.{side}
use Rattle.sol_judged.specs.Names.{has, order_of, super_named, seen_by, outer_named}

-- a member that its base doesn't have
abbrev pub no_member : Identifier → Judged Seen
no_member m = broken rule.Member m.at Unknown

-- ---- of `msg` and of types

-- `msg.sender`
unfoldable pub message_member : Identifier → Judged Seen
message_member m = if bytes_eq m.name (codes "sender") then sound (value (type.Elementary ty.Addr) Sender) else no_member m

abbrev pub bound_of : Ty → Identifier → Judged Seen
bound_of t m = if bytes_eq m.name (codes "min") then sound (value (type.Elementary t) (Num (least t) t)) else (if bytes_eq m.name (codes "max") then sound (value (type.Elementary t) (Num (greatest t) t)) else no_member m)

-- `type(T).min` and `type(T).max` of an integer type
unfoldable pub elementary_member : Ty → Identifier → Judged Seen
elementary_member t m = if is_integer_type t then bound_of t m else no_member m

-- ---- of `super` and bases

-- a function that is named as a member
abbrev pub function_member : Identifier → Option Meaning → Judged Seen
function_member m None = no_member m
function_member m (Some (means.Function f)) = sound (Known (is.Thing m.at (thing.Function f true)))
function_member m (Some (means.Faulty broken_rule place)) = broken broken_rule place Unknown
function_member m (Some _) = no_member m

-- `super.f`
unfoldable pub super_member : Setting → Identifier → Judged Seen
super_member w m = function_member m (super_named w.declared w.unit m.name)

-- `B.f`, where B is in the linearization of the unit around; else rule 1 is broken at its name, and rule 16 at the member
unfoldable pub unit_member : Setting → ℕ → ℕ → Identifier → Judged Seen
unit_member w at u m = if has (order_of w.declared w.unit) u then function_member m (seen_by w.declared u m.name) else broken_both rule.Naming at rule.Member m.at Unknown

-- ---- of values

-- a member of an array; `push` and `pop` wait for their call
unfoldable pub array_member : ℕ → ValueType → Identifier → Judged Seen
array_member a t m = if bytes_eq m.name (codes "length") then sound (Known (is.Value (Some m.at) (type.Elementary (ty.Uint 12)) (Len a))) else (if bytes_eq m.name (codes "push") then sound (Known (is.Thing m.at (thing.Push a t))) else (if bytes_eq m.name (codes "pop") then sound (Known (is.Thing m.at (thing.Pop a))) else no_member m))

abbrev pub outer_member : Identifier → Expr → Option Meaning → Judged Seen
outer_member m e None = no_member m
outer_member m e (Some (means.Outer f)) = sound (Known (is.Outer m.at f e))
outer_member m e (Some (means.Faulty broken_rule place)) = broken broken_rule place Unknown
outer_member m e (Some _) = no_member m

abbrev pub member_by_type : Setting → Identifier → ValueType → Expr → Judged Seen
member_by_type w m (type.Elementary t) e = no_member m
member_by_type w m (type.Interface i) e = outer_member m e (outer_named w.declared i m.name)

-- a function of the interface that a value is of
abbrev pub value_member : Setting → Identifier → Option Value → Judged Seen
value_member w m None = sound Unknown
value_member w m (Some v) = member_by_type w m v.ty v.expr

unfoldable pub other_member : Setting → ℕ → Identifier → Seen → Judged Seen
other_member w first m s = side rule.Member m.at None first s >>= value_member w m

-- a member of what stands before the `.`; else rule 16 is broken at its name
unfoldable pub member_of : Setting → ℕ → Seen → Identifier → Judged Seen
member_of w first (Known (is.Array name_at a t)) m = array_member a t m
member_of w first (Known (is.Thing at (thing.Contract u))) m = unit_member w at u m
member_of w first (Known (is.Thing at (thing.Interface u))) m = unit_member w at u m
member_of w first (Known (is.Literal z)) m = no_member m
member_of w first Spoilt m = no_member m
member_of w first s m = other_member w first m s
