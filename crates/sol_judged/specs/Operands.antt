-- Expressions as operands, and as values of a type that is wanted.
use Rattle.std.specs.Prelude.{ℕ, Option, Some, None, Bool, ◌||◌, not, if◌then◌else◌}
use lib.IntN.{ℤ}
use Rattle.sol_core.specs.declared.program.Expr.{Expr, Num}
use Rattle.sol_judged.specs.declared.rules.Rule.{Rule}
use Rattle.sol_judged.specs.declared.rules.Rule.TheVariants as rule
use Rattle.sol_judged.specs.declared.types.ValueType.{ValueType}
use Rattle.sol_judged.specs.declared.findings.Found.TheVariants as is
use Rattle.sol_judged.specs.declared.findings.Call.TheVariants as call
use Rattle.sol_judged.specs.declared.findings.Value.{Value}
use Rattle.sol_judged.specs.declared.findings.Pair.{Pair}
use Rattle.sol_judged.specs.Judged.{Judged, sound, broken, broken_both, ◌>>=◌}
use Rattle.sol_judged.specs.Types.{program_type, common, widens, is_integer}
use Rattle.sol_judged.specs.LiteralTypes.{fits, smallest, adopted}
use Rattle.sol_judged.specs.Found.{Seen, Known, Spoilt, Unknown, lost, blank, read, cast_to, misnamed, call_value}

-- the type that a call returns
abbrev pub call_type : call.the_data → Option ValueType
call_type (call.Inner n es t view) = t
call_type (call.Outer n e es t) = t
call_type (call.Push a e) = None
call_type (call.Pop a at) = None

-- the type of an operand, where the other one is a literal
abbrev pub type_of : Seen → Option ValueType
type_of (Known (is.Literal z)) = smallest z
type_of (Known (is.Value name t e)) = Some t
type_of (Known (is.Place name t p)) = Some t
type_of (Known (is.Call opened c)) = call_type c
type_of _ = None

-- a literal as a value of a type; without a type of at most 96 bits it breaks rule 13 at its first token, and another rule at
-- a place, since nothing takes it
abbrev pub number : Rule → ℕ → ℕ → ℤ → Option ValueType → Judged (Option Value)
number broken_rule at first z None = broken_both rule.LiteralType first broken_rule at None
number broken_rule at first z (Some t) = sound (Some (record { ty = t; expr = Num z (program_type t) }))

-- An operand as a value. A literal takes the other operand's type if it fits, else its smallest one. A mapping or an array
-- breaks a rule at a place.
unfoldable pub side : Rule → ℕ → Option ValueType → ℕ → Seen → Judged (Option Value)
side broken_rule at other first (Known (is.Literal z)) = number broken_rule at first z (adopted other z)
side broken_rule at other first (Known (is.Value name t e)) = sound (Some (record { ty = t; expr = e }))
side broken_rule at other first (Known (is.Place name t p)) = sound (Some (record { ty = t; expr = read p }))
side broken_rule at other first (Known (is.Mapping name m es)) = broken broken_rule at None
side broken_rule at other first (Known (is.Array name_at a t)) = broken broken_rule at None
side broken_rule at other first (Known (is.Thing name_at t)) = misnamed name_at t
side broken_rule at other first (Known (is.Outer name_at n e)) = broken_both rule.Naming name_at rule.Member name_at None
side broken_rule at other first (Known (is.Call opened c)) = call_value opened c
side broken_rule at other first Spoilt = lost
side broken_rule at other first Unknown = lost

-- ---- two operands

-- two values in their common type, which has to be an integer type where that is wanted
abbrev pub in_common : Rule → ℕ → Bool → Option ValueType → Value → Value → Judged (Option Pair)
in_common broken_rule at integers None x y = broken broken_rule at None
in_common broken_rule at integers (Some t) x y = if not integers || is_integer t then sound (Some (record { ty = t; left = cast_to x.ty t x.expr; right = cast_to y.ty t y.expr })) else broken broken_rule at None

-- one operand alone breaks the rule too
abbrev pub alone : Rule → ℕ → Bool → Value → Judged (Option Pair)
alone broken_rule at integers x = if not integers || is_integer x.ty then lost else broken broken_rule at None

abbrev pub joined : Rule → ℕ → Bool → Option Value → Option Value → Judged (Option Pair)
joined broken_rule at integers (Some x) (Some y) = in_common broken_rule at integers (common x.ty y.ty) x y
joined broken_rule at integers (Some x) None = alone broken_rule at integers x
joined broken_rule at integers None (Some y) = alone broken_rule at integers y
joined broken_rule at integers None None = lost

-- two operands in their common type; else a rule is broken at a place
unfoldable pub pair : Rule → ℕ → Bool → ℕ → ℕ → Seen → Seen → Judged (Option Pair)
pair broken_rule at integers left_first right_first a b = do
  x ← side broken_rule at (type_of b) left_first a
  y ← side broken_rule at (type_of a) right_first b
  joined broken_rule at integers x y

-- ---- a value of a type that is wanted

-- a literal that doesn't fit the type that is wanted
abbrev pub unfit : Rule → ℕ → ValueType → ℕ → Option ValueType → Judged Expr
unfit broken_rule at t first None = broken_both rule.LiteralType first broken_rule at (blank t)
unfit broken_rule at t first (Some other) = broken broken_rule at (blank t)

abbrev pub number_in : Rule → ℕ → ValueType → ℕ → ℤ → Judged Expr
number_in broken_rule at t first z = if fits t z then sound (Num z (program_type t)) else unfit broken_rule at t first (smallest z)

abbrev pub widened : Rule → ℕ → ValueType → Option Value → Judged Expr
widened broken_rule at t (Some v) = if widens v.ty t then sound (cast_to v.ty t v.expr) else broken broken_rule at (blank t)
widened broken_rule at t None = sound (blank t)

-- an expression where a value of a type is wanted; else a rule is broken at a place
unfoldable pub wanted : Rule → ℕ → ValueType → ℕ → Seen → Judged Expr
wanted broken_rule at t first (Known (is.Literal z)) = number_in broken_rule at t first z
wanted broken_rule at t first s = side broken_rule at None first s >>= widened broken_rule at t
