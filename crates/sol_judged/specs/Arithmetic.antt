-- `+ - * / % **` and unary `-`, of literals or of integers of a common type, with the targets of each operation. Rules 3, 12
-- and 14.
use Rattle.std.specs.Prelude.{ℕ, Option, Some, None, Bool, true, false, ◌&&◌, if◌then◌else◌, pos, ◌+ℤ◌, ◌-ℤ◌, ◌*ℤ◌, neg_ℤ}
use lib.IntN.{ℤ}
use Rattle.chc_nums.specs.declared.typed.Op.{Op}
use Rattle.chc_nums.specs.declared.typed.Op.TheVariants as op
use Rattle.chc_nums.specs.Values.{with_value}
use Rattle.sol_core.specs.declared.program.Expr.{Expr}
use Rattle.sol_core.specs.declared.program.Expr as expr
use Rattle.sol_core.specs.declared.program.PanicSites.{PanicSites}
use Rattle.sol_judged.specs.declared.rules.Rule.TheVariants as rule
use Rattle.sol_judged.specs.declared.types.ValueType.{ValueType}
use Rattle.sol_judged.specs.declared.findings.Found.TheVariants as is
use Rattle.sol_judged.specs.declared.findings.Value.{Value}
use Rattle.sol_judged.specs.declared.findings.Pair.{Pair}
use Rattle.sol_judged.specs.Judged.{Judged, sound, broken, ◌>>=◌}
use Rattle.sol_judged.specs.Types.{program_type, is_signed}
use Rattle.sol_judged.specs.LiteralNumbers.{whole, exact_quotient, exact_remainder, exact_power}
use Rattle.sol_judged.specs.Found.{Seen, Known, Spoilt, Unknown, value}
use Rattle.sol_judged.specs.Operands.{side, pair}
use Rattle.sol_judged.specs.Literals.{literal, literals}

abbrev pub site_if : Bool → ℕ → Option ℕ
site_if true at = Some at
site_if false at = None

-- where an operation on numbers of a type panics, each target at the place of the operator
abbrev pub sites_of : Op → Bool → Bool → ℕ → PanicSites
sites_of op.Add signed checked at = record { under = site_if (checked && signed) at; over = site_if checked at; zero = None }
sites_of op.Sub signed checked at = record { under = site_if checked at; over = site_if (checked && signed) at; zero = None }
sites_of op.Mul signed checked at = record { under = site_if (checked && signed) at; over = site_if checked at; zero = None }
sites_of op.Div signed checked at = record { under = None; over = site_if (checked && signed) at; zero = Some at }
sites_of op.Rem signed checked at = record { under = None; over = None; zero = Some at }
sites_of op.Neg signed checked at = record { under = None; over = site_if checked at; zero = None }

-- the exact result of two numbers, or none where it isn't one that a literal may have
abbrev pub exact : Op → ℤ → ℤ → Option ℤ
exact op.Add a b = whole (a +ℤ b)
exact op.Sub a b = whole (a -ℤ b)
exact op.Mul a b = whole (a *ℤ b)
exact op.Div a b = exact_quotient a b
exact op.Rem a b = exact_remainder a b
exact op.Neg a b = whole (neg_ℤ a)

abbrev pub operation : Op → Bool → ℕ → ValueType → Expr → Expr → Expr
operation o checked at t a b = expr.Arith o (program_type t) checked a b (sites_of o (is_signed t) checked at)

abbrev pub computed : Op → Bool → ℕ → Option Pair → Judged Seen
computed o checked at None = sound Unknown
computed o checked at (Some p) = sound (value p.ty (operation o checked at p.ty p.left p.right))

abbrev pub arithmetic_by : Option (Option (ℤ × ℤ)) → Op → Bool → ℕ → ℕ → ℕ → ℕ → Seen → Seen → Judged Seen
arithmetic_by (Some zs) o checked first at left_first right_first a b = literal first (with_value zs (λ z. exact o z.0 z.1))
arithmetic_by None o checked first at left_first right_first a b = pair rule.Operands at true left_first right_first a b >>= computed o checked at

-- `+ - * / %`: of two literals, or of integers of a common type
unfoldable pub arithmetic : Op → Bool → ℕ → ℕ → ℕ → ℕ → Seen → Seen → Judged Seen
arithmetic o checked first at left_first right_first a b = arithmetic_by (literals a b) o checked first at left_first right_first a b

abbrev pub power_by : Option (Option (ℤ × ℤ)) → ℕ → ℕ → Judged Seen
power_by (Some zs) first at = literal first (with_value zs (λ z. exact_power z.0 z.1))
power_by None first at = broken rule.Operands at Unknown

-- `**`: of two literals
unfoldable pub power : ℕ → ℕ → Seen → Seen → Judged Seen
power first at a b = power_by (literals a b) first at

abbrev pub negative : Bool → ℕ → Option Value → Judged Seen
negative checked at None = sound Unknown
negative checked at (Some v) = if is_signed v.ty then sound (value v.ty (operation op.Neg checked at v.ty v.expr (expr.Num (pos 0) (program_type v.ty)))) else broken rule.Negation at Unknown

-- `-` before a literal, or before a value of a signed type
unfoldable pub negated : Bool → ℕ → ℕ → Seen → Judged Seen
negated checked at first (Known (is.Literal z)) = literal at (whole (neg_ℤ z))
negated checked at first Spoilt = literal at None
negated checked at first s = side rule.Negation at None first s >>= negative checked at
