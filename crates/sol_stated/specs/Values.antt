-- Conditions, and values that are assigned or returned whole: there a call may stand that is neither view nor pure. Rules 4, 6,
-- 10 and 17.
use Rattle.std.specs.Prelude.{ℕ, Option, Some, None}
use Rattle.sol_core.specs.declared.program.Expr.{Expr}
use Rattle.sol_tree.specs.declared.expr.ExprTree.{ExprTree}
use Rattle.sol_tree.specs.Places.{place_of}
use Rattle.sol_judged.specs.declared.rules.Rule.{Rule}
use Rattle.sol_judged.specs.declared.rules.Rule.TheVariants as rule
use Rattle.sol_judged.specs.declared.types.ValueType.{ValueType}
use Rattle.sol_judged.specs.declared.findings.Found.TheVariants as is
use Rattle.sol_judged.specs.Settings.{Setting}
use Rattle.sol_judged.specs.Judged.{Judged, ◌>>=◌}
use Rattle.sol_judged.specs.Types.{widens}
use Rattle.sol_judged.specs.Found.{Seen, Known}
use Rattle.sol_judged.specs.Operands.{call_type, side, wanted}
use Rattle.sol_judged.specs.Conditions.{truth}
use Rattle.sol_judged.specs.Judgement.{judge}
use Rattle.sol_stated.specs.Checks.{Check, pass, fail, check}
use Rattle.sol_stated.specs.Contexts.{Typed, OfType, Mistyped}

-- a condition is `bool`; else rule 4 is broken at its first token
unfoldable pub condition : Setting → ExprTree → Judged Expr
condition w e = judge w e >>= truth (place_of e) (place_of e)

-- a call's value where one of a type is wanted; without a value rule 10 is broken at the `(`
abbrev pub call_of_type : Rule → ℕ → ValueType → ℕ → Option ValueType → Check
call_of_type broken_rule at t opened None = fail rule.CallPlace opened
call_of_type broken_rule at t opened (Some r) = check (widens r t) broken_rule at

-- a whole value of a type that is wanted; else a rule is broken at a place
unfoldable pub whole_value : Rule → ℕ → ValueType → ℕ → Seen → Check
whole_value broken_rule at t first (Known (is.Call opened c)) = call_of_type broken_rule at t opened (call_type c)
whole_value broken_rule at t first s = wanted broken_rule at t first s >>= λ e. pass

abbrev pub call_with_value : ℕ → Option ValueType → Check
call_with_value opened None = fail rule.CallPlace opened
call_with_value opened (Some r) = pass

-- a whole value where it is not known what is wanted
abbrev pub any_value : Rule → ℕ → ℕ → Seen → Check
any_value broken_rule at first (Known (is.Call opened c)) = call_with_value opened (call_type c)
any_value broken_rule at first s = side broken_rule at None first s >>= λ v. pass

abbrev pub value_for : Rule → ℕ → Typed → ℕ → Seen → Check
value_for broken_rule at (OfType t) first s = whole_value broken_rule at t first s
value_for broken_rule at (Mistyped other place) first s = any_value broken_rule at first s

-- an expression as a whole value for what is declared of a type; else a rule is broken at a place
unfoldable pub value_in : Setting → Rule → ℕ → Typed → ExprTree → Check
value_in w broken_rule at t e = judge w e >>= value_for broken_rule at t (place_of e)
