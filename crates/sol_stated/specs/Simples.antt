-- What may stand before a `;` and in the head of a `for`. Rule 28, and those of each form.
use Rattle.std.specs.Prelude.{ℕ, None, Bool, true, false}
use Rattle.sol_tree.specs.declared.expr.ExprTree.{ExprTree}
use Rattle.sol_tree.specs.declared.expr.ExprTree.TheOpen.{ExprTree-F}
use Rattle.sol_tree.specs.declared.expr.ExprTree.TheFolds.{fold-ExprTree}
use Rattle.sol_tree.specs.declared.stmt.Simple.{Simple}
use Rattle.sol_tree.specs.declared.stmt.Simple.TheVariants as simple
use Rattle.sol_tree.specs.Places.{place_of}
use Rattle.sol_judged.specs.declared.rules.Rule.TheVariants as rule
use Rattle.sol_judged.specs.declared.findings.Found.TheVariants as is
use Rattle.sol_judged.specs.Settings.{Setting}
use Rattle.sol_judged.specs.Judged.{Judged, sound, ◌>>=◌}
use Rattle.sol_judged.specs.Found.{Seen, Known, Unknown}
use Rattle.sol_judged.specs.Operands.{side}
use Rattle.sol_judged.specs.Judgement.{judge}
use Rattle.sol_stated.specs.declared.scope.Scope.{Scope}
use Rattle.sol_stated.specs.Checks.{Check, pass, fail}
use Rattle.sol_stated.specs.Contexts.{Context, setting_in}
use Rattle.sol_stated.specs.Targets.{stepped, deleted, assignment}
use Rattle.sol_stated.specs.Declarations.{declaration}

-- by its form an expression is a call, also in parentheses
abbrev pub call_form_step : ExprTree-F Bool → Bool
call_form_step (ExprTree-F.Call at callee opened arguments) = true
call_form_step (ExprTree-F.Parenthesised at inner) = inner
call_form_step _ = false

abbrev pub has_call_form : ExprTree → Bool
has_call_form e = fold-ExprTree Bool call_form_step e

-- where nothing can be told of an expression, its form may tell that it is no call
abbrev pub unknown_statement : ℕ → Bool → Check
unknown_statement first true = pass
unknown_statement first false = fail rule.Statement first

-- an expression that stands alone is a call, a push or a pop; else rule 28 is broken at its first token, and as a value it may
-- break others
unfoldable pub alone : ExprTree → Seen → Check
alone e (Known (is.Call opened c)) = pass
alone e Unknown = unknown_statement (place_of e) (has_call_form e)
alone e s = fail rule.Statement (place_of e) >>= λ u. side rule.Statement (place_of e) None (place_of e) s >>= λ v. pass

unfoldable pub expression : Setting → ExprTree → Check
expression w e = judge w e >>= alone e

-- the scope goes on as it was
abbrev pub staying : Scope → Check → Judged Scope
staying w j = j >>= λ u. sound w

unfoldable pub judge_simple : Context → Simple → Scope → Judged Scope
judge_simple c (simple.Declaration at ty name initial) w = declaration c ty name initial w
judge_simple c (simple.Assignment at target operator_at operator value) w = staying w (assignment (setting_in c w) target operator operator_at value)
judge_simple c (simple.StepAfter at target operator_at operator) w = staying w (stepped (setting_in c w) target)
judge_simple c (simple.StepBefore at operator target) w = staying w (stepped (setting_in c w) target)
judge_simple c (simple.Delete at target) w = staying w (deleted (setting_in c w) target)
judge_simple c (simple.Expression at expr) w = staying w (expression (setting_in c w) expr)
