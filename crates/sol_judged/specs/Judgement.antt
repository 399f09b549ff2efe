-- What an expression is where it stands, and which faults it has: one line for each kind of expression.
use Rattle.std.specs.Prelude.{ℕ, List, pos}
use Rattle.chc_nums.specs.declared.typed.Ty.{Ty}
use Rattle.sol_tree.specs.declared.expr.BinaryOp.{BinaryOp}
use Rattle.sol_tree.specs.declared.expr.ExprTree.{ExprTree}
use Rattle.sol_tree.specs.declared.expr.ExprTree.TheOpen.{ExprTree-F}
use Rattle.sol_tree.specs.declared.expr.ExprTree.TheFolds.{fold-ExprTree}
use Rattle.sol_tree.specs.declared.types.Identifier.{Identifier}
use Rattle.sol_tree.specs.Places.{place_of}
use Rattle.sol_judged.specs.Settings.{Setting}
use Rattle.sol_judged.specs.Judged.{Judged, ◌>>=◌}
use Rattle.sol_judged.specs.Found.{Seen}
use Rattle.sol_judged.specs.LiteralNumbers.{written}
use Rattle.sol_judged.specs.Literals.{literal, parenthesised, truth_value}
use Rattle.sol_judged.specs.Names.{meaning_of}
use Rattle.sol_judged.specs.Naming.{named_at}
use Rattle.sol_judged.specs.Conditions.{inverted, choice}
use Rattle.sol_judged.specs.Arithmetic.{negated}
use Rattle.sol_judged.specs.Binary.{binary}
use Rattle.sol_judged.specs.Conversions.{converted}
use Rattle.sol_judged.specs.Indices.{indexed}
use Rattle.sol_judged.specs.Members.{message_member, super_member, member_of}
use Rattle.sol_judged.specs.TypeMembers.{type_member}
use Rattle.sol_judged.specs.Calls.{called}

-- ---- each kind of expression, from what its parts are, and the places of their first tokens

unfoldable pub of_parenthesised : ℕ → Judged Seen → Judged Seen
of_parenthesised at inner = inner >>= parenthesised at

unfoldable pub of_conversion : ℕ → Ty → ℕ → Judged Seen → Judged Seen
of_conversion opened ty first value = value >>= converted opened ty first

unfoldable pub of_index : Setting → ℕ → Judged Seen → ℕ → Judged Seen → Judged Seen
of_index w opened base first index = do
  b ← base
  i ← index
  indexed w opened b first i

unfoldable pub of_member : Setting → ℕ → Judged Seen → Identifier → Judged Seen
of_member w first base m = base >>= λ b. member_of w first b m

unfoldable pub of_call : Setting → ℕ → Judged Seen → List (ℕ × Judged Seen) → Judged Seen
of_call w opened callee arguments = callee >>= λ f. called w opened f arguments

unfoldable pub of_not : ℕ → ℕ → Judged Seen → Judged Seen
of_not at first operand = operand >>= inverted at first

unfoldable pub of_negation : Setting → ℕ → ℕ → Judged Seen → Judged Seen
of_negation w at first operand = operand >>= negated w.is_checked at first

unfoldable pub of_binary : Setting → BinaryOp → ℕ → ℕ → ℕ → Judged Seen → ℕ → Judged Seen → Judged Seen
of_binary w operator at operator_at left_first left right_first right = do
  a ← left
  b ← right
  binary operator w.is_checked at operator_at left_first right_first a b

unfoldable pub of_choice : ℕ → ℕ → Judged Seen → ℕ → Judged Seen → ℕ → Judged Seen → Judged Seen
of_choice question condition_first condition chosen_first chosen other_first otherwise = do
  c ← condition
  a ← chosen
  b ← otherwise
  choice question condition_first chosen_first other_first c a b

-- ---- an expression

-- from its parts: each the place of its first token, and what it is
unfoldable pub judge_step : Setting → ExprTree-F (ℕ × Judged Seen) → ℕ × Judged Seen
judge_step w (ExprTree-F.Number at value hex unit) = (at, literal at (written value hex unit))
judge_step w (ExprTree-F.True at) = (at, truth_value (pos 1))
judge_step w (ExprTree-F.False at) = (at, truth_value (pos 0))
judge_step w (ExprTree-F.Named at name) = (at, named_at w at (meaning_of w name))
judge_step w (ExprTree-F.Parenthesised at inner) = (at, of_parenthesised at inner.1)
judge_step w (ExprTree-F.Conversion at ty opened value) = (at, of_conversion opened ty value.0 value.1)
judge_step w (ExprTree-F.TypeMember at ty member) = (at, type_member w ty member)
judge_step w (ExprTree-F.MessageMember at member) = (at, message_member member)
judge_step w (ExprTree-F.SuperMember at member) = (at, super_member w member)
judge_step w (ExprTree-F.Index at base opened index) = (at, of_index w opened base.1 index.0 index.1)
judge_step w (ExprTree-F.Member at base member) = (at, of_member w base.0 base.1 member)
judge_step w (ExprTree-F.Call at callee opened arguments) = (at, of_call w opened callee.1 arguments)
judge_step w (ExprTree-F.Not at operand) = (at, of_not at operand.0 operand.1)
judge_step w (ExprTree-F.Negation at operand) = (at, of_negation w at operand.0 operand.1)
judge_step w (ExprTree-F.Binary at left operator_at operator right) = (at, of_binary w operator at operator_at left.0 left.1 right.0 right.1)
judge_step w (ExprTree-F.Choice at condition question chosen otherwise) = (at, of_choice question condition.0 condition.1 chosen.0 chosen.1 otherwise.0 otherwise.1)

unfoldable pub judge : Setting → ExprTree → Judged Seen
judge w e = (fold-ExprTree (ℕ × Judged Seen) (judge_step w) e).1

-- an expression as an argument: the place of its first token, and what it is
abbrev pub placed : Setting → ExprTree → ℕ × Judged Seen
placed w e = (place_of e, judge w e)
