-- Initial values of state variables and constants: they read literals, constants and `msg.sender` alone, and a constant has one.
-- Operators, choices, conversions and bounds of types read nothing more. Rules 6 and 22.
use Rattle.std.specs.Prelude.{List, [], ◌∷◌, Option, Some, None, Bool, true, false, not, ◌&&◌}
use Rattle.sol_tree.specs.declared.expr.ExprTree.{ExprTree}
use Rattle.sol_tree.specs.declared.expr.ExprTree.TheOpen.{ExprTree-F}
use Rattle.sol_tree.specs.declared.expr.ExprTree.TheFolds.{fold-ExprTree}
use Rattle.sol_tree.specs.declared.expr.Initial.{Initial}
use Rattle.sol_tree.specs.declared.file.Var.{Var}
use Rattle.sol_tree.specs.Places.{place_of}
use Rattle.sol_judged.specs.declared.rules.Rule.TheVariants as rule
use Rattle.sol_judged.specs.declared.tables.Meaning.{Meaning}
use Rattle.sol_judged.specs.declared.tables.Meaning.TheVariants as means
use Rattle.sol_judged.specs.Settings.{Setting}
use Rattle.sol_judged.specs.Judged.{◌>>=◌}
use Rattle.sol_judged.specs.Names.{meaning_of}
use Rattle.sol_judged.specs.Judgement.{judge}
use Rattle.sol_stated.specs.Checks.{Check, fail, check}
use Rattle.sol_stated.specs.Contexts.{OfType}
use Rattle.sol_stated.specs.Values.{any_value, value_in}
use Rattle.sol_declared.specs.declared.state_types.StateType.{StateType}
use Rattle.sol_declared.specs.declared.state_types.StateType.TheVariants as state
use Rattle.sol_declared.specs.Specifiers.{is_there, is_constant}

-- ---- what an initial value reads

-- a name reads a variable. What a name without a meaning would read is not known.
abbrev pub reads_variable : Option Meaning → Bool
reads_variable (Some (means.Local i t)) = true
reads_variable (Some (means.Scalar i t)) = true
reads_variable (Some (means.Mapping m)) = true
reads_variable (Some (means.Array a t)) = true
reads_variable _ = false

-- a name is that of a contract or an interface, before the `(` of a conversion
abbrev pub names_unit : Option Meaning → Bool
names_unit (Some (means.Contract u)) = true
names_unit (Some (means.Interface u)) = true
names_unit _ = false

-- Of an expression: whether it reads no more than it may, and whether it is the name of a unit.
pub record Reading : Type 0 where
  pub is_little : Bool
  pub is_unit : Bool

abbrev pub little : Bool → Reading
little b = record { is_little = b; is_unit = false }

abbrev pub all_little : List Reading → Bool
all_little [] = true
all_little (r ∷ rs) = r.is_little && all_little rs

abbrev pub reading_step : Setting → ExprTree-F Reading → Reading
reading_step w (ExprTree-F.Number at value hex unit) = little true
reading_step w (ExprTree-F.True at) = little true
reading_step w (ExprTree-F.False at) = little true
reading_step w (ExprTree-F.Named at name) = record { is_little = not (reads_variable (meaning_of w name)); is_unit = names_unit (meaning_of w name) }
reading_step w (ExprTree-F.Parenthesised at inner) = inner
reading_step w (ExprTree-F.Conversion at ty opened value) = little value.is_little
reading_step w (ExprTree-F.TypeMember at ty member) = little true
reading_step w (ExprTree-F.MessageMember at member) = little true
reading_step w (ExprTree-F.SuperMember at member) = little false
reading_step w (ExprTree-F.Index at base opened index) = little false
reading_step w (ExprTree-F.Member at base member) = little false
reading_step w (ExprTree-F.Call at callee opened arguments) = little (callee.is_unit && all_little arguments)
reading_step w (ExprTree-F.Not at operand) = little operand.is_little
reading_step w (ExprTree-F.Negation at operand) = little operand.is_little
reading_step w (ExprTree-F.Binary at left operator_at operator right) = little (left.is_little && right.is_little)
reading_step w (ExprTree-F.Choice at condition question chosen otherwise) = little (condition.is_little && (chosen.is_little && otherwise.is_little))

unfoldable pub reading : Setting → ExprTree → Reading
reading w e = fold-ExprTree Reading (reading_step w) e

-- ---- initial values

abbrev pub value_of_any : Setting → Initial → Check
value_of_any w i = judge w i.value >>= any_value rule.AssignedValue i.at (place_of i.value)

-- a value for a variable; for a mapping or an array there is none, so that rule 6 is broken at the `=`
unfoldable pub initial_for : Setting → Option StateType → Initial → Check
initial_for w (Some (state.Value t)) i = value_in w rule.AssignedValue i.at (OfType t) i.value
initial_for w None i = value_of_any w i
initial_for w (Some _) i = fail rule.AssignedValue i.at >>= λ u. value_of_any w i

-- an initial value that reads too much, or none for a constant, breaks rule 22 at the variable's name
abbrev pub initialised : Setting → Option StateType → Var → Option Initial → Check
initialised w t v None = check (not (is_there is_constant v.specifiers)) rule.Initialiser v.name.at
initialised w t v (Some i) = check (reading w i.value).is_little rule.Initialiser v.name.at >>= λ u. initial_for w t i
