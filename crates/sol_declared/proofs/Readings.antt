-- What each kind of expression reads.
use Rattle.std.proofs.Common.{◌≡◌, ◌∙◌, sym, ap, ℕ, List, map, Option, Bool, true, false, not, ◌&&◌}
use lib.IntN.{ℤ}
use Rattle.chc_nums.specs.declared.typed.Ty.{Ty}
use Rattle.sol_tree.specs.declared.types.Identifier.{Identifier}
use Rattle.sol_tree.specs.declared.types.Type as types
use Rattle.sol_tree.specs.declared.expr.NumberUnit.{NumberUnit}
use Rattle.sol_tree.specs.declared.expr.BinaryOp.{BinaryOp}
use Rattle.sol_tree.specs.declared.expr.ExprTree.{ExprTree}
use Rattle.sol_tree.specs.declared.expr.ExprTree as expr
use Rattle.sol_tree.specs.declared.expr.ExprTree.TheVariants.{rolls-Number, rolls-True, rolls-False, rolls-Named, rolls-Parenthesised, rolls-Conversion, rolls-TypeMember, rolls-MessageMember, rolls-SuperMember, rolls-Index, rolls-Member, rolls-Call, rolls-Not, rolls-Negation, rolls-Binary, rolls-Choice}
use Rattle.sol_tree.specs.declared.expr.ExprTree.TheOpen.{ExprTree-F}
use Rattle.sol_tree.specs.declared.expr.ExprTree.TheFolds.{fold-ExprTree, fold-roll-ExprTree}
use Rattle.sol_judged.specs.Settings.{Setting}
use Rattle.sol_judged.specs.Names.{meaning_of}
use Rattle.sol_declared.specs.Initialisers.{Reading, little, all_little, reads_variable, names_unit, reading_step, reading}

pub reading-Number : (w : Setting) (at : ℕ) (value : ℤ) (hex : Bool) (unit : Option NumberUnit) → reading w (expr.Number at value hex unit) ≡ little true
unfolding reading
reading-Number w at value hex unit = ap (fold-ExprTree Reading (reading_step w)) (sym (rolls-Number at value hex unit)) ∙ fold-roll-ExprTree Reading (reading_step w) (ExprTree-F.Number at value hex unit)

pub reading-True : (w : Setting) (at : ℕ) → reading w (expr.True at) ≡ little true
unfolding reading
reading-True w at = ap (fold-ExprTree Reading (reading_step w)) (sym (rolls-True at)) ∙ fold-roll-ExprTree Reading (reading_step w) (ExprTree-F.True at)

pub reading-False : (w : Setting) (at : ℕ) → reading w (expr.False at) ≡ little true
unfolding reading
reading-False w at = ap (fold-ExprTree Reading (reading_step w)) (sym (rolls-False at)) ∙ fold-roll-ExprTree Reading (reading_step w) (ExprTree-F.False at)

pub reading-Named : (w : Setting) (at : ℕ) (name : List ℕ) → reading w (expr.Named at name) ≡ record { is_little = not (reads_variable (meaning_of w name)); is_unit = names_unit (meaning_of w name) }
unfolding reading
reading-Named w at name = ap (fold-ExprTree Reading (reading_step w)) (sym (rolls-Named at name)) ∙ fold-roll-ExprTree Reading (reading_step w) (ExprTree-F.Named at name)

pub reading-Parenthesised : (w : Setting) (at : ℕ) (inner : ExprTree) → reading w (expr.Parenthesised at inner) ≡ reading w inner
unfolding reading
reading-Parenthesised w at inner = ap (fold-ExprTree Reading (reading_step w)) (sym (rolls-Parenthesised at inner)) ∙ fold-roll-ExprTree Reading (reading_step w) (ExprTree-F.Parenthesised at inner)

pub reading-Conversion : (w : Setting) (at : ℕ) (ty : Ty) (opened : ℕ) (value : ExprTree) → reading w (expr.Conversion at ty opened value) ≡ little (reading w value).is_little
unfolding reading
reading-Conversion w at ty opened value = ap (fold-ExprTree Reading (reading_step w)) (sym (rolls-Conversion at ty opened value)) ∙ fold-roll-ExprTree Reading (reading_step w) (ExprTree-F.Conversion at ty opened value)

pub reading-TypeMember : (w : Setting) (at : ℕ) (ty : types.Type) (member : Identifier) → reading w (expr.TypeMember at ty member) ≡ little true
unfolding reading
reading-TypeMember w at ty member = ap (fold-ExprTree Reading (reading_step w)) (sym (rolls-TypeMember at ty member)) ∙ fold-roll-ExprTree Reading (reading_step w) (ExprTree-F.TypeMember at ty member)

pub reading-MessageMember : (w : Setting) (at : ℕ) (member : Identifier) → reading w (expr.MessageMember at member) ≡ little true
unfolding reading
reading-MessageMember w at member = ap (fold-ExprTree Reading (reading_step w)) (sym (rolls-MessageMember at member)) ∙ fold-roll-ExprTree Reading (reading_step w) (ExprTree-F.MessageMember at member)

pub reading-SuperMember : (w : Setting) (at : ℕ) (member : Identifier) → reading w (expr.SuperMember at member) ≡ little false
unfolding reading
reading-SuperMember w at member = ap (fold-ExprTree Reading (reading_step w)) (sym (rolls-SuperMember at member)) ∙ fold-roll-ExprTree Reading (reading_step w) (ExprTree-F.SuperMember at member)

pub reading-Index : (w : Setting) (at : ℕ) (base : ExprTree) (opened : ℕ) (index : ExprTree) → reading w (expr.Index at base opened index) ≡ little false
unfolding reading
reading-Index w at base opened index = ap (fold-ExprTree Reading (reading_step w)) (sym (rolls-Index at base opened index)) ∙ fold-roll-ExprTree Reading (reading_step w) (ExprTree-F.Index at base opened index)

pub reading-Member : (w : Setting) (at : ℕ) (base : ExprTree) (member : Identifier) → reading w (expr.Member at base member) ≡ little false
unfolding reading
reading-Member w at base member = ap (fold-ExprTree Reading (reading_step w)) (sym (rolls-Member at base member)) ∙ fold-roll-ExprTree Reading (reading_step w) (ExprTree-F.Member at base member)

pub reading-Call : (w : Setting) (at : ℕ) (callee : ExprTree) (opened : ℕ) (arguments : List ExprTree) → reading w (expr.Call at callee opened arguments) ≡ little ((reading w callee).is_unit && all_little (map (reading w) arguments))
unfolding reading
reading-Call w at callee opened arguments = ap (fold-ExprTree Reading (reading_step w)) (sym (rolls-Call at callee opened arguments)) ∙ fold-roll-ExprTree Reading (reading_step w) (ExprTree-F.Call at callee opened arguments)

pub reading-Not : (w : Setting) (at : ℕ) (operand : ExprTree) → reading w (expr.Not at operand) ≡ little (reading w operand).is_little
unfolding reading
reading-Not w at operand = ap (fold-ExprTree Reading (reading_step w)) (sym (rolls-Not at operand)) ∙ fold-roll-ExprTree Reading (reading_step w) (ExprTree-F.Not at operand)

pub reading-Negation : (w : Setting) (at : ℕ) (operand : ExprTree) → reading w (expr.Negation at operand) ≡ little (reading w operand).is_little
unfolding reading
reading-Negation w at operand = ap (fold-ExprTree Reading (reading_step w)) (sym (rolls-Negation at operand)) ∙ fold-roll-ExprTree Reading (reading_step w) (ExprTree-F.Negation at operand)

pub reading-Binary : (w : Setting) (at : ℕ) (left : ExprTree) (operator_at : ℕ) (operator : BinaryOp) (right : ExprTree) → reading w (expr.Binary at left operator_at operator right) ≡ little ((reading w left).is_little && (reading w right).is_little)
unfolding reading
reading-Binary w at left operator_at operator right = ap (fold-ExprTree Reading (reading_step w)) (sym (rolls-Binary at left operator_at operator right)) ∙ fold-roll-ExprTree Reading (reading_step w) (ExprTree-F.Binary at left operator_at operator right)

pub reading-Choice : (w : Setting) (at : ℕ) (condition : ExprTree) (question : ℕ) (chosen : ExprTree) (otherwise : ExprTree) → reading w (expr.Choice at condition question chosen otherwise) ≡ little ((reading w condition).is_little && ((reading w chosen).is_little && (reading w otherwise).is_little))
unfolding reading
reading-Choice w at condition question chosen otherwise = ap (fold-ExprTree Reading (reading_step w)) (sym (rolls-Choice at condition question chosen otherwise)) ∙ fold-roll-ExprTree Reading (reading_step w) (ExprTree-F.Choice at condition question chosen otherwise)

pub ruleset readings = (reading-Number, reading-True, reading-False, reading-Named, reading-Parenthesised, reading-Conversion, reading-TypeMember, reading-MessageMember, reading-SuperMember, reading-Index, reading-Member, reading-Call, reading-Not, reading-Negation, reading-Binary, reading-Choice)
