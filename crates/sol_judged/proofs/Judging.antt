-- What each kind of expression is, and that the place kept beside it is that of its first token.
use Rattle.std.proofs.Common.{◌≡◌, ◌∙◌, sym, ap, refl, ℕ, List, [], ◌∷◌, map, Option, Bool, pos}
use lib.IntN.{ℤ}
use Rattle.chc_nums.specs.declared.typed.Ty.{Ty}
use Rattle.sol_tree.specs.declared.types.Identifier.{Identifier}
use Rattle.sol_tree.specs.declared.types.Type as types
use Rattle.sol_tree.specs.declared.expr.NumberUnit.{NumberUnit}
use Rattle.sol_tree.specs.declared.expr.BinaryOp.{BinaryOp}
use Rattle.sol_tree.specs.declared.expr.ExprTree.{ExprTree, Number, True, False, Named, Parenthesised, Conversion, TypeMember, MessageMember, SuperMember, Index, Member, Call, Not, Negation, Binary, Choice}
use Rattle.sol_tree.specs.declared.expr.ExprTree.TheVariants.{rolls-Number, rolls-True, rolls-False, rolls-Named, rolls-Parenthesised, rolls-Conversion, rolls-TypeMember, rolls-MessageMember, rolls-SuperMember, rolls-Index, rolls-Member, rolls-Call, rolls-Not, rolls-Negation, rolls-Binary, rolls-Choice}
use Rattle.sol_tree.specs.declared.expr.ExprTree.TheOpen.{ExprTree-F}
use Rattle.sol_tree.specs.declared.expr.ExprTree.TheViews.{roll-ExprTree}
use Rattle.sol_tree.specs.declared.expr.ExprTree.TheFolds.{fold-ExprTree, fold-roll-ExprTree, ind-ExprTree}
use Rattle.sol_tree.specs.Places.{place_of, first_place}
use Rattle.sol_judged.specs.Settings.{Setting}
use Rattle.sol_judged.specs.Judged.{Judged}
use Rattle.sol_judged.specs.Found.{Seen}
use Rattle.sol_judged.specs.LiteralNumbers.{written}
use Rattle.sol_judged.specs.Literals.{literal, truth_value}
use Rattle.sol_judged.specs.Names.{meaning_of}
use Rattle.sol_judged.specs.Naming.{named_at}
use Rattle.sol_judged.specs.Members.{message_member, super_member}
use Rattle.sol_judged.specs.TypeMembers.{type_member}
use Rattle.sol_judged.specs.Judgement.{of_parenthesised, of_conversion, of_index, of_member, of_call, of_not, of_negation, of_binary, of_choice, judge_step, judge, placed}

abbrev fold : Setting → ExprTree → ℕ × Judged Seen
fold w e = fold-ExprTree (ℕ × Judged Seen) (judge_step w) e

first_of_layer : (w : Setting) (x : ExprTree-F ExprTree) → (fold w (roll-ExprTree x)).0 ≡ place_of (roll-ExprTree x)
unfolding judge_step
first_of_layer w (ExprTree-F.Number at value hex unit) = ap (λ (p : ℕ × Judged Seen). p.0) (fold-roll-ExprTree (ℕ × Judged Seen) (judge_step w) (ExprTree-F.Number at value hex unit)) ∙ sym (fold-roll-ExprTree ℕ first_place (ExprTree-F.Number at value hex unit))
first_of_layer w (ExprTree-F.True at) = ap (λ (p : ℕ × Judged Seen). p.0) (fold-roll-ExprTree (ℕ × Judged Seen) (judge_step w) (ExprTree-F.True at)) ∙ sym (fold-roll-ExprTree ℕ first_place (ExprTree-F.True at))
first_of_layer w (ExprTree-F.False at) = ap (λ (p : ℕ × Judged Seen). p.0) (fold-roll-ExprTree (ℕ × Judged Seen) (judge_step w) (ExprTree-F.False at)) ∙ sym (fold-roll-ExprTree ℕ first_place (ExprTree-F.False at))
first_of_layer w (ExprTree-F.Named at name) = ap (λ (p : ℕ × Judged Seen). p.0) (fold-roll-ExprTree (ℕ × Judged Seen) (judge_step w) (ExprTree-F.Named at name)) ∙ sym (fold-roll-ExprTree ℕ first_place (ExprTree-F.Named at name))
first_of_layer w (ExprTree-F.Parenthesised at inner) = ap (λ (p : ℕ × Judged Seen). p.0) (fold-roll-ExprTree (ℕ × Judged Seen) (judge_step w) (ExprTree-F.Parenthesised at inner)) ∙ sym (fold-roll-ExprTree ℕ first_place (ExprTree-F.Parenthesised at inner))
first_of_layer w (ExprTree-F.Conversion at ty opened value) = ap (λ (p : ℕ × Judged Seen). p.0) (fold-roll-ExprTree (ℕ × Judged Seen) (judge_step w) (ExprTree-F.Conversion at ty opened value)) ∙ sym (fold-roll-ExprTree ℕ first_place (ExprTree-F.Conversion at ty opened value))
first_of_layer w (ExprTree-F.TypeMember at ty member) = ap (λ (p : ℕ × Judged Seen). p.0) (fold-roll-ExprTree (ℕ × Judged Seen) (judge_step w) (ExprTree-F.TypeMember at ty member)) ∙ sym (fold-roll-ExprTree ℕ first_place (ExprTree-F.TypeMember at ty member))
first_of_layer w (ExprTree-F.MessageMember at member) = ap (λ (p : ℕ × Judged Seen). p.0) (fold-roll-ExprTree (ℕ × Judged Seen) (judge_step w) (ExprTree-F.MessageMember at member)) ∙ sym (fold-roll-ExprTree ℕ first_place (ExprTree-F.MessageMember at member))
first_of_layer w (ExprTree-F.SuperMember at member) = ap (λ (p : ℕ × Judged Seen). p.0) (fold-roll-ExprTree (ℕ × Judged Seen) (judge_step w) (ExprTree-F.SuperMember at member)) ∙ sym (fold-roll-ExprTree ℕ first_place (ExprTree-F.SuperMember at member))
first_of_layer w (ExprTree-F.Index at base opened index) = ap (λ (p : ℕ × Judged Seen). p.0) (fold-roll-ExprTree (ℕ × Judged Seen) (judge_step w) (ExprTree-F.Index at base opened index)) ∙ sym (fold-roll-ExprTree ℕ first_place (ExprTree-F.Index at base opened index))
first_of_layer w (ExprTree-F.Member at base member) = ap (λ (p : ℕ × Judged Seen). p.0) (fold-roll-ExprTree (ℕ × Judged Seen) (judge_step w) (ExprTree-F.Member at base member)) ∙ sym (fold-roll-ExprTree ℕ first_place (ExprTree-F.Member at base member))
first_of_layer w (ExprTree-F.Call at callee opened arguments) = ap (λ (p : ℕ × Judged Seen). p.0) (fold-roll-ExprTree (ℕ × Judged Seen) (judge_step w) (ExprTree-F.Call at callee opened arguments)) ∙ sym (fold-roll-ExprTree ℕ first_place (ExprTree-F.Call at callee opened arguments))
first_of_layer w (ExprTree-F.Not at operand) = ap (λ (p : ℕ × Judged Seen). p.0) (fold-roll-ExprTree (ℕ × Judged Seen) (judge_step w) (ExprTree-F.Not at operand)) ∙ sym (fold-roll-ExprTree ℕ first_place (ExprTree-F.Not at operand))
first_of_layer w (ExprTree-F.Negation at operand) = ap (λ (p : ℕ × Judged Seen). p.0) (fold-roll-ExprTree (ℕ × Judged Seen) (judge_step w) (ExprTree-F.Negation at operand)) ∙ sym (fold-roll-ExprTree ℕ first_place (ExprTree-F.Negation at operand))
first_of_layer w (ExprTree-F.Binary at left operator_at operator right) = ap (λ (p : ℕ × Judged Seen). p.0) (fold-roll-ExprTree (ℕ × Judged Seen) (judge_step w) (ExprTree-F.Binary at left operator_at operator right)) ∙ sym (fold-roll-ExprTree ℕ first_place (ExprTree-F.Binary at left operator_at operator right))
first_of_layer w (ExprTree-F.Choice at condition question chosen otherwise) = ap (λ (p : ℕ × Judged Seen). p.0) (fold-roll-ExprTree (ℕ × Judged Seen) (judge_step w) (ExprTree-F.Choice at condition question chosen otherwise)) ∙ sym (fold-roll-ExprTree ℕ first_place (ExprTree-F.Choice at condition question chosen otherwise))

-- the place that the fold keeps is that of the first token
first : (w : Setting) (e : ExprTree) → (fold w e).0 ≡ place_of e
first w = ind-ExprTree (λ e. (fold w e).0 ≡ place_of e) (λ x y is. first_of_layer w x)

whole : (w : Setting) (e : ExprTree) → fold w e ≡ placed w e
unfolding judge
whole w e = ap (λ (at : ℕ). (at, (fold w e).1)) (first w e)

all_whole : (w : Setting) (es : List ExprTree) → map (fold w) es ≡ map (placed w) es
all_whole w [] = refl
all_whole w (e ∷ es) = rw (whole w e, all_whole w es) refl

pub judge-Number : (w : Setting) (at : ℕ) (value : ℤ) (hex : Bool) (unit : Option NumberUnit) → judge w (Number at value hex unit) ≡ literal at (written value hex unit)
unfolding judge judge_step
judge-Number w at value hex unit = ap (λ (e : ExprTree). (fold w e).1) (sym (rolls-Number at value hex unit)) ∙ ap (λ (p : ℕ × Judged Seen). p.1) (fold-roll-ExprTree (ℕ × Judged Seen) (judge_step w) (ExprTree-F.Number at value hex unit))

pub judge-True : (w : Setting) (at : ℕ) → judge w (True at) ≡ truth_value (pos 1)
unfolding judge judge_step
judge-True w at = ap (λ (e : ExprTree). (fold w e).1) (sym (rolls-True at)) ∙ ap (λ (p : ℕ × Judged Seen). p.1) (fold-roll-ExprTree (ℕ × Judged Seen) (judge_step w) (ExprTree-F.True at))

pub judge-False : (w : Setting) (at : ℕ) → judge w (False at) ≡ truth_value (pos 0)
unfolding judge judge_step
judge-False w at = ap (λ (e : ExprTree). (fold w e).1) (sym (rolls-False at)) ∙ ap (λ (p : ℕ × Judged Seen). p.1) (fold-roll-ExprTree (ℕ × Judged Seen) (judge_step w) (ExprTree-F.False at))

pub judge-Named : (w : Setting) (at : ℕ) (name : List ℕ) → judge w (Named at name) ≡ named_at w at (meaning_of w name)
unfolding judge judge_step
judge-Named w at name = ap (λ (e : ExprTree). (fold w e).1) (sym (rolls-Named at name)) ∙ ap (λ (p : ℕ × Judged Seen). p.1) (fold-roll-ExprTree (ℕ × Judged Seen) (judge_step w) (ExprTree-F.Named at name))

pub judge-Parenthesised : (w : Setting) (at : ℕ) (inner : ExprTree) → judge w (Parenthesised at inner) ≡ of_parenthesised at (judge w inner)
unfolding judge judge_step
judge-Parenthesised w at inner = ap (λ (e : ExprTree). (fold w e).1) (sym (rolls-Parenthesised at inner)) ∙ ap (λ (p : ℕ × Judged Seen). p.1) (fold-roll-ExprTree (ℕ × Judged Seen) (judge_step w) (ExprTree-F.Parenthesised at inner))

pub judge-Conversion : (w : Setting) (at : ℕ) (ty : Ty) (opened : ℕ) (value : ExprTree) → judge w (Conversion at ty opened value) ≡ of_conversion opened ty (place_of value) (judge w value)
unfolding judge judge_step
judge-Conversion w at ty opened value = ap (λ (e : ExprTree). (fold w e).1) (sym (rolls-Conversion at ty opened value)) ∙ ap (λ (p : ℕ × Judged Seen). p.1) (fold-roll-ExprTree (ℕ × Judged Seen) (judge_step w) (ExprTree-F.Conversion at ty opened value)) ∙ ap (λ (n : ℕ). of_conversion opened ty n (judge w value)) (first w value)

pub judge-TypeMember : (w : Setting) (at : ℕ) (ty : types.Type) (member : Identifier) → judge w (TypeMember at ty member) ≡ type_member w ty member
unfolding judge judge_step
judge-TypeMember w at ty member = ap (λ (e : ExprTree). (fold w e).1) (sym (rolls-TypeMember at ty member)) ∙ ap (λ (p : ℕ × Judged Seen). p.1) (fold-roll-ExprTree (ℕ × Judged Seen) (judge_step w) (ExprTree-F.TypeMember at ty member))

pub judge-MessageMember : (w : Setting) (at : ℕ) (member : Identifier) → judge w (MessageMember at member) ≡ message_member member
unfolding judge judge_step
judge-MessageMember w at member = ap (λ (e : ExprTree). (fold w e).1) (sym (rolls-MessageMember at member)) ∙ ap (λ (p : ℕ × Judged Seen). p.1) (fold-roll-ExprTree (ℕ × Judged Seen) (judge_step w) (ExprTree-F.MessageMember at member))

pub judge-SuperMember : (w : Setting) (at : ℕ) (member : Identifier) → judge w (SuperMember at member) ≡ super_member w member
unfolding judge judge_step
judge-SuperMember w at member = ap (λ (e : ExprTree). (fold w e).1) (sym (rolls-SuperMember at member)) ∙ ap (λ (p : ℕ × Judged Seen). p.1) (fold-roll-ExprTree (ℕ × Judged Seen) (judge_step w) (ExprTree-F.SuperMember at member))

pub judge-Index : (w : Setting) (at : ℕ) (base : ExprTree) (opened : ℕ) (index : ExprTree) → judge w (Index at base opened index) ≡ of_index w opened (judge w base) (place_of index) (judge w index)
unfolding judge judge_step
judge-Index w at base opened index = ap (λ (e : ExprTree). (fold w e).1) (sym (rolls-Index at base opened index)) ∙ ap (λ (p : ℕ × Judged Seen). p.1) (fold-roll-ExprTree (ℕ × Judged Seen) (judge_step w) (ExprTree-F.Index at base opened index)) ∙ ap (λ (n : ℕ). of_index w opened (judge w base) n (judge w index)) (first w index)

pub judge-Member : (w : Setting) (at : ℕ) (base : ExprTree) (member : Identifier) → judge w (Member at base member) ≡ of_member w (place_of base) (judge w base) member
unfolding judge judge_step
judge-Member w at base member = ap (λ (e : ExprTree). (fold w e).1) (sym (rolls-Member at base member)) ∙ ap (λ (p : ℕ × Judged Seen). p.1) (fold-roll-ExprTree (ℕ × Judged Seen) (judge_step w) (ExprTree-F.Member at base member)) ∙ ap (λ (n : ℕ). of_member w n (judge w base) member) (first w base)

pub judge-Call : (w : Setting) (at : ℕ) (callee : ExprTree) (opened : ℕ) (arguments : List ExprTree) → judge w (Call at callee opened arguments) ≡ of_call w opened (judge w callee) (map (placed w) arguments)
unfolding judge judge_step
judge-Call w at callee opened arguments = ap (λ (e : ExprTree). (fold w e).1) (sym (rolls-Call at callee opened arguments)) ∙ ap (λ (p : ℕ × Judged Seen). p.1) (fold-roll-ExprTree (ℕ × Judged Seen) (judge_step w) (ExprTree-F.Call at callee opened arguments)) ∙ ap (of_call w opened (judge w callee)) (all_whole w arguments)

pub judge-Not : (w : Setting) (at : ℕ) (operand : ExprTree) → judge w (Not at operand) ≡ of_not at (place_of operand) (judge w operand)
unfolding judge judge_step
judge-Not w at operand = ap (λ (e : ExprTree). (fold w e).1) (sym (rolls-Not at operand)) ∙ ap (λ (p : ℕ × Judged Seen). p.1) (fold-roll-ExprTree (ℕ × Judged Seen) (judge_step w) (ExprTree-F.Not at operand)) ∙ ap (λ (n : ℕ). of_not at n (judge w operand)) (first w operand)

pub judge-Negation : (w : Setting) (at : ℕ) (operand : ExprTree) → judge w (Negation at operand) ≡ of_negation w at (place_of operand) (judge w operand)
unfolding judge judge_step
judge-Negation w at operand = ap (λ (e : ExprTree). (fold w e).1) (sym (rolls-Negation at operand)) ∙ ap (λ (p : ℕ × Judged Seen). p.1) (fold-roll-ExprTree (ℕ × Judged Seen) (judge_step w) (ExprTree-F.Negation at operand)) ∙ ap (λ (n : ℕ). of_negation w at n (judge w operand)) (first w operand)

pub judge-Binary : (w : Setting) (at : ℕ) (left : ExprTree) (operator_at : ℕ) (operator : BinaryOp) (right : ExprTree) → judge w (Binary at left operator_at operator right) ≡ of_binary w operator at operator_at (place_of left) (judge w left) (place_of right) (judge w right)
unfolding judge judge_step
judge-Binary w at left operator_at operator right = ap (λ (e : ExprTree). (fold w e).1) (sym (rolls-Binary at left operator_at operator right)) ∙ ap (λ (p : ℕ × Judged Seen). p.1) (fold-roll-ExprTree (ℕ × Judged Seen) (judge_step w) (ExprTree-F.Binary at left operator_at operator right)) ∙ ap (λ (n : ℕ). of_binary w operator at operator_at n (judge w left) (fold w right).0 (judge w right)) (first w left) ∙ ap (λ (n : ℕ). of_binary w operator at operator_at (place_of left) (judge w left) n (judge w right)) (first w right)

pub judge-Choice : (w : Setting) (at : ℕ) (condition : ExprTree) (question : ℕ) (chosen : ExprTree) (otherwise : ExprTree) → judge w (Choice at condition question chosen otherwise) ≡ of_choice question (place_of condition) (judge w condition) (place_of chosen) (judge w chosen) (place_of otherwise) (judge w otherwise)
unfolding judge judge_step
judge-Choice w at condition question chosen otherwise = ap (λ (e : ExprTree). (fold w e).1) (sym (rolls-Choice at condition question chosen otherwise)) ∙ ap (λ (p : ℕ × Judged Seen). p.1) (fold-roll-ExprTree (ℕ × Judged Seen) (judge_step w) (ExprTree-F.Choice at condition question chosen otherwise)) ∙ ap (λ (n : ℕ). of_choice question n (judge w condition) (fold w chosen).0 (judge w chosen) (fold w otherwise).0 (judge w otherwise)) (first w condition) ∙ ap (λ (n : ℕ). of_choice question (place_of condition) (judge w condition) n (judge w chosen) (fold w otherwise).0 (judge w otherwise)) (first w chosen) ∙ ap (λ (n : ℕ). of_choice question (place_of condition) (judge w condition) (place_of chosen) (judge w chosen) n (judge w otherwise)) (first w otherwise)

pub ruleset judging = (judge-Number, judge-True, judge-False, judge-Named, judge-Parenthesised, judge-Conversion, judge-TypeMember, judge-MessageMember, judge-SuperMember, judge-Index, judge-Member, judge-Call, judge-Not, judge-Negation, judge-Binary, judge-Choice)
