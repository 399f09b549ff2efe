-- How large an expression is, for the measure of what goes down it.
use Rattle.std.proofs.Common.{zero, suc, ◌≡◌, ◌∙◌, sym, ap, ℕ, ◌+◌, ◌≤◌, ◌<◌, List, [], ◌∷◌, map, length, get_or, refl, arith, Option, Bool}
use lib.IntN.{ℤ}
use Rattle.chc_nums.specs.declared.typed.Ty.{Ty}
use Rattle.sol_tree.specs.declared.types.Identifier.{Identifier}
use Rattle.sol_tree.specs.declared.types.Type as types
use Rattle.sol_tree.specs.declared.expr.NumberUnit.{NumberUnit}
use Rattle.sol_tree.specs.declared.expr.BinaryOp.{BinaryOp}
use Rattle.sol_tree.specs.declared.expr.ExprTree.{ExprTree, Number, True, False, Named, Parenthesised, Conversion, TypeMember, MessageMember, SuperMember, Index, Member, Call, Not, Negation, Binary, Choice}
use Rattle.sol_tree.specs.declared.expr.ExprTree.TheVariants.{rolls-Number, rolls-True, rolls-False, rolls-Named, rolls-Parenthesised, rolls-Conversion, rolls-TypeMember, rolls-MessageMember, rolls-SuperMember, rolls-Index, rolls-Member, rolls-Call, rolls-Not, rolls-Negation, rolls-Binary, rolls-Choice}
use Rattle.sol_tree.specs.declared.expr.ExprTree.TheOpen.{ExprTree-F}
use Rattle.sol_tree.specs.declared.expr.ExprTree.TheViews.{roll-ExprTree}
use Rattle.sol_tree.specs.declared.expr.ExprTree.TheFolds.{fold-ExprTree, fold-roll-ExprTree, ind-ExprTree}

abbrev pub total : List ℕ → ℕ
total [] = 0
total (n ∷ ns) = n + total ns

unfoldable pub size_step : ExprTree-F ℕ → ℕ
size_step (ExprTree-F.Number at value hex unit) = 1
size_step (ExprTree-F.True at) = 1
size_step (ExprTree-F.False at) = 1
size_step (ExprTree-F.Named at name) = 1
size_step (ExprTree-F.Parenthesised at inner) = 1 + (inner)
size_step (ExprTree-F.Conversion at ty opened value) = 1 + (value)
size_step (ExprTree-F.TypeMember at ty member) = 1
size_step (ExprTree-F.MessageMember at member) = 1
size_step (ExprTree-F.SuperMember at member) = 1
size_step (ExprTree-F.Index at base opened index) = 1 + (base + index)
size_step (ExprTree-F.Member at base member) = 1 + (base)
size_step (ExprTree-F.Call at callee opened arguments) = 1 + (callee + total arguments)
size_step (ExprTree-F.Not at operand) = 1 + (operand)
size_step (ExprTree-F.Negation at operand) = 1 + (operand)
size_step (ExprTree-F.Binary at left operator_at operator right) = 1 + (left + right)
size_step (ExprTree-F.Choice at condition question chosen otherwise) = 1 + (condition + chosen + otherwise)

unfoldable pub size : ExprTree → ℕ
size e = fold-ExprTree ℕ size_step e

pub size-Number : (at : ℕ) (value : ℤ) (hex : Bool) (unit : Option NumberUnit) → size (Number at value hex unit) ≡ 1
unfolding size size_step
size-Number at value hex unit = ap (fold-ExprTree ℕ size_step) (sym (rolls-Number at value hex unit)) ∙ fold-roll-ExprTree ℕ size_step (ExprTree-F.Number at value hex unit)

pub size-True : (at : ℕ) → size (True at) ≡ 1
unfolding size size_step
size-True at = ap (fold-ExprTree ℕ size_step) (sym (rolls-True at)) ∙ fold-roll-ExprTree ℕ size_step (ExprTree-F.True at)

pub size-False : (at : ℕ) → size (False at) ≡ 1
unfolding size size_step
size-False at = ap (fold-ExprTree ℕ size_step) (sym (rolls-False at)) ∙ fold-roll-ExprTree ℕ size_step (ExprTree-F.False at)

pub size-Named : (at : ℕ) (name : List ℕ) → size (Named at name) ≡ 1
unfolding size size_step
size-Named at name = ap (fold-ExprTree ℕ size_step) (sym (rolls-Named at name)) ∙ fold-roll-ExprTree ℕ size_step (ExprTree-F.Named at name)

pub size-Parenthesised : (at : ℕ) (inner : ExprTree) → size (Parenthesised at inner) ≡ 1 + (size inner)
unfolding size size_step
size-Parenthesised at inner = ap (fold-ExprTree ℕ size_step) (sym (rolls-Parenthesised at inner)) ∙ fold-roll-ExprTree ℕ size_step (ExprTree-F.Parenthesised at inner)

pub size-Conversion : (at : ℕ) (ty : Ty) (opened : ℕ) (value : ExprTree) → size (Conversion at ty opened value) ≡ 1 + (size value)
unfolding size size_step
size-Conversion at ty opened value = ap (fold-ExprTree ℕ size_step) (sym (rolls-Conversion at ty opened value)) ∙ fold-roll-ExprTree ℕ size_step (ExprTree-F.Conversion at ty opened value)

pub size-TypeMember : (at : ℕ) (ty : types.Type) (member : Identifier) → size (TypeMember at ty member) ≡ 1
unfolding size size_step
size-TypeMember at ty member = ap (fold-ExprTree ℕ size_step) (sym (rolls-TypeMember at ty member)) ∙ fold-roll-ExprTree ℕ size_step (ExprTree-F.TypeMember at ty member)

pub size-MessageMember : (at : ℕ) (member : Identifier) → size (MessageMember at member) ≡ 1
unfolding size size_step
size-MessageMember at member = ap (fold-ExprTree ℕ size_step) (sym (rolls-MessageMember at member)) ∙ fold-roll-ExprTree ℕ size_step (ExprTree-F.MessageMember at member)

pub size-SuperMember : (at : ℕ) (member : Identifier) → size (SuperMember at member) ≡ 1
unfolding size size_step
size-SuperMember at member = ap (fold-ExprTree ℕ size_step) (sym (rolls-SuperMember at member)) ∙ fold-roll-ExprTree ℕ size_step (ExprTree-F.SuperMember at member)

pub size-Index : (at : ℕ) (base : ExprTree) (opened : ℕ) (index : ExprTree) → size (Index at base opened index) ≡ 1 + (size base + size index)
unfolding size size_step
size-Index at base opened index = ap (fold-ExprTree ℕ size_step) (sym (rolls-Index at base opened index)) ∙ fold-roll-ExprTree ℕ size_step (ExprTree-F.Index at base opened index)

pub size-Member : (at : ℕ) (base : ExprTree) (member : Identifier) → size (Member at base member) ≡ 1 + (size base)
unfolding size size_step
size-Member at base member = ap (fold-ExprTree ℕ size_step) (sym (rolls-Member at base member)) ∙ fold-roll-ExprTree ℕ size_step (ExprTree-F.Member at base member)

pub size-Call : (at : ℕ) (callee : ExprTree) (opened : ℕ) (arguments : List ExprTree) → size (Call at callee opened arguments) ≡ 1 + (size callee + total (map size arguments))
unfolding size size_step
size-Call at callee opened arguments = ap (fold-ExprTree ℕ size_step) (sym (rolls-Call at callee opened arguments)) ∙ fold-roll-ExprTree ℕ size_step (ExprTree-F.Call at callee opened arguments)

pub size-Not : (at : ℕ) (operand : ExprTree) → size (Not at operand) ≡ 1 + (size operand)
unfolding size size_step
size-Not at operand = ap (fold-ExprTree ℕ size_step) (sym (rolls-Not at operand)) ∙ fold-roll-ExprTree ℕ size_step (ExprTree-F.Not at operand)

pub size-Negation : (at : ℕ) (operand : ExprTree) → size (Negation at operand) ≡ 1 + (size operand)
unfolding size size_step
size-Negation at operand = ap (fold-ExprTree ℕ size_step) (sym (rolls-Negation at operand)) ∙ fold-roll-ExprTree ℕ size_step (ExprTree-F.Negation at operand)

pub size-Binary : (at : ℕ) (left : ExprTree) (operator_at : ℕ) (operator : BinaryOp) (right : ExprTree) → size (Binary at left operator_at operator right) ≡ 1 + (size left + size right)
unfolding size size_step
size-Binary at left operator_at operator right = ap (fold-ExprTree ℕ size_step) (sym (rolls-Binary at left operator_at operator right)) ∙ fold-roll-ExprTree ℕ size_step (ExprTree-F.Binary at left operator_at operator right)

pub size-Choice : (at : ℕ) (condition : ExprTree) (question : ℕ) (chosen : ExprTree) (otherwise : ExprTree) → size (Choice at condition question chosen otherwise) ≡ 1 + (size condition + size chosen + size otherwise)
unfolding size size_step
size-Choice at condition question chosen otherwise = ap (fold-ExprTree ℕ size_step) (sym (rolls-Choice at condition question chosen otherwise)) ∙ fold-roll-ExprTree ℕ size_step (ExprTree-F.Choice at condition question chosen otherwise)

layer_positive : (x : ExprTree-F ExprTree) → 1 ≤ size (roll-ExprTree x)
layer_positive (ExprTree-F.Number at value hex unit) = let e = ap size (rolls-Number at value hex unit) ∙ size-Number at value hex unit in omega (arith, e)
layer_positive (ExprTree-F.True at) = let e = ap size (rolls-True at) ∙ size-True at in omega (arith, e)
layer_positive (ExprTree-F.False at) = let e = ap size (rolls-False at) ∙ size-False at in omega (arith, e)
layer_positive (ExprTree-F.Named at name) = let e = ap size (rolls-Named at name) ∙ size-Named at name in omega (arith, e)
layer_positive (ExprTree-F.Parenthesised at inner) = let e = ap size (rolls-Parenthesised at inner) ∙ size-Parenthesised at inner in omega (arith, e)
layer_positive (ExprTree-F.Conversion at ty opened value) = let e = ap size (rolls-Conversion at ty opened value) ∙ size-Conversion at ty opened value in omega (arith, e)
layer_positive (ExprTree-F.TypeMember at ty member) = let e = ap size (rolls-TypeMember at ty member) ∙ size-TypeMember at ty member in omega (arith, e)
layer_positive (ExprTree-F.MessageMember at member) = let e = ap size (rolls-MessageMember at member) ∙ size-MessageMember at member in omega (arith, e)
layer_positive (ExprTree-F.SuperMember at member) = let e = ap size (rolls-SuperMember at member) ∙ size-SuperMember at member in omega (arith, e)
layer_positive (ExprTree-F.Index at base opened index) = let e = ap size (rolls-Index at base opened index) ∙ size-Index at base opened index in omega (arith, e)
layer_positive (ExprTree-F.Member at base member) = let e = ap size (rolls-Member at base member) ∙ size-Member at base member in omega (arith, e)
layer_positive (ExprTree-F.Call at callee opened arguments) = let e = ap size (rolls-Call at callee opened arguments) ∙ size-Call at callee opened arguments in omega (arith, e)
layer_positive (ExprTree-F.Not at operand) = let e = ap size (rolls-Not at operand) ∙ size-Not at operand in omega (arith, e)
layer_positive (ExprTree-F.Negation at operand) = let e = ap size (rolls-Negation at operand) ∙ size-Negation at operand in omega (arith, e)
layer_positive (ExprTree-F.Binary at left operator_at operator right) = let e = ap size (rolls-Binary at left operator_at operator right) ∙ size-Binary at left operator_at operator right in omega (arith, e)
layer_positive (ExprTree-F.Choice at condition question chosen otherwise) = let e = ap size (rolls-Choice at condition question chosen otherwise) ∙ size-Choice at condition question chosen otherwise in omega (arith, e)

pub size_positive : (e : ExprTree) → 1 ≤ size e
size_positive = ind-ExprTree (λ e. 1 ≤ size e) (λ x y is. layer_positive x)

pub size_among : (xs : List ExprTree) (i : ℕ) (d : ExprTree) → i < length xs → size (get_or xs i d) ≤ total (map size xs)
size_among [] i d h = absurd (omega arith)
size_among (x ∷ xs) zero d h =
    let f : total (map size (x ∷ xs)) ≡ size x + total (map size xs) = refl in
    let g : size (get_or (x ∷ xs) 0 d) ≡ size x = refl in
    omega arith
size_among (x ∷ xs) (suc i) d h =
    let f : total (map size (x ∷ xs)) ≡ size x + total (map size xs) = refl in
    let g : size (get_or (x ∷ xs) (suc i) d) ≡ size (get_or xs i d) = refl in
    let k : i < length xs = omega arith in
    omega (arith, size_among xs i d k)

pub ruleset sizing = (size_positive, size_among, size-Number, size-True, size-False, size-Named, size-Parenthesised, size-Conversion, size-TypeMember, size-MessageMember, size-SuperMember, size-Index, size-Member, size-Call, size-Not, size-Negation, size-Binary, size-Choice)
