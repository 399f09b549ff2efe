-- How high each node is.
use Rattle.std.proofs.Common.{◌≡◌, ◌∙◌, sym, ap, ℕ, ◌+◌, max, List, map, Bool, Option}
use lib.IntN.{ℤ}
use Rattle.chc_nums.specs.declared.typed.Ty.{Ty}
use Rattle.sol_tree.specs.declared.types.Identifier.{Identifier}
use Rattle.sol_tree.specs.declared.types.Type as types
use Rattle.sol_tree.specs.declared.types.Type.TheOpen.{Type-F}
use Rattle.sol_tree.specs.declared.types.Type.TheFolds.{fold-roll-Type}
use Rattle.sol_tree.specs.declared.types.Type.TheVariants as type_rolls
use Rattle.sol_tree.specs.declared.expr.NumberUnit.{NumberUnit}
use Rattle.sol_tree.specs.declared.expr.BinaryOp.{BinaryOp}
use Rattle.sol_tree.specs.declared.expr.ExprTree as tree
use Rattle.sol_tree.specs.declared.expr.ExprTree.TheOpen.{ExprTree-F}
use Rattle.sol_tree.specs.declared.expr.ExprTree.TheFolds.{fold-roll-ExprTree}
use Rattle.sol_tree.specs.declared.expr.ExprTree.TheVariants as rolls
use Rattle.sol_parse_expr.specs.Heights.{type_layer, type_height, greatest, layer, height}

pub height-elementary : (at : ℕ) (ty : Ty) → type_height (types.Elementary at ty) ≡ 1
height-elementary at ty = ap type_height (sym (type_rolls.rolls-Elementary at ty)) ∙ fold-roll-Type ℕ type_layer (Type-F.Elementary at ty)

pub height-named_type : (at : ℕ) (n : List ℕ) → type_height (types.Named at n) ≡ 1
height-named_type at n = ap type_height (sym (type_rolls.rolls-Named at n)) ∙ fold-roll-Type ℕ type_layer (Type-F.Named at n)

pub height-array : (at : ℕ) (t : types.Type) → type_height (types.Array at t) ≡ type_height t + 1
height-array at t = ap type_height (sym (type_rolls.rolls-Array at t)) ∙ fold-roll-Type ℕ type_layer (Type-F.Array at t)

pub height-mapping : (at : ℕ) (k : types.Type) (i : Option Identifier) (v : types.Type) (j : Option Identifier) → type_height (types.Mapping at k i v j) ≡ max (type_height k) (type_height v) + 1
height-mapping at k i v j = ap type_height (sym (type_rolls.rolls-Mapping at k i v j)) ∙ fold-roll-Type ℕ type_layer (Type-F.Mapping at k i v j)

pub height-number : (at : ℕ) (z : ℤ) (x : Bool) (u : Option NumberUnit) → height (tree.Number at z x u) ≡ 1
height-number at z x u = ap height (sym (rolls.rolls-Number at z x u)) ∙ fold-roll-ExprTree ℕ layer (ExprTree-F.Number at z x u)

pub height-true : (at : ℕ) → height (tree.True at) ≡ 1
height-true at = ap height (sym (rolls.rolls-True at)) ∙ fold-roll-ExprTree ℕ layer (ExprTree-F.True at)

pub height-false : (at : ℕ) → height (tree.False at) ≡ 1
height-false at = ap height (sym (rolls.rolls-False at)) ∙ fold-roll-ExprTree ℕ layer (ExprTree-F.False at)

pub height-named : (at : ℕ) (n : List ℕ) → height (tree.Named at n) ≡ 1
height-named at n = ap height (sym (rolls.rolls-Named at n)) ∙ fold-roll-ExprTree ℕ layer (ExprTree-F.Named at n)

pub height-parenthesised : (at : ℕ) (e : tree.ExprTree) → height (tree.Parenthesised at e) ≡ height e + 1
height-parenthesised at e = ap height (sym (rolls.rolls-Parenthesised at e)) ∙ fold-roll-ExprTree ℕ layer (ExprTree-F.Parenthesised at e)

pub height-conversion : (at : ℕ) (ty : Ty) (opened : ℕ) (e : tree.ExprTree) → height (tree.Conversion at ty opened e) ≡ height e + 1
height-conversion at ty opened e = ap height (sym (rolls.rolls-Conversion at ty opened e)) ∙ fold-roll-ExprTree ℕ layer (ExprTree-F.Conversion at ty opened e)

pub height-of_type : (at : ℕ) (ty : types.Type) (m : Identifier) → height (tree.TypeMember at ty m) ≡ type_height ty + 1
height-of_type at ty m = ap height (sym (rolls.rolls-TypeMember at ty m)) ∙ fold-roll-ExprTree ℕ layer (ExprTree-F.TypeMember at ty m)

pub height-of_message : (at : ℕ) (m : Identifier) → height (tree.MessageMember at m) ≡ 1
height-of_message at m = ap height (sym (rolls.rolls-MessageMember at m)) ∙ fold-roll-ExprTree ℕ layer (ExprTree-F.MessageMember at m)

pub height-of_super : (at : ℕ) (m : Identifier) → height (tree.SuperMember at m) ≡ 1
height-of_super at m = ap height (sym (rolls.rolls-SuperMember at m)) ∙ fold-roll-ExprTree ℕ layer (ExprTree-F.SuperMember at m)

pub height-index : (at : ℕ) (a : tree.ExprTree) (opened : ℕ) (i : tree.ExprTree) → height (tree.Index at a opened i) ≡ max (height a) (height i) + 1
height-index at a opened i = ap height (sym (rolls.rolls-Index at a opened i)) ∙ fold-roll-ExprTree ℕ layer (ExprTree-F.Index at a opened i)

pub height-member : (at : ℕ) (a : tree.ExprTree) (m : Identifier) → height (tree.Member at a m) ≡ height a + 1
height-member at a m = ap height (sym (rolls.rolls-Member at a m)) ∙ fold-roll-ExprTree ℕ layer (ExprTree-F.Member at a m)

pub height-call : (at : ℕ) (a : tree.ExprTree) (opened : ℕ) (es : List tree.ExprTree) → height (tree.Call at a opened es) ≡ max (height a) (greatest (map height es)) + 1
height-call at a opened es = ap height (sym (rolls.rolls-Call at a opened es)) ∙ fold-roll-ExprTree ℕ layer (ExprTree-F.Call at a opened es)

pub height-not : (at : ℕ) (e : tree.ExprTree) → height (tree.Not at e) ≡ height e + 1
height-not at e = ap height (sym (rolls.rolls-Not at e)) ∙ fold-roll-ExprTree ℕ layer (ExprTree-F.Not at e)

pub height-negation : (at : ℕ) (e : tree.ExprTree) → height (tree.Negation at e) ≡ height e + 1
height-negation at e = ap height (sym (rolls.rolls-Negation at e)) ∙ fold-roll-ExprTree ℕ layer (ExprTree-F.Negation at e)

pub height-binary : (at : ℕ) (a : tree.ExprTree) (sign : ℕ) (o : BinaryOp) (b : tree.ExprTree) → height (tree.Binary at a sign o b) ≡ max (height a) (height b) + 1
height-binary at a sign o b = ap height (sym (rolls.rolls-Binary at a sign o b)) ∙ fold-roll-ExprTree ℕ layer (ExprTree-F.Binary at a sign o b)

pub height-choice : (at : ℕ) (c : tree.ExprTree) (sign : ℕ) (a b : tree.ExprTree) → height (tree.Choice at c sign a b) ≡ max (height c) (max (height a) (height b)) + 1
height-choice at c sign a b = ap height (sym (rolls.rolls-Choice at c sign a b)) ∙ fold-roll-ExprTree ℕ layer (ExprTree-F.Choice at c sign a b)
