-- How many levels a type or an expression has.
use Rattle.std.specs.Prelude.{ℕ, ◌+◌, max, List, [], ◌∷◌}
use Rattle.sol_tree.specs.declared.types.Type as types
use Rattle.sol_tree.specs.declared.types.Type.TheOpen.{Type-F}
use Rattle.sol_tree.specs.declared.types.Type.TheFolds.{fold-Type}
use Rattle.sol_tree.specs.declared.expr.ExprTree as tree
use Rattle.sol_tree.specs.declared.expr.ExprTree.TheOpen.{ExprTree-F}
use Rattle.sol_tree.specs.declared.expr.ExprTree.TheFolds.{fold-ExprTree}

abbrev pub type_layer : Type-F ℕ → ℕ
type_layer (Type-F.Elementary at ty) = 1
type_layer (Type-F.Named at name) = 1
type_layer (Type-F.Array at element) = element + 1
type_layer (Type-F.Mapping at key key_name value value_name) = max key value + 1

abbrev pub type_height : types.Type → ℕ
type_height t = fold-Type ℕ type_layer t

abbrev pub greatest : List ℕ → ℕ
greatest [] = 0
greatest (n ∷ ns) = max n (greatest ns)

abbrev pub layer : ExprTree-F ℕ → ℕ
layer (ExprTree-F.Number at value hex unit) = 1
layer (ExprTree-F.True at) = 1
layer (ExprTree-F.False at) = 1
layer (ExprTree-F.Named at name) = 1
layer (ExprTree-F.Parenthesised at inner) = inner + 1
layer (ExprTree-F.Conversion at ty opened value) = value + 1
layer (ExprTree-F.TypeMember at ty member) = type_height ty + 1
layer (ExprTree-F.MessageMember at member) = 1
layer (ExprTree-F.SuperMember at member) = 1
layer (ExprTree-F.Index at base opened index) = max base index + 1
layer (ExprTree-F.Member at base member) = base + 1
layer (ExprTree-F.Call at callee opened arguments) = max callee (greatest arguments) + 1
layer (ExprTree-F.Not at operand) = operand + 1
layer (ExprTree-F.Negation at operand) = operand + 1
layer (ExprTree-F.Binary at left sign operator right) = max left right + 1
layer (ExprTree-F.Choice at condition question chosen otherwise) = max condition (max chosen otherwise) + 1

-- each node is one level above the types and expressions directly inside it
abbrev pub height : tree.ExprTree → ℕ
height e = fold-ExprTree ℕ layer e
