-- Where an expression or a type begins.
use Rattle.std.specs.Prelude.{ℕ}
use Rattle.sol_tree.specs.declared.expr.ExprTree.{ExprTree}
use Rattle.sol_tree.specs.declared.expr.ExprTree.TheOpen.{ExprTree-F}
use Rattle.sol_tree.specs.declared.expr.ExprTree.TheFolds.{fold-ExprTree}
use Rattle.sol_tree.specs.declared.types.Type.TheOpen.{Type-F}
use Rattle.sol_tree.specs.declared.types.Type.TheFolds.{fold-Type}
use Rattle.sol_tree.specs.declared.types.Type as types

abbrev pub first_type_place : Type-F ℕ → ℕ
first_type_place (Type-F.Elementary at ty) = at
first_type_place (Type-F.Named at name) = at
first_type_place (Type-F.Array at element) = at
first_type_place (Type-F.Mapping at key key_name value value_name) = at

-- the place of a type's first token
abbrev pub type_place_of : types.Type → ℕ
type_place_of t = fold-Type ℕ first_type_place t

abbrev pub first_place : ExprTree-F ℕ → ℕ
first_place (ExprTree-F.Number at value hex unit) = at
first_place (ExprTree-F.True at) = at
first_place (ExprTree-F.False at) = at
first_place (ExprTree-F.Named at name) = at
first_place (ExprTree-F.Parenthesised at inner) = at
first_place (ExprTree-F.Conversion at ty opened value) = at
first_place (ExprTree-F.TypeMember at ty member) = at
first_place (ExprTree-F.MessageMember at member) = at
first_place (ExprTree-F.SuperMember at member) = at
first_place (ExprTree-F.Index at base opened index) = at
first_place (ExprTree-F.Member at base member) = at
first_place (ExprTree-F.Call at callee opened arguments) = at
first_place (ExprTree-F.Not at operand) = at
first_place (ExprTree-F.Negation at operand) = at
first_place (ExprTree-F.Binary at left sign operator right) = at
first_place (ExprTree-F.Choice at condition question chosen otherwise) = at

-- the place of an expression's first token
abbrev pub place_of : ExprTree → ℕ
place_of e = fold-ExprTree ℕ first_place e
