-- How high each statement is.
use Rattle.std.proofs.Common.{◌≡◌, ◌∙◌, sym, ap, refl, ℕ, ◌+◌, max, List, [], ◌∷◌, map, Bool, true, false, Option, Some, None}
use Rattle.sol_tree.specs.declared.types.Identifier.{Identifier}
use Rattle.sol_tree.specs.declared.expr.ExprTree as tree
use Rattle.sol_tree.specs.declared.expr.Arguments.{Arguments}
use Rattle.sol_tree.specs.declared.stmt.Text.{Text}
use Rattle.sol_tree.specs.declared.stmt.Simple.{Simple}
use Rattle.sol_tree.specs.declared.stmt.Stmt as stmt
use Rattle.sol_tree.specs.declared.stmt.Stmt.TheOpen.{Stmt-F}
use Rattle.sol_tree.specs.declared.stmt.Stmt.TheFolds.{fold-Stmt, fold-roll-Stmt}
use Rattle.sol_tree.specs.declared.stmt.Stmt.TheVariants as rolls
use Rattle.sol_parse_expr.specs.Heights.{height, greatest}
use Rattle.sol_parse_stmt.specs.Heights.{may_height, arguments_height, simple_height, may_simple_height, stmt_layer, stmt_height}

pub height-block : (at : ℕ) (ss : List stmt.Stmt) → stmt_height (stmt.Block at ss) ≡ greatest (map stmt_height ss) + 1
height-block at ss = ap stmt_height (sym (rolls.rolls-Block at ss)) ∙ fold-roll-Stmt ℕ stmt_layer (Stmt-F.Block at ss)

pub height-unchecked : (at : ℕ) (ss : List stmt.Stmt) → stmt_height (stmt.Unchecked at ss) ≡ greatest (map stmt_height ss) + 1
height-unchecked at ss = ap stmt_height (sym (rolls.rolls-Unchecked at ss)) ∙ fold-roll-Stmt ℕ stmt_layer (Stmt-F.Unchecked at ss)

pub height-simple : (at : ℕ) (s : Simple) → stmt_height (stmt.Simple at s) ≡ simple_height s + 1
height-simple at s = ap stmt_height (sym (rolls.rolls-Simple at s)) ∙ fold-roll-Stmt ℕ stmt_layer (Stmt-F.Simple at s)

pub height-if_alone : (at : ℕ) (e : tree.ExprTree) (s : stmt.Stmt) → stmt_height (stmt.If at e s None) ≡ max (height e) (max (stmt_height s) 0) + 1
height-if_alone at e s = ap stmt_height (sym (rolls.rolls-If at e s None)) ∙ fold-roll-Stmt ℕ stmt_layer (Stmt-F.If at e s None)

pub height-if_else : (at : ℕ) (e : tree.ExprTree) (s r : stmt.Stmt) → stmt_height (stmt.If at e s (Some r)) ≡ max (height e) (max (stmt_height s) (stmt_height r)) + 1
height-if_else at e s r = ap stmt_height (sym (rolls.rolls-If at e s (Some r))) ∙ fold-roll-Stmt ℕ stmt_layer (Stmt-F.If at e s (Some r))

pub height-while : (at : ℕ) (e : tree.ExprTree) (s : stmt.Stmt) → stmt_height (stmt.While at e s) ≡ max (height e) (stmt_height s) + 1
height-while at e s = ap stmt_height (sym (rolls.rolls-While at e s)) ∙ fold-roll-Stmt ℕ stmt_layer (Stmt-F.While at e s)

pub height-do : (at : ℕ) (s : stmt.Stmt) (e : tree.ExprTree) → stmt_height (stmt.DoWhile at s e) ≡ max (stmt_height s) (height e) + 1
height-do at s e = ap stmt_height (sym (rolls.rolls-DoWhile at s e)) ∙ fold-roll-Stmt ℕ stmt_layer (Stmt-F.DoWhile at s e)

pub height-for : (at : ℕ) (a : Option Simple) (e : Option tree.ExprTree) (b : Option Simple) (s : stmt.Stmt) → stmt_height (stmt.For at a e b s) ≡ max (may_simple_height a) (max (may_height e) (max (may_simple_height b) (stmt_height s))) + 1
height-for at a e b s = ap stmt_height (sym (rolls.rolls-For at a e b s)) ∙ fold-roll-Stmt ℕ stmt_layer (Stmt-F.For at a e b s)

pub height-break : (at : ℕ) → stmt_height (stmt.Break at) ≡ 1
height-break at = ap stmt_height (sym (rolls.rolls-Break at)) ∙ fold-roll-Stmt ℕ stmt_layer (Stmt-F.Break at)

pub height-continue : (at : ℕ) → stmt_height (stmt.Continue at) ≡ 1
height-continue at = ap stmt_height (sym (rolls.rolls-Continue at)) ∙ fold-roll-Stmt ℕ stmt_layer (Stmt-F.Continue at)

pub height-return : (at : ℕ) (e : Option tree.ExprTree) → stmt_height (stmt.Return at e) ≡ may_height e + 1
height-return at e = ap stmt_height (sym (rolls.rolls-Return at e)) ∙ fold-roll-Stmt ℕ stmt_layer (Stmt-F.Return at e)

pub height-placeholder : (at : ℕ) → stmt_height (stmt.Placeholder at) ≡ 1
height-placeholder at = ap stmt_height (sym (rolls.rolls-Placeholder at)) ∙ fold-roll-Stmt ℕ stmt_layer (Stmt-F.Placeholder at)

pub height-emit : (at : ℕ) (i : Identifier) (a : Arguments) → stmt_height (stmt.Emit at i a) ≡ arguments_height a + 1
height-emit at i a = ap stmt_height (sym (rolls.rolls-Emit at i a)) ∙ fold-roll-Stmt ℕ stmt_layer (Stmt-F.Emit at i a)

pub height-revert_with : (at : ℕ) (i : Identifier) (a : Arguments) → stmt_height (stmt.RevertWith at i a) ≡ arguments_height a + 1
height-revert_with at i a = ap stmt_height (sym (rolls.rolls-RevertWith at i a)) ∙ fold-roll-Stmt ℕ stmt_layer (Stmt-F.RevertWith at i a)

pub height-revert : (at : ℕ) (t : Option Text) → stmt_height (stmt.Revert at t) ≡ 1
height-revert at t = ap stmt_height (sym (rolls.rolls-Revert at t)) ∙ fold-roll-Stmt ℕ stmt_layer (Stmt-F.Revert at t)

pub height-require : (at : ℕ) (e : tree.ExprTree) (t : Option Text) → stmt_height (stmt.Require at e t) ≡ height e + 1
height-require at e t = ap stmt_height (sym (rolls.rolls-Require at e t)) ∙ fold-roll-Stmt ℕ stmt_layer (Stmt-F.Require at e t)

pub height-assert : (at : ℕ) (e : tree.ExprTree) → stmt_height (stmt.Assert at e) ≡ height e + 1
height-assert at e = ap stmt_height (sym (rolls.rolls-Assert at e)) ∙ fold-roll-Stmt ℕ stmt_layer (Stmt-F.Assert at e)
