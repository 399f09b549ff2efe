-- Which statements an `else` behind them would belong to.
use Rattle.std.proofs.Common.{◌≡◌, ◌∙◌, sym, ap, refl, ℕ, ◌+◌, max, List, [], ◌∷◌, map, Bool, true, false, Option, Some, None}
use Rattle.sol_tree.specs.declared.types.Identifier.{Identifier}
use Rattle.sol_tree.specs.declared.expr.ExprTree as tree
use Rattle.sol_tree.specs.declared.expr.Arguments.{Arguments}
use Rattle.sol_tree.specs.declared.stmt.Text.{Text}
use Rattle.sol_tree.specs.declared.stmt.Simple.{Simple}
use Rattle.sol_tree.specs.declared.stmt.Stmt as stmt
use Rattle.sol_tree.specs.declared.stmt.Stmt.TheOpen.{Stmt-F}
use Rattle.sol_tree.specs.declared.stmt.Stmt.TheFolds.{fold-Stmt, fold-roll-Stmt}
use Rattle.sol_tree.specs.declared.stmt.Stmt.TheVariants as rolls
use Rattle.sol_parse_stmt.specs.Grammar.{open_layer, ends_open}

pub open-block : (at : ℕ) (ss : List stmt.Stmt) → ends_open (stmt.Block at ss) ≡ false
open-block at ss = ap ends_open (sym (rolls.rolls-Block at ss)) ∙ fold-roll-Stmt Bool open_layer (Stmt-F.Block at ss)

pub open-unchecked : (at : ℕ) (ss : List stmt.Stmt) → ends_open (stmt.Unchecked at ss) ≡ false
open-unchecked at ss = ap ends_open (sym (rolls.rolls-Unchecked at ss)) ∙ fold-roll-Stmt Bool open_layer (Stmt-F.Unchecked at ss)

pub open-simple : (at : ℕ) (s : Simple) → ends_open (stmt.Simple at s) ≡ false
open-simple at s = ap ends_open (sym (rolls.rolls-Simple at s)) ∙ fold-roll-Stmt Bool open_layer (Stmt-F.Simple at s)

pub open-if_alone : (at : ℕ) (e : tree.ExprTree) (s : stmt.Stmt) → ends_open (stmt.If at e s None) ≡ true
open-if_alone at e s = ap ends_open (sym (rolls.rolls-If at e s None)) ∙ fold-roll-Stmt Bool open_layer (Stmt-F.If at e s None)

pub open-if_else : (at : ℕ) (e : tree.ExprTree) (s r : stmt.Stmt) → ends_open (stmt.If at e s (Some r)) ≡ ends_open r
open-if_else at e s r = ap ends_open (sym (rolls.rolls-If at e s (Some r))) ∙ fold-roll-Stmt Bool open_layer (Stmt-F.If at e s (Some r))

pub open-while : (at : ℕ) (e : tree.ExprTree) (s : stmt.Stmt) → ends_open (stmt.While at e s) ≡ ends_open s
open-while at e s = ap ends_open (sym (rolls.rolls-While at e s)) ∙ fold-roll-Stmt Bool open_layer (Stmt-F.While at e s)

pub open-do : (at : ℕ) (s : stmt.Stmt) (e : tree.ExprTree) → ends_open (stmt.DoWhile at s e) ≡ false
open-do at s e = ap ends_open (sym (rolls.rolls-DoWhile at s e)) ∙ fold-roll-Stmt Bool open_layer (Stmt-F.DoWhile at s e)

pub open-for : (at : ℕ) (a : Option Simple) (e : Option tree.ExprTree) (b : Option Simple) (s : stmt.Stmt) → ends_open (stmt.For at a e b s) ≡ ends_open s
open-for at a e b s = ap ends_open (sym (rolls.rolls-For at a e b s)) ∙ fold-roll-Stmt Bool open_layer (Stmt-F.For at a e b s)

pub open-break : (at : ℕ) → ends_open (stmt.Break at) ≡ false
open-break at = ap ends_open (sym (rolls.rolls-Break at)) ∙ fold-roll-Stmt Bool open_layer (Stmt-F.Break at)

pub open-continue : (at : ℕ) → ends_open (stmt.Continue at) ≡ false
open-continue at = ap ends_open (sym (rolls.rolls-Continue at)) ∙ fold-roll-Stmt Bool open_layer (Stmt-F.Continue at)

pub open-return : (at : ℕ) (e : Option tree.ExprTree) → ends_open (stmt.Return at e) ≡ false
open-return at e = ap ends_open (sym (rolls.rolls-Return at e)) ∙ fold-roll-Stmt Bool open_layer (Stmt-F.Return at e)

pub open-placeholder : (at : ℕ) → ends_open (stmt.Placeholder at) ≡ false
open-placeholder at = ap ends_open (sym (rolls.rolls-Placeholder at)) ∙ fold-roll-Stmt Bool open_layer (Stmt-F.Placeholder at)

pub open-emit : (at : ℕ) (i : Identifier) (a : Arguments) → ends_open (stmt.Emit at i a) ≡ false
open-emit at i a = ap ends_open (sym (rolls.rolls-Emit at i a)) ∙ fold-roll-Stmt Bool open_layer (Stmt-F.Emit at i a)

pub open-revert_with : (at : ℕ) (i : Identifier) (a : Arguments) → ends_open (stmt.RevertWith at i a) ≡ false
open-revert_with at i a = ap ends_open (sym (rolls.rolls-RevertWith at i a)) ∙ fold-roll-Stmt Bool open_layer (Stmt-F.RevertWith at i a)

pub open-revert : (at : ℕ) (t : Option Text) → ends_open (stmt.Revert at t) ≡ false
open-revert at t = ap ends_open (sym (rolls.rolls-Revert at t)) ∙ fold-roll-Stmt Bool open_layer (Stmt-F.Revert at t)

pub open-require : (at : ℕ) (e : tree.ExprTree) (t : Option Text) → ends_open (stmt.Require at e t) ≡ false
open-require at e t = ap ends_open (sym (rolls.rolls-Require at e t)) ∙ fold-roll-Stmt Bool open_layer (Stmt-F.Require at e t)

pub open-assert : (at : ℕ) (e : tree.ExprTree) → ends_open (stmt.Assert at e) ≡ false
open-assert at e = ap ends_open (sym (rolls.rolls-Assert at e)) ∙ fold-roll-Stmt Bool open_layer (Stmt-F.Assert at e)
