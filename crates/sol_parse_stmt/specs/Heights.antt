-- How many levels a statement has.
use Rattle.std.specs.Prelude.{ℕ, ◌+◌, max, List, [], ◌∷◌, map, Option, Some, None}
use Rattle.sol_tree.specs.declared.expr.ExprTree as tree
use Rattle.sol_tree.specs.declared.expr.Arguments.{Arguments}
use Rattle.sol_tree.specs.declared.expr.Initial.{Initial}
use Rattle.sol_tree.specs.declared.stmt.Simple.{Simple}
use Rattle.sol_tree.specs.declared.stmt.Simple.TheVariants as simple
use Rattle.sol_tree.specs.declared.stmt.Block.{Block}
use Rattle.sol_tree.specs.declared.stmt.Stmt as stmt
use Rattle.sol_tree.specs.declared.stmt.Stmt.TheOpen.{Stmt-F}
use Rattle.sol_tree.specs.declared.stmt.Stmt.TheFolds.{fold-Stmt}
use Rattle.sol_parse_expr.specs.Heights.{type_height, height, greatest}

abbrev pub may_height : Option tree.ExprTree → ℕ
may_height None = 0
may_height (Some e) = height e

abbrev pub initial_height : Option Initial → ℕ
initial_height None = 0
initial_height (Some i) = height i.value

abbrev pub arguments_height : Arguments → ℕ
arguments_height a = greatest (map height a.values)

-- the levels of the types and expressions directly inside it; it has none of its own
abbrev pub simple_height : Simple → ℕ
simple_height (simple.Declaration at ty name initial) = max (type_height ty) (initial_height initial)
simple_height (simple.Assignment at target operator_at operator value) = max (height target) (height value)
simple_height (simple.StepAfter at target operator_at operator) = height target
simple_height (simple.StepBefore at operator target) = height target
simple_height (simple.Delete at target) = height target
simple_height (simple.Expression at expr) = height expr

abbrev pub may_simple_height : Option Simple → ℕ
may_simple_height None = 0
may_simple_height (Some s) = simple_height s

abbrev pub or_none : Option ℕ → ℕ
or_none None = 0
or_none (Some n) = n

abbrev pub stmt_layer : Stmt-F ℕ → ℕ
stmt_layer (Stmt-F.Block at statements) = greatest statements + 1
stmt_layer (Stmt-F.Unchecked at statements) = greatest statements + 1
stmt_layer (Stmt-F.Simple at s) = simple_height s + 1
stmt_layer (Stmt-F.If at condition chosen otherwise) = max (height condition) (max chosen (or_none otherwise)) + 1
stmt_layer (Stmt-F.While at condition body) = max (height condition) body + 1
stmt_layer (Stmt-F.DoWhile at body condition) = max body (height condition) + 1
stmt_layer (Stmt-F.For at start condition next body) = max (may_simple_height start) (max (may_height condition) (max (may_simple_height next) body)) + 1
stmt_layer (Stmt-F.Break at) = 1
stmt_layer (Stmt-F.Continue at) = 1
stmt_layer (Stmt-F.Return at value) = may_height value + 1
stmt_layer (Stmt-F.Placeholder at) = 1
stmt_layer (Stmt-F.Emit at event arguments) = arguments_height arguments + 1
stmt_layer (Stmt-F.RevertWith at error arguments) = arguments_height arguments + 1
stmt_layer (Stmt-F.Revert at text) = 1
stmt_layer (Stmt-F.Require at condition text) = height condition + 1
stmt_layer (Stmt-F.Assert at condition) = height condition + 1

-- each statement is one level above the statements, types and expressions directly inside it
abbrev pub stmt_height : stmt.Stmt → ℕ
stmt_height s = fold-Stmt ℕ stmt_layer s

-- a body's block is no level of its own
abbrev pub block_height : Block → ℕ
block_height b = greatest (map stmt_height b.statements)
