use Rattle.std.proofs.Common.{◌≡◌, drop}
use Rattle.sol_core.specs.Statements.{are_stmts}
use Rattle.sol_core.proofs.statements.+is_stmt.Given as goal

abbrev pub invariant-are_stmts-loop-s : goal.invariant-are_stmts-loop-s
invariant-are_stmts-loop-s l = are_stmts l.p l.locals l.view (drop l.s-index l.all) l.in_loop ≡ are_stmts l.p l.locals l.view l.fn.all l.in_loop
