use Rattle.std.proofs.Common.{◌≡◌, map, drop}
use Rattle.sol_stated.specs.Contexts.{context}
use Rattle.sol_stated.specs.Scopes.{opened}
use Rattle.sol_stated.specs.Statements.{in_order, statement}
use Rattle.sol_stated.proofs.statements.+statements.Given as goal

abbrev pub invariant-judge_block-loop-s : goal.invariant-judge_block-loop-s
invariant-judge_block-loop-s l = in_order (map statement l.fn.statements) (context l.fn.around) (opened l.fn.scope) ≡ in_order (map statement (drop l.s-index l.fn.statements)) (context l.fn.around) l.scope
