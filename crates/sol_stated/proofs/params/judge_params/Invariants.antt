use Rattle.std.proofs.Common.{◌≡◌, drop}
use Rattle.sol_stated.specs.Contexts.{context}
use Rattle.sol_stated.specs.Bodies.{params}
use Rattle.sol_stated.proofs.params.judge_params.Given as goal

abbrev pub invariant-loop-param : goal.invariant-loop-param
invariant-loop-param l = params (context l.fn.around) l.fn.all l.fn.scope ≡ params (context l.fn.around) (drop l.param-index l.fn.all) l.scope
