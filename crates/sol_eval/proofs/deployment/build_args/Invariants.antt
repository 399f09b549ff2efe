use Rattle.std.proofs.Common.{◌≡◌, map, take}
use Rattle.sol_meaning.specs.Run.{build_arg}
use Rattle.sol_eval.proofs.deployment.build_args.Given as goal

abbrev pub invariant-loop-arg : goal.invariant-loop-arg
invariant-loop-arg l = l.all ≡ map (build_arg l.given) (take l.arg-index l.args)
