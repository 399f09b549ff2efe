use Rattle.sol_eval.proofs.calls.+call.Given as goal

abbrev pub decreases-call : goal.decreases-call
decreases-call l = l.frame.now.level
