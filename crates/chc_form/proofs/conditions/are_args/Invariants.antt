use Rattle.std.proofs.Common.{◌≡◌, length}
use Rattle.chc_form.specs.WellMade.{are_args}
use Rattle.chc_form.proofs.conditions.are_args.Given as goal

abbrev pub invariant-loop-ss : goal.invariant-loop-ss
invariant-loop-ss l = are_args l.fn.vars l.ss l.xs ≡ are_args l.fn.vars l.fn.sorts l.fn.args

abbrev pub decreases-loop-ss : goal.decreases-loop-ss
decreases-loop-ss l = length l.ss
