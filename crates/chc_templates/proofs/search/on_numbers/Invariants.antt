use Rattle.std.proofs.Common.{◌≡◌, length, take}
use Rattle.chc_templates.specs.Candidates.{on_numbers}
use Rattle.chc_templates.proofs.Splitting.{numbers_onward}
use Rattle.chc_templates.proofs.search.on_numbers.Given as goal

abbrev pub invariant-loop-rest : goal.invariant-loop-rest
invariant-loop-rest l = numbers_onward l.fn.preds l.made l.rest ≡ take 1024 (on_numbers l.fn.preds l.fn.numbers)

abbrev pub decreases-loop-rest : goal.decreases-loop-rest
decreases-loop-rest l = length l.rest
