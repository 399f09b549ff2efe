use Rattle.std.proofs.Common.{◌≡◌, length}
use Rattle.std.specs.List.{flat_map}
use Rattle.chc_templates.specs.Constants.{con_constants}
use Rattle.chc_templates.specs.Firsts.{firsts}
use Rattle.chc_templates.proofs.Orders.{onward}
use Rattle.chc_templates.proofs.comparisons.with_cons.Given as goal

abbrev pub invariant-loop-rest : goal.invariant-loop-rest
invariant-loop-rest l = onward con_constants l.made l.rest ≡ firsts l.fn.made (flat_map con_constants l.fn.cons)

abbrev pub decreases-loop-rest : goal.decreases-loop-rest
decreases-loop-rest l = length l.rest
