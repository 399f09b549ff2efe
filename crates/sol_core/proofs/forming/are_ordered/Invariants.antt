use Rattle.std.proofs.Common.{◌≡◌, drop}
use Rattle.sol_core.specs.Formed.{in_order, are_ordered}
use Rattle.sol_core.proofs.forming.are_ordered.Given as goal

abbrev pub invariant-loop-site : goal.invariant-loop-site
invariant-loop-site l = in_order l.last (drop l.site-index l.rest) ≡ are_ordered l.sites
