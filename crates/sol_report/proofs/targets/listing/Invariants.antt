use Rattle.std.proofs.Common.{◌≡◌, ◌++◌, map, drop}
use Rattle.sol_report.specs.Listing.{listed_line}
use Rattle.sol_report.proofs.targets.listing.Given as goal

abbrev pub invariant-loop-site : goal.invariant-loop-site
invariant-loop-site l = l.lines ++ map listed_line (drop l.site-index l.sites) ≡ map listed_line l.sites
