use Rattle.std.proofs.Common.{◌≡◌, drop}
use Rattle.sol_probe.specs.Noted.{noted}
use Rattle.sol_probe.proofs.search.note.Given as goal

abbrev pub invariant-loop-site : goal.invariant-loop-site
invariant-loop-site l = noted l.script l.firsts (drop l.site-index l.hits) ≡ noted l.script l.fn.firsts l.fn.hits
