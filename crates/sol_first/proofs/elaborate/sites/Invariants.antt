use Rattle.std.proofs.Common.{◌≡◌, ◌++◌, drop}
use Rattle.sol_first.specs.Elaborated.{sites_of}
use Rattle.sol_first.proofs.elaborate.sites.Given as goal

abbrev pub invariant-loop-function : goal.invariant-loop-function
invariant-loop-function l = l.sites ++ sites_of (drop l.function-index l.functions) ≡ sites_of l.functions
