use Rattle.std.proofs.Common.{◌≡◌, length}
use Rattle.std.specs.Option.{option_or}
use Rattle.sol_judged.specs.Names.{last_binding}
use Rattle.sol_judged.proofs.names.last_binding.Given as goal

abbrev pub invariant-loop-rest : goal.invariant-loop-rest
invariant-loop-rest l = option_or (last_binding l.rest l.name) l.last ≡ last_binding l.bindings l.name

abbrev pub decreases-loop-rest : goal.decreases-loop-rest
decreases-loop-rest l = length l.rest
