use Rattle.std.proofs.Common.{◌≡◌, drop}
use Rattle.sol_outside.specs.Numbered.{is_told}
use Rattle.sol_outside.proofs.memory.is_told.Given as goal

abbrev pub invariant-loop-told : goal.invariant-loop-told
invariant-loop-told l = is_told (drop l.told-index l.fails) l.number ≡ is_told l.fails l.number
