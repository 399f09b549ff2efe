use Rattle.std.proofs.Common.{◌≡◌, drop}
use Rattle.sol_outside.specs.Numbered.{told_cut}
use Rattle.sol_outside.proofs.memory.told_cut.Given as goal

abbrev pub invariant-loop-entry : goal.invariant-loop-entry
invariant-loop-entry l = told_cut (drop l.entry-index l.fails) l.number ≡ told_cut l.fails l.number
