use Rattle.std.proofs.Common.{◌≡◌, map, drop}
use Rattle.sol_judged.specs.Settings.{setting}
use Rattle.sol_declared.specs.Initialisers.{all_little, reading}
use Rattle.sol_declared.proofs.initialisers.+readings.Given as goal

abbrev pub invariant-all_read_little-loop-e : goal.invariant-all_read_little-loop-e
invariant-all_read_little-loop-e l =
    let one = reading (setting l.fn.w) in
    all_little (map one l.fn.all) ≡ all_little (map one (drop l.e-index l.fn.all))
