use Rattle.std.proofs.Common.{◌≡◌, [], drop}
use Rattle.sol_judged.specs.Settings.{setting}
use Rattle.sol_unit.specs.Reads.{read_types, read_param}
use Rattle.sol_unit.proofs.reads.read_params.Given as goal

abbrev pub invariant-loop-param : goal.invariant-loop-param
invariant-loop-param l =
    let one = read_param (setting l.fn.w) in
    read_types one [] l.fn.params ≡ read_types one l.types (drop l.param-index l.fn.params)
