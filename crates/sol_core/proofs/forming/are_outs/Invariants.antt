use Rattle.std.proofs.Common.{◌≡◌, drop}
use Rattle.std.specs.List.{list_all}
use Rattle.sol_core.specs.Formed.{is_out_fun}
use Rattle.sol_core.proofs.forming.are_outs.Given as goal

abbrev pub invariant-loop-out : goal.invariant-loop-out
invariant-loop-out l = list_all is_out_fun (drop l.out-index l.outs) ≡ list_all is_out_fun l.fn.outs
