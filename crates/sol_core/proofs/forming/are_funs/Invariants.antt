use Rattle.std.proofs.Common.{◌≡◌, drop}
use Rattle.std.specs.List.{list_all}
use Rattle.sol_core.specs.Formed.{is_fun}
use Rattle.sol_core.proofs.forming.are_funs.Given as goal

abbrev pub invariant-loop-fun : goal.invariant-loop-fun
invariant-loop-fun l = list_all (is_fun l.p) (drop l.fun-index l.funs) ≡ list_all (is_fun l.p) l.fn.funs
