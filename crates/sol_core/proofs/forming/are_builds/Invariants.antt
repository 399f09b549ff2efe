use Rattle.std.proofs.Common.{◌≡◌, drop}
use Rattle.std.specs.List.{list_all}
use Rattle.sol_core.specs.Formed.{is_build}
use Rattle.sol_core.proofs.forming.are_builds.Given as goal

abbrev pub invariant-loop-build : goal.invariant-loop-build
invariant-loop-build l = list_all (is_build l.p) (drop l.build-index l.builds) ≡ list_all (is_build l.p) l.fn.builds
