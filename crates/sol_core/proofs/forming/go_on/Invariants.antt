use Rattle.std.proofs.Common.{◌≡◌, drop}
use Rattle.std.specs.List.{list_all}
use Rattle.sol_core.specs.Formed.{goes_on}
use Rattle.sol_core.proofs.forming.go_on.Given as goal

abbrev pub invariant-loop-byte : goal.invariant-loop-byte
invariant-loop-byte l = list_all goes_on (drop l.byte-index l.bytes) ≡ list_all goes_on l.fn.bytes
