use Rattle.std.proofs.Common.{◌≡◌, drop}
use Rattle.std.specs.List.{list_all}
use Rattle.sol_core.specs.Formed.{is_map}
use Rattle.sol_core.proofs.forming.are_maps.Given as goal

abbrev pub invariant-loop-map : goal.invariant-loop-map
invariant-loop-map l = list_all is_map (drop l.map-index l.maps) ≡ list_all is_map l.fn.maps
