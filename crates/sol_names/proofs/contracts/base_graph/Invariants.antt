use Rattle.std.proofs.Common.{◌≡◌, ◌++◌, map, length}
use Rattle.std.specs.List.{flat_map}
use Rattle.sol_names.specs.Least.{least_from, least_in}
use Rattle.sol_names.specs.Orders.{unknown_of, unknown_bases, base_places, base_graph}
use Rattle.sol_names.proofs.contracts.base_graph.Given as goal

abbrev pub invariant-loop-rest : goal.invariant-loop-rest
invariant-loop-rest l = record {
  bases : l.graph ++ map (base_places l.units) l.rest ≡ base_graph l.units;
  unknown : least_from l.unknown (flat_map (unknown_of l.units) l.rest) ≡ least_in (unknown_bases l.units);
}

abbrev pub decreases-loop-rest : goal.decreases-loop-rest
decreases-loop-rest l = length l.rest
