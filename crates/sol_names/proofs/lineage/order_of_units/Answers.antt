use Rattle.std.proofs.Common.{◌∙◌}
use Rattle.sol_names.proofs.Graphs.{graph-below}
use Rattle.sol_names.proofs.lineage.order_of_units.Goals as goal

pub linearized-requires : goal.linearized-requires
linearized-requires c = graph-below c.args.units.now c.as_slice.result.now (c.as_slice.ensures ∙ c.in_ok-graph.ensures.bases)
