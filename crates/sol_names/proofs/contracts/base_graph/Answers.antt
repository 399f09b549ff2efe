use Rattle.sol_names.proofs.Naming.{unknown-turn, bases-turn}
use Rattle.sol_names.proofs.contracts.base_graph.Goals as goal

pub loop-rest-preserved : goal.loop-rest-preserved
loop-rest-preserved c = record {
  bases = bases-turn c.args.units.now c.unit-item.result c.loop-rest.rest.now c.loop-rest.graph c.push.new.self _ c.in_ok-places_of.field-0 c.in-len1-up.len_at_least c.unit-item.is c.in_ok-places_of.ensures c.in_ok-push.ensures.added c.loop-rest.invariant.bases;
  unknown = unknown-turn c.args.units.now c.unit-item.result c.loop-rest.rest.now c.bases.result.now c.loop-rest.unknown c.least_unknown-unknown.result _ c.in-len1-up.len_at_least c.unit-item.is c.bases.ensures c.least_unknown-unknown.ensures c.loop-rest.invariant.unknown;
}
