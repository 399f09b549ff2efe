use Rattle.std.proofs.Common.{◌∙◌, ap, map, List}
use Rattle.sol_names.specs.declared.names.Named.{Named}
use Rattle.sol_names.specs.Least.{least_from}
use Rattle.sol_names.specs.Names.{identifier_of}
use Rattle.sol_names.specs.Orders.{repeated}
use Rattle.sol_names.proofs.Naming.{twice-start, twice-turn}
use Rattle.sol_names.proofs.contracts.twice_named.Goals as goal

pub loop-rest-init : goal.loop-rest-init
loop-rest-init c =
    twice-start c.args.units.now c.in_ok-names.names.items c.in_ok-least.least c.in_ok-names.ensures (c.in_ok-least.ensures ∙ ap (λ (ns : List Named). least_from _ (repeated (map identifier_of ns))) c.as_slice.ensures.value)

pub loop-rest-preserved : goal.loop-rest-preserved
loop-rest-preserved c =
    twice-turn c.unit-item.result c.loop-rest.rest.now c.members.result.now c.in_ok-names-2.names.items c.loop-rest.least c.in_ok-least-2.least _ c.in-len1-up.len_at_least c.unit-item.is c.members.ensures c.in_ok-names-2.ensures (c.in_ok-least-2.ensures ∙ ap (λ (ns : List Named). least_from c.loop-rest.least (repeated (map identifier_of ns))) c.as_slice-in-len1-up.ensures.value) c.loop-rest.invariant
