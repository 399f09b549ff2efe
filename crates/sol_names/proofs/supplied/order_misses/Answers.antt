use Rattle.std.proofs.Common.{◌∙◌, ap, List, ◌||◌, is_some}
use Rattle.std.specs.List.{list_any}
use Rattle.sol_tree.specs.declared.file.Member.{Member}
use Rattle.sol_names.specs.Names.{number_of}
use Rattle.sol_names.specs.Units.{implemented, exposed}
use Rattle.sol_names.specs.Orders.{gives}
use Rattle.sol_names.proofs.Supplying.{missing-more, missing-none}
use Rattle.sol_names.proofs.supplied.order_misses.Goals as goal

pub loop-rest-preserved-in_ok-add_variables : goal.loop-rest-preserved-in_ok-add_variables
loop-rest-preserved-in_ok-add_variables c =
    missing-more c.args.units.now c.loop-rest.functions c.loop-rest.variables c.add_functions.new.numbers c.add_variables.new.numbers c.loop-rest.rest.now _ c.in-Some.unit.now c.misses.result c.in-len1-up.len_at_least c.in-Some.ensures (c.misses.ensures c.args.units.now) c.if-misses.false
    (λ q. c.in_ok-add_functions.ensures q ∙ ap (λ (ms : List Member). is_some (number_of c.loop-rest.functions q) || list_any (gives implemented q) ms) c.members.ensures)
    (λ q. c.in_ok-add_variables.ensures q ∙ ap (λ (ms : List Member). is_some (number_of c.loop-rest.variables q) || list_any (gives exposed q) ms) c.members-in-Some.ensures)
    c.loop-rest.invariant

pub loop-rest-preserved : goal.loop-rest-preserved
loop-rest-preserved c = missing-none c.args.units.now c.loop-rest.functions c.loop-rest.variables c.loop-rest.rest.now _ c.in-len1-up.len_at_least c.in_default-unit_at.ensures c.loop-rest.invariant
