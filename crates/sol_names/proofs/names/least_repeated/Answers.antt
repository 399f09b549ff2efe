use Rattle.std.proofs.Common.{◌∙◌, sym, ap, subst, map, Option, ℕ, is_some}
use Rattle.sol_names.specs.Least.{least_from}
use Rattle.sol_names.specs.Names.{identifier_of}
use Rattle.sol_names.specs.Orders.{repeated}
use Rattle.sol_names.proofs.Naming.{Repeats, after_first, repeats-again, repeats-anew}
use Rattle.sol_names.proofs.names.least_repeated.Goals as goal

pub loop-rest-preserved-then-is_some : goal.loop-rest-preserved-then-is_some
loop-rest-preserved-then-is_some c =
    let whole = least_from c.args.least (repeated (map identifier_of c.args.names.now)) in
    subst (λ (m : Option ℕ). Repeats c.loop-rest.seen m (after_first c.loop-rest.rest.now) whole) (sym c.lesser-least.ensures)
    (repeats-again c.loop-rest.seen c.loop-rest.least c.loop-rest.rest.now whole c.in-len1-up.len_at_least (ap (λ (o : Option ℕ). is_some o) (sym c.number_of.ensures) ∙ sym c.is_some.ensures ∙ c.if-is_some.true) c.loop-rest.invariant)

pub loop-rest-preserved : goal.loop-rest-preserved
loop-rest-preserved c =
    let whole = least_from c.args.least (repeated (map identifier_of c.args.names.now)) in
    repeats-anew c.loop-rest.seen c.set_number.new.numbers c.loop-rest.least c.loop-rest.rest.now whole _ c.in-len1-up.len_at_least (ap (λ (o : Option ℕ). is_some o) (sym c.number_of.ensures) ∙ sym c.is_some.ensures ∙ c.if-is_some.false) c.in_ok-set_number.ensures c.loop-rest.invariant
