use Rattle.std.proofs.Common.{rules, refl}
use Rattle.std.proofs.lemmas.Option.{slice_get-get_or}
use Rattle.sol_judged.proofs.Linking.{links-first, links-next, links-on}
use Rattle.sol_judged.proofs.linked.Members.from_vec.Goals as goal

pub loop-entry-init : goal.loop-entry-init
loop-entry-init c = (links-first c.as_slice-entry-items.result.now c.new-previous.result.items c.new-last.result c.new-previous.ensures.items (λ q. rw c.new-last.ensures.empty refl), refl)

pub loop-entry-preserved : goal.loop-entry-preserved
loop-entry-preserved c = (links-on refl (links-next c.as_slice-entry-items.result.now c.loop-entry.entry-index c.loop-entry.previous.items c.push.new.self.items c.loop-entry.last c.set_number.new.last _ _ _ c.loop-entry.invariant.0 (slice_get-get_or c.as_slice-entry-items.result.now c.loop-entry.entry-index _ (search rules)) c.in_ok-push.ensures.items c.number_of.ensures c.in_ok-set_number.ensures c.loop-entry.invariant.1), search rules)
