use Rattle.std.specs.Arc.{arc_value}
use Rattle.std.proofs.Common.{◌≡◌, length, drop, None, arith}
use Rattle.chc_reduce.specs.Obligations.{for_lemmas}
use Rattle.pool_state.specs.Unproved.{unproved}
use Rattle.pool_state.proofs.Batching.{batch-kept, seen-proved}
use Rattle.pool_state.proofs.batch.Batch.new.Goals as goal

pub invariant_of-result : goal.invariant_of-result
invariant_of-result c =
    let passed : unproved (for_lemmas (arc_value c.args.s.now) c.append.new.self.items 0 (drop c.len-had.result c.append.new.self.items)) c.args.proofs.items ≡ None =
    seen-proved (arc_value c.args.s.now) _ c.append.new.self.items _ c.len-had.result c.args.proofs.items _ None c.deref.ensures c.as_slice.ensures.value c.as_slice-2.ensures.value c.in_ok-test_batch.ensures.1 in
    let had : c.len-had.result ≡ length c.args.base.items = omega (arith, c.len-had.ensures, c.args.base.ok) in
    batch-kept (arc_value c.args.s.now) (arc_value c.in_ok-system.system) c.args.base.items c.args.lemmas.items c.append.new.self.items c.split_off.new.self.items c.in_ok-lemmas.lemmas.items c.len-had.result c.args.proofs.items c.in_ok-system.ensures c.in_ok-append.ensures.items had c.in_ok-lemmas.ensures.items c.in_ok-lemmas.ensures.tail c.requires.made c.requires.base_of c.requires.lemmas_of c.requires.some c.requires.few passed
