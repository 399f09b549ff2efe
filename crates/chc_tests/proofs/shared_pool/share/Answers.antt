use Rattle.std.proofs.Common.{rules, ◌≡◌, sym, subst, ℕ, take, drop, ◌++◌, length, arith, All}
use Rattle.std.proofs.Math.Seq.{take-append_seam}
use Rattle.std.specs.Arc.{arc_value}
use Rattle.pool_lock.specs.Calls.{ArePassesOf}
use Rattle.pool_lock.proofs.Passes.{all-ours}
use Rattle.chc_tests.specs.Ready.{IsBeginner}
use Rattle.chc_tests.proofs.Turning.{beginners}
use Rattle.chc_tests.proofs.shared_pool.share.Goals as goal

pub work-well-requires-clause-beginners : goal.work-well-requires-clause-beginners
work-well-requires-clause-beginners g c κs within =
    let id = c.in-Ok.opened.0.table.shared.table_id in
    let s = arc_value c.in_ok-s.s in
    let e : c.in_ok-pool.pool.system ≡ s = search rules in
    subst (All (IsBeginner id s)) (sym c.as_mut_slice-all.ensures.value) (beginners id s _ 0 c.in-Ok.opened.1.items e c.in-Ok.ensures.fresh)

pub close-pool-requires-clause-ours : goal.close-pool-requires-clause-ours
close-pool-requires-clause-ours g c =
    let id = c.in-Ok.opened.0.table.shared.table_id in
    let a = c.work-well.auto.passes in
    let l = c.as_mut_slice-all.ensures.len in
    let e : length c.work-well.new.passes ≡ c.in-Ok.opened.1.len = omega arith in
    let all = c.work-well.new.passes in
    let rest = drop (length all) c.in-Ok.opened.1.items in
    let same : take c.in-Ok.opened.1.len (all ++ rest) ≡ all = subst (λ (n : ℕ). take n (all ++ rest) ≡ all) e (take-append_seam all rest) in
    subst (ArePassesOf id) (sym same) (all-ours id all c.work-well.ensures)
