use Rattle.std.proofs.Common.{◌≡◌, sym, subst, ℕ, take, drop, ◌++◌, length, arith, All}
use Rattle.std.proofs.Math.Seq.{take-append_seam}
use Rattle.pool_lock.specs.Calls.{IsFresh, ArePassesOf}
use Rattle.pool_lock.proofs.Passes.{all-fresh, all-ours}
use Rattle.pool_bench.proofs.crew.share.Goals as goal

pub look_all-requires-clause-fresh : goal.look_all-requires-clause-fresh
look_all-requires-clause-fresh g c κs within =
    let id = c.in-Ok.opened.0.table.shared.table_id in
    subst (All (IsFresh id)) (sym c.as_mut_slice-all.ensures.value) (all-fresh id _ 0 c.in-Ok.opened.1.items c.in-Ok.ensures.fresh)

pub close-row-requires-clause-ours : goal.close-row-requires-clause-ours
close-row-requires-clause-ours g c =
    let id = c.in-Ok.opened.0.table.shared.table_id in
    let a = c.look_all.auto.passes in
    let b = c.publish_all.auto.passes in
    let l = c.as_mut_slice-all.ensures.len in
    let e : length c.publish_all.new.passes ≡ c.in-Ok.opened.1.len = omega arith in
    let all = c.publish_all.new.passes in
    let rest = drop (length all) c.in-Ok.opened.1.items in
    let same : take c.in-Ok.opened.1.len (all ++ rest) ≡ all = subst (λ (n : ℕ). take n (all ++ rest) ≡ all) e (take-append_seam all rest) in
    subst (ArePassesOf id) (sym same) (all-ours id all c.publish_all.ensures)
