use Rattle.std.proofs.Common.{◌≡◌, ap, length, arith}
use Rattle.std.specs.Prelude.{is_ok}
use Rattle.std.specs.Arc.{arc_value}
use Rattle.pool_state.specs.Content.{Batched}
use Rattle.pool_state.proofs.Growing.{pool-kept}
use Rattle.pool_state.proofs.pool.Pool.append.Goals as goal

pub invariant_of-self : goal.invariant_of-self
invariant_of-self c =
    let parts = c.into_parts-system.ensures.is in
    let lemmas : c.args.batch.lemmas ≡ c.into_parts-system.result.2.items = ap (λ (b : Batched). b.lemmas) parts in
    let base : c.len.result ≡ length c.args.batch.base = omega (arith, c.len.ensures, c.into_parts-system.result.1.ok, ap (λ (b : Batched). length b.base) parts) in
    let len : c.len-2.result ≡ length c.into_parts-system.result.2.items = omega (arith, c.len-2.ensures, c.into_parts-system.result.2.ok) in
    pool-kept (is_ok c.join.result) (record { system = arc_value c.self.inside.system; batches = c.self.inside.batches.items; lemmas = c.self.inside.lemmas.items }) c.args.self.now c.args.batch _ c.join.new.batches.items c.join.new.lemmas.items _
    c.self.view_is c.self.invariant lemmas c.into_parts-system.ensures.keeps c.requires base len c.join.ensures.batches c.join.ensures.lemmas
