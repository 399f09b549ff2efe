use Rattle.std.proofs.Common.{rules, ap, sym, ◌∙◌, ◌∷◌, Some}
use Rattle.atomic_table.specs.Table.{rest}
use Rattle.pool_lock.proofs.lock.PoolLock.take_out.Goals as goal

pub exchange-requires : goal.exchange-requires
exchange-requires g c =
    let k = c.requires.has in
    (search rules, (Some k.0, k.1 ∙ ap (λ l. (0, Some k.0) ∷ l) (sym (ap rest k.1))))
