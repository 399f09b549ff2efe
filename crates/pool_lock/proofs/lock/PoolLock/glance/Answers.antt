use Rattle.std.proofs.Common.{◌≡◌, ◌∙◌, ap, length, arith, rules}
use Rattle.std.proofs.lemmas.Bool.Decides.{nat_tests}
use Rattle.pool_lock.specs.Views.{seen_in}
use Rattle.pool_lock.proofs.Glances.{glances-at, glanced-looked}
use Rattle.pool_lock.proofs.lock.PoolLock.glance.Goals as goal

pub load-requires : goal.load-requires
load-requires g c = (search rules, search rules, glances-at g.T.Growing.list g.T.Growing.root c.args.self.now.table.shared.key _ _ _ c.requires.1 c.requires.3)

pub returns-clause-looked : goal.returns-clause-looked
returns-clause-looked g c = λ t.
    let p = c.requires.1 in
    let hit : c.load.result ≡ c.args.pass.now.seen = grind (arith, nat_tests, t) in
    let seen = c.args.pass.now.counted ∙ ap (λ m. length (seen_in m.0)) c.requires.3 in
    glanced-looked c.args.pass.now.seat.me c.load.new.seat.me p c.load.result c.requires.3 c.load.ensures.2 (hit ∙ seen)
