use Rattle.std.proofs.Common.{rules}
use Rattle.pool_claims.proofs.Keeps.{claims-at, drew-is}
use Rattle.pool_claims.proofs.claims.Claims.draw.Goals as goal

pub fetch_add-requires : goal.fetch_add-requires
fetch_add-requires c =
    let o = c.requires.unended in
    let key = c.args.self.now.table.shared.key in
    (search rules, search rules, claims-at key c.args.self.now.numbers _ _ _ c.args.self.now.same o.0 o.1)

pub returns-clause-drew : goal.returns-clause-drew
returns-clause-drew c drawn e = drew-is c.args.self.now.numbers c.args.seat.now.me c.fetch_add.new.seat.me c.fetch_add.result drawn e c.fetch_add.ensures.2
