use Rattle.std.proofs.Common.{rules}
use Rattle.pool_claims.proofs.Keeps.{joins}
use Rattle.pool_claims.proofs.claims.Claims.join.Goals as goal

pub join_seat-requires : goal.join_seat-requires
join_seat-requires c = (c.requires.own.0, c.requires.own.1, c.requires.hands.1, search rules, joins c.args.self.now.table.shared.key c.args.seat.now.id c.args.seat.now.me.0 c.args.other.id c.args.other.me.0)
