use Rattle.std.proofs.Common.{rules}
use Rattle.pool_claims.proofs.Keeps.{splits}
use Rattle.pool_claims.proofs.claims.Claims.split.Goals as goal

pub split_seat-requires : goal.split_seat-requires
split_seat-requires c = (search rules, search rules, splits c.args.self.now.table.shared.key c.args.seat.now.id c.args.seat.now.me.0)
