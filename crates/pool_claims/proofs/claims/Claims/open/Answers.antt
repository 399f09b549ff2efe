use Rattle.std.proofs.Common.{◌<◌, ◌^◌, rules}
use Rattle.pool_claims.proofs.Keeps.{opens}
use Rattle.pool_claims.proofs.claims.Claims.open.Goals as goal

pub of_words-requires : goal.of_words-requires
of_words-requires c =
    let small : c.args.numbers < 2 ^ 32 = search rules in
    opens (record { numbers = c.args.numbers; passes = c.args.passes }) c.requires.most small
