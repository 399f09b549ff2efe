use Rattle.std.proofs.Common.{rules, of_calls, leb}
use Rattle.std.proofs.lemmas.Fn.{always_returns_same}
use Rattle.sol_reader.proofs.Points.{begun-search, rising-splits}
use Rattle.sol_reader.proofs.lines.begun.Goals as goal

pub returns-clause-value : goal.returns-clause-value
returns-clause-value c =
    let point = c.partition_point.ensures.partitioned (λ s. leb s c.args.at) (always_returns_same _ _ _ (λ a r f k. search (rules, of_calls))) (rising-splits c.args.starts.now c.args.at c.requires) in
    begun-search c.args.starts.now c.args.at c.partition_point.result c.partition_point.ensures.bound point
