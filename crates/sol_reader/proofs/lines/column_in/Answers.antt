use Rattle.sol_reader.proofs.Points.{are-rising}
use Rattle.sol_reader.proofs.lines.column_in.Goals as goal

pub start-requires : goal.start-requires
start-requires c = are-rising c.args.starts.now c.args.text.now c.requires
