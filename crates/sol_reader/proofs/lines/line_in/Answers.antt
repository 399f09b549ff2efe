use Rattle.sol_reader.proofs.Points.{are-rising}
use Rattle.sol_reader.proofs.lines.line_in.Goals as goal

pub begun-requires : goal.begun-requires
begun-requires c = are-rising c.args.starts.now c.args.text.now c.requires
