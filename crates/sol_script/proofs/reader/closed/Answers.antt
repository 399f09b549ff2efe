use Rattle.std.proofs.Common.{◌≡◌, ◌<◌, [], length, arith}
use Rattle.sol_script.proofs.Steps.{closed-more, empty-list, some-left}
use Rattle.sol_script.proofs.reader.closed.Goals as goal

pub returns-then-not-is_empty-2 : goal.returns-then-not-is_empty-2
returns-then-not-is_empty-2 c = closed-more c.args.n c.args.rest.now c.args.reading (empty-list c.args.reading.levels _ c.if-not-is_empty.false c.is_empty.ensures) (some-left c.args.rest.now _ c.if-not-is_empty-2.true c.is_empty-2.ensures)
