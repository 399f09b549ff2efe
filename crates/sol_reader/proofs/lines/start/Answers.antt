use Rattle.std.proofs.Common.{◌≡◌, ◌-◌, get_or, arith}
use Rattle.sol_reader.specs.Starts.{last_of}
use Rattle.sol_reader.proofs.Points.{last-at, last-within}
use Rattle.sol_reader.proofs.lines.start.Goals as goal

pub returns-else-count-eq0-clause-bound : goal.returns-else-count-eq0-clause-bound
returns-else-count-eq0-clause-bound c =
    let e : last_of 0 c.args.starts.now c.begun-count.result ≡ get_or c.args.starts.now (c.begun-count.result - 1) 0 = last-at 0 c.args.starts.now c.begun-count.result (omega arith) (omega arith) in
    rw (← e, c.begun-count.ensures.value) (last-within c.args.starts.now c.args.at)
