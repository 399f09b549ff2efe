use Rattle.std.proofs.Common.{◌<◌, ◌+◌, ◌≤◌, length, drop, arith}
use Rattle.std.specs.List.{concat}
use Rattle.std.proofs.lemmas.List.{at_drop_all}
use Rattle.sol_driver.proofs.Writing.{so_far-start, so_far-more, so_far-stop, so_far-end, concat-turn}
use Rattle.sol_driver.proofs.tell.tell.Goals as goal

pub loop-line-init : goal.loop-line-init
loop-line-init g c = so_far-start (g.K.Sink.faults c.args.out.now) (g.K.Sink.written c.args.out.now) (concat c.args.lines.now)

pub loop-line-preserved : goal.loop-line-preserved
loop-line-preserved g c =
    let inside : c.loop-line.line-index < length c.args.lines.now = omega arith in
    let turn = concat-turn c.args.lines.now c.loop-line.line-index c.line-item.result inside c.line-item.is in
    let before = rw turn at c.loop-line.invariant in
    so_far-more (g.K.Sink.faults c.args.out.now) (g.K.Sink.faults c.loop-line.out) (g.K.Sink.faults c.put_line.new.out) (g.K.Sink.written c.args.out.now) (g.K.Sink.written c.loop-line.out) (g.K.Sink.written c.put_line.new.out) c.line-item.result (concat (drop (c.loop-line.line-index + 1) c.args.lines.now)) (concat c.args.lines.now) before c.in-Ok.ensures

pub returns-in-Err : goal.returns-in-Err
returns-in-Err g c =
    let inside : c.loop-line.line-index < length c.args.lines.now = omega arith in
    let turn = concat-turn c.args.lines.now c.loop-line.line-index c.line-item.result inside c.line-item.is in
    let before = rw turn at c.loop-line.invariant in
    so_far-stop (g.K.Sink.faults c.args.out.now) (g.K.Sink.faults c.loop-line.out) (g.K.Sink.faults c.put_line.new.out) (g.K.Sink.written c.args.out.now) (g.K.Sink.written c.loop-line.out) (g.K.Sink.written c.put_line.new.out) c.line-item.result (concat (drop (c.loop-line.line-index + 1) c.args.lines.now)) (concat c.args.lines.now) c.in-Err.fault before c.in-Err.ensures

pub returns : goal.returns
returns g c =
    let past : length c.args.lines.now ≤ c.loop-line.line-index = omega arith in
    let nothing = at_drop_all concat c.args.lines.now c.loop-line.line-index past in
    let done = rw nothing at c.loop-line.invariant in
    so_far-end (g.K.Sink.faults c.args.out.now) (g.K.Sink.faults c.loop-line.out) (g.K.Sink.written c.args.out.now) (g.K.Sink.written c.loop-line.out) (concat c.args.lines.now) done
