use Rattle.std.proofs.Common.{◌≡◌, ◌∙◌, ◌+◌, sym, refl, arith, length}
use Rattle.sol_script.proofs.Steps.{line-none, line-end, line-err, line-on, shorter}
use Rattle.sol_script.proofs.reader.read_lines.Goals as goal

pub returns-in-None : goal.returns-in-None
returns-in-None c = line-none c.args.p.now _ c.loop-line.rest.now c.in-Some.line.now c.in-Some.more.now c.loop-line.number c.loop-line.reading c.loop-line.invariant.0 c.in-Some.ensures.cut (sym c.in_ok-said.ensures ∙ c.in-None.is)

pub returns-then-is_end : goal.returns-then-is_end
returns-then-is_end c = line-end c.args.p.now _ c.loop-line.rest.now c.in-Some.line.now c.in-Some.more.now c.loop-line.number c.loop-line.reading c.loop-line.invariant.0 c.in-Some.ensures.cut c.in-Some-2.line c.closed.result (sym c.in_ok-said.ensures ∙ c.in-Some-2.is) (sym c.is_end.ensures ∙ c.if-is_end.true) c.closed.ensures

pub returns-in-Err : goal.returns-in-Err
returns-in-Err c = line-err c.args.p.now _ c.loop-line.rest.now c.in-Some.line.now c.in-Some.more.now c.loop-line.number c.loop-line.reading c.loop-line.invariant.0 c.in-Some.ensures.cut c.in-Some-2.line c.in-Err.fault (sym c.in_ok-said.ensures ∙ c.in-Some-2.is) (sym c.is_end.ensures ∙ c.if-is_end.false) c.in-Err.ensures

pub loop-line-preserved : goal.loop-line-preserved
loop-line-preserved c = (
  line-on c.args.p.now _ c.loop-line.rest.now c.in-Some.line.now c.in-Some.more.now c.loop-line.number c.loop-line.reading c.loop-line.invariant.0 c.in-Some.ensures.cut c.in-Some-2.line c.in-Ok.next (c.loop-line.number + 1) (sym c.in_ok-said.ensures ∙ c.in-Some-2.is) (sym c.is_end.ensures ∙ c.if-is_end.false) c.in-Ok.ensures refl,
  omega (arith, c.loop-line.invariant.1, shorter 10 c.loop-line.rest.now c.in-Some.line.now c.in-Some.more.now c.in-Some.ensures.cut),
)
