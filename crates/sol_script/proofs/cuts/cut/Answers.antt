use Rattle.std.proofs.Common.{◌≡◌, true, ◌≤◌, length, arith}
use Rattle.sol_script.proofs.Pieces.{cut-found, cut-none, lacks-whole}
use Rattle.sol_script.proofs.cuts.cut.Goals as goal

pub returns-then-text-at : goal.returns-then-text-at
returns-then-text-at c = record { cut = cut-found c.args.byte c.args.text.now c.loop-at.at c.loop-at.invariant.1 (omega (arith, c.loop-at-test.true)) c.if-text-at.true }

pub returns : goal.returns
returns c = record { cut = cut-none c.args.byte c.args.text.now (lacks-whole c.args.byte c.args.text.now c.loop-at.at c.loop-at.invariant.1 (omega (arith, c.loop-at-test.false))) }
