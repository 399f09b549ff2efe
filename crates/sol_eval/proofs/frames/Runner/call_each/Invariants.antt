use Rattle.std.proofs.Common.{◌≡◌, drop}
use Rattle.sol_meaning.specs.Exec.{call_each}
use Rattle.sol_eval.specs.Framed.{frame_in}
use Rattle.sol_eval.specs.Ran.{Kept}
use Rattle.sol_eval.proofs.frames.Runner.call_each.Given as goal

abbrev pub invariant-loop-c : goal.invariant-loop-c
invariant-loop-c g l = record {
  ran : call_each (frame_in l.fn.self.frame).level l.is_static (drop l.c-index l.calls) l.w ≡ call_each (frame_in l.fn.self.frame).level l.is_static l.fn.calls l.fn.w;
  kept : Kept l.fn.w.state l.w.state;
}
