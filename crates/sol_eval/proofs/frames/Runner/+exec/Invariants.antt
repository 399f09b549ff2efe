use Rattle.std.proofs.Common.{◌≡◌, ◌+◌, ◌-◌, ◌*◌, drop, true}
use Rattle.std.specs.List.{list_all}
use Rattle.sol_meaning.specs.Eval.{eval}
use Rattle.sol_meaning.specs.Exec.{exec_all, looped}
use Rattle.sol_eval.specs.Framed.{frame_in}
use Rattle.sol_eval.specs.Ran.{Kept}
use Rattle.sol_eval.specs.Sized.{stmt_sized}
use Rattle.sol_eval.proofs.Weights.{size, sizes}
use Rattle.sol_eval.proofs.frames.Runner.+exec.Given as goal

abbrev pub decreases-exec_all : goal.decreases-exec_all
decreases-exec_all g l = 8 * sizes l.ss.now + 1

abbrev pub decreases-exec : goal.decreases-exec
decreases-exec g l = 8 * size l.s.now

abbrev pub decreases-exec_if : goal.decreases-exec_if
decreases-exec_if g l = 8 * (sizes l.a.now + sizes l.b.now) + 7

abbrev pub decreases-exec_scope : goal.decreases-exec_scope
decreases-exec_scope g l = 8 * sizes l.a.now + 7

abbrev pub decreases-exec_while : goal.decreases-exec_while
decreases-exec_while g l = 8 * (sizes l.a.now + sizes l.b.now) + 7

abbrev pub decreases-exec_do : goal.decreases-exec_do
decreases-exec_do g l = 8 * sizes l.a.now + 7

abbrev pub decreases-looped : goal.decreases-looped
decreases-looped g l = 8 * (sizes l.a.now + sizes l.b.now) + 6

abbrev pub decreases-turn : goal.decreases-turn
decreases-turn g l = 8 * (sizes l.a.now + sizes l.b.now) + 5

abbrev pub decreases-step : goal.decreases-step
decreases-step g l = 8 * sizes l.b.now + 4

abbrev pub invariant-exec_all-loop-s : goal.invariant-exec_all-loop-s
invariant-exec_all-loop-s g l = record {
  ran : exec_all (frame_in l.fn.self.frame) (drop l.s-index l.ss) l.w ≡ exec_all (frame_in l.fn.self.frame) l.fn.ss l.fn.w;
  kept : Kept l.fn.w.state l.w.state;
  sized : list_all stmt_sized (drop l.s-index l.ss) ≡ true;
}

abbrev pub invariant-looped-loop-turn : goal.invariant-looped-loop-turn
invariant-looped-loop-turn g l = record {
  ran : looped (l._turn-end - l._turn) (eval (frame_in l.fn.self.frame) l.fn.e) (exec_all (frame_in l.fn.self.frame) l.fn.a) (exec_all (frame_in l.fn.self.frame) l.fn.b) l.w ≡ looped l.fn.self.frame.level (eval (frame_in l.fn.self.frame) l.fn.e) (exec_all (frame_in l.fn.self.frame) l.fn.a) (exec_all (frame_in l.fn.self.frame) l.fn.b) l.fn.w;
  kept : Kept l.fn.w.state l.w.state;
}
