use Rattle.std.proofs.Common.{◌≡◌, ◌+◌, ◌*◌, map, drop, [], true}
use Rattle.std.specs.List.{list_all}
use Rattle.sol_meaning.specs.Eval.{eval, values_onto}
use Rattle.sol_eval.specs.Framed.{frame_in}
use Rattle.sol_eval.specs.Ran.{Kept}
use Rattle.sol_eval.specs.Sized.{expr_sized}
use Rattle.sol_eval.proofs.Weights.{weight, weights}
use Rattle.sol_eval.proofs.frames.Runner.+eval.Given as goal

abbrev pub decreases-eval : goal.decreases-eval
decreases-eval g l = 8 * weight l.e.now

abbrev pub decreases-element : goal.decreases-element
decreases-element g l = 8 * weight l.index.now + 4

abbrev pub decreases-not : goal.decreases-not
decreases-not g l = 8 * weight l.a.now + 4

abbrev pub decreases-cast : goal.decreases-cast
decreases-cast g l = 8 * weight l.a.now + 4

abbrev pub decreases-both : goal.decreases-both
decreases-both g l = 8 * (weight l.a.now + weight l.b.now) + 4

abbrev pub decreases-either : goal.decreases-either
decreases-either g l = 8 * (weight l.a.now + weight l.b.now) + 4

abbrev pub decreases-pick : goal.decreases-pick
decreases-pick g l = 8 * (weight l.c.now + weight l.a.now + weight l.b.now) + 4

abbrev pub decreases-compare : goal.decreases-compare
decreases-compare g l = 8 * (weight l.a.now + weight l.b.now) + 4

abbrev pub decreases-compare_to : goal.decreases-compare_to
decreases-compare_to g l = 8 * weight l.b.now + 3

abbrev pub decreases-arith : goal.decreases-arith
decreases-arith g l = 8 * (weight l.a.now + weight l.b.now) + 4

abbrev pub decreases-arith_to : goal.decreases-arith_to
decreases-arith_to g l = 8 * weight l.b.now + 3

abbrev pub decreases-second_of : goal.decreases-second_of
decreases-second_of g l = 8 * weight l.b.now + 2

abbrev pub decreases-eval_call : goal.decreases-eval_call
decreases-eval_call g l = 8 * weights l.es.now + 4

abbrev pub decreases-eval_all : goal.decreases-eval_all
decreases-eval_all g l = 8 * weights l.es.now + 3

abbrev pub invariant-eval_all-loop-e : goal.invariant-eval_all-loop-e
invariant-eval_all-loop-e g l = record {
  ran : values_onto l.values (map (eval (frame_in l.fn.self.frame)) (drop l.e-index l.es)) l.w ≡ values_onto [] (map (eval (frame_in l.fn.self.frame)) l.fn.es) l.fn.w;
  kept : Kept l.fn.w.state l.w.state;
  sized : list_all expr_sized (drop l.e-index l.es) ≡ true;
}
