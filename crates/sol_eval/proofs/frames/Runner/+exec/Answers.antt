use Rattle.std.proofs.Common.{rules, ◌≡◌, ◌∙◌, sym, subst, ap, ◌+◌, ◌-◌, ◌*◌, ◌<◌, ◌≤◌, ℕ, Option, None, List, length, drop, arith}
use Rattle.std.specs.List.{list_all}
use lib.IntN.{ℤ}
use Rattle.sol_core.specs.declared.Stmt.{Stmt}
use Rattle.sol_meaning.specs.declared.World.{World}
use Rattle.sol_meaning.specs.declared.Got.{Got}
use Rattle.sol_meaning.specs.declared.Got.TheVariants as got
use Rattle.sol_meaning.specs.declared.End.{End}
use Rattle.sol_meaning.specs.declared.End.TheVariants as done
use Rattle.sol_meaning.specs.Frames.{Run, and_then}
use Rattle.sol_meaning.specs.Eval.{eval}
use Rattle.sol_meaning.specs.Exec.{exec, exec_all, turned, looped, goes_on, after_turn, tested}
use Rattle.sol_meaning.proofs.Statements.{exec-Set, exec-Step, exec-Push, exec-Out, exec-DoWhile}
use Rattle.sol_eval.specs.Ran.{Ran}
use Rattle.sol_eval.specs.Framed.{frame_in}
use Rattle.sol_eval.specs.Sized.{stmt_sized}
use Rattle.sol_eval.proofs.Loops.{looped-more}
use Rattle.sol_eval.proofs.Firsts.{all_more, drop-turn}
use Rattle.sol_eval.proofs.Sizes.{first-sized, rest-sized}
use Rattle.sol_eval.proofs.Weights.{size, sizes, item-within}
use Rattle.sol_eval.proofs.frames.Runner.+exec.Goals as goal

pub exec-returns-in-Set-clause-ran : goal.exec-returns-in-Set-clause-ran
exec-returns-in-Set-clause-ran g t c =
    let all = ap (λ (s : Stmt). exec (frame_in c.args.self.now.frame) s c.args.w.now) c.in-Set.is ∙ exec-Set (frame_in c.args.self.now.frame) c.in-Set.place c.in-Set.e c.args.w.now in
    let P : Got End × World → Type 0 = λ o. Ran o c.exec_set.result c.exec_set.new.w in
    subst P (sym all) c.exec_set.ensures.ran

pub exec-returns-in-Step-clause-ran : goal.exec-returns-in-Step-clause-ran
exec-returns-in-Step-clause-ran g t c =
    let all = ap (λ (s : Stmt). exec (frame_in c.args.self.now.frame) s c.args.w.now) c.in-Step.is ∙ exec-Step (frame_in c.args.self.now.frame) c.in-Step.place c.in-Step.op c.in-Step.ty c.in-Step.checked c.in-Step.e c.in-Step.panics c.args.w.now in
    let P : Got End × World → Type 0 = λ o. Ran o c.exec_step.result c.exec_step.new.w in
    subst P (sym all) c.exec_step.ensures.ran

pub exec-returns-in-Push-clause-ran : goal.exec-returns-in-Push-clause-ran
exec-returns-in-Push-clause-ran g t c =
    let all = ap (λ (s : Stmt). exec (frame_in c.args.self.now.frame) s c.args.w.now) c.in-Push.is ∙ exec-Push (frame_in c.args.self.now.frame) c.in-Push.a c.in-Push.e c.args.w.now in
    let P : Got End × World → Type 0 = λ o. Ran o c.exec_push.result c.exec_push.new.w in
    subst P (sym all) c.exec_push.ensures.ran

pub exec-returns-in-Out-clause-ran : goal.exec-returns-in-Out-clause-ran
exec-returns-in-Out-clause-ran g t c =
    let all = ap (λ (s : Stmt). exec (frame_in c.args.self.now.frame) s c.args.w.now) c.in-Out.is ∙ exec-Out (frame_in c.args.self.now.frame) c.in-Out.place c.in-Out.f c.in-Out.target c.in-Out.es c.args.w.now in
    let P : Got End × World → Type 0 = λ o. Ran o c.exec_out.result c.exec_out.new.w in
    let same = rw c.as_slice.ensures at c.exec_out.ensures.ran in
    subst P (sym all) same

pub exec_all-exec-requires : goal.exec_all-exec-requires
exec_all-exec-requires g t c κs within =
    let inside : c.loop-s.s-index < length c.args.ss.now = omega arith in
    let turn = drop-turn c.args.ss.now c.loop-s.s-index c.s-item.result inside c.s-item.is in
    let sized = first-sized stmt_sized c.s-item.result (drop (c.loop-s.s-index + 1) c.args.ss.now) (ap (list_all stmt_sized) (sym turn) ∙ c.loop-s.invariant.sized) in
    let small : size c.s-item.result ≤ sizes c.args.ss.now = item-within size c.args.ss.now c.loop-s.s-index c.s-item.result inside c.s-item.is in
    let down : 8 * size c.s-item.result < 8 * sizes c.args.ss.now + 1 = omega (arith, small) in
    (search (rules, down), (within, (c.requires.runs, sized)))

pub exec_all-loop-s-preserved : goal.exec_all-loop-s-preserved
exec_all-loop-s-preserved g t c =
    let inside : c.loop-s.s-index < length c.args.ss.now = omega arith in
    let rest : List Stmt = drop (c.loop-s.s-index + 1) c.args.ss.now in
    let turn = drop-turn c.args.ss.now c.loop-s.s-index c.s-item.result inside c.s-item.is in
    let first : exec (frame_in c.args.self.now.frame) c.s-item.result c.loop-s.w ≡ (got.Value done.Normal, c.exec.new.w) = c.in_ok-other.ensures.ran ∙ ap (λ (r : Got End). (r, c.exec.new.w)) (c.in-Value-Normal.is ∙ ap (λ (e : End). got.Value e) c.in-Value-Normal.field-0-is) in
    record {
      ran = sym (all_more (frame_in c.args.self.now.frame) c.s-item.result rest c.loop-s.w c.exec.new.w first) ∙ ap (λ (xs : List Stmt). exec_all (frame_in c.args.self.now.frame) xs c.loop-s.w) (sym turn) ∙ c.loop-s.invariant.ran;
      kept = c.in_ok-other.ensures.kept ∙ c.loop-s.invariant.kept;
      sized = rest-sized stmt_sized c.s-item.result rest (ap (list_all stmt_sized) (sym turn) ∙ c.loop-s.invariant.sized);
    }

pub exec-returns-in-DoWhile-clause-ran : goal.exec-returns-in-DoWhile-clause-ran
exec-returns-in-DoWhile-clause-ran g t c =
    let all = ap (λ (s : Stmt). exec (frame_in c.args.self.now.frame) s c.args.w.now) c.in-DoWhile.is ∙ exec-DoWhile (frame_in c.args.self.now.frame) c.in-DoWhile.a c.in-DoWhile.e c.args.w.now in
    let P : Got End × World → Type 0 = λ o. Ran o c.exec_do.result c.exec_do.new.w in
    subst P (sym all) c.exec_do.ensures.ran

pub looped-loop-turn-preserved : goal.looped-loop-turn-preserved
looped-loop-turn-preserved g t c =
    let here : Run ℤ = eval (frame_in c.args.self.now.frame) c.args.e.now in
    let body : Run End = exec_all (frame_in c.args.self.now.frame) c.args.a.now in
    let step : Run End = exec_all (frame_in c.args.self.now.frame) c.args.b.now in
    let left : ℕ = c.args.self.now.frame.level - c.loop-turn._turn in
    let some : 0 < left = omega arith in
    let less : left - 1 ≡ c.args.self.now.frame.level - (c.loop-turn._turn + 1) = omega arith in
    let first : turned here body step c.loop-turn.w ≡ (got.Value None, c.turn.new.w) = c.in_ok-turn.ensures.ran ∙ ap (λ (r : Got (Option End)). (r, c.turn.new.w)) (c.in-Value-None.is ∙ ap (λ (o : Option End). got.Value o) c.in-Value-None.field-0-is) in
    let more : looped left here body step c.loop-turn.w ≡ looped (left - 1) here body step c.turn.new.w = looped-more left here body step c.loop-turn.w some ∙ ap (λ (s : Got (Option End) × World). and_then s (λ o. goes_on o (looped (left - 1) here body step))) first in
    record {
      ran = ap (λ (k : ℕ). looped k here body step c.turn.new.w) (sym less) ∙ sym more ∙ c.loop-turn.invariant.ran;
      kept = c.in_ok-turn.ensures.kept ∙ c.loop-turn.invariant.kept;
    }

pub step-returns-in-Value-Normal-clause-ran : goal.step-returns-in-Value-Normal-clause-ran
step-returns-in-Value-Normal-clause-ran g t c =
    let first : exec_all (frame_in c.args.self.now.frame) c.args.b.now c.args.w.now ≡ (got.Value done.Normal, c.exec_all.new.w) = ap (λ (ss : List Stmt). exec_all (frame_in c.args.self.now.frame) ss c.args.w.now) (sym c.as_slice.ensures) ∙ c.in_ok-exec_all.ensures.ran ∙ ap (λ (r : Got End). (r, c.exec_all.new.w)) (c.in-Value-Normal.is ∙ ap (λ (e : End). got.Value e) c.in-Value-Normal.field-0-is) in
    let P : Got (Option End) × World → Type 0 = λ o. Ran o c.test.result c.test.new.w in
    subst P (sym (ap (λ (s : Got End × World). and_then s (λ d. after_turn d (tested (eval (frame_in c.args.self.now.frame) c.args.e.now)))) first)) c.test.ensures.ran

pub step-returns-in-Value-Continued-clause-ran : goal.step-returns-in-Value-Continued-clause-ran
step-returns-in-Value-Continued-clause-ran g t c =
    let first : exec_all (frame_in c.args.self.now.frame) c.args.b.now c.args.w.now ≡ (got.Value done.Continued, c.exec_all.new.w) = ap (λ (ss : List Stmt). exec_all (frame_in c.args.self.now.frame) ss c.args.w.now) (sym c.as_slice.ensures) ∙ c.in_ok-exec_all.ensures.ran ∙ ap (λ (r : Got End). (r, c.exec_all.new.w)) (c.in-Value-Continued.is ∙ ap (λ (e : End). got.Value e) c.in-Value-Continued.field-0-is) in
    let P : Got (Option End) × World → Type 0 = λ o. Ran o c.test-in-Value-Continued.result c.test-in-Value-Continued.new.w in
    subst P (sym (ap (λ (s : Got End × World). and_then s (λ d. after_turn d (tested (eval (frame_in c.args.self.now.frame) c.args.e.now)))) first)) c.test-in-Value-Continued.ensures.ran
