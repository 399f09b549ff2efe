use Rattle.std.proofs.Common.{rules, ◌≡◌, ◌∙◌, sym, subst, ap}
use Rattle.std.specs.Prelude.{FitsSigned}
use Rattle.std.specs.Int.{w128}
use Rattle.std.proofs.lemmas.Int.{to_z-of_z}
use lib.IntN.{ℤ}
use Rattle.sol_meaning.specs.declared.World.{World}
use Rattle.sol_meaning.specs.declared.Got.{Got}
use Rattle.sol_meaning.specs.declared.Got.TheVariants as got
use Rattle.sol_meaning.specs.declared.End.{End}
use Rattle.sol_meaning.specs.Frames.{and_then}
use Rattle.sol_meaning.specs.Eval.{eval, operated, arithmetic}
use Rattle.sol_meaning.specs.Exec.{located, held, stored}
use Rattle.sol_eval.specs.Ran.{Ran}
use Rattle.sol_eval.specs.Framed.{frame_in}
use Rattle.sol_eval.proofs.frames.Runner.exec_step.Goals as goal

pub returns-in-Value-clause-ran : goal.returns-in-Value-clause-ran
returns-in-Value-clause-ran g c =
    let first : eval (frame_in c.args.self.now.frame) c.args.e.now c.args.w.now ≡ (got.Value c.in-Value.y, c.eval.new.w) = c.in_ok-y.ensures.ran ∙ ap (λ (r : Got ℤ). (r, c.eval.new.w)) c.in-Value.is in
    let fits : FitsSigned w128 c.in-Value.y = search rules in
    let exact = simp to_z-of_z at c.step_by.ensures.ran in
    let P : Got End × World → Type 0 = λ o. Ran o c.step_by.result c.step_by.new.w in
    subst P (sym (ap (λ (s : Got ℤ × World). and_then s (λ y v. and_then (located (frame_in c.args.self.now.frame) c.args.place.now v) (λ s u. and_then (arithmetic (operated c.args.checked c.args.op c.args.ty (held u s) y) c.args.panics u) (λ z. stored (frame_in c.args.self.now.frame) z s)))) first)) exact
