use Rattle.std.proofs.Common.{◌∙◌, sym, subst}
use Rattle.chc_reduce.specs.Premises.{ArePremises, InOrder}
use Rattle.chc_houdini.specs.Candidates.{turned}
use Rattle.chc_houdini.proofs.Judging.{made-more}
use Rattle.chc_houdini.proofs.rounds.judged_at.Goals as goal

pub loop-candidate-preserved : goal.loop-candidate-preserved
loop-candidate-preserved c =
    let said = c.in_ok-turn.ensures.said c.args.s.now c.args.have.now c.loop-candidate.invariant.1 in
    let same = c.in_ok-turn.ensures.same in
    (c.in_ok-push.ensures.added ∙ made-more (turned c.args.s.now c.args.limits c.args.have.now c.args.j c.args.rule.now) c.loop-candidate.made c.loop-candidate.yielded c.in-Some.candidate c.in_ok-turn.turn.candidate c.loop-candidate.invariant.0 said, subst (ArePremises c.args.s.now c.args.j c.args.have.now) (sym same) c.loop-candidate.invariant.1, subst InOrder (sym same) c.loop-candidate.invariant.2)
