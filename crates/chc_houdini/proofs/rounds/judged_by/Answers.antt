use Rattle.std.proofs.Common.{◌≡◌, ◌∙◌, suc, ◌+◌, arith}
use Rattle.chc_houdini.proofs.Judging.{rules-turn}
use Rattle.chc_houdini.proofs.rounds.judged_by.Goals as goal

pub loop-rest-preserved : goal.loop-rest-preserved
loop-rest-preserved c =
    let next : c.loop-rest.j + 1 ≡ suc c.loop-rest.j = omega arith in
    let turn = rules-turn c.args.s.now c.args.limits c.args.have.now c.loop-rest.j (c.loop-rest.j + 1) c.rule-item.result c.loop-rest.rest.now c.loop-rest.candidates c.in_ok-candidates.candidates c.in-len1-up.len_at_least c.rule-item.is next c.in_ok-candidates.ensures c.loop-rest.invariant.1 c.loop-rest.invariant.2 in
    (turn.0 ∙ c.loop-rest.invariant.0, turn.1, turn.2)
