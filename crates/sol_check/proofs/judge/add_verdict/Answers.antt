use Rattle.std.proofs.Common.{◌≡◌, length, rules}
use Rattle.sol_check.proofs.Growing.{found_ok}
use Rattle.sol_check.proofs.judge.add_verdict.Goals as goal

pub returns-clause-found : goal.returns-clause-found
returns-clause-found c =
    let next : c.len-target.result ≡ length c.args.verdicts.now = search rules in
    found_ok c.args.program.now c.args.system.now c.args.drops.now c.args.lemmas.now c.args.verdicts.now c.push.new.self c.len-target.result c.in_ok-verdict.verdict c.push.result next c.requires.before c.in_ok-verdict.ensures.found c.push.ensures.added
