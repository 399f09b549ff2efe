use Rattle.std.proofs.Common.{◌≡◌, map, drop}
use Rattle.sol_stated.specs.Contexts.{context}
use Rattle.sol_declared.specs.Members.{judge_member}
use Rattle.sol_stated.specs.Checks.{all_checks}
use Rattle.sol_declared.proofs.members.judge_members.Given as goal

abbrev pub invariant-loop-member : goal.invariant-loop-member
invariant-loop-member l =
    let one = judge_member (context l.fn.around) l.fn.kind in
    all_checks (map one l.fn.members) ≡ all_checks (map one (drop l.member-index l.fn.members))
