use Rattle.std.proofs.Common.{◌≡◌}
use Rattle.sol_judged.proofs.Linking.{Links}
use Rattle.sol_judged.proofs.linked.Members.from_vec.Given as goal

abbrev pub invariant-loop-entry : goal.invariant-loop-entry
invariant-loop-entry l = Links l.entry-items l.entry-index l.previous.items l.last × (l.number ≡ l.entry-index)
