use Rattle.std.proofs.lemmas.Map.Text.{hash_map_updates_str}
use Rattle.sol_judged.proofs.linked.set_number.Goals as goal

pub returns : goal.returns
returns c = λ q. hash_map_updates_str c.args.name.now c.args.last.now c.insert.new.self _ c.in_ok-insert.ensures.updates q
