use Rattle.std.specs.Arc.{arc_value}
use Rattle.chc_tests.specs.Ready.{IsReady}
use Rattle.chc_tests.proofs.shared_pool.take_turns.Given as goal

abbrev pub invariant-loop-turn : goal.invariant-loop-turn
invariant-loop-turn g l = IsReady l.lock.table.shared.table_id (arc_value l.s) l.have l.pass
