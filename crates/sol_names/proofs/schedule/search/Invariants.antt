use Rattle.sol_names.specs.Search.{frames, Searching}
use Rattle.sol_names.proofs.Scheduling.{weight}
use Rattle.sol_names.proofs.schedule.search.Given as goal

abbrev pub invariant-loop-frame : goal.invariant-loop-frame
invariant-loop-frame l = Searching l.graph l.unit (frames l.stack.items) l.visits l.done.items

abbrev pub decreases-loop-frame : goal.decreases-loop-frame
decreases-loop-frame l = weight l.graph l.visits (frames l.stack.items)
