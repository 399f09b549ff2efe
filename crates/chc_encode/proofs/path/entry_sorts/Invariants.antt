use Rattle.std.proofs.Common.{◌≡◌, ◌++◌, drop}
use Rattle.chc_encode.specs.PathRows.{sorts_of}
use Rattle.chc_encode.proofs.path.entry_sorts.Given as goal

abbrev pub invariant-loop-variable : goal.invariant-loop-variable
invariant-loop-variable l = l.sorts ++ sorts_of (drop l.variable-index l.variables) ≡ sorts_of l.variables
