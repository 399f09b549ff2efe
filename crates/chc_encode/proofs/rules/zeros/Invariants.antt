use Rattle.std.proofs.Common.{◌≡◌, ◌++◌, drop}
use Rattle.chc_encode.specs.Systems.{zeros_from}
use Rattle.chc_encode.proofs.rules.zeros.Given as goal

abbrev pub invariant-loop-variable : goal.invariant-loop-variable
invariant-loop-variable l = l.cons ++ zeros_from l.at (drop l._variable-index l.variables) ≡ zeros_from 0 l.variables
