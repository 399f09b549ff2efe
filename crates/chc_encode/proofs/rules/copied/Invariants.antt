use Rattle.std.proofs.Common.{◌≡◌, ◌++◌, drop}
use Rattle.chc_encode.specs.Systems.{cons_of}
use Rattle.chc_encode.proofs.rules.copied.Given as goal

abbrev pub invariant-loop-row : goal.invariant-loop-row
invariant-loop-row l = l.cons ++ cons_of (drop l.row-index l.rows) ≡ cons_of l.rows
