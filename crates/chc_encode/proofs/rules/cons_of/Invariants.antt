use Rattle.std.proofs.Common.{◌≡◌}
use Rattle.chc_encode.specs.Systems.{cons_of}
use Rattle.chc_encode.proofs.rules.cons_of.Given as goal

abbrev pub invariant-loop-row : goal.invariant-loop-row
invariant-loop-row l = l.cons ≡ cons_of l.yielded
