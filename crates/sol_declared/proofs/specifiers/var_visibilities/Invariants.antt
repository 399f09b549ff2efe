use Rattle.std.proofs.Common.{◌≡◌, ◌≤◌, ◌+◌, drop}
use Rattle.sol_declared.specs.Specifiers.{how_many, is_var_visibility}
use Rattle.sol_declared.proofs.specifiers.var_visibilities.Given as goal

abbrev pub invariant-loop-mark : goal.invariant-loop-mark
invariant-loop-mark l = (how_many is_var_visibility l.fn.marks ≡ l.count + how_many is_var_visibility (drop l.mark-index l.fn.marks)) × (l.count ≤ l.mark-index)
