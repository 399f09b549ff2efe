use Rattle.std.proofs.Common.{◌≡◌, ◌+◌, ◌++◌, length, true}
use Rattle.std.specs.List.{list_all}
use Rattle.chc_form.specs.WellMade.{is_sort}
use Rattle.chc_reduce.specs.Reduced.{ranges}
use Rattle.chc_reduce.proofs.reduction.add_ranges.Given as goal

abbrev pub invariant-loop-rest : goal.invariant-loop-rest
invariant-loop-rest l = record {
  sorts : list_all is_sort l.rest ≡ true;
  count : l.x + length l.rest ≡ length l.fn.sorts;
  parts : l.parts ++ ranges l.x l.rest ≡ l.fn.parts ++ ranges 0 l.fn.sorts;
}

abbrev pub decreases-loop-rest : goal.decreases-loop-rest
decreases-loop-rest l = length l.rest
