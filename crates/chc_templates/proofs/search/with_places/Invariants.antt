use Rattle.std.proofs.Common.{◌≡◌, ◌+◌, ◌++◌, length, take, true}
use Rattle.std.specs.List.{list_all}
use Rattle.chc_form.specs.WellMade.{is_sort}
use Rattle.chc_templates.specs.Candidates.{on_places}
use Rattle.chc_templates.proofs.Splitting.{places_onward}
use Rattle.chc_templates.proofs.search.with_places.Given as goal

abbrev pub invariant-loop-rest : goal.invariant-loop-rest
invariant-loop-rest l = record {
  same : places_onward l.fn.k l.fn.pred l.place l.made l.rest ≡ take 1024 (l.fn.made ++ on_places l.fn.k l.fn.pred 0 l.fn.sorts);
  sorts : list_all is_sort l.rest ≡ true;
  count : l.place + length l.rest ≡ length l.fn.sorts;
}

abbrev pub decreases-loop-rest : goal.decreases-loop-rest
decreases-loop-rest l = length l.rest
