use Rattle.std.proofs.Common.{◌≡◌, ◌+◌, ◌++◌, length, take, true}
use Rattle.std.specs.List.{list_all}
use Rattle.chc_form.specs.WellMade.{is_sort, all_few}
use Rattle.chc_templates.specs.Candidates.{on_preds}
use Rattle.chc_templates.proofs.Splitting.{preds_onward}
use Rattle.chc_templates.proofs.search.with_preds.Given as goal

abbrev pub invariant-loop-rest : goal.invariant-loop-rest
invariant-loop-rest l = record {
  same : preds_onward l.fn.k l.pred l.made l.rest ≡ take 1024 (l.fn.made ++ on_preds l.fn.k 0 l.fn.preds);
  sorts : list_all (all_few is_sort) l.rest ≡ true;
  count : l.pred + length l.rest ≡ length l.fn.preds;
}

abbrev pub decreases-loop-rest : goal.decreases-loop-rest
decreases-loop-rest l = length l.rest
