use Rattle.std.proofs.Common.{◌≡◌, ◌++◌, ◌&&◌, map, drop}
use Rattle.std.specs.List.{list_all}
use Rattle.chc_form.specs.Linear.{lins}
use Rattle.chc_reduce.specs.Rows.{rows_of, branch_of, is_plain, joined}
use Rattle.chc_reduce.proofs.shape.+rows.Given as goal

abbrev pub invariant-add_all-loop-f : goal.invariant-add_all-loop-f
invariant-add_all-loop-f l = record {
  rows : lins l.made.rows ++ joined (map rows_of (drop l.f-index l.fs)) ≡ lins l.fn.made.rows ++ joined (map rows_of l.fs);
  branch : l.made.branch ++ joined (map branch_of (drop l.f-index l.fs)) ≡ l.fn.made.branch ++ joined (map branch_of l.fs);
  plain : (l.made.plain && list_all (λ b. b) (map is_plain (drop l.f-index l.fs))) ≡ (l.fn.made.plain && list_all (λ b. b) (map is_plain l.fs));
}
