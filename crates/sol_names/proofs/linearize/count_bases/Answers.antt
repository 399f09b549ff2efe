use Rattle.std.proofs.Common.{◌≡◌, ◌+◌, ◌<◌, ℕ, List, sym, subst, length, slice_index, OnOk, arith}
use Rattle.sol_names.specs.Tails.{times}
use Rattle.sol_names.proofs.Settling.{some-bases, no-bases, bases-below}
use Rattle.sol_names.proofs.linearize.count_bases.Goals as goal

pub count_all-requires : goal.count_all-requires
count_all-requires c = bases-below c.args.graph.now c.args.unit _ c.in-Some.bases.now c.requires.size c.requires.below (sym c.in-Some.ensures)

pub returns-in-None-clause-counts : goal.returns-in-None-clause-counts
returns-in-None-clause-counts c = λ x l. let none = no-bases c.args.graph.now c.args.unit x c.in-None.ensures in omega (arith, none)

pub returns-in-Some-clause-counts : goal.returns-in-Some-clause-counts
returns-in-Some-clause-counts c =
    subst (λ (bs : List ℕ). OnOk c.count_all.result ((x : ℕ) → x < length c.args.counts.now → slice_index c.count_all.new.counts x ≡ slice_index c.args.counts.now x + times x bs))
    (sym (some-bases c.args.graph.now c.args.unit c.in-Some.bases.now c.in-Some.ensures))
    c.count_all.ensures
