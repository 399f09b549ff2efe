-- What is shared comes back from the tables of a linearization as it was.
use Rattle.std.proofs.Common.{◌≡◌, ◌∙◌, sym, ap, refl, ℕ, List, ◌++◌, take, length}
use Rattle.std.proofs.Math.Seq.{take-append_seam}
use Rattle.sol_tree.specs.declared.file.Unit as units
use Rattle.sol_judged.specs.declared.types.ValueType.{ValueType}
use Rattle.sol_unit.specs.declared.scenes.Shared.{Shared}
use Rattle.sol_unit.specs.Lineages.{member_names, named}
use Rattle.sol_unit.specs.Scenes.{file_tables, scene_with, shared_of}
use Rattle.sol_unit.proofs.Growing.{Grows, lineage-grows}

front : (n : ℕ) (xs more all : List (List ValueType)) → n ≡ length xs → all ≡ xs ++ more → take n all ≡ xs
front n xs more all p q = rw (p, q) (take-append_seam xs more)

pub shared-again : (us : List units.Unit) (s : Shared) (order : List ℕ) (n k : ℕ) → n ≡ length s.events → k ≡ length s.errors → shared_of (scene_with us s order) n k ≡ s
shared-again us s order n k p q =
    let g = lineage-grows (named s.units (member_names us order)) us order (file_tables s) in
    let e = front n s.events g.more_events _ p g.events in
    let f = front k s.errors g.more_errors _ q g.errors in
    ap (λ (es : List (List ValueType)). record s { events = es; errors = take k (scene_with us s order).declared.errors }) e ∙ ap (λ (fs : List (List ValueType)). record s { errors = fs }) f

pub ruleset sharing = (shared-again)
