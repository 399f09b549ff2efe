use Rattle.std.proofs.Common.{◌∙◌, sym, ap, List, []}
use Rattle.std.specs.Prelude.{slice_set}
use lib.IntN.{ℤ}
use Rattle.sol_meaning.specs.Frames.{array_at}
use Rattle.sol_eval.proofs.Written.{set-again, front}
use Rattle.sol_eval.proofs.arrays.pop_element.Goals as goal

pub returns : goal.returns
returns c =
    let all : List (List ℤ) = c.args.arrays.now in
    let left : List ℤ = c.pop.new.self in
    let less = front (array_at all c.args.a) left c.pop.result (sym c.take_array-array.ensures.taken ∙ c.pop.ensures.entries) c.pop.ensures.none in
    c.set_array.ensures ∙ ap (λ (xs : List (List ℤ)). slice_set xs c.args.a left) c.take_array-array.ensures.left ∙ set-again all c.args.a [] left ∙ ap (λ (ys : List ℤ). slice_set all c.args.a ys) (sym less)
