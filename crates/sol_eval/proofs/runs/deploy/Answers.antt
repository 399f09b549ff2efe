use Rattle.std.proofs.Common.{◌∙◌, rules}
use Rattle.std.specs.Prelude.{FitsSigned}
use Rattle.std.specs.Int.{w128}
use Rattle.std.proofs.lemmas.Int.{to_z-of_z}
use Rattle.sol_eval.proofs.runs.deploy.Goals as goal

pub returns : goal.returns
returns c =
    let fits : FitsSigned w128 c.args.s.now.sender = search rules in
    let exact = simp to_z-of_z at c.build_all.ensures in
    rw (c.as_slice.ensures ∙ c.new-none.ensures, c.as_slice-2.ensures, c.as_slice-3.ensures) at exact
