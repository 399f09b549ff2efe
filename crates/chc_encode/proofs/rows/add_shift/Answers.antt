use Rattle.std.specs.Prelude.{FitsSigned}
use Rattle.std.specs.Int.{w128}
use Rattle.std.proofs.lemmas.Int.{to_z-of_z}
use Rattle.chc_encode.specs.PathRows.{plus_minus, minus_plus, within}
use Rattle.chc_encode.proofs.Forms.{appended}
use Rattle.chc_encode.proofs.rows.add_shift.Goals as goal

pub returns : goal.returns
returns c =
    let low : FitsSigned w128 c.args.low = c.ranges.low in
    let high : FitsSigned w128 c.args.high = c.ranges.high in
    let greatest : FitsSigned w128 c.args.greatest = c.ranges.greatest in
    let middle = simp to_z-of_z at c.in_ok-add_difference.ensures in
    let end = simp to_z-of_z at c.add_bounds.ensures in
    appended c.add_bounds.result c.args.rows.now c.add_difference.new.rows c.add_bounds.new.rows (plus_minus c.args.x c.args.y c.args.low) (minus_plus c.args.x c.args.y c.args.high) (within c.args.y c.args.greatest) middle end
