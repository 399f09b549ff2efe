use Rattle.std.proofs.Common.{rules, FitsSigned, ◌-ℤ◌}
use Rattle.std.specs.Int.{w128}
use Rattle.std.proofs.lemmas.Int.{to_z-of_z}
use Rattle.chc_nums.proofs.Halves.{minus-high, minus-is, room-fits}
use Rattle.chc_nums.proofs.total.Total.minus.Goals as goal

pub placed-requires-clause-high : goal.placed-requires-clause-high
placed-requires-clause-high c =
    let fits : FitsSigned w128 c.args.n = c.ranges.n in
    let fits-own : FitsSigned w128 c.self.inside.high = search rules in
    let fits-carry : FitsSigned w128 c.div_euclid.result = search rules in
    let d = simp to_z-of_z at c.div_euclid.ensures in
    let h = minus-high c.args.self.now c.self.inside.high c.self.inside.low c.args.n c.div_euclid.result c.self.view_is c.self.invariant c.requires fits d in
    let fits-high : FitsSigned w128 (c.self.inside.high -ℤ c.div_euclid.result) = room-fits (c.self.inside.high -ℤ c.div_euclid.result) h in
    simp to_z-of_z h

pub returns : goal.returns
returns c =
    let fits : FitsSigned w128 c.args.n = c.ranges.n in
    let fits-own : FitsSigned w128 c.self.inside.high = search rules in
    let fits-low : FitsSigned w128 c.self.inside.low = search rules in
    let fits-carry : FitsSigned w128 c.div_euclid.result = search rules in
    let fits-rest : FitsSigned w128 c.rem_euclid.result = search rules in
    let fits-sum : FitsSigned w128 (c.self.inside.low -ℤ c.rem_euclid.result) = search rules in
    let d = simp to_z-of_z at c.div_euclid.ensures in
    let r = simp to_z-of_z at c.rem_euclid.ensures.value in
    let h = minus-high c.args.self.now c.self.inside.high c.self.inside.low c.args.n c.div_euclid.result c.self.view_is c.self.invariant c.requires fits d in
    let fits-high : FitsSigned w128 (c.self.inside.high -ℤ c.div_euclid.result) = room-fits (c.self.inside.high -ℤ c.div_euclid.result) h in
    let p = simp to_z-of_z at c.placed.ensures in
    minus-is c.placed.result c.args.self.now c.self.inside.high c.self.inside.low c.args.n c.div_euclid.result c.rem_euclid.result c.self.view_is d r p
