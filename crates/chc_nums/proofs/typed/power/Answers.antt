use Rattle.std.proofs.Common.{◌≡◌, ◌*◌, ◌^◌, ◌<◌, ◌%◌, arith}
use Rattle.std.proofs.lemmas.Int.{to_z_pos}
use Rattle.std.proofs.lemmas.Nat.{pow_below}
use Rattle.std.proofs.Math.Nat.{mod-eq_of_lt}
use Rattle.std.specs.Int.{w128}
use Rattle.chc_nums.proofs.typed.power.Goals as goal

pub returns : goal.returns
returns c =
    let below : 2 ^ c.args.bits < 2 ^ 127 = pow_below c.args.bits 127 c.requires in
    let one : 1 * 2 ^ c.args.bits ≡ 2 ^ c.args.bits = omega arith in
    let same : 2 ^ c.args.bits % 2 ^ 128 ≡ 2 ^ c.args.bits = mod-eq_of_lt (omega arith) in
    rw (one, same) (to_z_pos w128 (2 ^ c.args.bits) below)
