use Rattle.std.proofs.Common.{rules, arith, ◌≡◌, ◌∙◌, sym, length, ◌+◌, ◌-◌, ◌<◌, ◌≤◌, Some}
use Rattle.sol_parse_expr.specs.Reading.{array_of, brackets_at}
use Rattle.sol_parse_expr.proofs.Loops.{grow-array}
use Rattle.sol_parse_expr.proofs.types.arrays_at.Goals as goal

pub loop-turn-preserved : goal.loop-turn-preserved
loop-turn-preserved c =
    let low : c.loop-turn.height ≤ c.args.levels_left = search rules in
    let e : brackets_at c.loop-turn.rest.now ≡ Some (tt, 0, c.in-Some.after.now) = search rules in
    let some : 0 < length c.args.tokens.now - c.loop-turn._turn = search rules in
    let next : length c.args.tokens.now - c.loop-turn._turn - 1 ≡ length c.args.tokens.now - (c.loop-turn._turn + 1) = omega arith in
    let node : array_of c.loop-turn.so_far tt ≡ c.in_ok-so_far.so_far = search rules in
    let turn = grow-array c.args.levels_left (length c.args.tokens.now - c.loop-turn._turn) c.loop-turn.so_far c.loop-turn.height c.loop-turn.rest.now c.in-Some.after.now some low e in
    (rw (sym next, sym node) (sym turn ∙ c.loop-turn.invariant.0), omega (arith, low))
