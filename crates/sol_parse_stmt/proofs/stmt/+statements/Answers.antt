use Rattle.std.proofs.Common.{rules, arith, ◌≡◌, ◌∙◌, sym, length, ℕ, ◌+◌, ◌-◌, ◌<◌, ◌≤◌, max, [], ◌∷◌, ◌++◌, Some}
use Rattle.sol_parse_stmt.specs.Reading.{statements_at, stmt_at}
use Rattle.sol_parse_stmt.proofs.Loops.{statements-turn}
use Rattle.sol_parse_stmt.proofs.stmt.+statements.Goals as goal

pub statements_at-loop-turn-preserved : goal.statements_at-loop-turn-preserved
statements_at-loop-turn-preserved g c =
    let e : stmt_at c.args.inner c.loop-turn.rest.now ≡ Some (c.in-Some.stmt, c.in-Some.stmt_height, c.in-Some.after.now) = search rules in
    let small : c.in-Some.stmt_height ≤ c.args.inner = search rules in
    let some : 0 < length c.args.tokens.now - c.loop-turn._turn = search rules in
    let next : length c.args.tokens.now - c.loop-turn._turn - 1 ≡ length c.args.tokens.now - (c.loop-turn._turn + 1) = omega arith in
    let node : c.loop-turn.so_far ++ (c.in-Some.stmt ∷ []) ≡ c.push.new.self = search rules in
    let top : max c.loop-turn.height c.in-Some.stmt_height ≡ c.max-height.result = search rules in
    let turn = statements-turn (stmt_at c.args.inner) (length c.args.tokens.now - c.loop-turn._turn) c.loop-turn.so_far c.loop-turn.height c.loop-turn.rest.now c.in-Some.stmt c.in-Some.stmt_height c.in-Some.after.now some e in
    let low : c.loop-turn.height ≤ c.args.inner = c.loop-turn.invariant.1 in
    let within : max c.loop-turn.height c.in-Some.stmt_height ≤ c.args.inner = omega (arith, low, small) in
    (rw (sym next, sym node, sym top) (sym turn ∙ c.loop-turn.invariant.0), omega (arith, within, top))
