use Rattle.std.proofs.Common.{rules, arith, ◌≡◌, ◌∙◌, sym, length, ◌+◌, ◌-◌, ◌<◌, ◌≤◌, max, [], ◌∷◌, ◌++◌, Some}
use Rattle.sol_parse_expr.specs.Reading.{argument_at, expr_at, joined, operand_at, suffix_at, suffixed}
use Rattle.sol_parse_expr.proofs.Loops.{arguments-turn, grow-turn}
use Rattle.sol_parse_expr.proofs.expr.+expressions.Goals as goal

pub arguments_at-loop-turn-preserved : goal.arguments_at-loop-turn-preserved
arguments_at-loop-turn-preserved g c =
    let e : argument_at (expr_at c.args.inner) c.loop-turn.rest.now ≡ Some (c.in-Some.tree, c.in-Some.tree_height, c.in-Some.after.now) = search rules in
    let small : c.in-Some.tree_height ≤ c.args.inner = search rules in
    let some : 0 < length c.args.tokens.now - c.loop-turn._turn = search rules in
    let next : length c.args.tokens.now - c.loop-turn._turn - 1 ≡ length c.args.tokens.now - (c.loop-turn._turn + 1) = omega arith in
    let node : c.loop-turn.so_far ++ (c.in-Some.tree ∷ []) ≡ c.push.new.self = search rules in
    let top : max c.loop-turn.height c.in-Some.tree_height ≡ c.max-height.result = search rules in
    let turn = arguments-turn (expr_at c.args.inner) (length c.args.tokens.now - c.loop-turn._turn) c.loop-turn.so_far c.loop-turn.height c.loop-turn.rest.now c.in-Some.tree c.in-Some.tree_height c.in-Some.after.now some e in
    let low : c.loop-turn.height ≤ c.args.inner = c.loop-turn.invariant.1 in
    let within : max c.loop-turn.height c.in-Some.tree_height ≤ c.args.inner = omega (arith, low, small) in
    (rw (sym next, sym node, sym top) (sym turn ∙ c.loop-turn.invariant.0), omega (arith, within, top))

pub suffixes_at-loop-turn-preserved : goal.suffixes_at-loop-turn-preserved
suffixes_at-loop-turn-preserved g c =
    let low : c.loop-turn.height ≤ c.args.inner = search rules in
    let e : suffix_at (expr_at c.args.inner) c.loop-turn.rest.now ≡ Some (c.in-Some.suffix, c.in-Some.suffix_height, c.in-Some.after.now) = search rules in
    let small : c.in-Some.suffix_height ≤ c.args.inner = search rules in
    let some : 0 < length c.args.tokens.now - c.loop-turn._turn = search rules in
    let next : length c.args.tokens.now - c.loop-turn._turn - 1 ≡ length c.args.tokens.now - (c.loop-turn._turn + 1) = omega arith in
    let node : suffixed c.loop-turn.so_far c.in-Some.suffix ≡ c.in_ok-so_far.so_far = search rules in
    let top : max c.loop-turn.height c.in-Some.suffix_height ≡ c.max-height.result = search rules in
    let turn = grow-turn suffixed c.args.inner (suffix_at (expr_at c.args.inner)) (length c.args.tokens.now - c.loop-turn._turn) c.loop-turn.so_far c.loop-turn.height c.loop-turn.rest.now c.in-Some.suffix c.in-Some.suffix_height c.in-Some.after.now some low e in
    let within : max c.loop-turn.height c.in-Some.suffix_height ≤ c.args.inner = omega (arith, low, small) in
    (rw (sym next, sym node, sym top) (sym turn ∙ c.loop-turn.invariant.0), omega (arith, within, top))

pub operands_at-loop-turn-preserved : goal.operands_at-loop-turn-preserved
operands_at-loop-turn-preserved g c =
    let low : c.loop-turn.height ≤ c.args.inner = search rules in
    let e : operand_at c.args.precedence c.args.right (expr_at c.args.inner) c.loop-turn.rest.now ≡ Some (c.in-Some.operand, c.in-Some.operand_height, c.in-Some.after.now) = search rules in
    let small : c.in-Some.operand_height ≤ c.args.inner = search rules in
    let some : 0 < c.args.most - c.loop-turn._turn = search rules in
    let next : c.args.most - c.loop-turn._turn - 1 ≡ c.args.most - (c.loop-turn._turn + 1) = omega arith in
    let node : joined c.loop-turn.so_far c.in-Some.operand ≡ c.in_ok-so_far.so_far = search rules in
    let top : max c.loop-turn.height c.in-Some.operand_height ≡ c.max-height.result = search rules in
    let turn = grow-turn joined c.args.inner (operand_at c.args.precedence c.args.right (expr_at c.args.inner)) (c.args.most - c.loop-turn._turn) c.loop-turn.so_far c.loop-turn.height c.loop-turn.rest.now c.in-Some.operand c.in-Some.operand_height c.in-Some.after.now some low e in
    let within : max c.loop-turn.height c.in-Some.operand_height ≤ c.args.inner = omega (arith, low, small) in
    (rw (sym next, sym node, sym top) (sym turn ∙ c.loop-turn.invariant.0), omega (arith, within, top))
