use Rattle.std.proofs.Common.{rules, arith, ◌≡◌, ◌∙◌, sym, length, ℕ, ◌+◌, ◌-◌, ◌<◌, ◌≤◌, max, [], ◌∷◌, ◌++◌, Some}
use Rattle.sol_parser.specs.Reading.{repeated_at}
use Rattle.sol_parser.proofs.Turns.{repeated-turn}
use Rattle.sol_parser.proofs.elements.many_at.Goals as goal

pub loop-turn-preserved : goal.loop-turn-preserved
loop-turn-preserved g c =
    let e : g.T.Element.reader c.loop-turn.rest.now ≡ Some (c.in-Some.element, c.in-Some.element_height, c.in-Some.after.now) = search rules in
    let small : c.in-Some.element_height ≤ g.T.Element.most = search rules in
    let some : 0 < length c.args.tokens.now - c.loop-turn._turn = search rules in
    let following : length c.args.tokens.now - c.loop-turn._turn - 1 ≡ length c.args.tokens.now - (c.loop-turn._turn + 1) = omega arith in
    let node : c.loop-turn.so_far ++ (c.in-Some.element ∷ []) ≡ c.push.new.self = search rules in
    let top : max c.loop-turn.height c.in-Some.element_height ≡ c.max-height.result = search rules in
    let turn = repeated-turn (g.T.Element.reader) (length c.args.tokens.now - c.loop-turn._turn) c.loop-turn.so_far c.loop-turn.height c.loop-turn.rest.now c.in-Some.element c.in-Some.element_height c.in-Some.after.now some e in
    let low : c.loop-turn.height ≤ g.T.Element.most = c.loop-turn.invariant.1 in
    let within : max c.loop-turn.height c.in-Some.element_height ≤ g.T.Element.most = omega (arith, low, small) in
    (rw (sym following, sym node, sym top) (sym turn ∙ c.loop-turn.invariant.0), omega (arith, within, top))
