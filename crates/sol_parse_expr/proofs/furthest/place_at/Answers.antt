use Rattle.std.proofs.Common.{arith, ◌≡◌, ◌-◌, ◌<◌, ◌≤◌, suc, length}
use Rattle.sol_parse_expr.proofs.Places.{place_got, place_last, place_none}
use Rattle.sol_parse_expr.proofs.furthest.place_at.Goals as goal

pub returns-in-Some : goal.returns-in-Some
returns-in-Some c = place_got c.args.tokens.now c.args.at c.in-Some.token.now c.in-Some.ensures.lookup.3.0 c.in-Some.ensures.lookup.1

pub returns-in-Some-get : goal.returns-in-Some-get
returns-in-Some-get c =
    let l : c.saturating_sub.result < length c.args.tokens.now = c.in-Some-get.ensures.lookup.3.0 in
    let d : c.saturating_sub.result ≡ length c.args.tokens.now - 1 = c.saturating_sub.ensures in
    let n : length c.args.tokens.now ≡ suc c.saturating_sub.result = omega (arith, l, d) in
    rw (c.saturating_add.ensures) (place_last c.args.tokens.now c.saturating_sub.result c.in-Some-get.last.now n c.in-Some-get.ensures.lookup.1)

pub returns-in-None : goal.returns-in-None
returns-in-None c =
    let l : length c.args.tokens.now ≤ c.saturating_sub.result = c.in-None.ensures.lookup.3 in
    let d : c.saturating_sub.result ≡ length c.args.tokens.now - 1 = c.saturating_sub.ensures in
    place_none c.args.tokens.now (omega (arith, l, d))
