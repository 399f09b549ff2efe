use Rattle.std.proofs.Common.{◌≡◌, true, false, refl}
use Rattle.sol_replay.proofs.Hitting.{hit-of, no-hit}
use Rattle.sol_replay.proofs.shown.shown.Goals as goal

pub returns-then-hits : goal.returns-then-hits
returns-then-hits c =
    let hits = rw (c.as_slice.ensures, c.as_slice-2.ensures) at c.if-hits.ensures in
    hit-of c.args.p.now c.args.script.now c.args.target c.in_ok-run.run' c.in_ok-run.ensures (hits.0 refl)

pub returns : goal.returns
returns c =
    let hits = rw (c.as_slice.ensures, c.as_slice-2.ensures) at c.if-hits.ensures in
    no-hit c.args.p.now c.args.script.now c.args.target c.in_ok-run.run' c.in_ok-run.ensures (λ h. let yes : false ≡ true = hits.1 h in absurd (cc))
