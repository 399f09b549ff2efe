use Rattle.std.proofs.Common.{◌≡◌, ◌<◌, ◌≤◌, ◌++◌, ◌∷◌, [], ◌∙◌, sym, ap, rules, false}
use Rattle.pool_claims.specs.Views.{passing, drawn_as}
use Rattle.pool_claims.specs.Calls.{bit}
use Rattle.pool_claims.proofs.Keeps.{drew-low, drew-high}
use Rattle.pool_claims.proofs.claims.Claims.claim.Goals as goal

pub returns-then-found-self-clause-ours : goal.returns-then-found-self-clause-ours
returns-then-found-self-clause-ours c =
    let h = c.requires.ours in
    let n = c.args.self.now.numbers in
    let found = c.draw-found.result in
    let unended : c.args.pass.now.ended ≡ false = search rules in
    let less : found < n = search rules in
    let told = c.draw-found.ensures.drew h.1 (h.2 ∙ ap (λ b. (passing (drawn_as n h.1 (bit b)), [])) unended) in
    (c.draw-found.ensures.own.0 ∙ h.0, h.1 ++ found ∷ [], drew-low n c.draw-found.new.seat.me found h.1 told less ∙ ap (λ b. (passing (drawn_as n (h.1 ++ found ∷ []) (bit b)), [])) (sym unended))

pub returns-else-found-self-clause-ours : goal.returns-else-found-self-clause-ours
returns-else-found-self-clause-ours c =
    let h = c.requires.ours in
    let n = c.args.self.now.numbers in
    let found = c.draw-found.result in
    let unended : c.args.pass.now.ended ≡ false = search rules in
    let past : n ≤ found = search rules in
    let told = c.draw-found.ensures.drew h.1 (h.2 ∙ ap (λ b. (passing (drawn_as n h.1 (bit b)), [])) unended) in
    (c.draw-found.ensures.own.0 ∙ h.0, h.1, drew-high n c.draw-found.new.seat.me found h.1 told past)
