-- Passes of claims that are taken from a list and put back.
use Rattle.std.proofs.Common.{◌≡◌, ℕ, List, [], ◌∷◌, ◌++◌, Bool, sym, subst}
use Rattle.atomic_table.specs.Seated.{TableId}
use Rattle.pool_claims.specs.declared.pass.ClaimPass.{ClaimPass}
use Rattle.pool_claims.specs.Views.{drawn_as, passing}
use Rattle.pool_claims.specs.Calls.{bit, IsPassOf, ArePassesOf, AreFresh}
use Rattle.pool_claims.proofs.Passes.{passes-front, passes-back}

pub ours : (id : TableId) (n : ℕ) (ps : List ClaimPass) → AreFresh id n ps → ArePassesOf id n ps
ours id n [] h = tt
ours id n (p ∷ ps) h = ((h.0.1, [], subst (λ (b : Bool). p.seat.me ≡ (passing (drawn_as n [] (bit b)), [])) (sym h.0.0) h.0.2), ours id n ps h.1)

pub back : (id : TableId) (n : ℕ) (ps : List ClaimPass) (p : ClaimPass) → ArePassesOf id n ps → IsPassOf id n p → ArePassesOf id n (ps ++ p ∷ [])
back id n [] p h one = (one, tt)
back id n (q ∷ ps) p h one = (h.0, back id n ps p h.1 one)

pub ruleset claiming = (ours, back, passes-front, passes-back)
