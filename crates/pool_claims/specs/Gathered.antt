-- The passes of several seats.
use Rattle.std.specs.Prelude.{List, [], ◌∷◌, ◌++◌}
use Rattle.pool_claims.specs.declared.view.Drawn.{Drawn}
use Rattle.pool_claims.specs.declared.pass.ClaimPass.{ClaimPass}

-- the passes that seats stand for, in order
abbrev pub passes_in : List ClaimPass → List Drawn
passes_in [] = []
passes_in (p ∷ ps) = p.seat.me.0.passes ++ passes_in ps
