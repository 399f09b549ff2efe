-- The passes of several seats.
use Rattle.std.specs.Prelude.{List, [], ◌∷◌, ◌++◌}
use Rattle.pool_lock.specs.declared.view.Known.{Known}
use Rattle.pool_lock.specs.declared.pass.NumberedSeat.{NumberedSeat}

-- the passes that seats stand for, in order
abbrev pub passes_in : {T X R : Type 0} → List (NumberedSeat T X R) → List (Known X R)
passes_in [] = []
passes_in (p ∷ ps) = p.seat.me.0.passes ++ passes_in ps
