-- What the evaluator's steps ensure: the meaning's outcome, unless memory fails.
use Rattle.std.specs.Prelude.{◌≡◌, Result, Ok, Err}
use Rattle.sol_core.specs.declared.State.{State}
use Rattle.sol_meaning.specs.declared.world.World.{World}

abbrev pub Ran : {A E : Type 0} → A × World → Result A E → World → Type 0
Ran outcome (Ok a) new = outcome ≡ (a, new)
Ran outcome (Err e) new = Unit {0}

-- mappings stay as they are
abbrev pub Kept : State → State → Type 0
Kept old new = new.maps ≡ old.maps
