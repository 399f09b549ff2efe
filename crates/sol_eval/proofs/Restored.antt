-- A call from outside that left the mappings as they were, settled with the scalars and the arrays from before it.
use Rattle.std.proofs.Common.{◌≡◌, Bool, List, refl}
use lib.IntN.{ℤ}
use Rattle.sol_meaning.specs.declared.World.{World}
use Rattle.sol_meaning.specs.declared.Got.{Got}
use Rattle.sol_meaning.specs.declared.Got.TheVariants as got
use Rattle.sol_meaning.specs.Exec.{settled}

pub restored : (static : Bool) (old after : World) (z : Got ℤ) (s : List ℤ) (a : List (List ℤ)) → s ≡ old.state.scalars → a ≡ old.state.arrays → after.state.maps ≡ old.state.maps → after.locals ≡ old.locals
    → settled static old (z, after) ≡ settled static (record after { taken = old.taken; state = record after.state { scalars = s; arrays = a } }) (z, record after { taken = old.taken })
restored static old after (got.Value n) s a e r m l = rw (e, r, m, l) refl
restored static old after got.Reverted s a e r m l = rw (e, r, m, l) refl
restored static old after got.Cut s a e r m l = rw (e, r, m, l) refl
