-- Marks of units, one for each.
use Rattle.std.specs.Prelude.{◌≡◌, ◌<◌, ℕ, List, length, Bool, false, slice_get, unwrap_or}
use Rattle.sol_judged.specs.Names.{has}

abbrev pub is_marked : List Bool → ℕ → Bool
is_marked ms u = unwrap_or (slice_get ms u) false

-- of so many units those have a mark that a list has
pub record AreMarked (count : ℕ) (us : List ℕ) (ms : List Bool) : Type 0 where
  pub as_many : length ms ≡ count
  pub marked : (u : ℕ) → u < count → is_marked ms u ≡ has us u
