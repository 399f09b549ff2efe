-- A tableau as the run keeps it: of each line whether its variable is a basic slack above its bound, and its terms in order.
use Rattle.std.specs.Prelude.{◌≡◌, ℕ, ◌+◌, Bool, List, [], ◌∷◌, Option, Some, None, Result, Ok, Err, if◌then◌else◌}
use lib.IntN.{ℤ}
use Rattle.chc_nums.specs.Values.{with_value}
use Rattle.chc_simplex.specs.declared.data.Simplex.{Simplex}
use Rattle.chc_simplex.specs.declared.data.Stop.{Stop}
use Rattle.chc_simplex.specs.declared.data.Stop.TheVariants as stop
use Rattle.chc_simplex.specs.Terms.{Ascends}
use Rattle.chc_simplex.specs.Lines.{Tableau, terms_of}
use Rattle.chc_simplex.specs.Rounds.{is_above}

-- of each line whether its variable is above its bound, from variable v on
abbrev pub above_flags_of : ℕ → List ℤ → ℕ → Tableau → List (Option Bool)
above_flags_of n bounds v [] = []
above_flags_of n bounds v (o ∷ os) = is_above n bounds v o ∷ above_flags_of n bounds (v + 1) os

-- the first flag that is set, from variable v on
abbrev pub first_above : ℕ → List (Option Bool) → Option (Option ℕ)
first_above v [] = Some None
first_above v (m ∷ ms) = with_value m (λ above. if above then Some (Some v) else first_above (v + 1) ms)

-- the variables of each line ascend
abbrev pub LinesAscend : Tableau → Type 0
LinesAscend [] = Unit {0}
LinesAscend (o ∷ os) = Ascends 0 (terms_of o) × LinesAscend os

-- the flags are those of the lines, and the variables of each line ascend
pub record IsKept (b : Simplex) : Type 0 where
  pub above_flags : b.above_flags ≡ above_flags_of b.variables b.bounds 0 b.tableau
  pub order : LinesAscend b.tableau

-- this tableau comes of another one of the same run
pub record ComesOf (old b : Simplex) (value : Option Tableau) : Type 0 where
  pub tableau : value ≡ Some b.tableau
  pub kept : IsKept b
  pub variables : b.variables ≡ old.variables
  pub bounds : b.bounds ≡ old.bounds

-- what a call gives on a tableau: the value, `Wide` where there is none, and nothing is said where memory ran out
abbrev pub GivesSimplex : Simplex → Result Simplex Stop → Option Tableau → Type 0
GivesSimplex old (Ok b) value = ComesOf old b value
GivesSimplex old (Err stop.Wide) value = value ≡ None
GivesSimplex old (Err stop.NoMemory) value = Unit {0}
