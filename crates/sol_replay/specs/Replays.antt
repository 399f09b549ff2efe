-- What the text of a script shows of a target.
use Rattle.std.specs.Prelude.{◌≡◌, ℕ, List, Some, Ok, slice_get}
use Rattle.std.specs.List.{Contains}
use Rattle.chc_nums.specs.declared.limits.TheConstants.{MAX_TURNS}
use Rattle.sol_core.specs.declared.Program.{Program}
use Rattle.sol_core.specs.declared.Script.{Script}
use Rattle.sol_core.specs.declared.Site.{Site}
use Rattle.sol_core.specs.Fits.{Fits}
use Rattle.sol_script.specs.Reading.{read_script}
use Rattle.sol_meaning.specs.Run.{run, Violates}
use Rattle.sol_replay.specs.declared.shown.Replayed.{Replayed}
use Rattle.sol_replay.specs.declared.shown.Replayed.TheVariants as replay

-- one of some places of targets is that of the target
abbrev pub HitsAmong : List Site → List ℕ → Site → Type 0
HitsAmong sites hits target = (k : ℕ) × Contains hits k × (slice_get sites k ≡ Some target)

-- the text tells this script, and it fits the program
pub record Told (p : Program) (text : List ℕ) (s : Script) : Type 0 where
  pub read : read_script p text ≡ Ok s
  pub fits : Fits p s

-- the script violates the target within the turns of a replay
abbrev pub IsHit : Program → Script → Site → Type 0
IsHit p s target = (k : ℕ) × Violates p k s MAX_TURNS × (slice_get p.sites k ≡ Some target)

-- what a script that fits shows
abbrev pub Shown : Program → Script → Site → Replayed → Type 0
Shown p s target replay.Violated = IsHit p s target
Shown p s target replay.NotViolated = IsHit p s target → ⊥
Shown p s target replay.ScriptRefused = ⊥
Shown p s target replay.NoTarget = ⊥

abbrev pub Replays : Program → List ℕ → Site → Replayed → Type 0
Replays p text target replay.Violated = (s : Script) × Told p text s × IsHit p s target
Replays p text target replay.NotViolated = Contains p.sites target × ((s : Script) × Told p text s × (IsHit p s target → ⊥))
Replays p text target replay.ScriptRefused = Contains p.sites target × ((s : Script) → Told p text s → ⊥)
Replays p text target replay.NoTarget = Contains p.sites target → ⊥
