-- What the parts of a run are: functions of the world before them, in a frame that they read and do not change.
use Rattle.std.specs.Prelude.{ℕ, List, [], ◌∷◌, ◌++◌, Option, Some, None, slice_get, unwrap_or, pos, Bool, false}
use lib.IntN.{ℤ}
use Rattle.sol_core.specs.declared.Program.{Program}
use Rattle.sol_core.specs.declared.Fun.{Fun}
use Rattle.sol_core.specs.declared.Reply.{Reply}
use Rattle.sol_core.specs.Mappings.{Mapping}
use Rattle.sol_meaning.specs.declared.world.World.{World}
use Rattle.sol_meaning.specs.declared.world.Got.{Got}
use Rattle.sol_meaning.specs.declared.world.Got.TheVariants as got

-- what comes to an answer in a world, and leaves a world
abbrev pub Run : Type 0 → Type 0
Run A = World → Got A × World

-- one after the other: what is reverted or cut goes no further
abbrev pub and_then : {A B : Type 0} → Got A × World → (A → Run B) → Got B × World
and_then (got.Value a, w) go = go a w
and_then (got.Reverted, w) go = (got.Reverted, w)
and_then (got.Cut, w) go = (got.Cut, w)

-- a panic adds its target to the hits; where the program has no target for it, the call is only undone
abbrev pub panic : {A : Type 0} → Option ℕ → Run A
panic None w = (got.Reverted, w)
panic (Some site) w = (got.Reverted, record w { hits = w.hits ++ site ∷ [] })

-- how the running call from outside was made: by whom, whether it may change nothing, and what its external calls meet
pub record Caller : Type 0 where
  pub sender : ℤ
  pub is_static : Bool
  pub replies : List Reply

-- what a call of a function does
abbrev pub Calls : Type 0
Calls = Caller → Option Fun → List ℤ → Run ℤ

-- a program at a level: how many turns a loop may take at most, and what a call does
pub record Level : Type 0 where
  pub program : Program
  pub loops : ℕ
  pub call : Calls

-- what the body of a function reads
pub record Frame : Type 0 where
  pub level : Level
  pub caller : Caller

-- the same frame of a call that may change the state
abbrev pub plain : Frame → Frame
plain f = record { level = f.level; caller = record { sender = f.caller.sender; is_static = false; replies = f.caller.replies } }

-- a number in a list, or 0 past its end
abbrev pub number_at : List ℤ → ℕ → ℤ
number_at ns i = unwrap_or (slice_get ns i) (pos 0)

abbrev pub mapping_at : List Mapping → ℕ → Mapping
mapping_at maps m = unwrap_or (slice_get maps m) []

abbrev pub array_at : List (List ℤ) → ℕ → List ℤ
array_at arrays a = unwrap_or (slice_get arrays a) []
