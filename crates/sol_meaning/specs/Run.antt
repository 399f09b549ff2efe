-- What a script does to a contract, and which targets it violates.
use Rattle.std.specs.Prelude.{ℕ, List, [], ◌∷◌, Option, Some, None, slice_get, pos, Bool, true, false, map}
use Rattle.std.specs.List.{Contains}
use lib.IntN.{ℤ}
use Rattle.sol_core.specs.declared.Program.{Program}
use Rattle.sol_core.specs.declared.Build.{Build}
use Rattle.sol_core.specs.declared.BuildArg.{BuildArg}
use Rattle.sol_core.specs.declared.BuildArg.TheVariants as arg
use Rattle.sol_core.specs.declared.State.{State}
use Rattle.sol_core.specs.declared.Script.{Script}
use Rattle.sol_core.specs.declared.Call.{Call}
use Rattle.sol_meaning.specs.declared.world.World.{World}
use Rattle.sol_meaning.specs.declared.world.Got.{Got}
use Rattle.sol_meaning.specs.declared.world.Got.TheVariants as got
use Rattle.sol_meaning.specs.declared.world.End.{End}
use Rattle.sol_meaning.specs.declared.world.End.TheVariants as done
use Rattle.sol_meaning.specs.Frames.{Run, and_then, Caller, Frame, number_at}
use Rattle.sol_meaning.specs.Exec.{ends, all_of, exec_all, call_once, call_each}
use Rattle.sol_meaning.specs.Calling.{level_at}

-- everything starts at zero
abbrev pub zero_state : Program → State
zero_state p = record { scalars = map (λ t. pos 0) p.scalars; maps = map (λ m. []) p.maps; arrays = map (λ t. []) p.arrays }

-- the world with a state and turns, in which nothing has run yet
abbrev pub world_with : State → ℕ → World
world_with s n = record { state = s; locals = []; taken = 0; turns = n; hits = [] }

-- ---- deployment

-- the deployer's frame, whose external calls meet nothing
abbrev pub deployer : Program → ℤ → ℕ → Frame
deployer p sender n = record { level = level_at p n; caller = record { sender = sender; is_static = false; replies = [] } }

abbrev pub build_arg : List ℤ → BuildArg → ℤ
build_arg args (arg.Num n) = n
build_arg args (arg.Param i) = number_at args i

-- a constructor takes one turn, as each function does
abbrev pub constructed : Frame → List ℤ → Option ℕ → List BuildArg → Run End
constructed f args None own w = (got.Value done.Normal, w)
constructed f args (Some g) own w = and_then (f.level.call f.caller (slice_get f.level.program.funs g) (map (build_arg args) own) w) (λ n. ends)

-- a contract's initialisers, and then its constructor
abbrev pub built : Frame → List ℤ → Build → Run End
built f args b w = and_then (exec_all f b.inits w) (λ e. constructed f args b.fun b.args)

-- ---- runs

-- how a run ends: with a state, unless the deployment failed; the hits, in the order in which they came; whether it
-- was cut
pub record Outcome : Type 0 where
  pub state : Option State
  pub hits : List ℕ
  pub cut : Bool

abbrev pub ran : Bool × World → Outcome
ran (c, w) = record { state = Some w.state; hits = w.hits; cut = c }

-- a deployment that is reverted or cut gives no state and ends the run
abbrev pub deployed : Got End × World → (World → Outcome) → Outcome
deployed (got.Value e, w) go = go w
deployed (got.Reverted, w) go = record { state = None; hits = w.hits; cut = false }
deployed (got.Cut, w) go = record { state = None; hits = w.hits; cut = true }

-- the world at a deployment
abbrev pub fresh : Program → ℕ → World
fresh p n = world_with (zero_state p) n

-- a script's run with a number of turns: the deployment, contract by contract, and then the calls
abbrev pub run : Program → Script → ℕ → Outcome
run p s n = deployed (all_of (map (built (deployer p s.sender n) s.args) p.builds) (fresh p n)) (λ w. ran (call_each (level_at p n) false s.calls w))

-- what one call from outside does to a state, with a number of turns
abbrev pub run_call : Program → State → Call → ℕ → Outcome
run_call p s c n = ran (call_once (level_at p n) false c (world_with s n))

-- the script hits the target within so many turns
abbrev pub Violates : Program → ℕ → Script → ℕ → Type 0
Violates p t s n = Contains (run p s n).hits t
