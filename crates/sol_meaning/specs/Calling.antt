-- What a call of a function does, by levels: at level 0 it is Cut, and one level up the function's body runs over the level
-- below. Each call and each turn of a loop takes a turn of the run, so at the level of the turns that are left no level runs out
-- first.
use Rattle.std.specs.Prelude.{ℕ, zero, suc, ◌-◌, List, [], ◌∷◌, ◌++◌, Option, Some, None, pos, ◌==◌, if◌then◌else◌, map, take, length}
use lib.IntN.{ℤ}
use Rattle.chc_nums.specs.declared.Ty.{Ty}
use Rattle.sol_core.specs.declared.Program.{Program}
use Rattle.sol_core.specs.declared.Fun.{Fun}
use Rattle.sol_meaning.specs.declared.world.World.{World}
use Rattle.sol_meaning.specs.declared.world.Got.{Got}
use Rattle.sol_meaning.specs.declared.world.Got.TheVariants as got
use Rattle.sol_meaning.specs.declared.world.End.{End}
use Rattle.sol_meaning.specs.Frames.{Run, Caller, Calls, Level, number_at}
use Rattle.sol_meaning.specs.Exec.{exec_all}

-- the locals of a call: its arguments, and then zeros
abbrev pub entered : List Ty → List ℤ → List ℤ
entered types args = take (length types) (args ++ map (λ t. pos 0) types)

-- what a function returns, where it returns something
abbrev pub returned : Option ℕ → List ℤ → ℤ
returned None locals = pos 0
returned (Some i) locals = number_at locals i

-- a body that ends, however it does, gives what its function returns
abbrev pub valued : Fun → Got End × World → Got ℤ × World
valued g (got.Value e, w) = (got.Value (returned g.ret w.locals), w)
valued g (got.Reverted, w) = (got.Reverted, w)
valued g (got.Cut, w) = (got.Cut, w)

-- the caller has its own locals again
abbrev pub with_locals : List ℤ → Got ℤ × World → Got ℤ × World
with_locals locals (x, w) = (x, record w { locals = locals })

abbrev pub left_by : Fun → List ℤ → Got End × World → Got ℤ × World
left_by g locals z = with_locals locals (valued g z)

-- a call of a function whose body runs at a level: it takes one turn, and where none is left the run is cut
abbrev pub called : Level → Calls
called l c None args w = (got.Reverted, w)
called l c (Some g) args w = if w.turns == 0 then (got.Cut, w) else left_by g w.locals (exec_all (record { level = l; caller = c }) g.body (record w { locals = entered g.locals args; turns = w.turns - 1 }))

-- calls that nest less deep than this
abbrev pub calls_at : Program → ℕ → Calls
calls_at p zero c g args w = (got.Cut, w)
calls_at p (suc k) c g args w = called (record { program = p; loops = k; call = calls_at p k }) c g args w

abbrev pub level_at : Program → ℕ → Level
level_at p k = record { program = p; loops = k; call = calls_at p k }
