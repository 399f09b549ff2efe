-- A function value that makes calls at a level of a program.
use Rattle.std.specs.Prelude.{◌≡◌, ℕ, List, Result, IsTrue, OnOk, slice_get}
use Rattle.std.specs.List.{list_all}
use lib.IntN.{ℤ}
use denote.Ref.{Bor, MutBor}
use Rattle.std.specs.declared.alloc.Global.{Global}
use Rattle.lists.specs.declared.memory.NoMemory.{NoMemory}
use Rattle.sol_core.specs.declared.Program.{Program}
use Rattle.sol_meaning.specs.declared.World.{World}
use Rattle.sol_meaning.specs.declared.Got.{Got}
use Rattle.sol_meaning.specs.Calling.{calls_at}
use Rattle.sol_eval.specs.declared.frames.Frame.{Frame}
use Rattle.sol_eval.specs.Framed.{caller_in}
use Rattle.sol_eval.specs.Ran.{Ran, Kept}
use Rattle.sol_eval.specs.Sized.{fun_sized}

pub record Makes (p : Program) (level : ℕ) (pre : Global → Bor Frame → ℕ → Bor (List ℤ) → MutBor World → Type 0)
    (post : Global → Bor Frame → ℕ → Bor (List ℤ) → MutBor World → Result (Got ℤ) NoMemory → MutBor World → Type 0) : Type 0 where
  pub sized : IsTrue (list_all fun_sized p.funs)
  pub callable : (alloc : Global) (f : Bor Frame) (g : ℕ) (args : Bor (List ℤ)) (old : MutBor World) → f.now.program.now ≡ p → f.now.level ≡ level → pre alloc f g args old
  pub ran : (alloc : Global) (f : Bor Frame) (g : ℕ) (args : Bor (List ℤ)) (old new : MutBor World) (r : Result (Got ℤ) NoMemory) → post alloc f g args old r new
      → f.now.program.now ≡ p → f.now.level ≡ level → Ran (calls_at p level (caller_in f.now.caller.now) (slice_get p.funs g) args.now old.now) r new.now
  pub kept : (alloc : Global) (f : Bor Frame) (g : ℕ) (args : Bor (List ℤ)) (old new : MutBor World) (r : Result (Got ℤ) NoMemory) → post alloc f g args old r new → Kept old.now.state new.now.state
  pub locals : (alloc : Global) (f : Bor Frame) (g : ℕ) (args : Bor (List ℤ)) (old new : MutBor World) (r : Result (Got ℤ) NoMemory) → post alloc f g args old r new → OnOk r (new.now.locals ≡ old.now.locals)
