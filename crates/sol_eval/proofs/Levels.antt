-- Calls that nest so deep.
use Rattle.std.proofs.Common.{◌≡◌, ℕ, zero, suc, ◌-◌, ◌<◌, List, Option, refl, arith}
use lib.IntN.{ℤ}
use Rattle.sol_core.specs.declared.Program.{Program}
use Rattle.sol_core.specs.declared.Fun.{Fun}
use Rattle.sol_meaning.specs.declared.World.{World}
use Rattle.sol_meaning.specs.declared.Got.TheVariants as got
use Rattle.sol_meaning.specs.Frames.{Caller}
use Rattle.sol_meaning.specs.Calling.{called, calls_at, level_at}

pub calls_at-none : (p : Program) (k : ℕ) (c : Caller) (g : Option Fun) (args : List ℤ) (w : World) → k ≡ 0 → calls_at p k c g args w ≡ (got.Cut, w)
calls_at-none p zero c g args w h = refl
calls_at-none p (suc k) c g args w h = absurd (omega arith)

pub calls_at-more : (p : Program) (k : ℕ) (c : Caller) (g : Option Fun) (args : List ℤ) (w : World) → 0 < k → calls_at p k c g args w ≡ called (level_at p (k - 1)) c g args w
calls_at-more p zero c g args w h = absurd (omega arith)
calls_at-more p (suc k) c g args w h = let e : suc k - 1 ≡ k = omega arith in rw e refl

pub ruleset levels = (calls_at-none, calls_at-more)
