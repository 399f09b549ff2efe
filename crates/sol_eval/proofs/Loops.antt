-- Turns of loops.
use Rattle.std.proofs.Common.{◌≡◌, refl, ℕ, zero, suc, ◌-◌, ◌<◌, [], arith}
use lib.IntN.{ℤ}
use Rattle.sol_meaning.specs.declared.World.{World}
use Rattle.sol_meaning.specs.declared.Got.TheVariants as got
use Rattle.sol_meaning.specs.declared.End.{End}
use Rattle.sol_meaning.specs.Frames.{Run, and_then, Frame}
use Rattle.sol_meaning.specs.Exec.{looped, turned, goes_on, exec_all, ends}

pub looped-none : (k : ℕ) (c : Run ℤ) (a b : Run End) (w : World) → k ≡ 0 → looped k c a b w ≡ (got.Cut, w)
looped-none zero c a b w h = refl
looped-none (suc k) c a b w h = absurd (omega arith)

pub looped-more : (k : ℕ) (c : Run ℤ) (a b : Run End) (w : World) → 0 < k → looped k c a b w ≡ and_then (turned c a b w) (λ o. goes_on o (looped (k - 1) c a b))
looped-more zero c a b w h = absurd (omega arith)
looped-more (suc k) c a b w h = let e : suc k - 1 ≡ k = omega arith in rw e refl

pub ruleset loops = (looped-none, looped-more)

-- no step is a step of no statements
pub endless : (f : Frame) (k : ℕ) (c : Run ℤ) (a : Run End) (w : World) → looped k c a (exec_all f []) w ≡ looped k c a ends w
endless f k c a w = refl
