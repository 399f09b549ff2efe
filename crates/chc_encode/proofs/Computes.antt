-- What the statements of steps compute.
use Rattle.std.proofs.Common.{◌≡◌, ◌∙◌, ap, refl, ℕ, ◌*◌, ◌^◌, ◌≤◌, ◌==◌, if◌then◌else◌, List, pos, ◌<ℤ◌, Bool, true, false, arith, ◌⊎◌, slice_set}
use lib.IntN.{ℤ, negsuc}
use Rattle.std.proofs.lemmas.Int.{ints}
use Rattle.std.proofs.Math.Nat.{mod-eq_of_lt}
use Rattle.std.proofs.Math.Pow.{pow_mono}
use Rattle.chc_nums.specs.declared.Ty.{Ty}
use Rattle.chc_nums.specs.declared.Ty.TheVariants as ty
use Rattle.chc_nums.specs.declared.Op.{Op}
use Rattle.chc_nums.specs.declared.Op.TheVariants as op
use Rattle.chc_nums.specs.declared.Num.TheVariants as num
use Rattle.chc_nums.specs.Types.{InRange, least, greatest, placed, judged}
use Rattle.sol_core.specs.Wrapping.{wrapped}
use Rattle.sol_core.specs.declared.PanicSites.{PanicSites}
use Rattle.sol_core.specs.declared.Expr.{Expr, Cast}
use Rattle.sol_core.specs.declared.Place.TheVariants as place
use Rattle.sol_core.specs.declared.Stmt.{Set}
use Rattle.sol_first.specs.declared.Variable.{Variable}
use Rattle.sol_first.specs.declared.Order.{Order}
use Rattle.sol_first.specs.Typed.{size_at}
use Rattle.sol_first.specs.Elaborated.{cmp_of, condition, converted, shifted, type_at}
use Rattle.sol_meaning.specs.declared.World.{World}
use Rattle.sol_meaning.specs.declared.Got.{Got}
use Rattle.sol_meaning.specs.declared.Got.TheVariants as got
use Rattle.sol_meaning.specs.declared.End.TheVariants as done
use Rattle.sol_meaning.specs.Frames.{and_then, Frame, plain, number_at}
use Rattle.sol_meaning.specs.Eval.{eval, truth, compared, arithmetic}
use Rattle.sol_meaning.specs.Exec.{exec, assigned}
use Rattle.sol_meaning.proofs.Values.{eval-Num, eval-Scalar, eval-Arith, eval-Compare, eval-Cast}
use Rattle.sol_meaning.proofs.Statements.{exec-Set}

-- a wider type has the numbers of a narrower one, and keeps them as they are
pub widened : (s t : ℕ) (z : ℤ) → s ≤ t → InRange (ty.Uint s) z → InRange (ty.Uint t) z
widened s t z l h = let p : 2 ^ (8 * s) ≤ 2 ^ (8 * t) = pow_mono {i = 8 * s} {j = 8 * t} (omega arith) in (omega (arith, ints), omega (arith, ints))

pub wrapped-same : (s : ℕ) (z : ℤ) → InRange (ty.Uint s) z → wrapped (ty.Uint s) z ≡ z
wrapped-same s (pos n) h =
    let p : 2 ^ 0 ≤ 2 ^ (8 * s) = pow_mono {i = 0} {j = 8 * s} (omega arith) in
    ap pos (mod-eq_of_lt (omega (arith, ints)))
wrapped-same s (negsuc n) h = absurd (omega (arith, ints))

-- where a number lies against a type's range
pub placed-cases : (t : Ty) (z : ℤ) → ((placed t z ≡ num.Under) × (z <ℤ least t)) ⊎ (((placed t z ≡ num.Over) × (greatest t <ℤ z)) ⊎ ((placed t z ≡ num.Value z) × InRange t z))
unfolding placed
placed-cases t z = grind (arith, ints)

-- ---- values

pub condition-value : (frame : Frame) (vars : List Variable) (i : ℕ) (o : Order) (n : ℤ) (w : World) → eval frame (condition vars i o n) w ≡ (got.Value (truth (compared (cmp_of o) (number_at w.state.scalars i) n)), w)
condition-value frame vars i o n w = rw (eval-Compare, eval-Scalar, eval-Num) refl

pub shifted-value : (frame : Frame) (vars : List Variable) (o : Op) (from : ℕ) (n : ℤ) (m : PanicSites) (w : World) → eval frame (shifted vars o from n m) w ≡ arithmetic (judged o (type_at vars from) (number_at w.state.scalars from) n) m w
shifted-value frame vars op.Add from n m w = rw (eval-Arith, eval-Scalar, eval-Num) refl
shifted-value frame vars op.Sub from n m w = rw (eval-Arith, eval-Scalar, eval-Num) refl
shifted-value frame vars op.Mul from n m w = rw (eval-Arith, eval-Scalar, eval-Num) refl
shifted-value frame vars op.Div from n m w = rw (eval-Arith, eval-Scalar, eval-Num) refl
shifted-value frame vars op.Rem from n m w = rw (eval-Arith, eval-Scalar, eval-Num) refl
shifted-value frame vars op.Neg from n m w = rw (eval-Arith, eval-Scalar) refl

cast-value : (frame : Frame) (b : Bool) (s t : Ty) (e : Expr) (z : ℤ) (w : World) → wrapped t z ≡ z → eval frame e w ≡ (got.Value z, w) → eval frame (if b then e else Cast s t e) w ≡ (got.Value z, w)
cast-value frame true s t e z w h k = k
cast-value frame false s t e z w h k = rw (eval-Cast, k, h) refl

cast-reverted : (frame : Frame) (b : Bool) (s t : Ty) (e : Expr) (w v : World) → eval frame e w ≡ (got.Reverted, v) → eval frame (if b then e else Cast s t e) w ≡ (got.Reverted, v)
cast-reverted frame true s t e w v k = k
cast-reverted frame false s t e w v k = rw (eval-Cast, k) refl

pub converted-value : (frame : Frame) (vars : List Variable) (from to : ℕ) (e : Expr) (z : ℤ) (w : World) → InRange (type_at vars to) z → eval frame e w ≡ (got.Value z, w) → eval frame (converted vars from to e) w ≡ (got.Value z, w)
converted-value frame vars from to e z w r k = cast-value frame (size_at vars from == size_at vars to) (type_at vars from) (type_at vars to) e z w (wrapped-same (size_at vars to) z r) k

pub converted-reverted : (frame : Frame) (vars : List Variable) (from to : ℕ) (e : Expr) (w v : World) → eval frame e w ≡ (got.Reverted, v) → eval frame (converted vars from to e) w ≡ (got.Reverted, v)
converted-reverted frame vars from to e w v k = cast-reverted frame (size_at vars from == size_at vars to) (type_at vars from) (type_at vars to) e w v k

-- ---- assignments

-- a world where a scalar has another value
abbrev pub written : ℕ → ℤ → World → World
written to z w = record w { state = record w.state { scalars = slice_set w.state.scalars to z } }

pub set-value : (frame : Frame) (to : ℕ) (e : Expr) (z : ℤ) (w : World) → eval (plain frame) e w ≡ (got.Value z, w) → exec (plain frame) (Set (place.Scalar to) e) w ≡ (got.Value done.Normal, written to z w)
set-value frame to e z w k = exec-Set (plain frame) (place.Scalar to) e w ∙ ap (λ (r : Got ℤ × World). and_then r (assigned (plain frame) (place.Scalar to))) k

pub set-reverted : (frame : Frame) (to : ℕ) (e : Expr) (w v : World) → eval (plain frame) e w ≡ (got.Reverted, v) → exec (plain frame) (Set (place.Scalar to) e) w ≡ (got.Reverted, v)
set-reverted frame to e w v k = exec-Set (plain frame) (place.Scalar to) e w ∙ ap (λ (r : Got ℤ × World). and_then r (assigned (plain frame) (place.Scalar to))) k
