-- Lists of statements and of operands, the first of which comes to its end.
use Rattle.std.proofs.Common.{◌≡◌, sym, ap, ℕ, zero, suc, ◌+◌, ◌<◌, List, [], ◌∷◌, ◌++◌, length, map, drop, get_or, arith}
use lib.IntN.{ℤ}
use Rattle.sol_core.specs.declared.Expr.{Expr}
use Rattle.sol_core.specs.declared.Stmt.{Stmt}
use Rattle.sol_meaning.specs.declared.World.{World}
use Rattle.sol_meaning.specs.declared.Got.{Got}
use Rattle.sol_meaning.specs.declared.Got.TheVariants as got
use Rattle.sol_meaning.specs.declared.End.{End}
use Rattle.sol_meaning.specs.declared.End.TheVariants as done
use Rattle.sol_meaning.specs.Frames.{and_then, Frame}
use Rattle.sol_meaning.specs.Eval.{eval, values_onto}
use Rattle.sol_meaning.specs.Exec.{exec, exec_all, after_end}

pub all_more : (f : Frame) (s : Stmt) (ss : List Stmt) (w v : World) → exec f s w ≡ (got.Value done.Normal, v) → exec_all f (s ∷ ss) w ≡ exec_all f ss v
all_more f s ss w v e = ap (λ (z : Got End × World). and_then z (λ e. after_end e (exec_all f ss))) e

pub values_more : (f : Frame) (e : Expr) (es : List Expr) (ns : List ℤ) (n : ℤ) (w v : World) → eval f e w ≡ (got.Value n, v) → values_onto ns (map (eval f) (e ∷ es)) w ≡ values_onto (ns ++ n ∷ []) (map (eval f) es) v
values_more f e es ns n w v h = ap (λ (z : Got ℤ × World). and_then z (λ n. values_onto (ns ++ n ∷ []) (map (eval f) es))) h

pub drop-turn : {A : Type 0} (xs : List A) (i : ℕ) (x : A) → i < length xs → x ≡ get_or xs i x → drop i xs ≡ x ∷ drop (i + 1) xs
drop-turn [] i x h e = absurd (omega arith)
drop-turn {A} (y ∷ ys) zero x h e = ap (λ (z : A). z ∷ ys) (sym e)
drop-turn (y ∷ ys) (suc i) x h e = let n : suc i + 1 ≡ suc (i + 1) = omega arith in rw n (drop-turn ys i x (omega arith) e)
