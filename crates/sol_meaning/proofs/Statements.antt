-- What each kind of statement does.
use Rattle.std.proofs.Common.{◌≡◌, ◌∙◌, sym, ap, ℕ, List, Bool, Option, map, slice_get, if◌then◌else◌}
use lib.IntN.{ℤ}
use Rattle.chc_nums.specs.declared.Ty.{Ty}
use Rattle.chc_nums.specs.declared.Op.{Op}
use Rattle.sol_core.specs.declared.PanicSites.{PanicSites}
use Rattle.sol_core.specs.declared.Expr.{Expr}
use Rattle.sol_core.specs.declared.Place.{Place}
use Rattle.sol_core.specs.declared.Stmt.{Stmt, Set, Step, Push, Pop, Clear, Call, Out, If, While, DoWhile, Break, Continue, Leave, Scope, Require, Assert, Revert, Emit}
use Rattle.sol_core.specs.declared.Stmt.TheVariants.{rolls-Set, rolls-Step, rolls-Push, rolls-Pop, rolls-Clear, rolls-Call, rolls-Out, rolls-If, rolls-While, rolls-DoWhile, rolls-Break, rolls-Continue, rolls-Leave, rolls-Scope, rolls-Require, rolls-Assert, rolls-Revert, rolls-Emit}
use Rattle.sol_core.specs.declared.Stmt.TheOpen.{Stmt-F}
use Rattle.sol_core.specs.declared.Stmt.TheFolds.{fold-Stmt, fold-roll-Stmt}
use Rattle.sol_meaning.specs.declared.world.World.{World}
use Rattle.sol_meaning.specs.declared.world.Got.TheVariants as got
use Rattle.sol_meaning.specs.declared.world.End.{End}
use Rattle.sol_meaning.specs.declared.world.End.TheVariants as done
use Rattle.sol_meaning.specs.Frames.{Run, and_then, Frame}
use Rattle.sol_meaning.specs.Eval.{eval, is_zero, operated, arithmetic, values_of}
use Rattle.sol_meaning.specs.Exec.{exec, exec_all, exec_step, ends, assigned, located, held, stored, changed, given, pushed, popped, cleared, scoped, required, asserted, goes_on, tested, looped, replied}

pub exec-Set : (f : Frame) (p : Place) (e : Expr) (w : World) → exec f (Set p e) w ≡ and_then (eval f e w) (assigned f p)
unfolding exec exec_step
exec-Set f p e w = ap (λ (z : Stmt). fold-Stmt (Run End) (exec_step f) z w) (sym (rolls-Set p e)) ∙ ap (λ (g : Run End). g w) (fold-roll-Stmt (Run End) (exec_step f) (Stmt-F.Set p e))

pub exec-Step : (f : Frame) (p : Place) (o : Op) (t : Ty) (checked : Bool) (e : Expr) (m : PanicSites) (w : World) → exec f (Step p o t checked e m) w ≡ and_then (eval f e w) (λ y v. and_then (located f p v) (λ s u. and_then (arithmetic (operated checked o t (held u s) y) m u) (λ z. stored f z s)))
unfolding exec exec_step
exec-Step f p o t checked e m w = ap (λ (z : Stmt). fold-Stmt (Run End) (exec_step f) z w) (sym (rolls-Step p o t checked e m)) ∙ ap (λ (g : Run End). g w) (fold-roll-Stmt (Run End) (exec_step f) (Stmt-F.Step p o t checked e m))

pub exec-Push : (f : Frame) (a : ℕ) (e : Expr) (w : World) → exec f (Push a e) w ≡ and_then (eval f e w) (pushed f a)
unfolding exec exec_step
exec-Push f a e w = ap (λ (z : Stmt). fold-Stmt (Run End) (exec_step f) z w) (sym (rolls-Push a e)) ∙ ap (λ (g : Run End). g w) (fold-roll-Stmt (Run End) (exec_step f) (Stmt-F.Push a e))

pub exec-Pop : (f : Frame) (a : ℕ) (site : ℕ) (w : World) → exec f (Pop a site) w ≡ popped f a site w
unfolding exec exec_step
exec-Pop f a site w = ap (λ (z : Stmt). fold-Stmt (Run End) (exec_step f) z w) (sym (rolls-Pop a site)) ∙ ap (λ (g : Run End). g w) (fold-roll-Stmt (Run End) (exec_step f) (Stmt-F.Pop a site))

pub exec-Clear : (f : Frame) (a : ℕ) (w : World) → exec f (Clear a) w ≡ cleared f a w
unfolding exec exec_step
exec-Clear f a w = ap (λ (z : Stmt). fold-Stmt (Run End) (exec_step f) z w) (sym (rolls-Clear a)) ∙ ap (λ (g : Run End). g w) (fold-roll-Stmt (Run End) (exec_step f) (Stmt-F.Clear a))

pub exec-Call : (f : Frame) (p : Option Place) (g : ℕ) (es : List Expr) (w : World) → exec f (Call p g es) w ≡ and_then (values_of (map (eval f) es) w) (λ args v. and_then (f.level.call f.caller (slice_get f.level.program.funs g) args v) (given f p))
unfolding exec exec_step
exec-Call f p g es w = ap (λ (z : Stmt). fold-Stmt (Run End) (exec_step f) z w) (sym (rolls-Call p g es)) ∙ ap (λ (g : Run End). g w) (fold-roll-Stmt (Run End) (exec_step f) (Stmt-F.Call p g es))

pub exec-Out : (f : Frame) (p : Option Place) (o : ℕ) (e : Expr) (es : List Expr) (w : World) → exec f (Out p o e es) w ≡ and_then (eval f e w) (λ target v. and_then (values_of (map (eval f) es) v) (λ args u. replied f p (slice_get f.level.program.outs o) (slice_get f.caller.replies u.taken) u))
unfolding exec exec_step
exec-Out f p o e es w = ap (λ (z : Stmt). fold-Stmt (Run End) (exec_step f) z w) (sym (rolls-Out p o e es)) ∙ ap (λ (g : Run End). g w) (fold-roll-Stmt (Run End) (exec_step f) (Stmt-F.Out p o e es))

pub exec-If : (f : Frame) (e : Expr) (a b : List Stmt) (w : World) → exec f (If e a b) w ≡ and_then (eval f e w) (λ n v. if is_zero n then exec_all f b v else exec_all f a v)
unfolding exec exec_step
exec-If f e a b w = ap (λ (z : Stmt). fold-Stmt (Run End) (exec_step f) z w) (sym (rolls-If e a b)) ∙ ap (λ (g : Run End). g w) (fold-roll-Stmt (Run End) (exec_step f) (Stmt-F.If e a b))

pub exec-While : (f : Frame) (e : Expr) (a b : List Stmt) (w : World) → exec f (While e a b) w ≡ and_then (tested (eval f e) w) (λ o. goes_on o (looped f.level.loops (eval f e) (exec_all f a) (exec_all f b)))
unfolding exec exec_step
exec-While f e a b w = ap (λ (z : Stmt). fold-Stmt (Run End) (exec_step f) z w) (sym (rolls-While e a b)) ∙ ap (λ (g : Run End). g w) (fold-roll-Stmt (Run End) (exec_step f) (Stmt-F.While e a b))

pub exec-DoWhile : (f : Frame) (a : List Stmt) (e : Expr) (w : World) → exec f (DoWhile a e) w ≡ looped f.level.loops (eval f e) (exec_all f a) ends w
unfolding exec exec_step
exec-DoWhile f a e w = ap (λ (z : Stmt). fold-Stmt (Run End) (exec_step f) z w) (sym (rolls-DoWhile a e)) ∙ ap (λ (g : Run End). g w) (fold-roll-Stmt (Run End) (exec_step f) (Stmt-F.DoWhile a e))

pub exec-Break : (f : Frame) (w : World) → exec f Break w ≡ (got.Value done.Broke, w)
unfolding exec exec_step
exec-Break f w = ap (λ (z : Stmt). fold-Stmt (Run End) (exec_step f) z w) (sym rolls-Break) ∙ ap (λ (g : Run End). g w) (fold-roll-Stmt (Run End) (exec_step f) Stmt-F.Break)

pub exec-Continue : (f : Frame) (w : World) → exec f Continue w ≡ (got.Value done.Continued, w)
unfolding exec exec_step
exec-Continue f w = ap (λ (z : Stmt). fold-Stmt (Run End) (exec_step f) z w) (sym rolls-Continue) ∙ ap (λ (g : Run End). g w) (fold-roll-Stmt (Run End) (exec_step f) Stmt-F.Continue)

pub exec-Leave : (f : Frame) (w : World) → exec f Leave w ≡ (got.Value done.Left, w)
unfolding exec exec_step
exec-Leave f w = ap (λ (z : Stmt). fold-Stmt (Run End) (exec_step f) z w) (sym rolls-Leave) ∙ ap (λ (g : Run End). g w) (fold-roll-Stmt (Run End) (exec_step f) Stmt-F.Leave)

pub exec-Scope : (f : Frame) (a : List Stmt) (w : World) → exec f (Scope a) w ≡ and_then (exec_all f a w) (λ e v. (got.Value (scoped e), v))
unfolding exec exec_step
exec-Scope f a w = ap (λ (z : Stmt). fold-Stmt (Run End) (exec_step f) z w) (sym (rolls-Scope a)) ∙ ap (λ (g : Run End). g w) (fold-roll-Stmt (Run End) (exec_step f) (Stmt-F.Scope a))

pub exec-Require : (f : Frame) (e : Expr) (w : World) → exec f (Require e) w ≡ and_then (eval f e w) required
unfolding exec exec_step
exec-Require f e w = ap (λ (z : Stmt). fold-Stmt (Run End) (exec_step f) z w) (sym (rolls-Require e)) ∙ ap (λ (g : Run End). g w) (fold-roll-Stmt (Run End) (exec_step f) (Stmt-F.Require e))

pub exec-Assert : (f : Frame) (e : Expr) (site : ℕ) (w : World) → exec f (Assert e site) w ≡ and_then (eval f e w) (asserted site)
unfolding exec exec_step
exec-Assert f e site w = ap (λ (z : Stmt). fold-Stmt (Run End) (exec_step f) z w) (sym (rolls-Assert e site)) ∙ ap (λ (g : Run End). g w) (fold-roll-Stmt (Run End) (exec_step f) (Stmt-F.Assert e site))

pub exec-Revert : (f : Frame) (es : List Expr) (w : World) → exec f (Revert es) w ≡ and_then (values_of (map (eval f) es) w) (λ ns v. (got.Reverted, v))
unfolding exec exec_step
exec-Revert f es w = ap (λ (z : Stmt). fold-Stmt (Run End) (exec_step f) z w) (sym (rolls-Revert es)) ∙ ap (λ (g : Run End). g w) (fold-roll-Stmt (Run End) (exec_step f) (Stmt-F.Revert es))

pub exec-Emit : (f : Frame) (es : List Expr) (w : World) → exec f (Emit es) w ≡ and_then (values_of (map (eval f) es) w) (λ ns. changed f (λ s. s))
unfolding exec exec_step
exec-Emit f es w = ap (λ (z : Stmt). fold-Stmt (Run End) (exec_step f) z w) (sym (rolls-Emit es)) ∙ ap (λ (g : Run End). g w) (fold-roll-Stmt (Run End) (exec_step f) (Stmt-F.Emit es))

pub ruleset statements = (exec-Set, exec-Step, exec-Push, exec-Pop, exec-Clear, exec-Call, exec-Out, exec-If, exec-While, exec-DoWhile, exec-Break, exec-Continue, exec-Leave, exec-Scope, exec-Require, exec-Assert, exec-Revert, exec-Emit)
