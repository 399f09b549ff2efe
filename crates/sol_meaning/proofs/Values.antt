-- The value of each kind of expression.
use Rattle.std.proofs.Common.{◌≡◌, ◌∙◌, sym, ap, ℕ, Bool, List, map, slice_get, length, pos, if◌then◌else◌}
use lib.IntN.{ℤ}
use Rattle.chc_nums.specs.declared.Ty.{Ty}
use Rattle.chc_nums.specs.declared.Op.{Op}
use Rattle.sol_core.specs.Wrapping.{wrapped}
use Rattle.sol_core.specs.declared.Cmp.{Cmp}
use Rattle.sol_core.specs.declared.PanicSites.{PanicSites}
use Rattle.sol_core.specs.declared.Expr.{Expr, Num, Local, Scalar, MapAt, ElemAt, Len, Sender, Arith, Compare, Not, Both, Either, Pick, Cast, Call}
use Rattle.sol_core.specs.declared.Expr.TheVariants.{rolls-Num, rolls-Local, rolls-Scalar, rolls-MapAt, rolls-ElemAt, rolls-Len, rolls-Sender, rolls-Arith, rolls-Compare, rolls-Not, rolls-Both, rolls-Either, rolls-Pick, rolls-Cast, rolls-Call}
use Rattle.sol_core.specs.declared.Expr.TheOpen.{Expr-F}
use Rattle.sol_core.specs.declared.Expr.TheFolds.{fold-Expr, fold-roll-Expr}
use Rattle.sol_core.specs.Mappings.{map_at}
use Rattle.sol_meaning.specs.declared.world.World.{World}
use Rattle.sol_meaning.specs.declared.world.Got.TheVariants as got
use Rattle.sol_meaning.specs.Frames.{Run, and_then, Frame, number_at, mapping_at, array_at}
use Rattle.sol_meaning.specs.Eval.{eval, value_step, operated, arithmetic, second_of, compared, truth, is_zero, values_of, index_in, at_index}

pub eval-Num : (f : Frame) (n : ℤ) (t : Ty) (w : World) → eval f (Num n t) w ≡ (got.Value n, w)
unfolding eval value_step
eval-Num f n t w = ap (λ (z : Expr). fold-Expr (Run ℤ) (value_step f) z w) (sym (rolls-Num n t)) ∙ ap (λ (g : Run ℤ). g w) (fold-roll-Expr (Run ℤ) (value_step f) (Expr-F.Num n t))

pub eval-Local : (f : Frame) (i : ℕ) (w : World) → eval f (Local i) w ≡ (got.Value (number_at w.locals i), w)
unfolding eval value_step
eval-Local f i w = ap (λ (z : Expr). fold-Expr (Run ℤ) (value_step f) z w) (sym (rolls-Local i)) ∙ ap (λ (g : Run ℤ). g w) (fold-roll-Expr (Run ℤ) (value_step f) (Expr-F.Local i))

pub eval-Scalar : (f : Frame) (i : ℕ) (w : World) → eval f (Scalar i) w ≡ (got.Value (number_at w.state.scalars i), w)
unfolding eval value_step
eval-Scalar f i w = ap (λ (z : Expr). fold-Expr (Run ℤ) (value_step f) z w) (sym (rolls-Scalar i)) ∙ ap (λ (g : Run ℤ). g w) (fold-roll-Expr (Run ℤ) (value_step f) (Expr-F.Scalar i))

pub eval-MapAt : (f : Frame) (m : ℕ) (es : List Expr) (w : World) → eval f (MapAt m es) w ≡ and_then (values_of (map (eval f) es) w) (λ ks v. (got.Value (map_at (mapping_at v.state.maps m) (number_at ks 0) (number_at ks 1)), v))
unfolding eval value_step
eval-MapAt f m es w = ap (λ (z : Expr). fold-Expr (Run ℤ) (value_step f) z w) (sym (rolls-MapAt m es)) ∙ ap (λ (g : Run ℤ). g w) (fold-roll-Expr (Run ℤ) (value_step f) (Expr-F.MapAt m es))

pub eval-ElemAt : (f : Frame) (a : ℕ) (e : Expr) (site : ℕ) (w : World) → eval f (ElemAt a e site) w ≡ and_then (eval f e w) (λ i v. at_index site (index_in (length (array_at v.state.arrays a)) i) (λ n u. (got.Value (number_at (array_at u.state.arrays a) n), u)) v)
unfolding eval value_step
eval-ElemAt f a e site w = ap (λ (z : Expr). fold-Expr (Run ℤ) (value_step f) z w) (sym (rolls-ElemAt a e site)) ∙ ap (λ (g : Run ℤ). g w) (fold-roll-Expr (Run ℤ) (value_step f) (Expr-F.ElemAt a e site))

pub eval-Len : (f : Frame) (a : ℕ) (w : World) → eval f (Len a) w ≡ (got.Value (pos (length (array_at w.state.arrays a))), w)
unfolding eval value_step
eval-Len f a w = ap (λ (z : Expr). fold-Expr (Run ℤ) (value_step f) z w) (sym (rolls-Len a)) ∙ ap (λ (g : Run ℤ). g w) (fold-roll-Expr (Run ℤ) (value_step f) (Expr-F.Len a))

pub eval-Sender : (f : Frame) (w : World) → eval f Sender w ≡ (got.Value f.caller.sender, w)
unfolding eval value_step
eval-Sender f w = ap (λ (z : Expr). fold-Expr (Run ℤ) (value_step f) z w) (sym rolls-Sender) ∙ ap (λ (g : Run ℤ). g w) (fold-roll-Expr (Run ℤ) (value_step f) Expr-F.Sender)

pub eval-Arith : (f : Frame) (o : Op) (t : Ty) (checked : Bool) (a b : Expr) (m : PanicSites) (w : World) → eval f (Arith o t checked a b m) w ≡ and_then (eval f a w) (λ x v. and_then (second_of o (eval f b) v) (λ y u. arithmetic (operated checked o t x y) m u))
unfolding eval value_step
eval-Arith f o t checked a b m w = ap (λ (z : Expr). fold-Expr (Run ℤ) (value_step f) z w) (sym (rolls-Arith o t checked a b m)) ∙ ap (λ (g : Run ℤ). g w) (fold-roll-Expr (Run ℤ) (value_step f) (Expr-F.Arith o t checked a b m))

pub eval-Compare : (f : Frame) (c : Cmp) (a b : Expr) (w : World) → eval f (Compare c a b) w ≡ and_then (eval f a w) (λ x v. and_then (eval f b v) (λ y u. (got.Value (truth (compared c x y)), u)))
unfolding eval value_step
eval-Compare f c a b w = ap (λ (z : Expr). fold-Expr (Run ℤ) (value_step f) z w) (sym (rolls-Compare c a b)) ∙ ap (λ (g : Run ℤ). g w) (fold-roll-Expr (Run ℤ) (value_step f) (Expr-F.Compare c a b))

pub eval-Not : (f : Frame) (a : Expr) (w : World) → eval f (Not a) w ≡ and_then (eval f a w) (λ x v. (got.Value (truth (is_zero x)), v))
unfolding eval value_step
eval-Not f a w = ap (λ (z : Expr). fold-Expr (Run ℤ) (value_step f) z w) (sym (rolls-Not a)) ∙ ap (λ (g : Run ℤ). g w) (fold-roll-Expr (Run ℤ) (value_step f) (Expr-F.Not a))

pub eval-Both : (f : Frame) (a b : Expr) (w : World) → eval f (Both a b) w ≡ and_then (eval f a w) (λ x v. if is_zero x then (got.Value (pos 0), v) else eval f b v)
unfolding eval value_step
eval-Both f a b w = ap (λ (z : Expr). fold-Expr (Run ℤ) (value_step f) z w) (sym (rolls-Both a b)) ∙ ap (λ (g : Run ℤ). g w) (fold-roll-Expr (Run ℤ) (value_step f) (Expr-F.Both a b))

pub eval-Either : (f : Frame) (a b : Expr) (w : World) → eval f (Either a b) w ≡ and_then (eval f a w) (λ x v. if is_zero x then eval f b v else (got.Value (pos 1), v))
unfolding eval value_step
eval-Either f a b w = ap (λ (z : Expr). fold-Expr (Run ℤ) (value_step f) z w) (sym (rolls-Either a b)) ∙ ap (λ (g : Run ℤ). g w) (fold-roll-Expr (Run ℤ) (value_step f) (Expr-F.Either a b))

pub eval-Pick : (f : Frame) (c a b : Expr) (w : World) → eval f (Pick c a b) w ≡ and_then (eval f c w) (λ x v. if is_zero x then eval f b v else eval f a v)
unfolding eval value_step
eval-Pick f c a b w = ap (λ (z : Expr). fold-Expr (Run ℤ) (value_step f) z w) (sym (rolls-Pick c a b)) ∙ ap (λ (g : Run ℤ). g w) (fold-roll-Expr (Run ℤ) (value_step f) (Expr-F.Pick c a b))

pub eval-Cast : (f : Frame) (s t : Ty) (a : Expr) (w : World) → eval f (Cast s t a) w ≡ and_then (eval f a w) (λ x v. (got.Value (wrapped t x), v))
unfolding eval value_step
eval-Cast f s t a w = ap (λ (z : Expr). fold-Expr (Run ℤ) (value_step f) z w) (sym (rolls-Cast s t a)) ∙ ap (λ (g : Run ℤ). g w) (fold-roll-Expr (Run ℤ) (value_step f) (Expr-F.Cast s t a))

pub eval-Call : (f : Frame) (g : ℕ) (es : List Expr) (w : World) → eval f (Call g es) w ≡ and_then (values_of (map (eval f) es) w) (λ args v. f.level.call f.caller (slice_get f.level.program.funs g) args v)
unfolding eval value_step
eval-Call f g es w = ap (λ (z : Expr). fold-Expr (Run ℤ) (value_step f) z w) (sym (rolls-Call g es)) ∙ ap (λ (g : Run ℤ). g w) (fold-roll-Expr (Run ℤ) (value_step f) (Expr-F.Call g es))

pub ruleset values = (eval-Num, eval-Local, eval-Scalar, eval-MapAt, eval-ElemAt, eval-Len, eval-Sender, eval-Arith, eval-Compare, eval-Not, eval-Both, eval-Either, eval-Pick, eval-Cast, eval-Call)
