-- What the value of an expression is, and how its evaluation may end otherwise. Operands go from left to right. A checked
-- result outside its type, a zero divisor and an index past the end are panics: the call is undone, and the target is hit.
use Rattle.std.specs.Prelude.{ℕ, List, [], ◌∷◌, ◌++◌, Option, Some, None, slice_get, pos, Bool, true, false, not, if◌then◌else◌, length, nat_lt}
use lib.IntN.{ℤ, negsuc}
use lib.Signed.{lt_z}
use Rattle.std.specs.Ordering.{int_eq}
use Rattle.chc_nums.specs.declared.Ty.{Ty}
use Rattle.chc_nums.specs.declared.Op.{Op}
use Rattle.chc_nums.specs.declared.Op.TheVariants as op
use Rattle.chc_nums.specs.declared.Num.{Num}
use Rattle.chc_nums.specs.declared.Num.TheVariants as num
use Rattle.chc_nums.specs.Types.{judged}
use Rattle.sol_core.specs.Wrapping.{wrapped, unchecked}
use Rattle.sol_core.specs.declared.Cmp.{Cmp}
use Rattle.sol_core.specs.declared.Cmp.TheVariants as cmp
use Rattle.sol_core.specs.declared.PanicSites.{PanicSites}
use Rattle.sol_core.specs.declared.Expr.{Expr}
use Rattle.sol_core.specs.declared.Expr.TheOpen.{Expr-F}
use Rattle.sol_core.specs.declared.Expr.TheFolds.{fold-Expr}
use Rattle.sol_core.specs.Mappings.{map_at}
use Rattle.sol_meaning.specs.declared.world.World.{World}
use Rattle.sol_meaning.specs.declared.world.Got.{Got}
use Rattle.sol_meaning.specs.declared.world.Got.TheVariants as got
use Rattle.sol_meaning.specs.Frames.{Run, and_then, panic, Frame, number_at, mapping_at, array_at}

abbrev pub truth : Bool → ℤ
truth b = if b then pos 1 else pos 0

abbrev pub is_zero : ℤ → Bool
is_zero n = int_eq n (pos 0)

abbrev pub compared : Cmp → ℤ → ℤ → Bool
compared cmp.Lt x y = lt_z x y
compared cmp.Le x y = not (lt_z y x)
compared cmp.Gt x y = lt_z y x
compared cmp.Ge x y = not (lt_z x y)
compared cmp.Eq x y = int_eq x y
compared cmp.Ne x y = not (int_eq x y)

-- an operation, checked or inside `unchecked`
abbrev pub operated : Bool → Op → Ty → ℤ → ℤ → Num
operated true o t x y = judged o t x y
operated false o t x y = unchecked o t x y

-- what an operation gives: its value, or the panic of its cause
abbrev pub arithmetic : Num → PanicSites → Run ℤ
arithmetic (num.Value z) m w = (got.Value z, w)
arithmetic num.Under m w = panic m.under w
arithmetic num.Over m w = panic m.over w
arithmetic num.ByZero m w = panic m.zero w

-- a negation reads its first operand alone
abbrev pub second_of : Op → Run ℤ → Run ℤ
second_of op.Add b w = b w
second_of op.Sub b w = b w
second_of op.Mul b w = b w
second_of op.Div b w = b w
second_of op.Rem b w = b w
second_of op.Neg b w = (got.Value (pos 0), w)

-- the values of operands after others, from left to right
abbrev pub values_onto : List ℤ → List (Run ℤ) → Run (List ℤ)
values_onto ns [] w = (got.Value ns, w)
values_onto ns (e ∷ es) w = and_then (e w) (λ n. values_onto (ns ++ n ∷ []) es)

abbrev pub values_of : List (Run ℤ) → Run (List ℤ)
values_of es = values_onto [] es

-- an index into so many elements
abbrev pub index_in : ℕ → ℤ → Option ℕ
index_in count (pos n) = if nat_lt n count then Some n else None
index_in count (negsuc n) = None

-- at or past the length an index panics at its own target
abbrev pub at_index : {A : Type 0} → ℕ → Option ℕ → (ℕ → Run A) → Run A
at_index site None go w = panic (Some site) w
at_index site (Some i) go w = go i w

-- One line for each form.
unfoldable pub value_step : Frame → Expr-F (Run ℤ) → Run ℤ
value_step f (Expr-F.Num n t) w = (got.Value n, w)
value_step f (Expr-F.Local i) w = (got.Value (number_at w.locals i), w)
value_step f (Expr-F.Scalar i) w = (got.Value (number_at w.state.scalars i), w)
value_step f (Expr-F.MapAt m es) w = and_then (values_of es w) (λ ks v. (got.Value (map_at (mapping_at v.state.maps m) (number_at ks 0) (number_at ks 1)), v))
value_step f (Expr-F.ElemAt a e site) w = and_then (e w) (λ i v. at_index site (index_in (length (array_at v.state.arrays a)) i) (λ n u. (got.Value (number_at (array_at u.state.arrays a) n), u)) v)
value_step f (Expr-F.Len a) w = (got.Value (pos (length (array_at w.state.arrays a))), w)
value_step f Expr-F.Sender w = (got.Value f.caller.sender, w)
value_step f (Expr-F.Arith o t checked a b m) w = and_then (a w) (λ x v. and_then (second_of o b v) (λ y u. arithmetic (operated checked o t x y) m u))
value_step f (Expr-F.Compare c a b) w = and_then (a w) (λ x v. and_then (b v) (λ y u. (got.Value (truth (compared c x y)), u)))
value_step f (Expr-F.Not a) w = and_then (a w) (λ x v. (got.Value (truth (is_zero x)), v))
value_step f (Expr-F.Both a b) w = and_then (a w) (λ x v. if is_zero x then (got.Value (pos 0), v) else b v)
value_step f (Expr-F.Either a b) w = and_then (a w) (λ x v. if is_zero x then b v else (got.Value (pos 1), v))
value_step f (Expr-F.Pick c a b) w = and_then (c w) (λ x v. if is_zero x then b v else a v)
value_step f (Expr-F.Cast s t a) w = and_then (a w) (λ x v. (got.Value (wrapped t x), v))
value_step f (Expr-F.Call g es) w = and_then (values_of es w) (λ args v. f.level.call f.caller (slice_get f.level.program.funs g) args v)

-- the value of an expression
unfoldable pub eval : Frame → Expr → Run ℤ
eval f e = fold-Expr (Run ℤ) (value_step f) e
