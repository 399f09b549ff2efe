-- What a statement does, and how it ends. The right side of an assignment goes first, then the index expressions of its
-- left side, then, where it is a compound one, the old value is read. Nothing is written in a static call.
use Rattle.std.specs.Prelude.{ℕ, zero, suc, ◌+◌, ◌-◌, ◌^◌, List, [], ◌∷◌, ◌++◌, Option, Some, None, slice_get, slice_set, pos, Bool, true, false, ◌==◌, ◌||◌, ◌&&◌, not, if◌then◌else◌, map, take, length}
use lib.IntN.{ℤ}
use lib.Signed.{lt_z}
use Rattle.sol_core.specs.declared.Place.{Place}
use Rattle.sol_core.specs.declared.Place.TheVariants as place
use Rattle.sol_core.specs.declared.Stmt.{Stmt}
use Rattle.sol_core.specs.declared.Stmt.TheOpen.{Stmt-F}
use Rattle.sol_core.specs.declared.Stmt.TheFolds.{fold-Stmt}
use Rattle.sol_core.specs.declared.Expr.{Expr}
use Rattle.sol_core.specs.declared.Fun.{Fun}
use Rattle.sol_core.specs.declared.OutFun.{OutFun}
use Rattle.sol_core.specs.declared.State.{State}
use Rattle.sol_core.specs.declared.Call.{Call, out-Call}
use Rattle.sol_core.specs.declared.Reply.{Reply, out-Reply}
use Rattle.sol_core.specs.declared.Answer.{Answer}
use Rattle.sol_core.specs.declared.Answer.TheVariants as answer
use Rattle.sol_core.specs.Values.{in_range}
use Rattle.sol_core.specs.Doors.{door}
use Rattle.sol_core.specs.Mappings.{map_at, map_set}
use Rattle.chc_nums.specs.declared.Ty.{Ty}
use Rattle.sol_meaning.specs.declared.world.World.{World}
use Rattle.sol_meaning.specs.declared.world.Got.{Got}
use Rattle.sol_meaning.specs.declared.world.Got.TheVariants as got
use Rattle.sol_meaning.specs.declared.world.End.{End}
use Rattle.sol_meaning.specs.declared.world.End.TheVariants as done
use Rattle.sol_meaning.specs.declared.world.Spot.{Spot}
use Rattle.sol_meaning.specs.declared.world.Spot.TheVariants as spot
use Rattle.sol_meaning.specs.Frames.{Run, and_then, panic, Caller, Level, Frame, number_at, mapping_at, array_at}
use Rattle.sol_meaning.specs.Eval.{eval, is_zero, operated, arithmetic, values_of, index_in, at_index}

-- ---- ends

-- a statement that ends as it should
abbrev pub ends : Run End
ends w = (got.Value done.Normal, w)

abbrev pub after_end : End → Run End → Run End
after_end done.Normal go w = go w
after_end done.Broke go w = (got.Value done.Broke, w)
after_end done.Continued go w = (got.Value done.Continued, w)
after_end done.Left go w = (got.Value done.Left, w)

-- statements one after another, until one leaves
abbrev pub all_of : List (Run End) → Run End
all_of [] w = (got.Value done.Normal, w)
all_of (s ∷ ss) w = and_then (s w) (λ e. after_end e (all_of ss))

-- a `return` leaves the innermost scope alone
abbrev pub scoped : End → End
scoped done.Normal = done.Normal
scoped done.Broke = done.Broke
scoped done.Continued = done.Continued
scoped done.Left = done.Normal

-- ---- places

-- a change of the state; a static call is undone where it would make one
abbrev pub changed : Frame → (State → State) → Run End
changed f change w = if f.caller.is_static then (got.Reverted, w) else (got.Value done.Normal, record w { state = change w.state })

-- a place with the values of its index expressions
abbrev pub located : Frame → Place → Run Spot
located f (place.Local i) w = (got.Value (spot.Local i), w)
located f (place.Scalar i) w = (got.Value (spot.Scalar i), w)
located f (place.Map m es) w = and_then (values_of (map (eval f) es) w) (λ ks v. (got.Value (spot.Entry m (number_at ks 0) (number_at ks 1)), v))
located f (place.Elem a e site) w = and_then (eval f e w) (λ i v. at_index site (index_in (length (array_at v.state.arrays a)) i) (λ n u. (got.Value (spot.Element a n), u)) v)

-- what stands there
abbrev pub held : World → Spot → ℤ
held w (spot.Local i) = number_at w.locals i
held w (spot.Scalar i) = number_at w.state.scalars i
held w (spot.Entry m a b) = map_at (mapping_at w.state.maps m) a b
held w (spot.Element a n) = number_at (array_at w.state.arrays a) n

-- a number is written there
abbrev pub stored : Frame → ℤ → Spot → Run End
stored f z (spot.Local i) w = (got.Value done.Normal, record w { locals = slice_set w.locals i z })
stored f z (spot.Scalar i) w = changed f (λ s. record s { scalars = slice_set s.scalars i z }) w
stored f z (spot.Entry m a b) w = changed f (λ s. record s { maps = slice_set s.maps m (map_set (mapping_at s.maps m) a b z) }) w
stored f z (spot.Element a n) w = changed f (λ s. record s { arrays = slice_set s.arrays a (slice_set (array_at s.arrays a) n z) }) w

abbrev pub assigned : Frame → Place → ℤ → Run End
assigned f p z w = and_then (located f p w) (stored f z)

-- what a call gives goes to a place, where it has one
abbrev pub given : Frame → Option Place → ℤ → Run End
given f None z w = (got.Value done.Normal, w)
given f (Some p) z w = assigned f p z w

-- ---- arrays

-- a push on an array that has as many elements as it may have is undone, and is no target
abbrev pub pushed : Frame → ℕ → ℤ → Run End
pushed f a z w = if length (array_at w.state.arrays a) == 2 ^ 96 - 1 then (got.Reverted, w) else changed f (λ s. record s { arrays = slice_set s.arrays a (array_at s.arrays a ++ z ∷ []) }) w

-- a pop on an empty array panics at its own target
abbrev pub popped : Frame → ℕ → ℕ → Run End
popped f a site w = if length (array_at w.state.arrays a) == 0 then panic (Some site) w else changed f (λ s. record s { arrays = slice_set s.arrays a (take (length (array_at s.arrays a) - 1) (array_at s.arrays a)) }) w

abbrev pub cleared : Frame → ℕ → Run End
cleared f a w = changed f (λ s. record s { arrays = slice_set s.arrays a [] }) w

-- ---- conditions

-- a false requirement undoes the call
abbrev pub required : ℤ → Run End
required n w = if is_zero n then (got.Reverted, w) else (got.Value done.Normal, w)

-- a false assertion is a panic at its target
abbrev pub asserted : ℕ → ℤ → Run End
asserted site n w = if is_zero n then panic (Some site) w else (got.Value done.Normal, w)

-- ---- loops

-- a loop goes on, or has come to an end
abbrev pub goes_on : Option End → Run End → Run End
goes_on None go w = go w
goes_on (Some e) go w = (got.Value e, w)

-- a loop goes on where its condition is true
abbrev pub tested : Run ℤ → Run (Option End)
tested condition w = and_then (condition w) (λ n v. (got.Value (if is_zero n then Some done.Normal else None), v))

-- after a body or a step: the turn goes on, or the loop ends, or the function is left
abbrev pub after_turn : End → Run (Option End) → Run (Option End)
after_turn done.Normal go w = go w
after_turn done.Continued go w = go w
after_turn done.Broke go w = (got.Value (Some done.Normal), w)
after_turn done.Left go w = (got.Value (Some done.Left), w)

-- one turn of a loop: it takes a turn of the run, runs the body and the step, and tests the condition
abbrev pub turned : Run ℤ → Run End → Run End → Run (Option End)
turned condition body step w = if w.turns == 0 then (got.Cut, w) else and_then (body (record w { turns = w.turns - 1 })) (λ e. after_turn e (λ v. and_then (step v) (λ d. after_turn d (tested condition))))

-- so many turns of a loop at most
abbrev pub looped : ℕ → Run ℤ → Run End → Run End → Run End
looped zero condition body step w = (got.Cut, w)
looped (suc k) condition body step w = and_then (turned condition body step w) (λ o. goes_on o (looped k condition body step))

-- ---- calls from outside

-- the world before a call, with the turns and the hits after it
abbrev pub back_in : World → World → World
back_in before after = record before { turns = after.turns; hits = after.hits }

-- a call from outside that ended: whether the run is cut, and the world after it. A call that is undone, and a static one,
-- leave the state from before it; its hits stay
abbrev pub settled : Bool → World → Got ℤ × World → Bool × World
settled is_static before (got.Value n, after) = (false, record (back_in before after) { state = if is_static then before.state else after.state })
settled is_static before (got.Reverted, after) = (false, back_in before after)
settled is_static before (got.Cut, after) = (true, back_in before after)

abbrev pub caller_of : Bool → Call → Caller
caller_of is_static c = record { sender = (out-Call c).sender; is_static = is_static; replies = (out-Call c).replies }

abbrev pub call_once : Level → Bool → Call → World → Bool × World
call_once l is_static c w = settled is_static w (l.call (caller_of is_static c) (door l.program (out-Call c).fun) (out-Call c).args (record w { taken = 0 }))

abbrev pub go_on : Bool × World → (World → Bool × World) → Bool × World
go_on (true, w) go = (true, w)
go_on (false, w) go = go w

-- calls from outside one after another, until the run is cut
abbrev pub call_each : Level → Bool → List Call → World → Bool × World
call_each l is_static [] w = (false, w)
call_each l is_static (c ∷ cs) w = go_on (call_once l is_static c w) (call_each l is_static cs)

-- ---- external calls

-- a value that is declared has to be given, and in its type; one that is not is ignored
abbrev pub taken_value : Option Ty → Option ℤ → Option ℤ
taken_value None v = Some (pos 0)
taken_value (Some t) None = None
taken_value (Some t) (Some z) = if in_range t z then Some z else None

abbrev pub answered : Option Ty → Answer → Option ℤ
answered t answer.Fail = None
answered t (answer.Give v) = taken_value t v

-- an answer that is no value undoes the caller
abbrev pub received : Frame → Option Place → Option ℤ → Run End
received f p None w = (got.Reverted, w)
received f p (Some z) w = given f p z w

abbrev pub after_nested : Bool × World → Run End → Got End × World
after_nested (true, w) go = (got.Cut, w)
after_nested (false, w) go = go w

-- the calls back into the contract run from the state at this point, and then the answer comes
abbrev pub met : Frame → Option Place → OutFun → Reply → Run End
met f p o r w = after_nested (call_each f.level (f.caller.is_static || o.view) (out-Reply r).calls w) (received f p (answered o.ret (out-Reply r).answer))

-- an external call takes the next reply of the running call; where there is none, its caller is undone
abbrev pub replied : Frame → Option Place → Option OutFun → Option Reply → Run End
replied f p None r w = (got.Reverted, w)
replied f p (Some o) None w = (got.Reverted, w)
replied f p (Some o) (Some r) w = met f p o r (record w { taken = w.taken + 1 })

-- ---- statements

-- One line for each form.
unfoldable pub exec_step : Frame → Stmt-F (Run End) → Run End
exec_step f (Stmt-F.Set p e) w = and_then (eval f e w) (assigned f p)
exec_step f (Stmt-F.Step p o t checked e m) w = and_then (eval f e w) (λ y v. and_then (located f p v) (λ s u. and_then (arithmetic (operated checked o t (held u s) y) m u) (λ z. stored f z s)))
exec_step f (Stmt-F.Push a e) w = and_then (eval f e w) (pushed f a)
exec_step f (Stmt-F.Pop a site) w = popped f a site w
exec_step f (Stmt-F.Clear a) w = cleared f a w
exec_step f (Stmt-F.Call p g es) w = and_then (values_of (map (eval f) es) w) (λ args v. and_then (f.level.call f.caller (slice_get f.level.program.funs g) args v) (given f p))
exec_step f (Stmt-F.Out p o e es) w = and_then (eval f e w) (λ target v. and_then (values_of (map (eval f) es) v) (λ args u. replied f p (slice_get f.level.program.outs o) (slice_get f.caller.replies u.taken) u))
exec_step f (Stmt-F.If e a b) w = and_then (eval f e w) (λ n v. if is_zero n then all_of b v else all_of a v)
exec_step f (Stmt-F.While e a b) w = and_then (tested (eval f e) w) (λ o. goes_on o (looped f.level.loops (eval f e) (all_of a) (all_of b)))
exec_step f (Stmt-F.DoWhile a e) w = looped f.level.loops (eval f e) (all_of a) ends w
exec_step f Stmt-F.Break w = (got.Value done.Broke, w)
exec_step f Stmt-F.Continue w = (got.Value done.Continued, w)
exec_step f Stmt-F.Leave w = (got.Value done.Left, w)
exec_step f (Stmt-F.Scope a) w = and_then (all_of a w) (λ e v. (got.Value (scoped e), v))
exec_step f (Stmt-F.Require e) w = and_then (eval f e w) required
exec_step f (Stmt-F.Assert e site) w = and_then (eval f e w) (asserted site)
exec_step f (Stmt-F.Revert es) w = and_then (values_of (map (eval f) es) w) (λ ns v. (got.Reverted, v))
exec_step f (Stmt-F.Emit es) w = and_then (values_of (map (eval f) es) w) (λ ns. changed f (λ s. s))

-- what a statement does
unfoldable pub exec : Frame → Stmt → Run End
exec f s = fold-Stmt (Run End) (exec_step f) s

abbrev pub exec_all : Frame → List Stmt → Run End
exec_all f ss = all_of (map (exec f) ss)
