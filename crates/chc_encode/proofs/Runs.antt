-- Calls and whole scripts: each target that is hit is derived.
use Rattle.std.proofs.Common.{◌≡◌, ◌∙◌, sym, ap, subst, refl, ℕ, zero, suc, ◌+◌, ◌-◌, ◌<◌, ◌==◌, cond, List, [], ◌∷◌, ◌++◌, length, map, pos, arith, Bool, true, false, inl, inr, Option, Some, None, slice_get}
use lib.IntN.{ℤ}
use Rattle.std.specs.List.{All, Contains, range_with_len}
use Rattle.std.proofs.lemmas.Int.{ints}
use Rattle.std.proofs.lemmas.List.{length-map}
use Rattle.std.proofs.lemmas.List.Elements.{All-head, All-tail, Contains-push_cases}
use Rattle.std.proofs.lemmas.List.FromFn.{length-range_with_len}
use Rattle.chc_nums.specs.declared.Ty.TheVariants as ty
use Rattle.chc_form.specs.declared.Sort.{Sort}
use Rattle.chc_form.specs.declared.Query.{Query}
use Rattle.chc_form.specs.Valuations.{Valuation, at_atom}
use Rattle.chc_form.specs.Constraints.{ConsAt}
use Rattle.chc_form.specs.Derivations.{Agree, Derived, AllDerived, by_rule, none, more, Derivable}
use Rattle.chc_form.proofs.Entries.{contains-first, contains-later}
use Rattle.sol_core.specs.declared.State.{State}
use Rattle.sol_core.specs.declared.Script.{Script}
use Rattle.sol_core.specs.declared.Fun.{Fun}
use Rattle.sol_core.specs.declared.Call.{Call, out-Call}
use Rattle.sol_first.specs.declared.Variable.{Variable}
use Rattle.sol_first.specs.declared.Function.{Function}
use Rattle.sol_first.specs.declared.Contract.{Contract}
use Rattle.sol_first.specs.Typed.{StepTyped, IsTyped}
use Rattle.sol_first.specs.Elaborated.{sites_of_steps, stmts_of, fun_of, funs_of, program_of}
use Rattle.sol_meaning.specs.declared.World.{World}
use Rattle.sol_meaning.specs.declared.Got.{Got}
use Rattle.sol_meaning.specs.declared.Got.TheVariants as got
use Rattle.sol_meaning.specs.declared.End.{End}
use Rattle.sol_meaning.specs.declared.End.TheVariants as done
use Rattle.sol_meaning.specs.Frames.{and_then, Frame, plain, number_at}
use Rattle.sol_meaning.specs.Exec.{exec_all, ends, caller_of, settled, call_once, go_on, call_each}
use Rattle.sol_meaning.specs.Calling.{left_by, called, calls_at, level_at}
use Rattle.sol_core.specs.Doors.{fun_at, door}
use Rattle.sol_meaning.specs.Run.{fresh, Violates}
use Rattle.chc_encode.specs.PathRows.{sorts_of, entry, after_all}
use Rattle.chc_encode.specs.Systems.{at_entry, zeros_from, zero_rule, rule_of, queries_of_steps, queries_of, system_of}
use Rattle.chc_encode.proofs.Valuations.{plus-value, minus-value}
use Rattle.chc_encode.proofs.Places.{point, entry-sorts, entry-now, cons-hold, contains-map}
use Rattle.chc_encode.proofs.Queries.{steps-count}
use Rattle.chc_encode.proofs.Steps.{Fitting}
use Rattle.chc_encode.proofs.Bodies.{entry-agrees, HasPoint, Hit, BodyRan, ran-right, ran-left, EndsAt, body-done}

-- what a call does, as the end of a statement
abbrev pub over : Got ℤ × World → Got End × World
over z = and_then z (λ n. ends)

ran-left_by : (vars : List Variable) (start : List ℤ) (E : List ℤ → Type 0) (qs : List Query) (first : ℕ) (hits : List ℕ) (g : Fun) (locals : List ℤ) (z : Got End × World) → BodyRan vars start E qs first hits z → BodyRan vars start E qs first hits (over (left_by g locals z))
ran-left_by vars start E qs first hits g locals (got.Value done.Normal, v) h = h
ran-left_by vars start E qs first hits g locals (got.Reverted, v) h = h
ran-left_by vars start E qs first hits g locals (got.Cut, v) h = h
ran-left_by vars start E qs first hits g locals (got.Value done.Broke, v) h = absurd h
ran-left_by vars start E qs first hits g locals (got.Value done.Continued, v) h = absurd h
ran-left_by vars start E qs first hits g locals (got.Value done.Left, v) h = absurd h

ran-ends : (vars : List Variable) (start : List ℤ) (E F : List ℤ → Type 0) (qs : List Query) (first : ℕ) (hits : List ℕ) (z : Got End × World) → ((ns : List ℤ) → E ns → F ns) → BodyRan vars start E qs first hits z → BodyRan vars start F qs first hits z
ran-ends vars start E F qs first hits (got.Value done.Normal, v) f h = (h.0, f v.state.scalars h.1)
ran-ends vars start E F qs first hits (got.Reverted, v) f h = h
ran-ends vars start E F qs first hits (got.Cut, v) f h = h
ran-ends vars start E F qs first hits (got.Value done.Broke, v) f h = absurd h
ran-ends vars start E F qs first hits (got.Value done.Continued, v) f h = absurd h
ran-ends vars start E F qs first hits (got.Value done.Left, v) f h = absurd h

ran-either : (vars : List Variable) (start : List ℤ) (E : List ℤ → Type 0) (qs : List Query) (first : ℕ) (hits : List ℕ) (b : Bool) (y z : Got ℤ × World) → BodyRan vars start E qs first hits (over y) → BodyRan vars start E qs first hits (over z) → BodyRan vars start E qs first hits (over (cond b y z))
ran-either vars start E qs first hits true y z h k = h
ran-either vars start E qs first hits false y z h k = k

-- one of the functions comes to its end
abbrev FunctionEnds : List Variable → List Function → List ℤ → List ℤ → Type 0
FunctionEnds vars fs start ns = (g : Function) × Contains fs g × EndsAt vars start (after_all vars g.steps (entry vars)) ns

-- a call of a function, or of nothing
called-done : (frame : Frame) (vars : List Variable) (fs : List Function) (first f : ℕ) (args : List ℤ) (w : World) → All (λ f. All (StepTyped vars) f.steps) fs → Fitting vars w.state.scalars
    → BodyRan vars w.state.scalars (FunctionEnds vars fs w.state.scalars) (queries_of vars first fs) first w.hits (over (called frame.level (plain frame).caller (slice_get (funs_of vars first fs) f) args w))
called-done frame vars [] first f args w t a = inl refl
called-done frame vars (g ∷ fs) first zero args w t a =
    let start : List ℤ = w.state.scalars in
    let v : World = record w { locals = []; turns = w.turns - 1 } in
    let b : BodyRan vars w.state.scalars (EndsAt vars w.state.scalars (after_all vars g.steps (entry vars))) (queries_of_steps vars first g.steps (entry vars)) first w.hits (exec_all (plain frame) (stmts_of vars first g.steps) (record w { locals = []; turns = w.turns - 1 })) =
    body-done frame vars w.state.scalars g.steps first (entry vars) (number_at w.state.scalars) (record w { locals = []; turns = w.turns - 1 }) (All-head (λ f. All (StepTyped vars) f.steps) g fs t) (entry-agrees vars w.state.scalars a) in
    let e : BodyRan vars w.state.scalars (FunctionEnds vars (g ∷ fs) w.state.scalars) (queries_of_steps vars first g.steps (entry vars)) first w.hits (exec_all (plain frame) (stmts_of vars first g.steps) (record w { locals = []; turns = w.turns - 1 })) =
    ran-ends vars w.state.scalars (EndsAt vars w.state.scalars (after_all vars g.steps (entry vars))) (FunctionEnds vars (g ∷ fs) w.state.scalars) (queries_of_steps vars first g.steps (entry vars)) first w.hits (exec_all (plain frame) (stmts_of vars first g.steps) (record w { locals = []; turns = w.turns - 1 })) (λ ns h. (g, contains-first g fs, h)) b in
    ran-left vars start (FunctionEnds vars (g ∷ fs) start) (queries_of_steps vars first g.steps (entry vars)) (queries_of vars (first + length (sites_of_steps g.steps)) fs) first w.hits (over (called frame.level (plain frame).caller (Some (fun_of vars first g)) args w))
    (ran-either vars start (FunctionEnds vars (g ∷ fs) start) (queries_of_steps vars first g.steps (entry vars)) first w.hits (w.turns == 0) (got.Cut, w) (left_by (fun_of vars first g) w.locals (exec_all (plain frame) (stmts_of vars first g.steps) v)) refl (ran-left_by vars start (FunctionEnds vars (g ∷ fs) start) (queries_of_steps vars first g.steps (entry vars)) first w.hits (fun_of vars first g) w.locals (exec_all (plain frame) (stmts_of vars first g.steps) v) e))
called-done frame vars (g ∷ fs) first (suc f) args w t a =
    let start : List ℤ = w.state.scalars in
    let next : ℕ = first + length (sites_of_steps g.steps) in
    ran-right vars start (FunctionEnds vars (g ∷ fs) start) (queries_of_steps vars first g.steps (entry vars)) (queries_of vars next fs) first next w.hits (over (called frame.level (plain frame).caller (slice_get (funs_of vars next fs) f) args w)) (omega (arith, steps-count vars first g.steps (entry vars)))
    (ran-ends vars start (FunctionEnds vars fs start) (FunctionEnds vars (g ∷ fs) start) (queries_of vars next fs) next w.hits (over (called frame.level (plain frame).caller (slice_get (funs_of vars next fs) f) args w)) (λ ns h. (h.0, contains-later g h.0 fs h.1, h.2)) (called-done frame vars fs next f args w (All-tail (λ f. All (StepTyped vars) f.steps) g fs t) a))

-- what a call from a state does
abbrev CallRan : Contract → List ℤ → List ℕ → Got ℤ × World → Type 0
CallRan c start hits z = BodyRan c.variables start (FunctionEnds c.variables c.functions start) (queries_of c.variables 0 c.functions) 0 hits (over z)

door-done : (frame : Frame) (c : Contract) (o : Option ℕ) (args : List ℤ) (w : World) → IsTyped c → Fitting c.variables w.state.scalars → CallRan c w.state.scalars w.hits (called frame.level (plain frame).caller (fun_at (program_of c) o) args w)
door-done frame c None args w t a = inl refl
door-done frame c (Some f) args w t a = called-done frame c.variables c.functions 0 f args w t.steps a

-- at any level
level-done : (n : ℕ) (c : Contract) (k : Call) (o : Option ℕ) (args : List ℤ) (w : World) → IsTyped c → Fitting c.variables w.state.scalars → CallRan c w.state.scalars w.hits (calls_at (program_of c) n (caller_of false k) (fun_at (program_of c) o) args w)
level-done zero c k o args w t a = refl
level-done (suc n) c k o args w t a = door-done (record { level = level_at (program_of c) n; caller = caller_of false k }) c o args w t a

-- ---- what is derived

-- the predicate is derived at these values
abbrev Known : Contract → List ℤ → Type 0
Known c ns = (w : Valuation) → Agree (length c.variables) (point (number_at ns)) w → Derived (system_of c) 0 w

known-body : (c : Contract) (start : List ℤ) (x : ℕ → ℤ) → Known c start → ((i : ℕ) → i < length c.variables → x i ≡ number_at start i) → AllDerived (system_of c) (point x) (at_entry c.variables ∷ [])
known-body c start x known first =
    let same : Agree (length c.variables) (point (number_at start)) (at_atom (point x) (at_entry c.variables)) = record { numbers = λ j l. sym (first j l) ∙ sym (ap x (entry-now c.variables j l)); mappings = λ j l ks. refl } in
    more (known (at_atom (point x) (at_entry c.variables)) same) none

known-rule : (c : Contract) (g : Function) (start ns : List ℤ) → Contains c.functions g → Known c start → EndsAt c.variables start (after_all c.variables g.steps (entry c.variables)) ns → Known c ns
known-rule c g start ns i known (y, a) w same =
    by_rule {r = rule_of c.variables g} {v = point y} {w = w}
    (contains-later (zero_rule c.variables) (rule_of c.variables g) (map (rule_of c.variables) c.functions) (contains-map (rule_of c.variables) c.functions g i))
    a.sorts
    (cons-hold (after_all c.variables g.steps (entry c.variables)).sorts (point y) (after_all c.variables g.steps (entry c.variables)).rows a.rows)
    (known-body c start y known a.first)
    (record {
      numbers = λ j l. let k : j < length c.variables = omega (arith, a.count, l) in sym (a.values j k) ∙ same.numbers j k;
      mappings = λ j l ks. let k : j < length c.variables = omega (arith, a.count, l) in same.mappings j k ks;
    })

derivable : (c : Contract) (start : List ℤ) (k : ℕ) (o : Option Query) → slice_get (queries_of c.variables 0 c.functions) k ≡ o → Known c start → HasPoint c.variables start o → Derivable (system_of c) k
derivable c start k None e known h = absurd h
derivable c start k (Some q) e known (x, a) =
    (q, point x, e, a.sorts, a.cons, subst (AllDerived (system_of c) (point x)) (sym a.body) (known-body c start x known a.first))

-- ---- a world between calls: the values are in their types and derived, and each target that was hit is derived

abbrev Derives : Contract → List ℕ → Type 0
Derives c hits = (t : ℕ) → Contains hits t → Derivable (system_of c) t

record Good (c : Contract) (w : World) : Type 0 where
  typed : Fitting c.variables w.state.scalars
  known : Known c w.state.scalars
  derives : Derives c w.hits

derives-same : (c : Contract) (hits new : List ℕ) → new ≡ hits → Derives c hits → Derives c new
derives-same c hits new e h = subst (Derives c) (sym e) h

derives-push : (c : Contract) (hits : List ℕ) (k : ℕ) → Derives c hits → Derivable (system_of c) k → Derives c (hits ++ (0 + k) ∷ [])
derives-push c hits k h p t i =
    elim (Contains-push_cases hits (0 + k) t i) [
      | inl j ↦ h t j
      | inr e ↦ let q : k ≡ t = omega (arith, e) in subst (Derivable (system_of c)) q p
    ]

derives-hit : (c : Contract) (start : List ℤ) (hits new : List ℕ) → Known c start → Derives c hits → Hit c.variables start (queries_of c.variables 0 c.functions) 0 hits new → Derives c new
derives-hit c start hits new known h (inl e) = derives-same c hits new e h
derives-hit c start hits new known h (inr k) = derives-same c (hits ++ (0 + k.0) ∷ []) new k.1 (derives-push c hits k.0 h (derivable c start k.0 (slice_get (queries_of c.variables 0 c.functions) k.0) refl known k.2))

settled-good : (c : Contract) (before : World) (z : Got ℤ × World) → Fitting c.variables before.state.scalars → Known c before.state.scalars → Derives c before.hits → CallRan c before.state.scalars before.hits z → Good c (settled false before z).1
settled-good c before (got.Value n, v) f known h (same, (g, i, (y, a))) = record { typed = a.typed; known = known-rule c g before.state.scalars v.state.scalars i known (y, a); derives = derives-same c before.hits v.hits same h }
settled-good c before (got.Reverted, v) f known h b = record { typed = f; known = known; derives = derives-hit c before.state.scalars before.hits v.hits known h b }
settled-good c before (got.Cut, v) f known h b = record { typed = f; known = known; derives = derives-same c before.hits v.hits b h }

go_on-good : (c : Contract) (r : Bool × World) (go : World → Bool × World) → Good c r.1 → ((v : World) → Good c v → Good c (go v).1) → Good c (go_on r go).1
go_on-good c (true, v) go g h = g
go_on-good c (false, v) go g h = h v g

call-good : (n : ℕ) (c : Contract) (k : Call) (w : World) → IsTyped c → Good c w → Good c (call_once (level_at (program_of c) n) false k w).1
call-good n c k w t g =
    let v : World = record w { taken = 0 } in
    settled-good c w (calls_at (program_of c) n (caller_of false k) (door (program_of c) (out-Call k).fun) (out-Call k).args v) g.typed g.known g.derives (level-done n c k (slice_get (program_of c).doors (out-Call k).fun) (out-Call k).args v t g.typed)

calls-good : (n : ℕ) (c : Contract) (ks : List Call) (w : World) → IsTyped c → Good c w → Good c (call_each (level_at (program_of c) n) false ks w).1
calls-good n c [] w t g = g
calls-good n c (k ∷ ks) w t g = go_on-good c (call_once (level_at (program_of c) n) false k w) (call_each (level_at (program_of c) n) false ks) (call-good n c k w t g) (λ v h. calls-good n c ks v t h)

-- ---- deployment

abbrev pub zeros : List Variable → List ℤ
zeros vars = map (λ t. pos 0) (map (λ v. ty.Uint v.size) vars)

pub zero-at : (vs : List Variable) (i : ℕ) → number_at (zeros vs) i ≡ pos 0
zero-at [] i = refl
zero-at (v ∷ vs) zero = refl
zero-at (v ∷ vs) (suc i) = zero-at vs i

zeros-cons : (sorts : List Sort) (x : ℕ → ℤ) (i : ℕ) (vs : List Variable) → ((j : ℕ) → x j ≡ pos 0) → ConsAt sorts (point x) (zeros_from i vs)
zeros-cons sorts x i [] z = tt
zeros-cons sorts x i (v ∷ vs) z = (omega (arith, ints, z i, plus-value i (pos 0) x), (omega (arith, ints, z i, minus-value i (pos 0) x), zeros-cons sorts x (suc i) vs z))

pub zeros-fit : (vars : List Variable) → Fitting vars (zeros vars)
zeros-fit vars = record {
  count = length-map (map (λ v. ty.Uint v.size) vars) (λ t. pos 0) ∙ length-map vars (λ v. ty.Uint v.size);
  ranges = λ i l. (omega (arith, ints, zero-at vars i), omega (arith, ints, zero-at vars i));
}

zeros-known : (c : Contract) → Known c (zeros c.variables)
zeros-known c w same =
    let n : length (range_with_len 0 (length c.variables)) ≡ length c.variables = length-range_with_len 0 (length c.variables) in
    by_rule {r = zero_rule c.variables} {v = point (number_at (zeros c.variables))} {w = w}
    (contains-first (zero_rule c.variables) (map (rule_of c.variables) c.functions))
    (entry-sorts c.variables (number_at (zeros c.variables)) (zeros-fit c.variables).ranges)
    (zeros-cons (sorts_of c.variables) (number_at (zeros c.variables)) 0 c.variables (zero-at c.variables))
    none
    (record {
      numbers = λ j l. let k : j < length c.variables = omega (arith, n, l) in ap (number_at (zeros c.variables)) (entry-now c.variables j k) ∙ same.numbers j k;
      mappings = λ j l ks. let k : j < length c.variables = omega (arith, n, l) in same.mappings j k ks;
    })

fresh-good : (c : Contract) (n : ℕ) → Good c (fresh (program_of c) n)
fresh-good c n = record { typed = zeros-fit c.variables; known = zeros-known c; derives = λ t h. absurd (omega (arith, h.1)) }

pub violated-derivable : (c : Contract) → IsTyped c → (t : ℕ) (s : Script) (n : ℕ) → Violates (program_of c) t s n → Derivable (system_of c) t
violated-derivable c typed t s n h = (calls-good n c s.calls (fresh (program_of c) n) typed (fresh-good c n)).derives t h
