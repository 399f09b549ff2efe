-- What is derived is reached: calls, one per rule, that lead to the values, and a last one that hits a target.
use Rattle.std.proofs.Common.{◌≡◌, ◌∙◌, sym, ap, subst, refl, ℕ, zero, suc, ◌+◌, ◌-◌, ◌<◌, ◌==◌, cond, List, [], ◌∷◌, ◌++◌, length, map, pos, arith, Bool, true, false, ◌&&◌, ◌⊎◌, inl, inr, Option, Some, None, slice_get, option_map, option_to_list, length-append}
use lib.IntN.{ℤ}
use Rattle.std.specs.List.{All, Contains, slice_index_or, range_with_len, list_all}
use Rattle.std.proofs.lemmas.Int.{ints}
use Rattle.std.proofs.lemmas.Bool.Decides.{nat_tests}
use Rattle.std.proofs.lemmas.Option.{slice_get-get_or, slice_get_within}
use Rattle.std.proofs.lemmas.List.Elements.{All-head, All-tail, Contains-push}
use Rattle.std.proofs.lemmas.List.Folds.{list_all-append}
use Rattle.std.proofs.lemmas.List.FromFn.{length-range_with_len, get_or-range_with_len}
use Rattle.std.proofs.lemmas.Bool.{and_from}
use Rattle.chc_form.specs.declared.Row.{Row}
use Rattle.chc_form.specs.declared.Sort.{Sort}
use Rattle.chc_form.specs.declared.App.{App}
use Rattle.chc_form.specs.declared.Rule.{Rule}
use Rattle.chc_form.specs.declared.Query.{Query}
use Rattle.chc_form.specs.declared.System.{System}
use Rattle.chc_form.specs.Valuations.{Valuation, at_atom}
use Rattle.chc_form.specs.Constraints.{ConsAt}
use Rattle.chc_form.specs.Derivations.{Agree, Derived, AllDerived, by_rule, none, more, Derivable}
use Rattle.sol_core.specs.declared.State.{State}
use Rattle.sol_core.specs.declared.Program.{Program}
use Rattle.sol_core.specs.declared.Script.{Script}
use Rattle.sol_core.specs.declared.Fun.{Fun}
use Rattle.sol_core.specs.declared.Reply.{Reply}
use Rattle.sol_core.specs.declared.Call.{Call, roll-Call, out-roll-Call}
use Rattle.sol_core.specs.declared.Call.TheOpen.{Call-F}
use Rattle.sol_core.specs.declared.Call.TheFolds.{fold-roll-Call}
use Rattle.sol_first.specs.declared.Variable.{Variable}
use Rattle.sol_first.specs.declared.Step.{Step}
use Rattle.sol_first.specs.declared.Function.{Function}
use Rattle.sol_first.specs.declared.Contract.{Contract}
use Rattle.sol_first.specs.Typed.{StepTyped, IsTyped}
use Rattle.sol_first.specs.Elaborated.{sites_of_step, sites_of_steps, stmt_of, stmts_of, fun_of, funs_of, program_of}
use Rattle.sol_meaning.specs.declared.World.{World}
use Rattle.sol_meaning.specs.declared.Got.{Got}
use Rattle.sol_meaning.specs.declared.Got.TheVariants as got
use Rattle.sol_meaning.specs.declared.End.{End}
use Rattle.sol_meaning.specs.declared.End.TheVariants as done
use Rattle.sol_meaning.specs.Frames.{and_then, Caller, Level, Frame, plain, number_at}
use Rattle.sol_meaning.specs.Exec.{exec, exec_all, ends, settled, call_once, go_on, call_each}
use Rattle.sol_meaning.specs.Calling.{left_by, called, level_at}
use Rattle.sol_core.specs.Values.{is_sender, each}
use Rattle.sol_core.specs.Fits.{takes_args, call_fits, Fits}
use Rattle.sol_core.specs.Doors.{fun_at, door}
use Rattle.sol_meaning.specs.Run.{fresh, Violates}
use Rattle.chc_encode.specs.declared.path.Path.{Path}
use Rattle.chc_encode.specs.PathRows.{entry, after, after_all, target}
use Rattle.chc_encode.specs.Systems.{at_entry, zeros_from, zero_rule, rule_of, query_at, own_query, queries_of_steps, queries_of, system_of}
use Rattle.chc_encode.proofs.Valuations.{AllHold, plus-value, minus-value}
use Rattle.chc_encode.proofs.Places.{entry-now, hold-cons}
use Rattle.chc_encode.proofs.Queries.{own-count, steps-count}
use Rattle.chc_encode.proofs.Made.{IsMade, queries-made, made-at}
use Rattle.chc_encode.proofs.Steps.{Fitting, Reached}
use Rattle.chc_encode.proofs.Runs.{over, zero-at, zeros-fit}
use Rattle.chc_encode.proofs.Follows.{hold-left, hold-right, Stands, Went, Struck, step-goes, step-strikes, then-strikes, struck-stays, after-before, body-goes}

-- ---- a query whose constraints are true

abbrev pub Told : Valuation → Option Query → Type 0
Told v None = ⊥
Told v (Some q) = ConsAt q.vars v q.cons

told-split : (v : Valuation) (ps qs : List Query) (k : ℕ) → Told v (slice_get (ps ++ qs) k) → Told v (slice_get ps k) ⊎ ((j : ℕ) × (k ≡ length ps + j) × Told v (slice_get qs j))
told-split v [] qs k h = inr (k, omega arith, h)
told-split v (p ∷ ps) qs zero h = inl h
told-split v (p ∷ ps) qs (suc k) h =
    elim (told-split v ps qs k h) [
      | inl j ↦ inl j
      | inr j ↦ inr (j.0, omega (arith, j.1), j.2)
    ]

-- a statement's own query is the first, and says that its target is hit after the path
told-own : (vars : List Variable) (t : ℕ) (p : Path) (o : Option Row) (v : Valuation) (k : ℕ) → Told v (slice_get (option_to_list (option_map (query_at vars p t) o)) k) → (k ≡ 0) × AllHold p.rows v.number × Reached o v.number
told-own vars t p None v k h = absurd h
told-own vars t p (Some r) v zero h =
    let rows : AllHold (p.rows ++ r ∷ []) v.number = hold-cons p.sorts v (p.rows ++ r ∷ []) h in
    (refl, hold-left p.rows (r ∷ []) v.number rows, (hold-right p.rows (r ∷ []) v.number rows).0)
told-own vars t p (Some r) v (suc k) h = absurd h

told-before : (vars : List Variable) (t : ℕ) (ss : List Step) (p : Path) (v : Valuation) (k : ℕ) → Told v (slice_get (queries_of_steps vars t ss p) k) → AllHold p.rows v.number
told-before vars t [] p v k h = absurd h
told-before vars t (s ∷ ss) p v k h =
    elim (told-split v (own_query vars t s p) (queries_of_steps vars (t + length (sites_of_step s)) ss (after vars s p)) k h) [
      | inl j ↦ (told-own vars t p (target vars s p) v k j).1
      | inr j ↦ after-before vars s p v.number (told-before vars (t + length (sites_of_step s)) ss (after vars s p) v j.0 j.2)
    ]

body-strikes : (frame : Frame) (vars : List Variable) (ss : List Step) (first : ℕ) (p : Path) (v : Valuation) (k : ℕ) (w : World) → All (StepTyped vars) ss → Told v (slice_get (queries_of_steps vars first ss p) k) → Stands vars p v.number w.state.scalars → Struck (first + k) w.hits (exec_all (plain frame) (stmts_of vars first ss) w)
body-strikes frame vars [] first p v k w t h s = absurd h
body-strikes frame vars (s ∷ ss) first p v k w t h st =
    let next : ℕ = first + length (sites_of_step s) in
    elim (told-split v (own_query vars first s p) (queries_of_steps vars (first + length (sites_of_step s)) ss (after vars s p)) k h) [
      | inl j ↦
          let o = told-own vars first p (target vars s p) v k j in
          let e : first ≡ first + k = omega (arith, o.0) in
          struck-stays (first + k) w.hits (exec (plain frame) (stmt_of vars first s) w) (exec_all (plain frame) (stmts_of vars next ss)) (subst (λ (n : ℕ). Struck n w.hits (exec (plain frame) (stmt_of vars first s) w)) e (step-strikes frame vars s first p v.number w (All-head (StepTyped vars) s ss t) o.2 st))
      | inr j ↦
          let e : next + j.0 ≡ first + k = omega (arith, j.1, own-count vars first s p) in
          subst (λ (n : ℕ). Struck n w.hits (exec_all (plain frame) (stmts_of vars first (s ∷ ss)) w)) e
          (then-strikes vars (after vars s p) v.number w (next + j.0) (exec (plain frame) (stmt_of vars first s) w) (exec_all (plain frame) (stmts_of vars next ss))
          (step-goes frame vars s first p v.number w (All-head (StepTyped vars) s ss t) (told-before vars next ss (after vars s p) v j.0 j.2) st)
          (λ u k2. body-strikes frame vars ss next (after vars s p) v j.0 u (All-tail (StepTyped vars) s ss t) j.2 k2))
    ]

-- ---- calls of functions

cond-else : (b : Bool) (P : Got ℤ × World → Type 0) (y z : Got ℤ × World) → b ≡ false → P z → P (cond b y z)
cond-else true P y z e h = absurd (cc)
cond-else false P y z e h = h

struck-left_by : (site : ℕ) (hits : List ℕ) (g : Fun) (locals : List ℤ) (z : Got End × World) → Struck site hits z → Struck site hits (over (left_by g locals z))
struck-left_by site hits g locals (got.Value done.Normal, v) h = absurd h
struck-left_by site hits g locals (got.Reverted, v) h = h
struck-left_by site hits g locals (got.Value done.Broke, v) h = absurd h
struck-left_by site hits g locals (got.Value done.Continued, v) h = absurd h
struck-left_by site hits g locals (got.Value done.Left, v) h = absurd h
struck-left_by site hits g locals (got.Cut, v) h = absurd h

went-left_by : (vars : List Variable) (p : Path) (x : ℕ → ℤ) (w : World) (g : Fun) (locals : List ℤ) (z : Got End × World) → Went vars p x w z → Went vars p x w (over (left_by g locals z))
went-left_by vars p x w g locals (got.Value done.Normal, v) h = h
went-left_by vars p x w g locals (got.Reverted, v) h = absurd h
went-left_by vars p x w g locals (got.Value done.Broke, v) h = absurd h
went-left_by vars p x w g locals (got.Value done.Continued, v) h = absurd h
went-left_by vars p x w g locals (got.Value done.Left, v) h = absurd h
went-left_by vars p x w g locals (got.Cut, v) h = absurd h

-- the world in which a call's body begins
abbrev inside : World → World
inside w = record w { locals = []; turns = w.turns - 1 }

left-turns : (n : ℕ) → 0 < n → (n == 0) ≡ false
left-turns n h = grind (arith, nat_tests)

-- the function at a place comes to its end at the values of a valuation that makes its path's rows true
call-goes : (frame : Frame) (vars : List Variable) (fs : List Function) (first f : ℕ) (g : Function) (args : List ℤ) (x : ℕ → ℤ) (w : World) → All (λ f. All (StepTyped vars) f.steps) fs → slice_get fs f ≡ Some g → AllHold (after_all vars g.steps (entry vars)).rows x → Stands vars (entry vars) x w.state.scalars → 0 < w.turns
    → Went vars (after_all vars g.steps (entry vars)) x (inside w) (over (called frame.level (plain frame).caller (slice_get (funs_of vars first fs) f) args w))
call-goes frame vars [] first f g args x w t e rows s l = absurd (cc)
call-goes frame vars (h ∷ fs) first zero g args x w t e rows s l =
    let same : h ≡ g = cc in
    let P : Function → Type 0 = λ j. AllHold (after_all vars j.steps (entry vars)).rows x → Went vars (after_all vars j.steps (entry vars)) x (inside w) (over (called frame.level (plain frame).caller (Some (fun_of vars first h)) args w)) in
    let here : AllHold (after_all vars h.steps (entry vars)).rows x → Went vars (after_all vars h.steps (entry vars)) x (inside w) (over (called frame.level (plain frame).caller (Some (fun_of vars first h)) args w)) = λ a.
    cond-else (w.turns == 0) (λ z. Went vars (after_all vars h.steps (entry vars)) x (inside w) (over z)) (got.Cut, w) (left_by (fun_of vars first h) w.locals (exec_all (plain frame) (stmts_of vars first h.steps) (inside w))) (left-turns w.turns l)
    (went-left_by vars (after_all vars h.steps (entry vars)) x (inside w) (fun_of vars first h) w.locals (exec_all (plain frame) (stmts_of vars first h.steps) (inside w)) (body-goes frame vars h.steps first (entry vars) x (inside w) (All-head (λ f. All (StepTyped vars) f.steps) h fs t) a s)) in
    subst P same here rows
call-goes frame vars (h ∷ fs) first (suc f) g args x w t e rows s l =
    call-goes frame vars fs (first + length (sites_of_steps h.steps)) f g args x w (All-tail (λ f. All (StepTyped vars) f.steps) h fs t) e rows s l

-- the function that has the target of a query whose constraints are true hits it
record Striking (frame : Frame) (vars : List Variable) (fs : List Function) (first site : ℕ) (x : ℕ → ℤ) : Type 0 where
  place : ℕ
  within : place < length fs
  strikes : (args : List ℤ) (w : World) → Stands vars (entry vars) x w.state.scalars → 0 < w.turns → Struck site w.hits (over (called frame.level (plain frame).caller (slice_get (funs_of vars first fs) place) args w))

call-strikes : (frame : Frame) (vars : List Variable) (fs : List Function) (first k : ℕ) (v : Valuation) → All (λ f. All (StepTyped vars) f.steps) fs → Told v (slice_get (queries_of vars first fs) k) → Striking frame vars fs first (first + k) v.number
call-strikes frame vars [] first k v t h = absurd h
call-strikes frame vars (g ∷ fs) first k v t h =
    let next : ℕ = first + length (sites_of_steps g.steps) in
    elim (told-split v (queries_of_steps vars first g.steps (entry vars)) (queries_of vars (first + length (sites_of_steps g.steps)) fs) k h) [
      | inl j ↦ record {
        place = 0;
        within = omega arith;
        strikes = λ args w s l.
            cond-else (w.turns == 0) (λ z. Struck (first + k) w.hits (over z)) (got.Cut, w) (left_by (fun_of vars first g) w.locals (exec_all (plain frame) (stmts_of vars first g.steps) (inside w))) (left-turns w.turns l)
            (struck-left_by (first + k) w.hits (fun_of vars first g) w.locals (exec_all (plain frame) (stmts_of vars first g.steps) (inside w)) (body-strikes frame vars g.steps first (entry vars) v k (inside w) (All-head (λ f. All (StepTyped vars) f.steps) g fs t) j s));
      }
      | inr j ↦
          let r : Striking frame vars fs next (next + j.0) v.number = call-strikes frame vars fs next j.0 v (All-tail (λ f. All (StepTyped vars) f.steps) g fs t) j.2 in
          let e : next + j.0 ≡ first + k = omega (arith, j.1, steps-count vars first g.steps (entry vars)) in
          record {
            place = suc r.place;
            within = omega (arith, r.within);
            strikes = λ args w s l. subst (λ (n : ℕ). Struck n w.hits (over (called frame.level (plain frame).caller (slice_get (funs_of vars next fs) r.place) args w))) e (r.strikes args w s l);
          }
    ]

-- ---- calls from outside

abbrev layer : ℕ → Call-F Call Reply
layer f = record { fun = f; sender = pos 1; args = []; replies = [] }

-- a call of the function at a place, which has no parameters, by sender 1
abbrev call_of : ℕ → Call
call_of f = roll-Call (layer f)

-- the frame of such a call, one level down
abbrev frame_of : Contract → ℕ → Frame
frame_of c n = record { level = level_at (program_of c) n; caller = record { sender = pos 1; is_static = false; replies = [] } }

-- the world in which it begins
abbrev untaken : World → World
untaken w = record w { taken = 0 }

-- what it does
abbrev call_at : Contract → ℕ → Option Fun → World → Got ℤ × World
call_at c n g w = called (frame_of c n).level (plain (frame_of c n)).caller g [] (untaken w)

door-at : (c : Contract) (f : ℕ) → f < length c.functions → door (program_of c) f ≡ slice_get (funs_of c.variables 0 c.functions) f
door-at c f l =
    let n : f < length (range_with_len 0 (length c.functions)) = omega (arith, length-range_with_len 0 (length c.functions)) in
    let e : slice_get (range_with_len 0 (length c.functions)) f ≡ Some (slice_index_or (range_with_len 0 (length c.functions)) f 0) = slice_get-get_or (range_with_len 0 (length c.functions)) f 0 n in
    let g : slice_index_or (range_with_len 0 (length c.functions)) f 0 ≡ 0 + f = get_or-range_with_len 0 (length c.functions) f 0 l in
    let h : slice_index_or (range_with_len 0 (length c.functions)) f 0 ≡ f = omega (arith, g) in
    ap (fun_at (program_of c)) (e ∙ ap (λ (i : ℕ). Some i) h)

once-at : (c : Contract) (n f : ℕ) (w : World) → f < length c.functions → call_once (level_at (program_of c) (suc n)) false (call_of f) w ≡ settled false w (call_at c n (slice_get (funs_of c.variables 0 c.functions) f) w)
once-at c n f w l =
    ap (λ (o : Call-F Call Reply). settled false w (called (level_at (program_of c) n) (record { sender = o.sender; is_static = false; replies = o.replies }) (door (program_of c) o.fun) o.args (untaken w))) (out-roll-Call (layer f)) ∙ ap (λ (o : Option Fun). settled false w (call_at c n o w)) (door-at c f l)

takes-none : (vars : List Variable) (fs : List Function) (first f : ℕ) → f < length fs → takes_args (slice_get (funs_of vars first fs) f) [] ≡ true
takes-none vars [] first f l = absurd (omega arith)
takes-none vars (g ∷ fs) first zero l = refl
takes-none vars (g ∷ fs) first (suc f) l = takes-none vars fs (first + length (sites_of_steps g.steps)) f (omega arith)

fits-at : (c : Contract) (f : ℕ) → f < length c.functions → call_fits (program_of c) (call_of f) ≡ true
fits-at c f l =
    let t : takes_args (door (program_of c) f) [] ≡ true = ap (λ (o : Option Fun). takes_args o []) (door-at c f l) ∙ takes-none c.variables c.functions 0 f l in
    ap (λ (g : Bool). g) (fold-roll-Call Bool Bool (λ d. takes_args (door (program_of c) d.fun) d.args && is_sender d.sender && each d.replies) (λ r. each r.calls) (layer f)) ∙ and_from (takes_args (door (program_of c) f) [] && is_sender (pos 1)) true (and_from (takes_args (door (program_of c) f) []) true t refl) refl

go_on-append : (l : Level) (ks js : List Call) (r : Bool × World) → ((v : World) → call_each l false (ks ++ js) v ≡ go_on (call_each l false ks v) (call_each l false js)) → go_on r (call_each l false (ks ++ js)) ≡ go_on (go_on r (call_each l false ks)) (call_each l false js)
go_on-append l ks js (true, v) h = refl
go_on-append l ks js (false, v) h = h v

calls-append : (l : Level) (ks js : List Call) (w : World) → call_each l false (ks ++ js) w ≡ go_on (call_each l false ks w) (call_each l false js)
calls-append l [] js w = refl
calls-append l (k ∷ ks) js w = go_on-append l ks js (call_once l false k w) (calls-append l ks js)

-- ---- values that calls lead to

-- a run that is not cut, with so many turns left, whose variables have the values
record Led (c : Contract) (w : Valuation) (m : ℕ) (r : Bool × World) : Type 0 where
  going : r.0 ≡ false
  turns : r.1.turns ≡ m
  typed : Fitting c.variables r.1.state.scalars
  values : (i : ℕ) → i < length c.variables → number_at r.1.state.scalars i ≡ w.number i

abbrev script : List Call → Script
script ks = record { sender = pos 1; args = []; calls = ks }

-- the world after deployment with so many turns
abbrev start : Contract → ℕ → World
start c n = fresh (program_of c) n

record Reach (c : Contract) (w : Valuation) : Type 0 where
  calls : List Call
  fits : list_all (call_fits (program_of c)) calls ≡ true
  leads : (n m : ℕ) → Led c w m (call_each (level_at (program_of c) (suc n)) false calls (start c (length calls + m)))

abbrev AllReach : Contract → Valuation → List App → Type 0
AllReach c v [] = Unit {0}
AllReach c v (a ∷ rest) = Reach c (at_atom v a) × AllReach c v rest

-- the variables stand as at the entry of a function
led-stands : (c : Contract) (v : Valuation) (m : ℕ) (r : Bool × World) → Led c (at_atom v (at_entry c.variables)) m r → Stands c.variables (entry c.variables) v.number r.1.state.scalars
led-stands c v m r l = record { count = length-range_with_len 0 (length c.variables); values = l.values; typed = l.typed }

list_all-push : (p : Program) (ks : List Call) (k : Call) → list_all (call_fits p) ks ≡ true → call_fits p k ≡ true → list_all (call_fits p) (ks ++ k ∷ []) ≡ true
list_all-push p ks k h e = list_all-append (call_fits p) ks (k ∷ []) ∙ and_from (list_all (call_fits p) ks) (list_all (call_fits p) (k ∷ [])) h (and_from (call_fits p k) true e refl)

-- ---- zeros

zeros-values : (sorts : List Sort) (v : Valuation) (i : ℕ) (vs : List Variable) → ConsAt sorts v (zeros_from i vs) → (j : ℕ) → j < length vs → v.number (i + j) ≡ pos 0
zeros-values sorts v i [] h j l = absurd (omega arith)
zeros-values sorts v i (x ∷ xs) h zero l =
    let n : i ≡ i + 0 = omega arith in
    let e : v.number i ≡ pos 0 = omega (arith, ints, h.0, h.1.0, plus-value i (pos 0) v.number, minus-value i (pos 0) v.number) in
    subst (λ (k : ℕ). v.number k ≡ pos 0) n e
zeros-values sorts v i (x ∷ xs) h (suc j) l =
    let n : suc i + j ≡ i + suc j = omega arith in
    subst (λ (k : ℕ). v.number k ≡ pos 0) n (zeros-values sorts v (suc i) xs h.1.1 j (omega arith))

zero-reached : (c : Contract) (v w : Valuation) → ConsAt (zero_rule c.variables).vars v (zero_rule c.variables).cons → Agree (length (at_entry c.variables).args) (at_atom v (at_entry c.variables)) w → Reach c w
zero-reached c v w cons same = record {
  calls = [];
  fits = refl;
  leads = λ n m. record {
    going = refl;
    turns = omega arith;
    typed = zeros-fit c.variables;
    values = λ i l.
        let k : i < length (range_with_len 0 (length c.variables)) = omega (arith, length-range_with_len 0 (length c.variables)) in
        let n : 0 + i ≡ i = omega arith in
        let z : v.number i ≡ pos 0 = subst (λ (j : ℕ). v.number j ≡ pos 0) n (zeros-values (zero_rule c.variables).vars v 0 c.variables cons i l) in
        zero-at c.variables i ∙ sym z ∙ sym (ap v.number (entry-now c.variables i l)) ∙ same.numbers i k;
  };
}

-- ---- one call more

led-more : (c : Contract) (level : Level) (p : Path) (v w : Valuation) (a : List ℕ) (m : ℕ) (before u : World) (z : Got ℤ × World) → p.current ≡ a → Agree (length a) (at_atom v (record { pred = 0; args = a })) w → u.turns ≡ m → Went c.variables p v.number u (over z) → Led c w m (go_on (settled false before z) (call_each level false []))
led-more c level p v w a m before u (got.Value n, x) e same t h = record {
  going = refl;
  turns = h.1 ∙ t;
  typed = h.2.typed;
  values = λ i l.
      let k : i < length p.current = omega (arith, h.2.count) in
      let same2 : Agree (length p.current) (at_atom v (record { pred = 0; args = p.current })) w = subst (λ (b : List ℕ). Agree (length b) (at_atom v (record { pred = 0; args = b })) w) (sym e) same in
      h.2.values i l ∙ same2.numbers i k;
}
led-more c level p v w a m before u (got.Reverted, x) e same t h = absurd h
led-more c level p v w a m before u (got.Cut, x) e same t h = absurd h

one-more : (c : Contract) (n f : ℕ) (g : Function) (v w : Valuation) (m : ℕ) (r : Bool × World) → IsTyped c → slice_get c.functions f ≡ Some g → AllHold (after_all c.variables g.steps (entry c.variables)).rows v.number
    → Agree (length (after_all c.variables g.steps (entry c.variables)).current) (at_atom v (record { pred = 0; args = (after_all c.variables g.steps (entry c.variables)).current })) w
    → Led c (at_atom v (at_entry c.variables)) (suc m) r → Led c w m (go_on r (call_each (level_at (program_of c) (suc n)) false (call_of f ∷ [])))
one-more c n f g v w m (true, u) t e rows same l = absurd (let h : true ≡ false = l.going in cc)
one-more c n f g v w m (false, u) t e rows same l =
    let below : f < length c.functions = slice_get_within c.functions f g e in
    let p : Path = after_all c.variables g.steps (entry c.variables) in
    let k : u.turns ≡ suc m = l.turns in
    let x : World = inside (untaken u) in
    let went : Went c.variables (after_all c.variables g.steps (entry c.variables)) v.number (inside (untaken u)) (over (call_at c n (slice_get (funs_of c.variables 0 c.functions) f) u)) =
    call-goes (frame_of c n) c.variables c.functions 0 f g [] v.number (untaken u) t.steps e rows (led-stands c v (suc m) (false, u) l) (omega arith) in
    subst (λ (z : Bool × World). Led c w m (go_on z (call_each (level_at (program_of c) (suc n)) false []))) (sym (once-at c n f u below))
    (led-more c (level_at (program_of c) (suc n)) p v w p.current m u x (call_at c n (slice_get (funs_of c.variables 0 c.functions) f) u) refl same (omega arith) went)

fun-reached : (c : Contract) (f : ℕ) (g : Function) (v w : Valuation) → IsTyped c → slice_get c.functions f ≡ Some g → ConsAt (rule_of c.variables g).vars v (rule_of c.variables g).cons → Agree (length (rule_of c.variables g).head.args) (at_atom v (rule_of c.variables g).head) w → Reach c (at_atom v (at_entry c.variables)) → Reach c w
fun-reached c f g v w t e cons same before =
    let p : Path = after_all c.variables g.steps (entry c.variables) in
    let ks : List Call = before.calls in
    let rows : AllHold p.rows v.number = hold-cons p.sorts v p.rows cons in record {
      calls = before.calls ++ call_of f ∷ [];
      fits = list_all-push (program_of c) before.calls (call_of f) before.fits (fits-at c f (slice_get_within c.functions f g e));
      leads = λ n m.
          let count : length before.calls + suc m ≡ length (before.calls ++ call_of f ∷ []) + m = omega (arith, length-append before.calls (call_of f ∷ [])) in
          let level : Level = level_at (program_of c) (suc n) in
          subst (λ (k : ℕ). Led c w m (call_each (level_at (program_of c) (suc n)) false (before.calls ++ call_of f ∷ []) (start c k))) count
          (subst (Led c w m) (sym (calls-append level before.calls (call_of f ∷ []) (start c (length before.calls + suc m))))
          (one-more c n f g v w m (call_each (level_at (program_of c) (suc n)) false before.calls (start c (length before.calls + suc m))) t e rows same (before.leads n (suc m))));
    }

-- ---- each rule

map-at : {A B : Type 0} → (f : A → B) (xs : List A) (y : B) (k : ℕ) → k < length (map f xs) → slice_index_or (map f xs) k y ≡ y → (i : ℕ) × (x : A) × (slice_get xs i ≡ Some x) × (f x ≡ y)
map-at f [] y k l e = absurd (omega arith)
map-at f (x ∷ xs) y zero l e = (0, x, refl, e)
map-at f (x ∷ xs) y (suc k) l e = let r = map-at f xs y k (omega arith) e in (suc r.0, r.1, r.2, r.3)

-- what is derived by a rule is reached, where its body is
abbrev RuleReached : Contract → Valuation → Valuation → Rule → Type 0
RuleReached c v w r = ConsAt r.vars v r.cons → Agree (length r.head.args) (at_atom v r.head) w → AllReach c v r.body → Reach c w

rule-reached-at : (c : Contract) (v w : Valuation) (r : Rule) (k : ℕ) → IsTyped c → k < length (system_of c).rules → slice_index_or (system_of c).rules k r ≡ r → RuleReached c v w r
rule-reached-at c v w r zero t l e = subst (RuleReached c v w) e (λ cons same all. zero-reached c v w cons same)
rule-reached-at c v w r (suc k) t l e =
    let g = map-at (rule_of c.variables) c.functions r k (omega arith) e in
    subst (RuleReached c v w) g.3 (λ cons same all. fun-reached c g.0 g.1 v w t g.2 cons same all.0)

-- each rule of a system leads from what is reached to what is reached
abbrev AllReached : System → Contract → Type 0
AllReached s c = (r : Rule) (v w : Valuation) → Contains s.rules r → RuleReached c v w r

mutual
  derived-reached : (s : System) (c : Contract) → AllReached s c → {p : ℕ} {w : Valuation} → Derived s p w → Reach c w
  derived-reached s c all (by_rule {r} {v} {w} i sorts cons body same) = all r v w i cons same (body-reached s c all body)

  body-reached : (s : System) (c : Contract) → AllReached s c → {v : Valuation} {body : List App} → AllDerived s v body → AllReach c v body
  body-reached s c all none = tt
  body-reached s c all (more {v} {a} {rest} d ds) = (derived-reached s c all d, body-reached s c all ds)

rules-reached : (c : Contract) → IsTyped c → AllReached (system_of c) c
rules-reached c t r v w i = rule-reached-at c v w r i.0 t i.1 i.2

-- ---- the last call

strikes-more : (level : Level) (site : ℕ) (before : World) (hits : List ℕ) (z : Got ℤ × World) → Struck site hits (over z) → (go_on (settled false before z) (call_each level false [])).1.hits ≡ hits ++ site ∷ []
strikes-more level site before hits (got.Value n, v) h = absurd h
strikes-more level site before hits (got.Reverted, v) h = h
strikes-more level site before hits (got.Cut, v) h = absurd h

last-hits : (c : Contract) (n site : ℕ) (v : Valuation) (s : Striking (frame_of c n) c.variables c.functions 0 site v.number) (r : Bool × World) → Led c (at_atom v (at_entry c.variables)) 1 r → Contains (go_on r (call_each (level_at (program_of c) (suc n)) false (call_of s.place ∷ []))).1.hits site
last-hits c n site v s (true, u) l = absurd (let h : true ≡ false = l.going in cc)
last-hits c n site v s (false, u) l =
    let k : u.turns ≡ 1 = l.turns in
    let level : Level = level_at (program_of c) (suc n) in
    let struck : Struck site u.hits (over (call_at c n (slice_get (funs_of c.variables 0 c.functions) s.place) u)) = s.strikes [] (untaken u) (led-stands c v 1 (false, u) l) (omega arith) in
    let e : (go_on (call_once (level_at (program_of c) (suc n)) false (call_of s.place) u) (call_each (level_at (program_of c) (suc n)) false [])).1.hits ≡ u.hits ++ site ∷ [] =
    ap (λ (z : Bool × World). (go_on z (call_each level false [])).1.hits) (once-at c n s.place u s.within) ∙ strikes-more level site u u.hits (call_at c n (slice_get (funs_of c.variables 0 c.functions) s.place) u) struck in
    subst (λ (hits : List ℕ). Contains hits site) (sym e) (Contains-push u.hits site)

pub derivable-violated : (c : Contract) → IsTyped c → (t : ℕ) → Derivable (system_of c) t → (x : Script) × (n : ℕ) × Fits (program_of c) x × Violates (program_of c) t x n
derivable-violated c typed t (q, v, e, sorts, cons, body) =
    let made : IsMade c.variables (0 + t) q = made-at c.variables 0 t (queries_of c.variables 0 c.functions) q (queries-made c.variables 0 c.functions) e in
    let before : Reach c (at_atom v (at_entry c.variables)) = (body-reached (system_of c) c (rules-reached c typed) (subst (AllDerived (system_of c) v) made.body body)).0 in
    let told : Told v (slice_get (queries_of c.variables 0 c.functions) t) = subst (Told v) (sym e) cons in
    let m : ℕ = length before.calls in
    let s : Striking (frame_of c m) c.variables c.functions 0 (0 + t) v.number = call-strikes (frame_of c m) c.variables c.functions 0 t v typed.steps told in
    let ks : List Call = before.calls ++ call_of s.place ∷ [] in
    let level : Level = level_at (program_of c) (suc m) in
    let w : World = start c (length before.calls + 1) in
    let n : 0 + t ≡ t = omega arith in
    let turns : length before.calls + 1 ≡ suc m = omega arith in
    let fits : list_all (call_fits (program_of c)) ks ≡ true = list_all-push (program_of c) before.calls (call_of s.place) before.fits (fits-at c s.place s.within) in
    let hit : Contains (go_on (call_each level false before.calls w) (call_each level false (call_of s.place ∷ []))).1.hits (0 + t) = last-hits c m (0 + t) v s (call_each level false before.calls w) (before.leads m 1) in
    let all : Contains (call_each level false ks w).1.hits (0 + t) = subst (λ (r : Bool × World). Contains r.1.hits (0 + t)) (sym (calls-append level before.calls (call_of s.place ∷ []) w)) hit in
    let here : Contains (call_each level false ks (start c (suc m))).1.hits (0 + t) = subst (λ (k : ℕ). Contains (call_each level false ks (start c k)).1.hits (0 + t)) turns all in
    (script ks, suc m, fits, subst (λ (k : ℕ). Contains (call_each level false ks (start c (suc m))).1.hits k) n here)
