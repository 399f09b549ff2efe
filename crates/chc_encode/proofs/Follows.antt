-- Values that make the rows of a path true are those that its statements compute, and a target's own row hits it.
use Rattle.std.proofs.Common.{◌≡◌, ◌∙◌, sym, ap, subst, refl, ℕ, ◌+◌, ◌<◌, List, [], ◌∷◌, ◌++◌, length, pos, ◌+ℤ◌, ◌-ℤ◌, ◌≤ℤ◌, neg_ℤ, Bool, true, false, arith, inl, inr, slice_set, length-set}
use lib.IntN.{ℤ}
use Rattle.std.specs.List.{All}
use Rattle.std.proofs.lemmas.Int.{ints}
use Rattle.std.proofs.lemmas.Bool.{cases_eq}
use Rattle.std.proofs.lemmas.List.Elements.{All-head, All-tail}
use Rattle.chc_nums.specs.declared.Op.TheVariants as op
use Rattle.chc_nums.specs.declared.Num as num
use Rattle.chc_form.specs.declared.Row.{Row}
use Rattle.sol_core.specs.declared.Expr.{Expr, Num, Scalar}
use Rattle.sol_core.specs.declared.PanicSites.{PanicSites}
use Rattle.sol_first.specs.declared.Variable.{Variable}
use Rattle.sol_first.specs.declared.Order.{Order}
use Rattle.sol_first.specs.declared.Order.TheVariants as order
use Rattle.sol_first.specs.declared.Step.{Step}
use Rattle.sol_first.specs.declared.Step.TheVariants as step
use Rattle.sol_first.specs.Typed.{size_at, IsValue, StepTyped}
use Rattle.sol_first.specs.Elaborated.{cmp_of, condition, converted, shifted, type_at, stmt_of, stmts_of, over_site, under_site, sites_of_step}
use Rattle.sol_meaning.specs.declared.World.{World}
use Rattle.sol_meaning.specs.declared.Got.{Got}
use Rattle.sol_meaning.specs.declared.Got.TheVariants as got
use Rattle.sol_meaning.specs.declared.End.{End}
use Rattle.sol_meaning.specs.declared.End.TheVariants as done
use Rattle.sol_meaning.specs.Frames.{Run, and_then, Frame, plain, number_at}
use Rattle.sol_meaning.specs.Eval.{truth, compared, arithmetic}
use Rattle.sol_meaning.specs.Exec.{exec, exec_all, after_end, required, asserted}
use Rattle.sol_meaning.proofs.Values.{eval-Num, eval-Scalar}
use Rattle.sol_meaning.proofs.Statements.{exec-Require, exec-Assert}
use Rattle.chc_encode.specs.declared.path.Path.{Path}
use Rattle.chc_encode.specs.PathRows.{plus, minus, plus_minus, minus_plus, within, holds, opposite, most, now_at, next_at, assigned, after, after_all, target}
use Rattle.chc_encode.proofs.Valuations.{Holds, AllHold, plus-value, minus-value, plus_minus-value, minus_plus-value, holds-true, holds-false}
use Rattle.chc_encode.proofs.Computes.{widened, placed-cases, condition-value, shifted-value, converted-value, converted-reverted, written, set-value, set-reverted}
use Rattle.chc_encode.proofs.Steps.{set-same, set-other, Fitting, fitting-set, Reached}

pub hold-left : (ps qs : List Row) (x : ℕ → ℤ) → AllHold (ps ++ qs) x → AllHold ps x
hold-left [] qs x h = tt
hold-left (p ∷ ps) qs x h = (h.0, hold-left ps qs x h.1)

pub hold-right : (ps qs : List Row) (x : ℕ → ℤ) → AllHold (ps ++ qs) x → AllHold qs x
hold-right [] qs x h = h
hold-right (p ∷ ps) qs x h = hold-right ps qs x h.1

-- a comparison and its opposite
not-both : (o : Order) (i : ℕ) (n : ℤ) (x : ℕ → ℤ) → Holds (holds o i n) x → Holds (holds (opposite o) i n) x → ⊥
not-both order.Less i n x h k = omega (arith, ints, plus-value i (pos 1 -ℤ n) x, minus-value i n x)
not-both order.LessEqual i n x h k = omega (arith, ints, plus-value i (neg_ℤ n) x, minus-value i (n +ℤ pos 1) x)
not-both order.Greater i n x h k = omega (arith, ints, minus-value i (n +ℤ pos 1) x, plus-value i (neg_ℤ n) x)
not-both order.GreaterEqual i n x h k = omega (arith, ints, minus-value i n x, plus-value i (pos 1 -ℤ n) x)

-- ---- the variables as a path holds them

pub record Stands (vars : List Variable) (p : Path) (x : ℕ → ℤ) (ns : List ℤ) : Type 0 where
  pub count : length p.current ≡ length vars
  pub values : (i : ℕ) → i < length vars → number_at ns i ≡ x (now_at p i)
  pub typed : Fitting vars ns

stands-row : (vars : List Variable) (p : Path) (x : ℕ → ℤ) (ns : List ℤ) (more : List Row) → Stands vars p x ns → Stands vars (record p { rows = more }) x ns
stands-row vars p x ns more s = record { count = s.count; values = s.values; typed = s.typed }

stands-assigned : (vars : List Variable) (p : Path) (x : ℕ → ℤ) (ns : List ℤ) (to : ℕ) (z : ℤ) (more : List Row) → Stands vars p x ns → to < length vars → IsValue vars to z → z ≡ x (next_at p) → Stands vars (assigned vars p to more) x (slice_set ns to z)
stands-assigned vars p x ns to z more s l v m = record {
  count = length-set p.current to (next_at p) ∙ s.count;
  values = λ i k. elim (cases_eq i to) [
    | inl e ↦ set-same ns to i z (pos 0) (omega (arith, s.typed.count)) e ∙ m ∙ sym (ap x (set-same p.current to i (next_at p) 0 (omega (arith, s.count)) e))
    | inr n ↦ set-other ns to i z (pos 0) n ∙ s.values i k ∙ sym (ap x (set-other p.current to i (next_at p) 0 n))
  ];
  typed = fitting-set vars ns to z l v s.typed;
}

-- ---- one statement

-- it comes to its end, hits nothing and takes no turn, and the variables are as a path holds them
abbrev pub Went : List Variable → Path → (ℕ → ℤ) → World → Got End × World → Type 0
Went vars p x w (got.Value done.Normal, v) = (v.hits ≡ w.hits) × (v.turns ≡ w.turns) × Stands vars p x v.state.scalars
Went vars p x w (got.Reverted, v) = ⊥
Went vars p x w (got.Value done.Broke, v) = ⊥
Went vars p x w (got.Value done.Continued, v) = ⊥
Went vars p x w (got.Value done.Left, v) = ⊥
Went vars p x w (got.Cut, v) = ⊥

require-goes : (vars : List Variable) (i : ℕ) (o : Order) (n : ℤ) (p : Path) (x : ℕ → ℤ) (w : World) (b : Bool) → compared (cmp_of o) (x (now_at p i)) n ≡ b → Holds (holds o (now_at p i) n) x → Stands vars p x w.state.scalars
    → Went vars (after vars (step.Require i o n) p) x w (and_then (got.Value (truth b), w) required)
require-goes vars i o n p x w true e h s = (refl, refl, stands-row vars p x w.state.scalars (p.rows ++ holds o (now_at p i) n ∷ []) s)
require-goes vars i o n p x w false e h s = not-both o (now_at p i) n x h (holds-false o (now_at p i) n x e)

assert-goes : (vars : List Variable) (l c i : ℕ) (o : Order) (n : ℤ) (site : ℕ) (p : Path) (x : ℕ → ℤ) (w : World) (b : Bool) → compared (cmp_of o) (x (now_at p i)) n ≡ b → Holds (holds o (now_at p i) n) x → Stands vars p x w.state.scalars
    → Went vars (after vars (step.Assert l c i o n) p) x w (and_then (got.Value (truth b), w) (asserted site))
assert-goes vars l c i o n site p x w true e h s = (refl, refl, stands-row vars p x w.state.scalars (p.rows ++ holds o (now_at p i) n ∷ []) s)
assert-goes vars l c i o n site p x w false e h s = absurd (not-both o (now_at p i) n x h (holds-false o (now_at p i) n x e))

-- a statement writes a value that its rows say
value-goes : (vars : List Variable) (to : ℕ) (z : ℤ) (more : List Row) (p : Path) (x : ℕ → ℤ) (w : World) (r : Got End × World) → r ≡ (got.Value done.Normal, written to z w) → to < length vars → IsValue vars to z → z ≡ x (next_at p) → Stands vars p x w.state.scalars → Went vars (assigned vars p to more) x w r
value-goes vars to z more p x w r e l v m s = subst (Went vars (assigned vars p to more) x w) (sym e) (refl, refl, stands-assigned vars p x w.state.scalars to z more s l v m)

compared-now : (o : Order) (n y z : ℤ) → y ≡ z → compared (cmp_of o) z n ≡ compared (cmp_of o) y n
compared-now o n y z e = ap (λ (u : ℤ). compared (cmp_of o) u n) (sym e)

-- the rows of a number, and of a value that differs by a number from one that was read
number-rows : (next : ℕ) (n : ℤ) (x : ℕ → ℤ) → AllHold (minus next n ∷ plus next (neg_ℤ n) ∷ []) x → n ≡ x next
number-rows next n x h = omega (arith, ints, h.0, h.1.0, minus-value next n x, plus-value next (neg_ℤ n) x)

shift-rows : (read next : ℕ) (a b : ℤ) (x : ℕ → ℤ) (more : List Row) → b ≡ neg_ℤ a → AllHold (plus_minus read next a ∷ minus_plus read next b ∷ more) x → x read +ℤ a ≡ x next
shift-rows read next a b x more e h = omega (arith, ints, h.0, h.1.0, plus_minus-value read next a x, minus_plus-value read next b x)

range-rows : (next : ℕ) (g : ℤ) (x : ℕ → ℤ) → AllHold (within next g) x → (pos 0 ≤ℤ x next) × (x next ≤ℤ g)
range-rows next g x h = (omega (arith, ints, h.0, minus-value next (pos 0) x), omega (arith, ints, h.1.0, plus-value next (neg_ℤ g) x))

pub step-goes : (frame : Frame) (vars : List Variable) (s : Step) (site : ℕ) (p : Path) (x : ℕ → ℤ) (w : World) → StepTyped vars s → AllHold (after vars s p).rows x → Stands vars p x w.state.scalars → Went vars (after vars s p) x w (exec (plain frame) (stmt_of vars site s) w)
step-goes frame vars (step.Require i o n) site p x w t h s =
    let e : exec (plain frame) (stmt_of vars site (step.Require i o n)) w ≡ and_then (got.Value (truth (compared (cmp_of o) (number_at w.state.scalars i) n)), w) required =
    exec-Require (plain frame) (condition vars i o n) w ∙ ap (λ (r : Got ℤ × World). and_then r required) (condition-value (plain frame) vars i o n w) in
    subst (Went vars (after vars (step.Require i o n) p) x w) (sym e)
    (require-goes vars i o n p x w (compared (cmp_of o) (number_at w.state.scalars i) n) (compared-now o n (number_at w.state.scalars i) (x (now_at p i)) (s.values i t.0)) (hold-right p.rows (holds o (now_at p i) n ∷ []) x h).0 s)
step-goes frame vars (step.Assert l c i o n) site p x w t h s =
    let e : exec (plain frame) (stmt_of vars site (step.Assert l c i o n)) w ≡ and_then (got.Value (truth (compared (cmp_of o) (number_at w.state.scalars i) n)), w) (asserted site) =
    exec-Assert (plain frame) (condition vars i o n) site w ∙ ap (λ (r : Got ℤ × World). and_then r (asserted site)) (condition-value (plain frame) vars i o n w) in
    subst (Went vars (after vars (step.Assert l c i o n) p) x w) (sym e)
    (assert-goes vars l c i o n site p x w (compared (cmp_of o) (number_at w.state.scalars i) n) (compared-now o n (number_at w.state.scalars i) (x (now_at p i)) (s.values i t.0)) (hold-right p.rows (holds o (now_at p i) n ∷ []) x h).0 s)
step-goes frame vars (step.Put to n) site p x w t h s =
    let more : List Row = minus (next_at p) n ∷ plus (next_at p) (neg_ℤ n) ∷ [] in
    value-goes vars to n more p x w (exec (plain frame) (stmt_of vars site (step.Put to n)) w) (set-value frame to (Num n (type_at vars to)) n w (eval-Num (plain frame) n (type_at vars to) w)) t.0 t.1 (number-rows (next_at p) n x (hold-right p.rows (minus (next_at p) n ∷ plus (next_at p) (neg_ℤ n) ∷ []) x h)) s
step-goes frame vars (step.Move to from) site p x w t h s =
    let z : ℤ = number_at w.state.scalars from in
    let more : List Row = plus_minus (now_at p from) (next_at p) (pos 0) ∷ minus_plus (now_at p from) (next_at p) (pos 0) ∷ [] in
    let v : IsValue vars to z = widened (size_at vars from) (size_at vars to) z t.2 (s.typed.ranges from t.1) in
    let k : x (now_at p from) +ℤ pos 0 ≡ x (next_at p) = shift-rows (now_at p from) (next_at p) (pos 0) (pos 0) x [] refl (hold-right p.rows more x h) in
    let m : number_at w.state.scalars from ≡ x (next_at p) = omega (arith, ints, s.values from t.1, k) in
    value-goes vars to z more p x w (exec (plain frame) (stmt_of vars site (step.Move to from)) w) (set-value frame to (converted vars from to (Scalar from)) z w (converted-value (plain frame) vars from to (Scalar from) z w v (eval-Scalar (plain frame) from w))) t.0 v m s
step-goes frame vars (step.Add l c to from n) site p x w t h s =
    let z : ℤ = number_at w.state.scalars from in
    let a : List Row = plus_minus (now_at p from) (next_at p) n ∷ minus_plus (now_at p from) (next_at p) (neg_ℤ n) ∷ [] in
    let more : List Row = plus_minus (now_at p from) (next_at p) n ∷ minus_plus (now_at p from) (next_at p) (neg_ℤ n) ∷ within (next_at p) (most vars from) in
    let rows : AllHold more x = hold-right p.rows more x h in
    let k : x (now_at p from) +ℤ n ≡ x (next_at p) = shift-rows (now_at p from) (next_at p) n (neg_ℤ n) x (within (next_at p) (most vars from)) refl rows in
    let r : (pos 0 ≤ℤ x (next_at p)) × (x (next_at p) ≤ℤ most vars from) = range-rows (next_at p) (most vars from) x (hold-right a (within (next_at p) (most vars from)) x rows) in
    let m : number_at w.state.scalars from +ℤ n ≡ x (next_at p) = ap (λ (y : ℤ). y +ℤ n) (s.values from t.1) ∙ k in
    let e : Expr = shifted vars op.Add from n (over_site site) in
    elim (placed-cases (type_at vars from) (z +ℤ n)) [
      | inl u ↦ absurd (omega (arith, ints, u.1, m, r.0))
      | inr g ↦ elim g [
        | inl u ↦ absurd (omega (arith, ints, u.1, m, r.1))
        | inr u ↦
            let v : IsValue vars to (z +ℤ n) = widened (size_at vars from) (size_at vars to) (z +ℤ n) t.2 u.1 in
            value-goes vars to (z +ℤ n) more p x w (exec (plain frame) (stmt_of vars site (step.Add l c to from n)) w) (set-value frame to (converted vars from to e) (z +ℤ n) w (converted-value (plain frame) vars from to e (z +ℤ n) w v (shifted-value (plain frame) vars op.Add from n (over_site site) w ∙ ap (λ (j : num.Num). arithmetic j (over_site site) w) u.0))) t.0 v m s
      ]
    ]
step-goes frame vars (step.Subtract l c to from n) site p x w t h s =
    let z : ℤ = number_at w.state.scalars from in
    let a : List Row = plus_minus (now_at p from) (next_at p) (neg_ℤ n) ∷ minus_plus (now_at p from) (next_at p) n ∷ [] in
    let more : List Row = plus_minus (now_at p from) (next_at p) (neg_ℤ n) ∷ minus_plus (now_at p from) (next_at p) n ∷ within (next_at p) (most vars from) in
    let rows : AllHold more x = hold-right p.rows more x h in
    let k : x (now_at p from) +ℤ neg_ℤ n ≡ x (next_at p) = shift-rows (now_at p from) (next_at p) (neg_ℤ n) n x (within (next_at p) (most vars from)) (omega (arith, ints)) rows in
    let r : (pos 0 ≤ℤ x (next_at p)) × (x (next_at p) ≤ℤ most vars from) = range-rows (next_at p) (most vars from) x (hold-right a (within (next_at p) (most vars from)) x rows) in
    let j : number_at w.state.scalars from ≡ x (now_at p from) = s.values from t.1 in
    let m : number_at w.state.scalars from -ℤ n ≡ x (next_at p) = omega (arith, ints, j, k) in
    let e : Expr = shifted vars op.Sub from n (under_site site) in
    elim (placed-cases (type_at vars from) (z -ℤ n)) [
      | inl u ↦ absurd (omega (arith, ints, u.1, m, r.0))
      | inr g ↦ elim g [
        | inl u ↦ absurd (omega (arith, ints, u.1, m, r.1))
        | inr u ↦
            let v : IsValue vars to (z -ℤ n) = widened (size_at vars from) (size_at vars to) (z -ℤ n) t.2 u.1 in
            value-goes vars to (z -ℤ n) more p x w (exec (plain frame) (stmt_of vars site (step.Subtract l c to from n)) w) (set-value frame to (converted vars from to e) (z -ℤ n) w (converted-value (plain frame) vars from to e (z -ℤ n) w v (shifted-value (plain frame) vars op.Sub from n (under_site site) w ∙ ap (λ (j : num.Num). arithmetic j (under_site site) w) u.0))) t.0 v m s
      ]
    ]

-- ---- one statement that hits its own target

abbrev pub Struck : ℕ → List ℕ → Got End × World → Type 0
Struck site hits (got.Value done.Normal, v) = ⊥
Struck site hits (got.Reverted, v) = v.hits ≡ hits ++ site ∷ []
Struck site hits (got.Value done.Broke, v) = ⊥
Struck site hits (got.Value done.Continued, v) = ⊥
Struck site hits (got.Value done.Left, v) = ⊥
Struck site hits (got.Cut, v) = ⊥

assert-strikes : (i : ℕ) (o : Order) (n : ℤ) (site : ℕ) (p : Path) (x : ℕ → ℤ) (w : World) (b : Bool) → compared (cmp_of o) (x (now_at p i)) n ≡ b → Holds (holds (opposite o) (now_at p i) n) x → Struck site w.hits (and_then (got.Value (truth b), w) (asserted site))
assert-strikes i o n site p x w true e h = not-both o (now_at p i) n x (holds-true o (now_at p i) n x e) h
assert-strikes i o n site p x w false e h = refl

pub step-strikes : (frame : Frame) (vars : List Variable) (s : Step) (site : ℕ) (p : Path) (x : ℕ → ℤ) (w : World) → StepTyped vars s → Reached (target vars s p) x → Stands vars p x w.state.scalars → Struck site w.hits (exec (plain frame) (stmt_of vars site s) w)
step-strikes frame vars (step.Require i o n) site p x w t h s = absurd h
step-strikes frame vars (step.Assert l c i o n) site p x w t h s =
    let e : exec (plain frame) (stmt_of vars site (step.Assert l c i o n)) w ≡ and_then (got.Value (truth (compared (cmp_of o) (number_at w.state.scalars i) n)), w) (asserted site) =
    exec-Assert (plain frame) (condition vars i o n) site w ∙ ap (λ (r : Got ℤ × World). and_then r (asserted site)) (condition-value (plain frame) vars i o n w) in
    subst (Struck site w.hits) (sym e) (assert-strikes i o n site p x w (compared (cmp_of o) (number_at w.state.scalars i) n) (compared-now o n (number_at w.state.scalars i) (x (now_at p i)) (s.values i t.0)) h)
step-strikes frame vars (step.Put to n) site p x w t h s = absurd h
step-strikes frame vars (step.Move to from) site p x w t h s = absurd h
step-strikes frame vars (step.Add l c to from n) site p x w t h s =
    let z : ℤ = number_at w.state.scalars from in
    let m : PanicSites = over_site site in
    let e : Expr = shifted vars op.Add from n m in
    let u : World = record w { hits = w.hits ++ site ∷ [] } in
    let lo : pos 0 ≤ℤ number_at w.state.scalars from = (s.typed.ranges from t.1).0 in
    let more : pos 0 ≤ℤ n = t.3.0 in
    let r : number_at w.state.scalars from ≡ x (now_at p from) = s.values from t.1 in
    let big : (most vars from +ℤ pos 1) ≤ℤ (x (now_at p from) +ℤ n) = omega (arith, ints, h, minus-value (now_at p from) ((most vars from +ℤ pos 1) -ℤ n) x) in
    elim (placed-cases (type_at vars from) (z +ℤ n)) [
      | inl g ↦ absurd (omega (arith, ints, g.1))
      | inr j ↦ elim j [
        | inl g ↦ subst (Struck site w.hits) (sym (set-reverted frame to (converted vars from to e) w u (converted-reverted (plain frame) vars from to e w u (shifted-value (plain frame) vars op.Add from n m w ∙ ap (λ (y : num.Num). arithmetic y m w) g.0)))) refl
        | inr g ↦ absurd (omega (arith, ints, g.1.1, big, r))
      ]
    ]
step-strikes frame vars (step.Subtract l c to from n) site p x w t h s =
    let z : ℤ = number_at w.state.scalars from in
    let m : PanicSites = under_site site in
    let e : Expr = shifted vars op.Sub from n m in
    let u : World = record w { hits = w.hits ++ site ∷ [] } in
    let hi : number_at w.state.scalars from ≤ℤ most vars from = (s.typed.ranges from t.1).1 in
    let more : pos 0 ≤ℤ n = t.3.0 in
    let r : number_at w.state.scalars from ≡ x (now_at p from) = s.values from t.1 in
    let small : (x (now_at p from) +ℤ pos 1) ≤ℤ n = omega (arith, ints, h, plus-value (now_at p from) (pos 1 -ℤ n) x) in
    elim (placed-cases (type_at vars from) (z -ℤ n)) [
      | inl g ↦ subst (Struck site w.hits) (sym (set-reverted frame to (converted vars from to e) w u (converted-reverted (plain frame) vars from to e w u (shifted-value (plain frame) vars op.Sub from n m w ∙ ap (λ (y : num.Num). arithmetic y m w) g.0)))) refl
      | inr j ↦ elim j [
        | inl g ↦ absurd (omega (arith, ints, g.1))
        | inr g ↦ absurd (omega (arith, ints, g.1.0, small, r))
      ]
    ]

-- ---- one statement, and then the rest

went-from : (vars : List Variable) (p : Path) (x : ℕ → ℤ) (w u : World) (z : Got End × World) → u.hits ≡ w.hits → u.turns ≡ w.turns → Went vars p x u z → Went vars p x w z
went-from vars p x w u (got.Value done.Normal, v) e f h = (h.0 ∙ e, h.1 ∙ f, h.2)
went-from vars p x w u (got.Reverted, v) e f h = h
went-from vars p x w u (got.Value done.Broke, v) e f h = h
went-from vars p x w u (got.Value done.Continued, v) e f h = h
went-from vars p x w u (got.Value done.Left, v) e f h = h
went-from vars p x w u (got.Cut, v) e f h = h

then-goes : (vars : List Variable) (p q : Path) (x : ℕ → ℤ) (w : World) (r : Got End × World) (rest : Run End) → Went vars p x w r → ((v : World) → Stands vars p x v.state.scalars → Went vars q x v (rest v)) → Went vars q x w (and_then r (λ e. after_end e rest))
then-goes vars p q x w (got.Value done.Normal, v) rest h go = went-from vars q x w v (rest v) h.0 h.1 (go v h.2)
then-goes vars p q x w (got.Reverted, v) rest h go = h
then-goes vars p q x w (got.Value done.Broke, v) rest h go = h
then-goes vars p q x w (got.Value done.Continued, v) rest h go = h
then-goes vars p q x w (got.Value done.Left, v) rest h go = h
then-goes vars p q x w (got.Cut, v) rest h go = h

pub then-strikes : (vars : List Variable) (p : Path) (x : ℕ → ℤ) (w : World) (site : ℕ) (r : Got End × World) (rest : Run End) → Went vars p x w r → ((v : World) → Stands vars p x v.state.scalars → Struck site v.hits (rest v)) → Struck site w.hits (and_then r (λ e. after_end e rest))
then-strikes vars p x w site (got.Value done.Normal, v) rest h go = subst (λ (hits : List ℕ). Struck site hits (rest v)) h.0 (go v h.2)
then-strikes vars p x w site (got.Reverted, v) rest h go = absurd h
then-strikes vars p x w site (got.Value done.Broke, v) rest h go = absurd h
then-strikes vars p x w site (got.Value done.Continued, v) rest h go = absurd h
then-strikes vars p x w site (got.Value done.Left, v) rest h go = absurd h
then-strikes vars p x w site (got.Cut, v) rest h go = absurd h

pub struck-stays : (site : ℕ) (hits : List ℕ) (r : Got End × World) (rest : Run End) → Struck site hits r → Struck site hits (and_then r (λ e. after_end e rest))
struck-stays site hits (got.Value done.Normal, v) rest h = absurd h
struck-stays site hits (got.Reverted, v) rest h = h
struck-stays site hits (got.Value done.Broke, v) rest h = absurd h
struck-stays site hits (got.Value done.Continued, v) rest h = absurd h
struck-stays site hits (got.Value done.Left, v) rest h = absurd h
struck-stays site hits (got.Cut, v) rest h = absurd h

-- the rows of a path are among those of a longer one
pub after-before : (vars : List Variable) (s : Step) (p : Path) (x : ℕ → ℤ) → AllHold (after vars s p).rows x → AllHold p.rows x
after-before vars (step.Require i o n) p x h = hold-left p.rows (holds o (now_at p i) n ∷ []) x h
after-before vars (step.Assert l c i o n) p x h = hold-left p.rows (holds o (now_at p i) n ∷ []) x h
after-before vars (step.Put to n) p x h = hold-left p.rows (minus (next_at p) n ∷ plus (next_at p) (neg_ℤ n) ∷ []) x h
after-before vars (step.Move to from) p x h = hold-left p.rows (plus_minus (now_at p from) (next_at p) (pos 0) ∷ minus_plus (now_at p from) (next_at p) (pos 0) ∷ []) x h
after-before vars (step.Add l c to from n) p x h = hold-left p.rows (plus_minus (now_at p from) (next_at p) n ∷ minus_plus (now_at p from) (next_at p) (neg_ℤ n) ∷ within (next_at p) (most vars from)) x h
after-before vars (step.Subtract l c to from n) p x h = hold-left p.rows (plus_minus (now_at p from) (next_at p) (neg_ℤ n) ∷ minus_plus (now_at p from) (next_at p) n ∷ within (next_at p) (most vars from)) x h

all-before : (vars : List Variable) (ss : List Step) (p : Path) (x : ℕ → ℤ) → AllHold (after_all vars ss p).rows x → AllHold p.rows x
all-before vars [] p x h = h
all-before vars (s ∷ ss) p x h = after-before vars s p x (all-before vars ss (after vars s p) x h)

pub body-goes : (frame : Frame) (vars : List Variable) (ss : List Step) (first : ℕ) (p : Path) (x : ℕ → ℤ) (w : World) → All (StepTyped vars) ss → AllHold (after_all vars ss p).rows x → Stands vars p x w.state.scalars → Went vars (after_all vars ss p) x w (exec_all (plain frame) (stmts_of vars first ss) w)
body-goes frame vars [] first p x w t h s = (refl, refl, s)
body-goes frame vars (s ∷ ss) first p x w t h st =
    then-goes vars (after vars s p) (after_all vars ss (after vars s p)) x w (exec (plain frame) (stmt_of vars first s) w) (exec_all (plain frame) (stmts_of vars (first + length (sites_of_step s)) ss))
    (step-goes frame vars s first p x w (All-head (StepTyped vars) s ss t) (all-before vars ss (after vars s p) x h) st)
    (λ v k. body-goes frame vars ss (first + length (sites_of_step s)) (after vars s p) x v (All-tail (StepTyped vars) s ss t) h k)
