-- One statement, and its rows.
use Rattle.std.proofs.Common.{◌≡◌, ◌≢◌, ◌∙◌, sym, ap, subst, refl, ℕ, suc, ◌≤◌, ◌<◌, List, [], ◌∷◌, ◌++◌, length, pos, ◌+ℤ◌, ◌-ℤ◌, ◌≤ℤ◌, neg_ℤ, Bool, true, false, arith, ◌⊎◌, inl, inr, Option, Some, None, slice_get, slice_set, unwrap_or, length-set, length-append, get_or-set_same, get_or-set_other}
use lib.IntN.{ℤ}
use Rattle.std.proofs.lemmas.Int.{ints}
use Rattle.std.proofs.lemmas.Bool.{cases_eq}
use Rattle.std.proofs.lemmas.Option.{unwrap_or-slice_get}
use Rattle.chc_nums.specs.declared.Op.TheVariants as op
use Rattle.chc_nums.specs.declared.Num as num
use Rattle.chc_form.specs.declared.Row.{Row}
use Rattle.chc_form.specs.declared.Sort.TheVariants as sort
use Rattle.chc_form.specs.Valuations.{HasSorts}
use Rattle.sol_core.specs.declared.Expr.{Expr, Num, Scalar}
use Rattle.sol_core.specs.declared.PanicSites.{PanicSites}
use Rattle.sol_first.specs.declared.Variable.{Variable}
use Rattle.sol_first.specs.declared.Order.{Order}
use Rattle.sol_first.specs.declared.Step.{Step}
use Rattle.sol_first.specs.declared.Step.TheVariants as step
use Rattle.sol_first.specs.Typed.{size_at, IsValue, StepTyped}
use Rattle.sol_first.specs.Elaborated.{cmp_of, condition, converted, shifted, type_at, stmt_of, over_site, under_site}
use Rattle.sol_meaning.specs.declared.World.{World}
use Rattle.sol_meaning.specs.declared.Got.{Got}
use Rattle.sol_meaning.specs.declared.Got.TheVariants as got
use Rattle.sol_meaning.specs.declared.End.{End}
use Rattle.sol_meaning.specs.declared.End.TheVariants as done
use Rattle.sol_meaning.specs.Frames.{and_then, Frame, plain, number_at}
use Rattle.sol_meaning.specs.Eval.{truth, compared, arithmetic}
use Rattle.sol_meaning.specs.Exec.{exec, required, asserted}
use Rattle.sol_meaning.proofs.Values.{eval-Num, eval-Scalar}
use Rattle.sol_meaning.proofs.Statements.{exec-Require, exec-Assert}
use Rattle.chc_encode.specs.declared.path.Path.{Path}
use Rattle.chc_encode.specs.PathRows.{plus, minus, plus_minus, minus_plus, within, holds, most, now_at, next_at, assigned, after, target}
use Rattle.chc_encode.proofs.Valuations.{Holds, AllHold, hold-append, hold-put, plus-value, minus-value, plus_minus-value, minus_plus-value, within-hold, holds-true, holds-false, Below, AllBelow, all_below-more, all_below-append, holds-below, put, put-same, put-other}
use Rattle.chc_encode.proofs.Places.{point, sorts-put}
use Rattle.chc_encode.proofs.Computes.{widened, placed-cases, condition-value, shifted-value, converted-value, converted-reverted, written, set-value, set-reverted}

-- ---- a list with another entry

pub set-same : {A : Type 0} → (xs : List A) (i j : ℕ) (a d : A) → i < length xs → j ≡ i → unwrap_or (slice_get (slice_set xs i a) j) d ≡ a
set-same {A} xs i j a d l e = subst (λ (k : ℕ). unwrap_or (slice_get (slice_set xs i a) k) d ≡ a) (sym e) (unwrap_or-slice_get (slice_set xs i a) i d ∙ get_or-set_same xs i a d l)

pub set-other : {A : Type 0} → (xs : List A) (i j : ℕ) (a d : A) → j ≢ i → unwrap_or (slice_get (slice_set xs i a) j) d ≡ unwrap_or (slice_get xs j) d
set-other {A} xs i j a d h = unwrap_or-slice_get (slice_set xs i a) j d ∙ get_or-set_other xs i j a d h ∙ sym (unwrap_or-slice_get xs j d)

-- ---- values that are in their types

pub record Fitting (vars : List Variable) (ns : List ℤ) : Type 0 where
  pub count : length ns ≡ length vars
  pub ranges : (i : ℕ) → i < length vars → IsValue vars i (number_at ns i)

pub fitting-set : (vars : List Variable) (ns : List ℤ) (to : ℕ) (z : ℤ) → to < length vars → IsValue vars to z → Fitting vars ns → Fitting vars (slice_set ns to z)
fitting-set vars ns to z l v f = record {
  count = length-set ns to z ∙ f.count;
  ranges = λ i h. elim (cases_eq i to) [
    | inl e ↦ subst (λ (y : ℤ). IsValue vars i y) (sym (set-same ns to i z (pos 0) (omega (arith, f.count)) e)) (subst (λ (k : ℕ). IsValue vars k z) (sym e) v)
    | inr n ↦ subst (λ (y : ℤ). IsValue vars i y) (sym (set-other ns to i z (pos 0) n)) (f.ranges i h)
  ];
}

-- ---- a valuation of a path that says what the variables are, and were at entry

pub record Agrees (vars : List Variable) (start : List ℤ) (p : Path) (x : ℕ → ℤ) (ns : List ℤ) : Type 0 where
  pub rows : AllHold p.rows x
  pub rows_below : AllBelow (next_at p) p.rows
  pub sorts : HasSorts (point x) p.sorts
  pub room : length vars ≤ next_at p
  pub first : (i : ℕ) → i < length vars → x i ≡ number_at start i
  pub count : length p.current ≡ length vars
  pub below : (i : ℕ) → i < length vars → now_at p i < next_at p
  pub values : (i : ℕ) → i < length vars → number_at ns i ≡ x (now_at p i)
  pub typed : Fitting vars ns

agrees-row : (vars : List Variable) (start : List ℤ) (p : Path) (x : ℕ → ℤ) (ns : List ℤ) (r : Row) → Agrees vars start p x ns → Below (next_at p) r.lin.terms → Holds r x → Agrees vars start (record p { rows = p.rows ++ r ∷ [] }) x ns
agrees-row vars start p x ns r a b h = record {
  rows = hold-append p.rows (r ∷ []) x a.rows (h, tt);
  rows_below = all_below-append (next_at p) p.rows (r ∷ []) a.rows_below (b, tt);
  sorts = a.sorts;
  room = a.room;
  first = a.first;
  count = a.count;
  below = a.below;
  values = a.values;
  typed = a.typed;
}

-- one variable more
next-more : (vars : List Variable) (p : Path) (to : ℕ) (more : List Row) → next_at (assigned vars p to more) ≡ suc (next_at p)
next-more vars p to more = omega (arith, length-append p.sorts (sort.Whole (type_at vars to) ∷ []))

agrees-assigned : (vars : List Variable) (start : List ℤ) (p : Path) (x : ℕ → ℤ) (ns : List ℤ) (to : ℕ) (z : ℤ) (more : List Row) → Agrees vars start p x ns → to < length vars → IsValue vars to z → AllBelow (suc (next_at p)) more → AllHold more (put x (next_at p) z)
    → Agrees vars start (assigned vars p to more) (put x (next_at p) z) (slice_set ns to z)
agrees-assigned vars start p x ns to z more a l v b h =
    let m : next_at (assigned vars p to more) ≡ suc (next_at p) = next-more vars p to more in
    let room : length vars ≤ next_at p = a.room in record {
      rows = hold-append p.rows more (put x (next_at p) z) (hold-put x (next_at p) z p.rows a.rows_below a.rows) h;
      rows_below = subst (λ (n : ℕ). AllBelow n (p.rows ++ more)) (sym m) (all_below-append (suc (next_at p)) p.rows more (all_below-more (next_at p) (suc (next_at p)) p.rows (omega arith) a.rows_below) b);
      sorts = sorts-put p.sorts x z (sort.Whole (type_at vars to)) a.sorts (subst (λ (y : ℤ). IsValue vars to y) (sym (put-same x (next_at p) z)) v);
      room = omega (arith, m, room);
      first = λ i k. put-other x (next_at p) z i (omega arith) ∙ a.first i k;
      count = length-set p.current to (next_at p) ∙ a.count;
      below = λ i k. elim (cases_eq i to) [
        | inl e ↦ omega (arith, m, set-same p.current to i (next_at p) 0 (omega (arith, a.count)) e)
        | inr n ↦ omega (arith, m, set-other p.current to i (next_at p) 0 n, a.below i k)
      ];
      values = λ i k. elim (cases_eq i to) [
        | inl e ↦ set-same ns to i z (pos 0) (omega (arith, a.typed.count)) e ∙ sym (ap (put x (next_at p) z) (set-same p.current to i (next_at p) 0 (omega (arith, a.count)) e) ∙ put-same x (next_at p) z)
        | inr n ↦ set-other ns to i z (pos 0) n ∙ a.values i k ∙ sym (ap (put x (next_at p) z) (set-other p.current to i (next_at p) 0 n) ∙ put-other x (next_at p) z (now_at p i) (let q : now_at p i < next_at p = a.below i k in omega arith))
      ];
      typed = fitting-set vars ns to z l v a.typed;
    }

-- ---- one statement

-- a row is there, and holds
abbrev pub Reached : Option Row → (ℕ → ℤ) → Type 0
Reached None x = ⊥
Reached (Some r) x = Holds r x

-- a statement goes on, and the path after it agrees; or it is undone, and at most its own target is hit, whose row then holds
abbrev pub Stepped : List Variable → List ℤ → Step → ℕ → Path → (ℕ → ℤ) → List ℕ → Got End × World → Type 0
Stepped vars start s site p x hits (got.Value done.Normal, v) = (v.hits ≡ hits) × ((y : ℕ → ℤ) × Agrees vars start (after vars s p) y v.state.scalars)
Stepped vars start s site p x hits (got.Reverted, v) = (v.hits ≡ hits) ⊎ ((v.hits ≡ hits ++ site ∷ []) × Reached (target vars s p) x)
Stepped vars start s site p x hits (got.Value done.Broke, v) = ⊥
Stepped vars start s site p x hits (got.Value done.Continued, v) = ⊥
Stepped vars start s site p x hits (got.Value done.Left, v) = ⊥
Stepped vars start s site p x hits (got.Cut, v) = ⊥

require-done : (vars : List Variable) (start : List ℤ) (i : ℕ) (o : Order) (n : ℤ) (site : ℕ) (p : Path) (x : ℕ → ℤ) (w : World) (b : Bool) → i < length vars → Agrees vars start p x w.state.scalars → compared (cmp_of o) (x (now_at p i)) n ≡ b
    → Stepped vars start (step.Require i o n) site p x w.hits (and_then (got.Value (truth b), w) required)
require-done vars start i o n site p x w true l a e = (refl, (x, agrees-row vars start p x w.state.scalars (holds o (now_at p i) n) a (holds-below o (now_at p i) n (next_at p) (a.below i l)) (holds-true o (now_at p i) n x e)))
require-done vars start i o n site p x w false l a e = inl refl

assert-done : (vars : List Variable) (start : List ℤ) (l c i : ℕ) (o : Order) (n : ℤ) (site : ℕ) (p : Path) (x : ℕ → ℤ) (w : World) (b : Bool) → i < length vars → Agrees vars start p x w.state.scalars → compared (cmp_of o) (x (now_at p i)) n ≡ b
    → Stepped vars start (step.Assert l c i o n) site p x w.hits (and_then (got.Value (truth b), w) (asserted site))
assert-done vars start l c i o n site p x w true d a e = (refl, (x, agrees-row vars start p x w.state.scalars (holds o (now_at p i) n) a (holds-below o (now_at p i) n (next_at p) (a.below i d)) (holds-true o (now_at p i) n x e)))
assert-done vars start l c i o n site p x w false d a e = inr (refl, holds-false o (now_at p i) n x e)

-- the comparison is that of the row variable
compared-now : (vars : List Variable) (start : List ℤ) (i : ℕ) (o : Order) (n : ℤ) (p : Path) (x : ℕ → ℤ) (ns : List ℤ) → i < length vars → Agrees vars start p x ns → compared (cmp_of o) (x (now_at p i)) n ≡ compared (cmp_of o) (number_at ns i) n
compared-now vars start i o n p x ns l a = ap (λ (z : ℤ). compared (cmp_of o) z n) (sym (a.values i l))

-- the rows of an assignment
put-rows : (p : Path) (x : ℕ → ℤ) (n : ℤ) → AllHold (minus (next_at p) n ∷ plus (next_at p) (neg_ℤ n) ∷ []) (put x (next_at p) n)
put-rows p x n =
    let s : put x (next_at p) n (next_at p) ≡ n = put-same x (next_at p) n in
    (omega (arith, ints, s, minus-value (next_at p) n (put x (next_at p) n)), (omega (arith, ints, s, plus-value (next_at p) (neg_ℤ n) (put x (next_at p) n)), tt))

-- a value that differs by a number from the value of a variable read
shift-rows : (i next : ℕ) (x : ℕ → ℤ) (k z : ℤ) → i < next → z ≡ x i +ℤ k → AllHold (plus_minus i next k ∷ minus_plus i next (neg_ℤ k) ∷ []) (put x next z)
shift-rows i next x k z l e =
    let s : put x next z next ≡ z = put-same x next z in
    let o : put x next z i ≡ x i = put-other x next z i (omega arith) in
    (omega (arith, ints, s, o, e, plus_minus-value i next k (put x next z)), (omega (arith, ints, s, o, e, minus_plus-value i next (neg_ℤ k) (put x next z)), tt))

put-done : (vars : List Variable) (start : List ℤ) (to : ℕ) (n : ℤ) (site : ℕ) (p : Path) (x : ℕ → ℤ) (w : World) → to < length vars → IsValue vars to n → Agrees vars start p x w.state.scalars
    → Stepped vars start (step.Put to n) site p x w.hits (got.Value done.Normal, written to n w)
put-done vars start to n site p x w l v a = (refl, (put x (next_at p) n, agrees-assigned vars start p x w.state.scalars to n (minus (next_at p) n ∷ plus (next_at p) (neg_ℤ n) ∷ []) a l v ((omega arith, tt), ((omega arith, tt), tt)) (put-rows p x n)))

move-done : (vars : List Variable) (start : List ℤ) (to from : ℕ) (site : ℕ) (p : Path) (x : ℕ → ℤ) (w : World) → to < length vars → from < length vars → size_at vars from ≤ size_at vars to → Agrees vars start p x w.state.scalars
    → Stepped vars start (step.Move to from) site p x w.hits (got.Value done.Normal, written to (number_at w.state.scalars from) w)
move-done vars start to from site p x w l m s a =
    let z : ℤ = number_at w.state.scalars from in
    let b : now_at p from < (next_at p) = a.below from m in
    let e : number_at w.state.scalars from ≡ x (now_at p from) = a.values from m in
    let f : number_at w.state.scalars from ≡ x (now_at p from) +ℤ pos 0 = omega (arith, ints) in (
      refl,
      (
        put x (next_at p) (number_at w.state.scalars from),
        agrees-assigned vars start p x w.state.scalars to (number_at w.state.scalars from) (plus_minus (now_at p from) (next_at p) (pos 0) ∷ minus_plus (now_at p from) (next_at p) (pos 0) ∷ []) a l (widened (size_at vars from) (size_at vars to) (number_at w.state.scalars from) s (a.typed.ranges from m))
            ((omega arith, (omega arith, tt)), ((omega arith, (omega arith, tt)), tt))
            (shift-rows (now_at p from) (next_at p) x (pos 0) (number_at w.state.scalars from) b f),
      ),
    )

-- a sum, and a difference, that lies in its type
add-done : (vars : List Variable) (start : List ℤ) (l c to from : ℕ) (n : ℤ) (site : ℕ) (p : Path) (x : ℕ → ℤ) (w : World) → to < length vars → from < length vars → size_at vars from ≤ size_at vars to → Agrees vars start p x w.state.scalars
    → IsValue vars from (number_at w.state.scalars from +ℤ n) → Stepped vars start (step.Add l c to from n) site p x w.hits (got.Value done.Normal, written to (number_at w.state.scalars from +ℤ n) w)
add-done vars start l c to from n site p x w d m s a r =
    let b : now_at p from < (next_at p) = a.below from m in
    let e : number_at w.state.scalars from ≡ x (now_at p from) = a.values from m in
    let z : ℤ = number_at w.state.scalars from +ℤ n in
    let f : number_at w.state.scalars from +ℤ n ≡ x (now_at p from) +ℤ n = ap (λ (y : ℤ). y +ℤ n) e in
    let q : put x (next_at p) (number_at w.state.scalars from +ℤ n) (next_at p) ≡ number_at w.state.scalars from +ℤ n = put-same x (next_at p) (number_at w.state.scalars from +ℤ n) in (
      refl,
      (
        put x (next_at p) (number_at w.state.scalars from +ℤ n),
        agrees-assigned vars start p x w.state.scalars to (number_at w.state.scalars from +ℤ n) (plus_minus (now_at p from) (next_at p) n ∷ minus_plus (now_at p from) (next_at p) (neg_ℤ n) ∷ within (next_at p) (most vars from)) a d (widened (size_at vars from) (size_at vars to) (number_at w.state.scalars from +ℤ n) s r)
            ((omega arith, (omega arith, tt)), ((omega arith, (omega arith, tt)), ((omega arith, tt), ((omega arith, tt), tt))))
            (hold-append (plus_minus (now_at p from) (next_at p) n ∷ minus_plus (now_at p from) (next_at p) (neg_ℤ n) ∷ []) (within (next_at p) (most vars from)) (put x (next_at p) (number_at w.state.scalars from +ℤ n)) (shift-rows (now_at p from) (next_at p) x n (number_at w.state.scalars from +ℤ n) b f) (within-hold (next_at p) (most vars from) (put x (next_at p) (number_at w.state.scalars from +ℤ n)) (subst (λ (y : ℤ). pos 0 ≤ℤ y) (sym q) r.0) (subst (λ (y : ℤ). y ≤ℤ most vars from) (sym q) r.1))),
      ),
    )

neg-neg : (n : ℤ) → neg_ℤ (neg_ℤ n) ≡ n
neg-neg n = omega (arith, ints)

subtract-done : (vars : List Variable) (start : List ℤ) (l c to from : ℕ) (n : ℤ) (site : ℕ) (p : Path) (x : ℕ → ℤ) (w : World) → to < length vars → from < length vars → size_at vars from ≤ size_at vars to → Agrees vars start p x w.state.scalars
    → IsValue vars from (number_at w.state.scalars from -ℤ n) → Stepped vars start (step.Subtract l c to from n) site p x w.hits (got.Value done.Normal, written to (number_at w.state.scalars from -ℤ n) w)
subtract-done vars start l c to from n site p x w d m s a r =
    let b : now_at p from < (next_at p) = a.below from m in
    let e : number_at w.state.scalars from ≡ x (now_at p from) = a.values from m in
    let f : number_at w.state.scalars from -ℤ n ≡ x (now_at p from) +ℤ neg_ℤ n = omega (arith, ints) in
    let q : put x (next_at p) (number_at w.state.scalars from -ℤ n) (next_at p) ≡ number_at w.state.scalars from -ℤ n = put-same x (next_at p) (number_at w.state.scalars from -ℤ n) in
    let h : AllHold (plus_minus (now_at p from) (next_at p) (neg_ℤ n) ∷ minus_plus (now_at p from) (next_at p) n ∷ []) (put x (next_at p) (number_at w.state.scalars from -ℤ n)) = subst (λ (k : ℤ). AllHold (plus_minus (now_at p from) (next_at p) (neg_ℤ n) ∷ minus_plus (now_at p from) (next_at p) k ∷ []) (put x (next_at p) (number_at w.state.scalars from -ℤ n))) (neg-neg n) (shift-rows (now_at p from) (next_at p) x (neg_ℤ n) (number_at w.state.scalars from -ℤ n) b f) in (
      refl,
      (
        put x (next_at p) (number_at w.state.scalars from -ℤ n),
        agrees-assigned vars start p x w.state.scalars to (number_at w.state.scalars from -ℤ n) (plus_minus (now_at p from) (next_at p) (neg_ℤ n) ∷ minus_plus (now_at p from) (next_at p) n ∷ within (next_at p) (most vars from)) a d (widened (size_at vars from) (size_at vars to) (number_at w.state.scalars from -ℤ n) s r)
            ((omega arith, (omega arith, tt)), ((omega arith, (omega arith, tt)), ((omega arith, tt), ((omega arith, tt), tt))))
            (hold-append (plus_minus (now_at p from) (next_at p) (neg_ℤ n) ∷ minus_plus (now_at p from) (next_at p) n ∷ []) (within (next_at p) (most vars from)) (put x (next_at p) (number_at w.state.scalars from -ℤ n)) h (within-hold (next_at p) (most vars from) (put x (next_at p) (number_at w.state.scalars from -ℤ n)) (subst (λ (y : ℤ). pos 0 ≤ℤ y) (sym q) r.0) (subst (λ (y : ℤ). y ≤ℤ most vars from) (sym q) r.1))),
      ),
    )

pub step-done : (frame : Frame) (vars : List Variable) (start : List ℤ) (s : Step) (site : ℕ) (p : Path) (x : ℕ → ℤ) (w : World) → StepTyped vars s → Agrees vars start p x w.state.scalars → Stepped vars start s site p x w.hits (exec (plain frame) (stmt_of vars site s) w)
step-done frame vars start (step.Require i o n) site p x w t a =
    let e : exec (plain frame) (stmt_of vars site (step.Require i o n)) w ≡ and_then (got.Value (truth (compared (cmp_of o) (number_at w.state.scalars i) n)), w) required =
    exec-Require (plain frame) (condition vars i o n) w ∙ ap (λ (r : Got ℤ × World). and_then r required) (condition-value (plain frame) vars i o n w) in
    subst (Stepped vars start (step.Require i o n) site p x w.hits) (sym e) (require-done vars start i o n site p x w (compared (cmp_of o) (number_at w.state.scalars i) n) t.0 a (compared-now vars start i o n p x w.state.scalars t.0 a))
step-done frame vars start (step.Assert l c i o n) site p x w t a =
    let e : exec (plain frame) (stmt_of vars site (step.Assert l c i o n)) w ≡ and_then (got.Value (truth (compared (cmp_of o) (number_at w.state.scalars i) n)), w) (asserted site) =
    exec-Assert (plain frame) (condition vars i o n) site w ∙ ap (λ (r : Got ℤ × World). and_then r (asserted site)) (condition-value (plain frame) vars i o n w) in
    subst (Stepped vars start (step.Assert l c i o n) site p x w.hits) (sym e) (assert-done vars start l c i o n site p x w (compared (cmp_of o) (number_at w.state.scalars i) n) t.0 a (compared-now vars start i o n p x w.state.scalars t.0 a))
step-done frame vars start (step.Put to n) site p x w t a = subst (Stepped vars start (step.Put to n) site p x w.hits) (sym (set-value frame to (Num n (type_at vars to)) n w (eval-Num (plain frame) n (type_at vars to) w))) (put-done vars start to n site p x w t.0 t.1 a)
step-done frame vars start (step.Move to from) site p x w t a =
    let z : ℤ = number_at w.state.scalars from in
    subst (Stepped vars start (step.Move to from) site p x w.hits) (sym (set-value frame to (converted vars from to (Scalar from)) z w (converted-value (plain frame) vars from to (Scalar from) z w (widened (size_at vars from) (size_at vars to) z t.2 (a.typed.ranges from t.1)) (eval-Scalar (plain frame) from w)))) (move-done vars start to from site p x w t.0 t.1 t.2 a)
step-done frame vars start (step.Add l c to from n) site p x w t a =
    let z : ℤ = number_at w.state.scalars from in
    let m : PanicSites = over_site site in
    let e : Expr = shifted vars op.Add from n m in
    let v = shifted-value (plain frame) vars op.Add from n m w in
    let lo : pos 0 ≤ℤ number_at w.state.scalars from = (a.typed.ranges from t.1).0 in
    let more : pos 0 ≤ℤ n = t.3.0 in
    elim (placed-cases (type_at vars from) (z +ℤ n)) [
      | inl h ↦ absurd (omega (arith, ints, h.1))
      | inr g ↦ elim g [
        | inl h ↦
            let r : number_at w.state.scalars from ≡ x (now_at p from) = a.values from t.1 in
            subst (Stepped vars start (step.Add l c to from n) site p x w.hits)
            (sym (set-reverted frame to (converted vars from to e) w (record w { hits = w.hits ++ site ∷ [] }) (converted-reverted (plain frame) vars from to e w (record w { hits = w.hits ++ site ∷ [] }) (v ∙ ap (λ (j : num.Num). arithmetic j m w) h.0))))
            (inr (refl, omega (arith, ints, h.1, minus-value (now_at p from) ((most vars from +ℤ pos 1) -ℤ n) x)))
        | inr h ↦ subst (Stepped vars start (step.Add l c to from n) site p x w.hits)
            (sym (set-value frame to (converted vars from to e) (z +ℤ n) w (converted-value (plain frame) vars from to e (z +ℤ n) w (widened (size_at vars from) (size_at vars to) (z +ℤ n) t.2 h.1) (v ∙ ap (λ (j : num.Num). arithmetic j m w) h.0))))
            (add-done vars start l c to from n site p x w t.0 t.1 t.2 a h.1)
      ]
    ]
step-done frame vars start (step.Subtract l c to from n) site p x w t a =
    let z : ℤ = number_at w.state.scalars from in
    let m : PanicSites = under_site site in
    let e : Expr = shifted vars op.Sub from n m in
    let v = shifted-value (plain frame) vars op.Sub from n m w in
    let hi : number_at w.state.scalars from ≤ℤ most vars from = (a.typed.ranges from t.1).1 in
    let more : pos 0 ≤ℤ n = t.3.0 in
    elim (placed-cases (type_at vars from) (z -ℤ n)) [
      | inl h ↦
          let r : number_at w.state.scalars from ≡ x (now_at p from) = a.values from t.1 in
          subst (Stepped vars start (step.Subtract l c to from n) site p x w.hits)
          (sym (set-reverted frame to (converted vars from to e) w (record w { hits = w.hits ++ site ∷ [] }) (converted-reverted (plain frame) vars from to e w (record w { hits = w.hits ++ site ∷ [] }) (v ∙ ap (λ (j : num.Num). arithmetic j m w) h.0))))
          (inr (refl, omega (arith, ints, h.1, plus-value (now_at p from) (pos 1 -ℤ n) x)))
      | inr g ↦ elim g [
        | inl h ↦ absurd (omega (arith, ints, h.1))
        | inr h ↦ subst (Stepped vars start (step.Subtract l c to from n) site p x w.hits)
            (sym (set-value frame to (converted vars from to e) (z -ℤ n) w (converted-value (plain frame) vars from to e (z -ℤ n) w (widened (size_at vars from) (size_at vars to) (z -ℤ n) t.2 h.1) (v ∙ ap (λ (j : num.Num). arithmetic j m w) h.0))))
            (subtract-done vars start l c to from n site p x w t.0 t.1 t.2 a h.1)
      ]
    ]
