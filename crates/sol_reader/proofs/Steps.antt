-- A statement is read as a step exactly where it is that step.
use Rattle.std.proofs.Common.{◌≡◌, ◌∙◌, sym, ap, subst, refl, ℕ, List, Option, Some, None}
use lib.IntN.{ℤ}
use Rattle.sol_tree.specs.declared.expr.BinaryOp.{BinaryOp}
use Rattle.sol_tree.specs.declared.expr.BinaryOp.TheVariants as operator
use Rattle.sol_tree.specs.declared.expr.ExprTree.{ExprTree, out-ExprTree, roll-ExprTree, roll-out-ExprTree}
use Rattle.sol_tree.specs.declared.expr.ExprTree.TheOpen.{ExprTree-F}
use Rattle.sol_tree.specs.declared.expr.ExprTree.TheVariants as expr
use Rattle.sol_tree.specs.declared.stmt.AssignOp.TheVariants as assign
use Rattle.sol_tree.specs.declared.stmt.Simple.{Simple}
use Rattle.sol_tree.specs.declared.stmt.Simple.TheVariants as simple
use Rattle.sol_tree.specs.declared.stmt.Stmt.{Stmt, out-Stmt, roll-Stmt, roll-out-Stmt}
use Rattle.sol_tree.specs.declared.stmt.Stmt.TheOpen.{Stmt-F}
use Rattle.sol_tree.specs.declared.stmt.Stmt.TheVariants as stmt
use Rattle.sol_first.specs.declared.contract.Variable.{Variable}
use Rattle.sol_first.specs.declared.contract.Order.{Order}
use Rattle.sol_first.specs.declared.contract.Order.TheVariants as order
use Rattle.sol_first.specs.declared.contract.Step.{Step}
use Rattle.sol_first.specs.declared.contract.Step.TheVariants as step
use Rattle.sol_reader.specs.declared.step.Test.{Test}
use Rattle.sol_reader.specs.Places.{line_of, column_of}
use Rattle.sol_reader.specs.Language.{IsNamed, named, IsNumber, number, operator_of, IsTest, compared, IsStep, required, asserted, put, moved, added, subtracted, Differ, variable_names}
use Rattle.sol_reader.specs.Reading.{if_value, named_in, variable_of, number_in, number_of, order_of, test_in, test_of, changed, change_in, change_of, value_of, assignment_of, step_in, step_of}
use Rattle.sol_reader.proofs.Names.{place-sound, place-complete, some-is}
use Rattle.chc_nums.specs.Values.{with_value}

pub bind : {A B : Type 0} (P : Type 0) (o : Option A) (go : A → Option B) (z : B) → with_value o go ≡ Some z → ((x : A) → o ≡ Some x → go x ≡ Some z → P) → P
bind P None go z h f = absurd (cc)
bind P (Some x) go z h f = f x refl h

pub branch : {A B : Type 0} (P : Type 0) (o : Option A) (go : A → B) (other z : B) → if_value o go other ≡ z → ((x : A) → o ≡ Some x → go x ≡ z → P) → (o ≡ None → other ≡ z → P) → P
branch P None go other z h f g = g refl h
branch P (Some x) go other z h f g = f x refl h

-- ---- expressions: what is read is so

named-sound-at : (vs : List Variable) (o : ExprTree-F ExprTree) (v : ℕ) → named_in vs o ≡ Some v → IsNamed vs (roll-ExprTree o) v
named-sound-at vs (ExprTree-F.Named at w) v h =
    let p = place-sound w vs v h in
    let e : expr.Named at p.variable.name ≡ roll-ExprTree (ExprTree-F.Named at w) = ap (λ (n : List ℕ). expr.Named at n) p.name ∙ sym (expr.rolls-Named at w) in
    subst (λ (t : ExprTree). IsNamed vs t v) e (named p.there)
named-sound-at vs o v h = absurd (cc)

named-sound : (vs : List Variable) (e : ExprTree) (v : ℕ) → variable_of vs e ≡ Some v → IsNamed vs e v
unfolding variable_of
named-sound vs e v h = subst (λ (t : ExprTree). IsNamed vs t v) (roll-out-ExprTree e) (named-sound-at vs (out-ExprTree e) v h)

number-sound-at : (o : ExprTree-F ExprTree) (n : ℤ) → number_in o ≡ Some n → IsNumber (roll-ExprTree o) n
number-sound-at (ExprTree-F.Number at m hex None) n h =
    let e : m ≡ n = some-is m n h in
    subst (λ (k : ℤ). IsNumber (roll-ExprTree (ExprTree-F.Number at m hex None)) k) e (subst (λ (t : ExprTree). IsNumber t m) (sym (expr.rolls-Number at m hex None)) number)
number-sound-at o n h = absurd (cc)

number-sound : (e : ExprTree) (n : ℤ) → number_of e ≡ Some n → IsNumber e n
unfolding number_of
number-sound e n h = subst (λ (t : ExprTree). IsNumber t n) (roll-out-ExprTree e) (number-sound-at (out-ExprTree e) n h)

order-sound : (o : BinaryOp) (r : Order) → order_of o ≡ Some r → operator_of r ≡ o
order-sound operator.Less r h = ap operator_of (sym (some-is order.Less r h))
order-sound operator.LessEqual r h = ap operator_of (sym (some-is order.LessEqual r h))
order-sound operator.Greater r h = ap operator_of (sym (some-is order.Greater r h))
order-sound operator.GreaterEqual r h = ap operator_of (sym (some-is order.GreaterEqual r h))
order-sound o r h = absurd (cc)

test-sound-at : (vs : List Variable) (o : ExprTree-F ExprTree) (t : Test) → test_in vs o ≡ Some t → IsTest vs (roll-ExprTree o) t.variable t.order t.number
test-sound-at vs (ExprTree-F.Binary at x sign o e) t h =
    let P : Type 0 = IsTest vs (roll-ExprTree (ExprTree-F.Binary at x sign o e)) t.variable t.order t.number in
    bind P (order_of o) _ t h (λ r h1 g1.
    bind P (variable_of vs x) _ t g1 (λ v h2 g2.
    bind P (number_of e) _ t g2 (λ n h3 g3.
    let made : IsTest vs (expr.Binary at x sign (operator_of r) e) v r n = compared (named-sound vs x v h2) (number-sound e n h3) in
    let tree : expr.Binary at x sign (operator_of r) e ≡ roll-ExprTree (ExprTree-F.Binary at x sign o e) = ap (λ (p : BinaryOp). expr.Binary at x sign p e) (order-sound o r h1) ∙ sym (expr.rolls-Binary at x sign o e) in
    subst (λ (u : Test). IsTest vs (roll-ExprTree (ExprTree-F.Binary at x sign o e)) u.variable u.order u.number) (some-is (record { variable = v; order = r; number = n }) t g3) (subst (λ (u : ExprTree). IsTest vs u v r n) tree made))))
test-sound-at vs o t h = absurd (cc)

test-sound : (vs : List Variable) (e : ExprTree) (t : Test) → test_of vs e ≡ Some t → IsTest vs e t.variable t.order t.number
unfolding test_of
test-sound vs e t h = subst (λ (u : ExprTree). IsTest vs u t.variable t.order t.number) (roll-out-ExprTree e) (test-sound-at vs (out-ExprTree e) t h)

-- ---- statements: what is read is so

-- a statement that assigns to a variable
abbrev Assigns : ℕ → ℕ → ExprTree → ℕ → ExprTree → Stmt
Assigns at first x sign e = stmt.Simple at (simple.Assignment first x sign assign.Assign e)

changed-sound : (text : List ℕ) (vs : List Variable) (at first begin sign place to from : ℕ) (n : ℤ) (x y e : ExprTree) (o : BinaryOp) (s : Step) → IsNamed vs x to → IsNamed vs y from → IsNumber e n → changed text o place to from n ≡ Some s → IsStep text vs (Assigns at first x sign (expr.Binary begin y place o e)) s
changed-sound text vs at first begin sign place to from n x y e operator.Add s a b c h =
    subst (λ (r : Step). IsStep text vs (Assigns at first x sign (expr.Binary begin y place operator.Add e)) r) (some-is (step.Add (line_of text place) (column_of text place) to from n) s h) (added a b c)
changed-sound text vs at first begin sign place to from n x y e operator.Subtract s a b c h =
    subst (λ (r : Step). IsStep text vs (Assigns at first x sign (expr.Binary begin y place operator.Subtract e)) r) (some-is (step.Subtract (line_of text place) (column_of text place) to from n) s h) (subtracted a b c)
changed-sound text vs at first begin sign place to from n x y e o s a b c h = absurd (cc)

change-sound-at : (text : List ℕ) (vs : List Variable) (at first sign to : ℕ) (x : ExprTree) (o : ExprTree-F ExprTree) (s : Step) → IsNamed vs x to → change_in text vs to o ≡ Some s → IsStep text vs (Assigns at first x sign (roll-ExprTree o)) s
change-sound-at text vs at first sign to x (ExprTree-F.Binary begin y place o e) s a h =
    let P : Type 0 = IsStep text vs (Assigns at first x sign (roll-ExprTree (ExprTree-F.Binary begin y place o e))) s in
    bind P (variable_of vs y) _ s h (λ from h1 g1.
    bind P (number_of e) _ s g1 (λ n h2 g2.
    subst (λ (t : ExprTree). IsStep text vs (Assigns at first x sign t) s) (sym (expr.rolls-Binary begin y place o e)) (changed-sound text vs at first begin sign place to from n x y e o s a (named-sound vs y from h1) (number-sound e n h2) g2)))
change-sound-at text vs at first sign to x o s a h = absurd (cc)

change-sound : (text : List ℕ) (vs : List Variable) (at first sign to : ℕ) (x e : ExprTree) (s : Step) → IsNamed vs x to → change_of text vs to e ≡ Some s → IsStep text vs (Assigns at first x sign e) s
unfolding change_of
change-sound text vs at first sign to x e s a h = subst (λ (t : ExprTree). IsStep text vs (Assigns at first x sign t) s) (roll-out-ExprTree e) (change-sound-at text vs at first sign to x (out-ExprTree e) s a h)

value-sound : (text : List ℕ) (vs : List Variable) (at first sign to : ℕ) (x e : ExprTree) (s : Step) → IsNamed vs x to → value_of text vs to e ≡ Some s → IsStep text vs (Assigns at first x sign e) s
unfolding value_of
value-sound text vs at first sign to x e s a h =
    let P : Type 0 = IsStep text vs (Assigns at first x sign e) s in
    branch P (number_of e) _ _ _ h
    (λ n h1 g1. subst (λ (r : Step). IsStep text vs (Assigns at first x sign e) r) (some-is (step.Put to n) s g1) (put a (number-sound e n h1)))
    (λ n1 g. branch P (variable_of vs e) _ _ _ g
    (λ from h1 g1. subst (λ (r : Step). IsStep text vs (Assigns at first x sign e) r) (some-is (step.Move to from) s g1) (moved a (named-sound vs e from h1)))
    (λ n2 k. change-sound text vs at first sign to x e s a k))

assignment-sound : (text : List ℕ) (vs : List Variable) (at : ℕ) (a : Simple) (s : Step) → assignment_of text vs a ≡ Some s → IsStep text vs (stmt.Simple at a) s
assignment-sound text vs at (simple.Assignment first x sign assign.Assign e) s h =
    bind (IsStep text vs (Assigns at first x sign e) s) (variable_of vs x) _ s h (λ to h1 g1. value-sound text vs at first sign to x e s (named-sound vs x to h1) g1)
assignment-sound text vs at a s h = absurd (cc)

step-sound-at : (text : List ℕ) (vs : List Variable) (o : Stmt-F Stmt) (s : Step) → step_in text vs o ≡ Some s → IsStep text vs (roll-Stmt o) s
step-sound-at text vs (Stmt-F.Require at e None) s h =
    bind (IsStep text vs (roll-Stmt (Stmt-F.Require at e None)) s) (test_of vs e) _ s h (λ t h1 g1.
    let made : IsStep text vs (stmt.Require at e None) (step.Require t.variable t.order t.number) = required (test-sound vs e t h1) in
    subst (λ (r : Step). IsStep text vs (roll-Stmt (Stmt-F.Require at e None)) r) (some-is (step.Require t.variable t.order t.number) s g1) (subst (λ (u : Stmt). IsStep text vs u (step.Require t.variable t.order t.number)) (sym (stmt.rolls-Require at e None)) made))
step-sound-at text vs (Stmt-F.Assert at e) s h =
    bind (IsStep text vs (roll-Stmt (Stmt-F.Assert at e)) s) (test_of vs e) _ s h (λ t h1 g1.
    let r : Step = step.Assert (line_of text at) (column_of text at) t.variable t.order t.number in
    let made : IsStep text vs (stmt.Assert at e) r = asserted (test-sound vs e t h1) in
    subst (λ (q : Step). IsStep text vs (roll-Stmt (Stmt-F.Assert at e)) q) (some-is r s g1) (subst (λ (u : Stmt). IsStep text vs u r) (sym (stmt.rolls-Assert at e)) made))
step-sound-at text vs (Stmt-F.Simple at a) s h = subst (λ (u : Stmt). IsStep text vs u s) (sym (stmt.rolls-Simple at a)) (assignment-sound text vs at a s h)
step-sound-at text vs o s h = absurd (cc)

pub step-sound : (text : List ℕ) (vs : List Variable) (t : Stmt) (s : Step) → step_of text vs t ≡ Some s → IsStep text vs t s
unfolding step_of
step-sound text vs t s h = subst (λ (u : Stmt). IsStep text vs u s) (roll-out-Stmt t) (step-sound-at text vs (out-Stmt t) s h)

-- ---- what is so is read

module _ (vs : List Variable) (d : Differ (variable_names vs)) where
  named-complete : {e : ExprTree} {v : ℕ} → IsNamed vs e v → variable_of vs e ≡ Some v
  unfolding variable_of
  named-complete (named {at} {v} {x} h) = ap (named_in vs) (expr.outs-Named at x.name) ∙ place-complete vs v x d h

  named-no_number : {e : ExprTree} {v : ℕ} → IsNamed vs e v → number_of e ≡ None
  unfolding number_of
  named-no_number (named {at} {v} {x} h) = ap number_in (expr.outs-Named at x.name)

  number-complete : {e : ExprTree} {n : ℤ} → IsNumber e n → number_of e ≡ Some n
  unfolding number_of
  number-complete (number {at} {n} {hex}) = ap number_in (expr.outs-Number at n hex None)

  order-complete : (o : Order) → order_of (operator_of o) ≡ Some o
  order-complete order.Less = refl
  order-complete order.LessEqual = refl
  order-complete order.Greater = refl
  order-complete order.GreaterEqual = refl

  test-complete : {e : ExprTree} {v : ℕ} {o : Order} {n : ℤ} → IsTest vs e v o n → test_of vs e ≡ Some (record { variable = v; order = o; number = n })
  unfolding test_of
  test-complete (compared {at} {v} {sign} {o} {n} {x} {e} a b) = rw (expr.outs-Binary at x sign (operator_of o) e, order-complete o, named-complete a, number-complete b) refl

  -- the value of a sum or a difference
  change-complete : (text : List ℕ) (begin sign to from : ℕ) (n : ℤ) (y e : ExprTree) (o : BinaryOp) → IsNamed vs y from → IsNumber e n → value_of text vs to (expr.Binary begin y sign o e) ≡ changed text o sign to from n
  unfolding value_of change_of variable_of number_of
  change-complete text begin sign to from n y e o a b =
      let t : out-ExprTree (expr.Binary begin y sign o e) ≡ ExprTree-F.Binary begin y sign o e = expr.outs-Binary begin y sign o e in
      rw (t) (ap (λ (r : Option ℕ). with_value r (λ from. with_value (number_of e) (λ n. changed text o sign to from n))) (named-complete a) ∙ ap (λ (r : Option ℤ). with_value r (λ n. changed text o sign to from n)) (number-complete b))

  pub step-complete : (text : List ℕ) (t : Stmt) (s : Step) → IsStep text vs t s → step_of text vs t ≡ Some s
  unfolding step_of value_of
  step-complete text _ _ (required {at} {v} {o} {n} {e} a) = rw (stmt.outs-Require at e None, test-complete a) refl
  step-complete text _ _ (asserted {at} {v} {o} {n} {e} a) = rw (stmt.outs-Assert at e, test-complete a) refl
  step-complete text _ _ (put {at} {first} {sign} {to} {n} {x} {e} a b) = rw (stmt.outs-Simple at (simple.Assignment first x sign assign.Assign e), named-complete a, number-complete b) refl
  step-complete text _ _ (moved {at} {first} {sign} {to} {from} {x} {y} a b) = rw (stmt.outs-Simple at (simple.Assignment first x sign assign.Assign y), named-complete a, named-no_number b, named-complete b) refl
  step-complete text _ _ (added {at} {first} {sign} {begin} {plus} {to} {from} {n} {x} {y} {e} a b c) = rw (stmt.outs-Simple at (simple.Assignment first x sign assign.Assign (expr.Binary begin y plus operator.Add e)), named-complete a) (change-complete text begin plus to from n y e operator.Add b c)
  step-complete text _ _ (subtracted {at} {first} {sign} {begin} {minus} {to} {from} {n} {x} {y} {e} a b c) = rw (stmt.outs-Simple at (simple.Assignment first x sign assign.Assign (expr.Binary begin y minus operator.Subtract e)), named-complete a) (change-complete text begin minus to from n y e operator.Subtract b c)
