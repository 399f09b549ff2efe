-- The contracts of the tests are well typed.
use Rattle.std.proofs.Common.{◌≡◌, sym, subst, ℕ, List, [], ◌∷◌, pos, arith}
use Rattle.std.specs.List.{All}
use Rattle.std.proofs.lemmas.Int.{ints}
use Rattle.std.proofs.lemmas.List.Elements.{All-nil, All-cons, All-same}
use Rattle.chc_nums.specs.Types.{IsSize}
use Rattle.sol_first.specs.declared.Variable.{Variable}
use Rattle.sol_first.specs.declared.Order.TheVariants as order
use Rattle.sol_first.specs.declared.Step.{Step}
use Rattle.sol_first.specs.declared.Step.TheVariants as step
use Rattle.sol_first.specs.declared.Function.{Function}
use Rattle.sol_first.specs.declared.Contract.{Contract}
use Rattle.sol_first.specs.Typed.{StepTyped, IsTyped}

typed : (c : Contract) (vs : List Variable) (fs : List Function) → c.variables ≡ vs → c.functions ≡ fs → All (λ v. IsSize v.size) vs → All (λ f. All (StepTyped vs) f.steps) fs → IsTyped c
typed c vs fs e g sizes steps =
    let S : List Variable → Type 0 = λ us. All (λ f. All (StepTyped us) f.steps) c.functions in
    record { sizes = All-same (λ v. IsSize v.size) c.variables vs e sizes; steps = subst S (sym e) (All-same (λ f. All (StepTyped vs) f.steps) c.functions fs g steps) }

one-typed : (vs : List Variable) (a : Step) → StepTyped vs a → All (StepTyped vs) (a ∷ [])
one-typed vs a h = All-cons (StepTyped vs) a [] h (All-nil (StepTyped vs))

two-typed : (vs : List Variable) (a b : Step) → StepTyped vs a → StepTyped vs b → All (StepTyped vs) (a ∷ b ∷ [])
two-typed vs a b h k = All-cons (StepTyped vs) a (b ∷ []) h (one-typed vs b k)

three-typed : (vs : List Variable) (a b c : Step) → StepTyped vs a → StepTyped vs b → StepTyped vs c → All (StepTyped vs) (a ∷ b ∷ c ∷ [])
three-typed vs a b c h k l = All-cons (StepTyped vs) a (b ∷ c ∷ []) h (two-typed vs b c k l)

one-variable : (v : Variable) → IsSize v.size → All (λ u. IsSize u.size) (v ∷ [])
one-variable v h = All-cons (λ u. IsSize u.size) v [] h (All-nil (λ u. IsSize u.size))

one-function : (vs : List Variable) (f : Function) → All (StepTyped vs) f.steps → All (λ g. All (StepTyped vs) g.steps) (f ∷ [])
one-function vs f h = All-cons (λ g. All (StepTyped vs) g.steps) f [] h (All-nil (λ g. All (StepTyped vs) g.steps))

pub counter-typed : (c : Contract) (x f : List ℕ) → c.variables ≡ (record { size = 12; name = x }) ∷ [] → c.functions ≡ (record { name = f; steps = step.Require 0 order.Less (pos 10) ∷ step.Add 4 9 0 0 (pos 1) ∷ step.Assert 5 5 0 order.LessEqual (pos 10) ∷ [] }) ∷ [] → IsTyped c
counter-typed c x f e g =
    let v : Variable = record { size = 12; name = x } in
    let vs : List Variable = (record { size = 12; name = x }) ∷ [] in
    let a : Step = step.Require 0 order.Less (pos 10) in
    let b : Step = step.Add 4 9 0 0 (pos 1) in
    let d : Step = step.Assert 5 5 0 order.LessEqual (pos 10) in
    let h : Function = record { name = f; steps = step.Require 0 order.Less (pos 10) ∷ step.Add 4 9 0 0 (pos 1) ∷ step.Assert 5 5 0 order.LessEqual (pos 10) ∷ [] } in
    typed c vs (h ∷ []) e g (one-variable v (omega arith, omega arith))
    (one-function vs h (three-typed vs a b d (omega arith, (omega (arith, ints), omega (arith, ints))) (omega arith, omega arith, omega arith, (omega (arith, ints), omega (arith, ints))) (omega arith, (omega (arith, ints), omega (arith, ints)))))

pub pair-typed : (c : Contract) (x y f g : List ℕ) → c.variables ≡ (record { size = 1; name = x }) ∷ (record { size = 2; name = y }) ∷ [] → c.functions ≡ (record { name = f; steps = step.Add 4 9 1 0 (pos 250) ∷ step.Put 0 (pos 7) ∷ [] }) ∷ (record { name = g; steps = step.Subtract 8 9 1 1 (pos 3) ∷ step.Move 1 0 ∷ step.Assert 9 5 0 order.Less (pos 201) ∷ [] }) ∷ [] → IsTyped c
pair-typed c x y f g e d =
    let v : Variable = record { size = 1; name = x } in
    let w : Variable = record { size = 2; name = y } in
    let vs : List Variable = (record { size = 1; name = x }) ∷ (record { size = 2; name = y }) ∷ [] in
    let h : Function = record { name = f; steps = step.Add 4 9 1 0 (pos 250) ∷ step.Put 0 (pos 7) ∷ [] } in
    let k : Function = record { name = g; steps = step.Subtract 8 9 1 1 (pos 3) ∷ step.Move 1 0 ∷ step.Assert 9 5 0 order.Less (pos 201) ∷ [] } in
    typed c vs (h ∷ k ∷ []) e d (All-cons (λ u. IsSize u.size) v (w ∷ []) (omega arith, omega arith) (one-variable w (omega arith, omega arith)))
    (All-cons (λ j. All (StepTyped vs) j.steps) h (k ∷ [])
    (two-typed vs (step.Add 4 9 1 0 (pos 250)) (step.Put 0 (pos 7)) (omega arith, omega arith, omega arith, (omega (arith, ints), omega (arith, ints))) (omega arith, (omega (arith, ints), omega (arith, ints))))
    (one-function vs k (three-typed vs (step.Subtract 8 9 1 1 (pos 3)) (step.Move 1 0) (step.Assert 9 5 0 order.Less (pos 201)) (omega arith, omega arith, omega arith, (omega (arith, ints), omega (arith, ints))) (omega arith, omega arith, omega arith) (omega arith, (omega (arith, ints), omega (arith, ints))))))

pub ruleset examples = (counter-typed, pair-typed)
