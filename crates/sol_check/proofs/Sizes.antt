-- The program of a contract of the first language computes in types that have sizes of Solidity.
use Rattle.std.proofs.Common.{◌≡◌, ◌∙◌, refl, ap, ℕ, suc, ◌+◌, ◌<◌, List, [], ◌∷◌, length, get_or, Bool, true, false, cond, ◌&&◌, eqb, inl, inr, nat_le, arith}
use Rattle.std.specs.List.{All, list_all}
use Rattle.std.proofs.lemmas.Bool.Decides.{nat_tests}
use Rattle.std.proofs.lemmas.Option.{slice_get_cases}
use Rattle.std.proofs.lemmas.Bool.{and_from}
use lib.IntN.{ℤ}
use Rattle.chc_nums.specs.Types.{IsSize}
use Rattle.sol_core.specs.declared.Expr.{Expr, Num, Scalar, Cast}
use Rattle.sol_core.specs.declared.Stmt.{Set}
use Rattle.sol_core.specs.declared.Place.TheVariants as place
use Rattle.chc_nums.specs.declared.Op.{Op}
use Rattle.chc_nums.specs.declared.Op.TheVariants as op
use Rattle.sol_core.specs.declared.PanicSites.{PanicSites}
use Rattle.sol_first.specs.declared.Variable.{Variable}
use Rattle.sol_first.specs.declared.Order.{Order}
use Rattle.sol_first.specs.declared.Step.{Step}
use Rattle.sol_first.specs.declared.Step.TheVariants as step
use Rattle.sol_first.specs.declared.Function.{Function}
use Rattle.sol_first.specs.declared.Contract.{Contract}
use Rattle.sol_first.specs.Typed.{size_of, size_at, StepTyped, IsTyped}
use Rattle.sol_first.specs.Elaborated.{type_at, sites_of_step, sites_of_steps, cmp_of, condition, converted, over_site, under_site, shifted, stmt_of, stmts_of, fun_of, funs_of, program_of}
use Rattle.sol_eval.specs.Sized.{is_size, type_sized, expr_sized, stmt_sized, fun_sized, is_sized}
use Rattle.sol_eval.proofs.Sizes.{sized-Num, sized-Scalar, sized-Arith, sized-Compare, sized-Cast, sized-Set, sized-Require, sized-Assert}

module _ (vars : List Variable) (sizes : All (λ v. IsSize v.size) vars) where
  declared-sized : (i : ℕ) → i < length vars → type_sized (type_at vars i) ≡ true
  declared-sized i h = elim (slice_get_cases vars i).1 [
    | inl there ↦
        let size : IsSize (get_or vars i there.0).size = sizes i there.0 h in
        let exact : IsSize there.0.size = rw there.3 at size in
        let e : size_at vars i ≡ there.0.size = ap size_of there.2 in
        ap is_size e ∙ and_from (nat_le 1 there.0.size) (nat_le there.0.size 12) (grind (arith, nat_tests)) (grind (arith, nat_tests))
    | inr past ↦ absurd (omega arith)
  ]

  condition-sized : (i : ℕ) (o : Order) (n : ℤ) → expr_sized (condition vars i o n) ≡ true
  condition-sized i o n = sized-Compare (cmp_of o) (Scalar i) (Num n (type_at vars i)) ∙ and_from (expr_sized (Scalar i)) (expr_sized (Num n (type_at vars i))) (sized-Scalar i) (sized-Num n (type_at vars i))

  either-sized : (b : Bool) (from to : ℕ) (e : Expr) → to < length vars → expr_sized e ≡ true → expr_sized (cond b e (Cast (type_at vars from) (type_at vars to) e)) ≡ true
  either-sized true from to e h s = s
  either-sized false from to e h s = sized-Cast (type_at vars from) (type_at vars to) e ∙ and_from (type_sized (type_at vars to)) (expr_sized e) (declared-sized to h) s

  converted-sized : (from to : ℕ) (e : Expr) → to < length vars → expr_sized e ≡ true → expr_sized (converted vars from to e) ≡ true
  converted-sized from to e h s = either-sized (eqb (size_at vars from) (size_at vars to)) from to e h s

  shifted-sized : (o : Op) (from : ℕ) (n : ℤ) (m : PanicSites) → from < length vars → expr_sized (shifted vars o from n m) ≡ true
  shifted-sized o from n m h =
      sized-Arith o (type_at vars from) true (Scalar from) (Num n (type_at vars from)) m
      ∙ and_from (type_sized (type_at vars from)) (expr_sized (Scalar from) && expr_sized (Num n (type_at vars from))) (declared-sized from h)
      (and_from (expr_sized (Scalar from)) (expr_sized (Num n (type_at vars from))) (sized-Scalar from) (sized-Num n (type_at vars from)))

  put-sized : (to : ℕ) (e : Expr) → expr_sized e ≡ true → stmt_sized (Set (place.Scalar to) e) ≡ true
  put-sized to e s = sized-Set (place.Scalar to) e ∙ s

  step-sized : (site : ℕ) (s : Step) → StepTyped vars s → stmt_sized (stmt_of vars site s) ≡ true
  step-sized site (step.Require i o n) h = sized-Require (condition vars i o n) ∙ condition-sized i o n
  step-sized site (step.Assert l c i o n) h = sized-Assert (condition vars i o n) site ∙ condition-sized i o n
  step-sized site (step.Put to n) h = put-sized to (Num n (type_at vars to)) (sized-Num n (type_at vars to))
  step-sized site (step.Move to from) h = put-sized to (converted vars from to (Scalar from)) (converted-sized from to (Scalar from) h.0 (sized-Scalar from))
  step-sized site (step.Add l c to from n) h =
      put-sized to (converted vars from to (shifted vars op.Add from n (over_site site))) (converted-sized from to (shifted vars op.Add from n (over_site site)) h.0 (shifted-sized op.Add from n (over_site site) h.1))
  step-sized site (step.Subtract l c to from n) h =
      put-sized to (converted vars from to (shifted vars op.Sub from n (under_site site))) (converted-sized from to (shifted vars op.Sub from n (under_site site)) h.0 (shifted-sized op.Sub from n (under_site site) h.1))

  steps-sized : (first : ℕ) (ss : List Step) → All (StepTyped vars) ss → list_all stmt_sized (stmts_of vars first ss) ≡ true
  steps-sized first [] h = refl
  steps-sized first (s ∷ ss) h =
      and_from (stmt_sized (stmt_of vars first s)) (list_all stmt_sized (stmts_of vars (first + length (sites_of_step s)) ss)) (step-sized first s (h 0 s (omega arith)))
      (steps-sized (first + length (sites_of_step s)) ss (λ k d below. let next : suc k < length (s ∷ ss) = omega arith in h (suc k) d next))

  functions-sized : (first : ℕ) (fs : List Function) → All (λ f. All (StepTyped vars) f.steps) fs → list_all fun_sized (funs_of vars first fs) ≡ true
  functions-sized first [] h = refl
  functions-sized first (f ∷ fs) h =
      and_from (fun_sized (fun_of vars first f)) (list_all fun_sized (funs_of vars (first + length (sites_of_steps f.steps)) fs)) (steps-sized first f.steps (h 0 f (omega arith)))
      (functions-sized (first + length (sites_of_steps f.steps)) fs (λ k d below. let next : suc k < length (f ∷ fs) = omega arith in h (suc k) d next))

-- the program of a contract that is typed is one that the evaluator runs
pub program_sized : (c : Contract) → IsTyped c → is_sized (program_of c) ≡ true
program_sized c h = and_from (list_all fun_sized (funs_of c.variables 0 c.functions)) true (functions-sized c.variables h.sizes 0 c.functions h.steps) refl
