-- How reading goes on, turn by turn.
use Rattle.std.proofs.Common.{◌≡◌, ◌∙◌, refl, subst, ℕ, zero, suc, ◌+◌, ◌-◌, ◌<◌, ◌≤◌, max, length, List, [], ◌∷◌, ◌++◌, Bool, true, false, Some, None, nat_lt, cond, arith}
use Rattle.std.proofs.lemmas.Bool.Decides.{nat_tests}
use Rattle.sol_tree.specs.declared.token.Token.{Token}
use Rattle.sol_tree.specs.declared.types.Type as types
use Rattle.sol_tree.specs.declared.expr.ExprTree as tree
use Rattle.sol_parse_expr.specs.Reading.{Measured, grow, type_at, first_type_at, brackets_at, array_of, then_tree, ByPrecedence, expr_at, ladder, rung, argument_at, arguments_at}

pub type_at-none : (d : ℕ) (ts : List Token) → d ≡ 0 → type_at d ts ≡ None
unfolding type_at
type_at-none zero ts h = refl
type_at-none (suc d) ts h = absurd (omega arith)

pub type_at-some : (d : ℕ) (ts : List Token) → 0 < d → type_at d ts ≡ then_tree (first_type_at (type_at (d - 1)) ts) (λ t h rest. grow array_of (d - 1) brackets_at (length rest) t h rest)
unfolding type_at
type_at-some zero ts h = absurd (omega arith)
type_at-some (suc d) ts h = let e : suc d - 1 ≡ d = omega arith in rw e refl

pub ruleset type_levels = (type_at-none, type_at-some)

pub grow-end : {A P : Type 0} (join : A → P → A) (d : ℕ) (step : Measured P) (k : ℕ) (a : A) (h : ℕ) (ts : List Token) → k ≡ 0 → grow join d step k a h ts ≡ Some (a, h, ts)
unfolding grow
grow-end join d step zero a h ts e = refl
grow-end join d step (suc k) a h ts e = absurd (omega arith)

pub grow-high : {A P : Type 0} (join : A → P → A) (d : ℕ) (step : Measured P) (k : ℕ) (a : A) (h : ℕ) (ts : List Token) → d < h → grow join d step k a h ts ≡ Some (a, h, ts)
unfolding grow
grow-high join d step zero a h ts e = refl
grow-high join d step (suc k) a h ts e = let q : nat_lt d h ≡ true = grind (arith, nat_tests) in rw q refl

either-way : {A : Type 0} (b : Bool) (x : A) → cond b x x ≡ x
either-way true x = refl
either-way false x = refl

pub grow-stop : {A P : Type 0} (join : A → P → A) (d : ℕ) (step : Measured P) (k : ℕ) (a : A) (h : ℕ) (ts : List Token) → step ts ≡ None → grow join d step k a h ts ≡ Some (a, h, ts)
unfolding grow
grow-stop join d step zero a h ts e = refl
grow-stop join d step (suc k) a h ts e = rw e (either-way (nat_lt d h) (Some (a, h, ts)))

pub grow-turn : {A P : Type 0} (join : A → P → A) (d : ℕ) (step : Measured P) (k : ℕ) (a : A) (h : ℕ) (ts : List Token) (p : P) (n : ℕ) (rest : List Token) → 0 < k → h ≤ d → step ts ≡ Some (p, n, rest) → grow join d step k a h ts ≡ grow join d step (k - 1) (join a p) (max h n + 1) rest
unfolding grow
grow-turn join d step zero a h ts p n rest l m e = absurd (omega arith)
grow-turn join d step (suc k) a h ts p n rest l m e =
    let q : nat_lt d h ≡ false = grind (arith, nat_tests) in
    let r : suc k - 1 ≡ k = omega arith in
    rw (q, e, r) refl

-- one turn alone
pub grow-once : {A P : Type 0} (join : A → P → A) (d : ℕ) (step : Measured P) (a : A) (h : ℕ) (ts : List Token) (p : P) (n : ℕ) (rest : List Token) → h ≤ d → step ts ≡ Some (p, n, rest) → grow join d step 1 a h ts ≡ Some (join a p, max h n + 1, rest)
grow-once join d step a h ts p n rest m e = grow-turn join d step 1 a h ts p n rest (omega arith) m e ∙ grow-end join d step (1 - 1) (join a p) (max h n + 1) rest (omega arith)

pub ruleset choice_loops = (grow-high, grow-stop, grow-once)

same-greatest : (h : ℕ) → max h 0 ≡ h
same-greatest h = omega arith

-- a pair of brackets adds one level
pub grow-array : (d k : ℕ) (a : types.Type) (h : ℕ) (ts rest : List Token) → 0 < k → h ≤ d → brackets_at ts ≡ Some (tt, 0, rest) → grow array_of d brackets_at k a h ts ≡ grow array_of d brackets_at (k - 1) (array_of a tt) (h + 1) rest
grow-array d k a h ts rest l m e = subst (λ (n : ℕ). grow array_of d brackets_at k a h ts ≡ grow array_of d brackets_at (k - 1) (array_of a tt) (n + 1) rest) (same-greatest h) (grow-turn array_of d brackets_at k a h ts tt 0 rest l m e)

pub ruleset array_loops = (grow-end, grow-high, grow-stop, grow-array)

pub ruleset loops = (grow-end, grow-high, grow-stop, grow-turn)

pub expr_at-none : (d l : ℕ) (ts : List Token) → d ≡ 0 → expr_at d l ts ≡ None
unfolding expr_at
expr_at-none zero l ts h = refl
expr_at-none (suc d) l ts h = absurd (omega arith)

pub expr_at-some : (d l : ℕ) (ts : List Token) → 0 < d → expr_at d l ts ≡ ladder (d - 1) (expr_at (d - 1)) l ts
unfolding expr_at
expr_at-some zero l ts h = absurd (omega arith)
expr_at-some (suc d) l ts h = let e : suc d - 1 ≡ d = omega arith in rw e refl

pub ruleset expr_levels = (expr_at-none, expr_at-some)

pub ladder-none : (d : ℕ) (inner : ByPrecedence) (l : ℕ) (ts : List Token) → l ≡ 0 → ladder d inner l ts ≡ None
unfolding ladder
ladder-none d inner zero ts h = refl
ladder-none d inner (suc l) ts h = absurd (omega arith)

pub ladder-some : (d : ℕ) (inner : ByPrecedence) (l : ℕ) (ts : List Token) → 0 < l → ladder d inner l ts ≡ rung l d inner (ladder d inner (l - 1)) ts
unfolding ladder
ladder-some d inner zero ts h = absurd (omega arith)
ladder-some d inner (suc l) ts h = let e : suc l - 1 ≡ l = omega arith in rw e refl

pub ruleset ladders = (ladder-none, ladder-some)

pub arguments-end : (inner : ByPrecedence) (k : ℕ) (es : List tree.ExprTree) (h : ℕ) (ts : List Token) → k ≡ 0 → arguments_at inner k es h ts ≡ Some (es, h, ts)
unfolding arguments_at
arguments-end inner zero es h ts e = refl
arguments-end inner (suc k) es h ts e = absurd (omega arith)

pub arguments-stop : (inner : ByPrecedence) (k : ℕ) (es : List tree.ExprTree) (h : ℕ) (ts : List Token) → argument_at inner ts ≡ None → arguments_at inner k es h ts ≡ Some (es, h, ts)
unfolding arguments_at
arguments-stop inner zero es h ts e = refl
arguments-stop inner (suc k) es h ts e = rw e refl

pub arguments-turn : (inner : ByPrecedence) (k : ℕ) (es : List tree.ExprTree) (h : ℕ) (ts : List Token) (a : tree.ExprTree) (n : ℕ) (rest : List Token) → 0 < k → argument_at inner ts ≡ Some (a, n, rest) → arguments_at inner k es h ts ≡ arguments_at inner (k - 1) (es ++ (a ∷ [])) (max h n) rest
unfolding arguments_at
arguments-turn inner zero es h ts a n rest l e = absurd (omega arith)
arguments-turn inner (suc k) es h ts a n rest l e = let r : suc k - 1 ≡ k = omega arith in rw (e, r) refl

pub ruleset argument_loops = (arguments-end, arguments-stop, arguments-turn)
