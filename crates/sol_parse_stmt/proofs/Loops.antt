-- How reading goes on, turn by turn and level by level.
use Rattle.std.proofs.Common.{◌≡◌, refl, ℕ, zero, suc, ◌+◌, ◌-◌, ◌<◌, max, List, [], ◌∷◌, ◌++◌, Option, Some, None, arith}
use Rattle.sol_tree.specs.declared.token.Token.{Token}
use Rattle.sol_tree.specs.declared.stmt.Stmt as stmt
use Rattle.sol_parse_expr.specs.Reading.{Measured, or_tree}
use Rattle.sol_parse_stmt.specs.Reading.{statements_at, stmt_at, compound_at, leaf_at}

pub stmt_at-none : (d : ℕ) (ts : List Token) → d ≡ 0 → stmt_at d ts ≡ None
unfolding stmt_at
stmt_at-none zero ts h = refl
stmt_at-none (suc d) ts h = absurd (omega arith)

pub stmt_at-some : (d : ℕ) (ts : List Token) → 0 < d → stmt_at d ts ≡ or_tree (compound_at (d - 1) (stmt_at (d - 1)) ts) (leaf_at (d - 1) ts)
unfolding stmt_at
stmt_at-some zero ts h = absurd (omega arith)
stmt_at-some (suc d) ts h = let e : suc d - 1 ≡ d = omega arith in rw e refl

pub ruleset stmt_levels = (stmt_at-none, stmt_at-some)

pub statements-end : (inner : Measured stmt.Stmt) (k : ℕ) (ss : List stmt.Stmt) (h : ℕ) (ts : List Token) → k ≡ 0 → statements_at inner k ss h ts ≡ Some (ss, h, ts)
unfolding statements_at
statements-end inner zero ss h ts e = refl
statements-end inner (suc k) ss h ts e = absurd (omega arith)

pub statements-stop : (inner : Measured stmt.Stmt) (k : ℕ) (ss : List stmt.Stmt) (h : ℕ) (ts : List Token) → inner ts ≡ None → statements_at inner k ss h ts ≡ Some (ss, h, ts)
unfolding statements_at
statements-stop inner zero ss h ts e = refl
statements-stop inner (suc k) ss h ts e = rw e refl

pub statements-turn : (inner : Measured stmt.Stmt) (k : ℕ) (ss : List stmt.Stmt) (h : ℕ) (ts : List Token) (s : stmt.Stmt) (n : ℕ) (rest : List Token) → 0 < k → inner ts ≡ Some (s, n, rest) → statements_at inner k ss h ts ≡ statements_at inner (k - 1) (ss ++ (s ∷ [])) (max h n) rest
unfolding statements_at
statements-turn inner zero ss h ts s n rest l e = absurd (omega arith)
statements-turn inner (suc k) ss h ts s n rest l e = let r : suc k - 1 ≡ k = omega arith in rw (e, r) refl

pub ruleset statement_loops = (statements-end, statements-stop, statements-turn)
