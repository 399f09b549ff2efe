-- How a list is read, turn by turn.
use Rattle.std.proofs.Common.{◌≡◌, refl, ℕ, zero, suc, ◌-◌, ◌<◌, max, List, [], ◌∷◌, ◌++◌, Option, Some, None, arith}
use Rattle.sol_tree.specs.declared.token.Token.{Token}
use Rattle.sol_parse_expr.specs.Reading.{Measured}
use Rattle.sol_parser.specs.Reading.{repeated_at}

pub repeated-end : {A : Type 0} (one : Measured A) (k : ℕ) (xs : List A) (h : ℕ) (ts : List Token) → k ≡ 0 → repeated_at one k xs h ts ≡ Some (xs, h, ts)
unfolding repeated_at
repeated-end one zero xs h ts e = refl
repeated-end one (suc k) xs h ts e = absurd (omega arith)

pub repeated-stop : {A : Type 0} (one : Measured A) (k : ℕ) (xs : List A) (h : ℕ) (ts : List Token) → one ts ≡ None → repeated_at one k xs h ts ≡ Some (xs, h, ts)
unfolding repeated_at
repeated-stop one zero xs h ts e = refl
repeated-stop one (suc k) xs h ts e = rw e refl

pub repeated-turn : {A : Type 0} (one : Measured A) (k : ℕ) (xs : List A) (h : ℕ) (ts : List Token) (x : A) (n : ℕ) (rest : List Token) → 0 < k → one ts ≡ Some (x, n, rest) → repeated_at one k xs h ts ≡ repeated_at one (k - 1) (xs ++ (x ∷ [])) (max h n) rest
unfolding repeated_at
repeated-turn one zero xs h ts x n rest l e = absurd (omega arith)
repeated-turn one (suc k) xs h ts x n rest l e = let r : suc k - 1 ≡ k = omega arith in rw (e, r) refl

pub ruleset turns = (repeated-end, repeated-stop, repeated-turn)
