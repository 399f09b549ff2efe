-- What is read at a place is the longest expression that stands there.
use Rattle.std.proofs.Common.{◌≡◌, ◌∙◌, sym, ap, subst, ℕ, ◌-◌, ◌≤◌, List, ◌++◌, take, drop, length, length-append, length-drop, Option, Some, None, arith}
use Rattle.std.proofs.lemmas.List.{take_at, take-append-drop}
use Rattle.sol_tree.specs.declared.token.Token.{Token}
use Rattle.sol_tree.specs.declared.expr.ExprTree as tree
use Rattle.sol_parse_expr.specs.Grammar.{Spells}
use Rattle.sol_parse_expr.specs.Longest.{Stands, Longest}
use Rattle.sol_parse_expr.specs.Reading.{expr_at}
use Rattle.sol_parse_expr.proofs.Read.{expr-read}
use Rattle.sol_parse_expr.proofs.Far.{expr-longest}

pub found-fewer : (ts : List Token) (from d : ℕ) (e : tree.ExprTree) (h : ℕ) (rest : List Token) → expr_at d 10 (drop from ts) ≡ Some (e, h, rest) → length rest ≤ length ts
found-fewer ts from d e h rest q =
    let p = expr-read d 10 (omega arith) (drop from ts) e h rest q in
    let long : length (drop from ts) ≡ length (p.0 ++ rest) = ap length p.2 in
    omega (arith, long, length-append p.0 rest, length-drop from ts)

pub found-stands : (ts : List Token) (from level : ℕ) (e : tree.ExprTree) (h : ℕ) (rest : List Token) → from ≤ length ts → level ≤ 128 → expr_at (129 - level) 10 (drop from ts) ≡ Some (e, h, rest) → Stands ts from level e (length ts - length rest)
found-stands ts from level e h rest in_them few q =
    let p = expr-read (129 - level) 10 (omega arith) (drop from ts) e h rest q in
    let long : length (drop from ts) ≡ length (p.0 ++ rest) = ap length p.2 in
    let size : length p.0 ≡ length ts - length rest - from = omega (arith, long, length-append p.0 rest, length-drop from ts) in
    let same : take (length ts - length rest - from) (drop from ts) ≡ p.0 = ap (λ (us : List Token). take (length ts - length rest - from) us) p.2 ∙ take_at p.0 rest (length ts - length rest - from) size in
    record {
      forward = omega (arith, long, length-append p.0 rest, length-drop from ts);
      inside = omega arith;
      spells = subst (λ (us : List Token). Spells 10 e us) (sym same) p.1;
      low = omega (arith, p.3, p.4);
    }

-- where an expression stands, one is read that leaves no more tokens
reaches : (ts : List Token) (from level : ℕ) (f : tree.ExprTree) (to : ℕ) → level ≤ 128 → Stands ts from level f to → (e : tree.ExprTree) × (h : ℕ) × (rest : List Token) × (expr_at (129 - level) 10 (drop from ts) ≡ Some (e, h, rest)) × (length rest ≤ length ts - to)
reaches ts from level f to few s =
    let rest : List Token = drop (to - from) (drop from ts) in
    let p = expr-longest s.spells (129 - level) (omega (arith, s.low)) rest in
    let same : expr_at (129 - level) 10 (drop from ts) ≡ Some (p.0, p.1, p.2) = ap (λ (us : List Token). expr_at (129 - level) 10 us) (sym (take-append-drop (to - from) (drop from ts))) ∙ p.3 in
    (p.0, p.1, p.2, same, omega (arith, p.4, length-drop (to - from) (drop from ts), length-drop from ts, s.forward, s.inside))

same-rest : (e f : tree.ExprTree) (h n : ℕ) (ts us : List Token) → ◌≡◌ {A = Option (tree.ExprTree × ℕ × List Token)} (Some (e, h, ts)) (Some (f, n, us)) → ts ≡ us
same-rest e f h n ts us q =
    let i : ◌≡◌ {A = tree.ExprTree × ℕ × List Token} (e, h, ts) (f, n, us) = cc in
    ap (λ (p : tree.ExprTree × ℕ × List Token). p.2) i

pub found-longest : (ts : List Token) (from level : ℕ) (e : tree.ExprTree) (h : ℕ) (rest : List Token) → level ≤ 128 → expr_at (129 - level) 10 (drop from ts) ≡ Some (e, h, rest) → Longest ts from level (length ts - length rest)
found-longest ts from level e h rest few q f to s =
    let p = reaches ts from level f to few s in
    let same : rest ≡ p.2 = same-rest e p.0 h p.1 rest p.2 (sym q ∙ p.3) in
    omega (arith, ap length same, p.4, s.inside)

pub found-none : (ts : List Token) (from level : ℕ) → level ≤ 128 → expr_at (129 - level) 10 (drop from ts) ≡ None → (f : tree.ExprTree) (to : ℕ) → Stands ts from level f to → ⊥
found-none ts from level few q f to s =
    let p = reaches ts from level f to few s in
    let none : ◌≡◌ {A = Option (tree.ExprTree × ℕ × List Token)} None (Some (p.0, p.1, p.2)) = sym q ∙ p.3 in
    absurd (cc)
