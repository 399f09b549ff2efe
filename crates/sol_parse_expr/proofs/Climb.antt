-- How reading goes on from a tree that stands, precedence by precedence.
use Rattle.std.proofs.Common.{◌≡◌, ◌∙◌, sym, subst, refl, ℕ, zero, suc, ◌+◌, ◌-◌, ◌<◌, ◌≤◌, List, length, Bool, true, false, cond, ◌&&◌, ◌||◌, nat_eq, nat_lt, Some, None, inl, inr, codes, arith}
use Rattle.std.specs.Prelude.{if◌then◌else◌}
use Rattle.std.proofs.lemmas.Bool.Decides.{nat_tests}
use Rattle.sol_tree.specs.declared.token.Token.{Token}
use Rattle.sol_tree.specs.declared.expr.ExprTree as tree
use Rattle.sol_parse_expr.specs.Heights.{height}
use Rattle.sol_parse_expr.specs.Reading.{Measured, ByPrecedence, mark_at, then_tree, grow, index_at, member_at, member_suffix_at, call_at, suffix_at, suffixed, postfix_at, prefix_at, operand_at, joined, branches_at, chosen, more_at, ladder, expr_at}
use Rattle.sol_parse_expr.proofs.Tokens.{either}
use Rattle.sol_parse_expr.proofs.Loops.{grow-stop}
use Rattle.sol_parse_expr.proofs.Binding.{binds_at, binds-index, binds-member, binds-call, binds-question, quiet-mark, quiet-operator}

-- ---- the precedence, one by one

pub ladder-one : (d : ℕ) (inner : ByPrecedence) (ts : List Token) → ladder d inner 1 ts ≡ postfix_at d inner ts
unfolding ladder
ladder-one d inner ts = refl

pub ladder-two : (d : ℕ) (inner : ByPrecedence) (ts : List Token) → ladder d inner 2 ts ≡ prefix_at inner (postfix_at d inner) ts
unfolding ladder
ladder-two d inner ts = refl

pub ladder-loose : (d : ℕ) (inner : ByPrecedence) (l : ℕ) (ts : List Token) → 2 ≤ l → ladder d inner (suc l) ts ≡ then_tree (ladder d inner l ts) (λ e h rest. more_at (suc l) d inner e h rest)
unfolding ladder
ladder-loose d inner l ts q =
    let one : nat_eq (suc l) 1 ≡ false = grind (arith, nat_tests) in
    let two : nat_eq (suc l) 2 ≡ false = grind (arith, nat_tests) in
    rw (one, two) refl

pub more-three : (d : ℕ) (inner : ByPrecedence) (e : tree.ExprTree) (h : ℕ) (ts : List Token) → more_at 3 d inner e h ts ≡ grow joined d (operand_at 3 3 inner) 1 e h ts
unfolding more_at
more-three d inner e h ts = refl

pub more-ten : (d : ℕ) (inner : ByPrecedence) (e : tree.ExprTree) (h : ℕ) (ts : List Token) → more_at 10 d inner e h ts ≡ grow chosen d (branches_at inner) 1 e h ts
unfolding more_at
more-ten d inner e h ts = refl

pub more-left : (l d : ℕ) (inner : ByPrecedence) (e : tree.ExprTree) (h : ℕ) (ts : List Token) → 3 ≤ l → l < 9 → more_at (suc l) d inner e h ts ≡ grow joined d (operand_at (suc l) l inner) (length ts) e h ts
unfolding more_at
more-left l d inner e h ts p q =
    let three : nat_eq (suc l) 3 ≡ false = grind (arith, nat_tests) in
    let ten : nat_eq (suc l) 10 ≡ false = grind (arith, nat_tests) in
    let below : suc l - 1 ≡ l = omega arith in
    rw (three, ten, below) refl

-- ---- a tree of precedence l stands, and these tokens are left: the loop of that precedence, where it groups to the left

abbrev pub is_left : ℕ → Bool
is_left l = nat_lt 3 l && nat_lt l 10

unfoldable pub goes : ℕ → ℕ → ByPrecedence → ℕ → tree.ExprTree → ℕ → Measured tree.ExprTree
goes l d inner k e h ts =
    if nat_eq l 1 then grow suffixed d (suffix_at inner) k e h ts else (
    if is_left l then grow joined d (operand_at l (l - 1) inner) k e h ts else
    Some (e, h, ts))

pub goes-one : (d : ℕ) (inner : ByPrecedence) (k : ℕ) (e : tree.ExprTree) (h : ℕ) (ts : List Token) → goes 1 d inner k e h ts ≡ grow suffixed d (suffix_at inner) k e h ts
unfolding goes
goes-one d inner k e h ts = refl

left : (l : ℕ) → 3 ≤ l → l < 9 → is_left (suc l) ≡ true
left l p q = grind (arith, nat_tests)

pub goes-left : (l d : ℕ) (inner : ByPrecedence) (k : ℕ) (e : tree.ExprTree) (h : ℕ) (ts : List Token) → 3 ≤ l → l < 9 → goes (suc l) d inner k e h ts ≡ grow joined d (operand_at (suc l) l inner) k e h ts
unfolding goes
goes-left l d inner k e h ts p q =
    let one : nat_eq (suc l) 1 ≡ false = grind (arith, nat_tests) in
    let below : suc l - 1 ≡ l = omega arith in
    rw (one, left l p q, below) refl

pub goes-two : (d : ℕ) (inner : ByPrecedence) (k : ℕ) (e : tree.ExprTree) (h : ℕ) (ts : List Token) → goes 2 d inner k e h ts ≡ Some (e, h, ts)
unfolding goes
goes-two d inner k e h ts = refl

pub goes-three : (d : ℕ) (inner : ByPrecedence) (k : ℕ) (e : tree.ExprTree) (h : ℕ) (ts : List Token) → goes 3 d inner k e h ts ≡ Some (e, h, ts)
unfolding goes
goes-three d inner k e h ts = refl

pub goes-ten : (d : ℕ) (inner : ByPrecedence) (k : ℕ) (e : tree.ExprTree) (h : ℕ) (ts : List Token) → goes 10 d inner k e h ts ≡ Some (e, h, ts)
unfolding goes
goes-ten d inner k e h ts = refl

-- ---- where the next token binds more loosely, nothing goes on

quiet-suffix : (inner : ByPrecedence) (ts : List Token) → 1 < binds_at ts → suffix_at inner ts ≡ None
unfolding suffix_at index_at member_suffix_at member_at call_at
quiet-suffix inner ts q = rw (quiet-mark (codes "[") 1 ts binds-index q, quiet-mark (codes ".") 1 ts binds-member q, quiet-mark (codes "(") 1 ts binds-call q) refl

quiet-operand : (l r : ℕ) (inner : ByPrecedence) (ts : List Token) → l < binds_at ts → operand_at l r inner ts ≡ None
unfolding operand_at
quiet-operand l r inner ts q = rw (quiet-operator l ts q) refl

quiet-branches : (inner : ByPrecedence) (ts : List Token) → 10 < binds_at ts → branches_at inner ts ≡ None
unfolding branches_at
quiet-branches inner ts q = rw (quiet-mark (codes "?") 10 ts binds-question q) refl

quiet-left : (b : Bool) (l d : ℕ) (inner : ByPrecedence) (k : ℕ) (e : tree.ExprTree) (h : ℕ) (ts : List Token) → l < binds_at ts → cond b (grow joined d (operand_at l (l - 1) inner) k e h ts) (Some (e, h, ts)) ≡ Some (e, h, ts)
quiet-left true l d inner k e h ts q = grow-stop joined d (operand_at l (l - 1) inner) k e h ts (quiet-operand l (l - 1) inner ts q)
quiet-left false l d inner k e h ts q = refl

quiet-test : (b : Bool) (l d : ℕ) (inner : ByPrecedence) (k : ℕ) (e : tree.ExprTree) (h : ℕ) (ts : List Token) → nat_eq l 1 ≡ b → l < binds_at ts → goes l d inner k e h ts ≡ Some (e, h, ts)
unfolding goes
quiet-test true l d inner k e h ts t q =
    let one : l ≡ 1 = grind (arith, nat_tests) in
    rw t (grow-stop suffixed d (suffix_at inner) k e h ts (quiet-suffix inner ts (omega arith)))
quiet-test false l d inner k e h ts t q = rw t (quiet-left (is_left l) l d inner k e h ts q)

pub goes-quiet : (l d : ℕ) (inner : ByPrecedence) (k : ℕ) (e : tree.ExprTree) (h : ℕ) (ts : List Token) → l < binds_at ts → goes l d inner k e h ts ≡ Some (e, h, ts)
goes-quiet l d inner k e h ts q = quiet-test (nat_eq l 1) l d inner k e h ts refl q

-- ---- what has to stand after a tree of precedence l

unfoldable pub need : ℕ → ℕ
need l = if nat_eq l 1 || is_left l then l - 1 else l

need-test : (b : Bool) (l : ℕ) → (cond b (l - 1) l ≤ l) × (l ≤ cond b (l - 1) l + 1)
need-test true l = (omega arith, omega arith)
need-test false l = (omega arith, omega arith)

pub need-most : (l : ℕ) → need l ≤ l
unfolding need
need-most l = (need-test (nat_eq l 1 || is_left l) l).0

pub need-least : (l : ℕ) → l ≤ need (suc l)
unfolding need
need-least l = let h : suc l ≤ need (suc l) + 1 = (need-test (nat_eq (suc l) 1 || is_left (suc l)) (suc l)).1 in omega arith

pub need-one : need 1 ≡ 0
unfolding need
need-one = refl

pub need-two : need 2 ≡ 2
unfolding need
need-two = refl

pub need-three : need 3 ≡ 3
unfolding need
need-three = refl

pub need-ten : need 10 ≡ 10
unfolding need
need-ten = refl

pub need-left : (l : ℕ) → 3 ≤ l → l < 9 → need (suc l) ≡ l
unfolding need
need-left l p q =
    let one : nat_eq (suc l) 1 ≡ false = grind (arith, nat_tests) in
    let below : suc l - 1 ≡ l = omega arith in
    rw (one, left l p q) below

-- ---- reading at precedence l, and one precedence up

-- reading at precedence l is what goes on from the tree, with at least as many turns as tokens are left
abbrev pub Goes : ℕ → tree.ExprTree → ℕ → List Token → List Token → Type 0
Goes l e d ts rest = (k : ℕ) × (length rest ≤ k) × (ladder d (expr_at d) l ts ≡ goes l d (expr_at d) k e (height e) rest)

pub goes-exact : (l : ℕ) (e : tree.ExprTree) (d : ℕ) (ts rest : List Token) → Goes l e d ts rest → l < binds_at rest → ladder d (expr_at d) l ts ≡ Some (e, height e, rest)
goes-exact l e d ts rest p q = p.2 ∙ goes-quiet l d (expr_at d) p.0 e (height e) rest q

up-two : (e : tree.ExprTree) (d : ℕ) (ts rest : List Token) → ladder d (expr_at d) 1 ts ≡ Some (e, height e, rest) → mark_at (codes "!") ts ≡ None → mark_at (codes "-") ts ≡ None → Goes 2 e d ts rest
unfolding ladder prefix_at goes
up-two e d ts rest r x y = (length rest, omega arith, rw (x, y) r)

up-three : (e : tree.ExprTree) (d : ℕ) (ts rest : List Token) → ladder d (expr_at d) 2 ts ≡ Some (e, height e, rest) → 3 < binds_at rest → Goes 3 e d ts rest
up-three e d ts rest r q =
    let climb : ladder d (expr_at d) 3 ts ≡ more_at 3 d (expr_at d) e (height e) rest = ladder-loose d (expr_at d) 2 ts (omega arith) ∙ rw r refl in
    let stop = grow-stop joined d (operand_at 3 3 (expr_at d)) 1 e (height e) rest (quiet-operand 3 3 (expr_at d) rest q) in
    (length rest, omega arith, climb ∙ more-three d (expr_at d) e (height e) rest ∙ stop ∙ sym (goes-three d (expr_at d) (length rest) e (height e) rest))

up-ten : (e : tree.ExprTree) (d : ℕ) (ts rest : List Token) → ladder d (expr_at d) 9 ts ≡ Some (e, height e, rest) → 10 < binds_at rest → Goes 10 e d ts rest
up-ten e d ts rest r q =
    let climb : ladder d (expr_at d) 10 ts ≡ more_at 10 d (expr_at d) e (height e) rest = ladder-loose d (expr_at d) 9 ts (omega arith) ∙ rw r refl in
    let stop = grow-stop chosen d (branches_at (expr_at d)) 1 e (height e) rest (quiet-branches (expr_at d) rest q) in
    (length rest, omega arith, climb ∙ more-ten d (expr_at d) e (height e) rest ∙ stop ∙ sym (goes-ten d (expr_at d) (length rest) e (height e) rest))

up-left : (l : ℕ) (e : tree.ExprTree) (d : ℕ) (ts rest : List Token) → 3 ≤ l → l < 9 → ladder d (expr_at d) l ts ≡ Some (e, height e, rest) → Goes (suc l) e d ts rest
up-left l e d ts rest p q r =
    let climb : ladder d (expr_at d) (suc l) ts ≡ more_at (suc l) d (expr_at d) e (height e) rest = ladder-loose d (expr_at d) l ts (omega arith) ∙ rw r refl in
    (length rest, omega arith, climb ∙ more-left l d (expr_at d) e (height e) rest p q ∙ sym (goes-left l d (expr_at d) (length rest) e (height e) rest p q))

pub goes-up : (l : ℕ) (e : tree.ExprTree) (d : ℕ) (ts rest : List Token) → 1 ≤ l → l < 10 → Goes l e d ts rest → (l ≡ 1 → (mark_at (codes "!") ts ≡ None) × (mark_at (codes "-") ts ≡ None)) → need (suc l) < binds_at rest → Goes (suc l) e d ts rest
goes-up zero e d ts rest a b p x q = absurd (omega arith)
goes-up (suc zero) e d ts rest a b p x q =
    let r = goes-exact 1 e d ts rest p (omega (arith, need-least 1)) in
    up-two e d ts rest r (x refl).0 (x refl).1
goes-up (suc (suc zero)) e d ts rest a b p x q =
    let r = goes-exact 2 e d ts rest p (omega (arith, need-least 2)) in
    up-three e d ts rest r (omega (arith, need-three))
goes-up (suc (suc (suc l))) e d ts rest a b p x q =
    let r = goes-exact (suc (suc (suc l))) e d ts rest p (omega (arith, need-least (suc (suc (suc l))))) in
    elim (either (nat_eq l 6)) [
      | inl s ↦
          let nine : l ≡ 6 = grind (arith, nat_tests) in
          let P : ℕ → Type 0 = λ n. ladder d (expr_at d) (suc (suc (suc n))) ts ≡ Some (e, height e, rest) → need (suc (suc (suc (suc n)))) < binds_at rest → Goes (suc (suc (suc (suc n)))) e d ts rest in
          let ten : P 6 = λ r z. up-ten e d ts rest r (omega (arith, need-ten)) in
          subst P (sym nine) ten r q
      | inr s ↦
          let far : l < 6 = grind (arith, nat_tests) in
          up-left (suc (suc (suc l))) e d ts rest (omega arith) (omega arith) r
    ]
