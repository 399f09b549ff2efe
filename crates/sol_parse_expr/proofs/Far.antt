-- What is read reaches at least as far as any expression that begins there.
use Rattle.std.proofs.Common.{◌≡◌, ◌∙◌, sym, ap, refl, ℕ, zero, suc, ◌+◌, ◌-◌, ◌<◌, ◌≤◌, max, List, ◌∷◌, ◌++◌, length, length-append, append_assoc, Bool, true, false, cond, nat_eq, nat_lt, Option, Some, None, inl, inr, codes, arith}
use lib.IntN.{ℤ}
use Rattle.sol_tree.specs.declared.token.Token.{Token}
use Rattle.sol_tree.specs.declared.token.TokenKind.TheVariants as kind
use Rattle.sol_tree.specs.declared.expr.NumberUnit.{NumberUnit}
use Rattle.sol_tree.specs.declared.expr.BinaryOp.{BinaryOp}
use Rattle.sol_tree.specs.declared.expr.BinaryOp.TheVariants as operator
use Rattle.sol_tree.specs.declared.expr.ExprTree as tree
use Rattle.sol_tree.specs.Places.{place_of}
use Rattle.sol_tree.specs.Precedence.{precedence}
use Rattle.sol_parse_expr.specs.declared.nodes.Operand.{Operand}
use Rattle.sol_parse_expr.specs.declared.nodes.Branches.{Branches}
use Rattle.sol_parse_expr.specs.Grammar.{IsMark, IsOperator, MayUnit, Spells}
use Rattle.sol_parse_expr.specs.Heights.{height}
use Rattle.sol_parse_expr.specs.Reading.{Measured, ByPrecedence, if_tree, then_tree, grow, may_unit_at, scaled_at, atom_at, postfix_at, prefix_at, suffix_at, suffixed, operand_at, joined, branches_at, chosen, more_at, ladder, expr_at}
use Rattle.sol_parse_expr.proofs.Tokens.{number-here, unit-here, unit-or}
use Rattle.sol_parse_expr.proofs.Heights as heights
use Rattle.sol_parse_expr.proofs.Loops.{grow-turn}
use Rattle.sol_parse_expr.proofs.After.{Holds, Front}
use Rattle.sol_parse_expr.proofs.SoundExprs.{ReadSuffix, ReadOperand, ReadBranches, sound-suffix, sound-operand, sound-branches, sound-expr}
use Rattle.sol_parse_expr.proofs.Binding.{binds_at, binds-mark, binds-operator, binds-question, binds-colon}
use Rattle.sol_parse_expr.proofs.Atoms.{primary-atom}
use Rattle.sol_parse_expr.proofs.Climb.{need, need-two, need-left, Goes, goes-exact, goes-one, goes-left, ladder-one, ladder-two, ladder-loose}
use Rattle.sol_parse_expr.proofs.Grown as grown
use Rattle.sol_parse_expr.proofs.Grown.{Done, closed}
use Rattle.sol_parse_expr.proofs.Loose.{prefix-not, prefix-negation, operand-stands, branches-stand, power-turn, choice-turn, least}
use Rattle.sol_parse_expr.proofs.AllExprs.{positive, NoSign, no-signs, done-expr, done-args}

-- something is read, and at most n tokens are left
abbrev pub Leaves : {A : Type 0} → ℕ → Option (A × ℕ × List Token) → Type 0
Leaves n None = ⊥
Leaves n (Some x) = length x.2 ≤ n

leaves-fewer : {A : Type 0} (n m : ℕ) (r : Option (A × ℕ × List Token)) → n ≤ m → Leaves n r → Leaves m r
leaves-fewer n m None q h = h
leaves-fewer n m (Some x) q h = omega arith

leaves-same : {A : Type 0} (n : ℕ) (r s : Option (A × ℕ × List Token)) → r ≡ s → Leaves n s → Leaves n r
leaves-same n r s e h = rw e h

pub leaves-parts : {A : Type 0} (n : ℕ) (r : Option (A × ℕ × List Token)) → Leaves n r → (a : A) × (h : ℕ) × (rest : List Token) × (r ≡ Some (a, h, rest)) × (length rest ≤ n)
leaves-parts n None h = absurd h
leaves-parts n (Some x) h = (x.0, x.1, x.2, refl, h)

leaves-test : {A : Type 0} (b : Bool) (x y : Option (A × ℕ × List Token)) (n : ℕ) → Leaves n x → Leaves n y → Leaves n (cond b x y)
leaves-test true x y n p q = p
leaves-test false x y n p q = q

leaves-then : {A B : Type 0} (r : Option (A × ℕ × List Token)) (go : A → ℕ → List Token → Option (B × ℕ × List Token)) (n : ℕ) → Leaves n r → ((a : A) (h : ℕ) (rest : List Token) → length rest ≤ n → Leaves n (go a h rest)) → Leaves n (then_tree r go)
leaves-then None go n p k = absurd p
leaves-then (Some x) go n p k = k x.0 x.1 x.2 p

-- ---- a step adds no tokens

abbrev Takes : {A : Type 0} → ℕ → Option (A × ℕ × List Token) → Type 0
Takes n None = Unit {0}
Takes n (Some x) = length x.2 ≤ n

front-takes : {A : Type 0} (Q : A → List Token → ℕ → Type 0) (ts : List Token) (r : Option (A × ℕ × List Token)) → Holds (Front Q) ts r → Takes (length ts) r
front-takes Q ts None g = tt
front-takes Q ts (Some x) g =
    let long : length ts ≡ length (g.0 ++ x.2) = ap length g.2 in
    omega (arith, long, length-append g.0 x.2)

suffix-takes : (d : ℕ) (ts : List Token) → Takes (length ts) (suffix_at (expr_at d) ts)
suffix-takes d ts = front-takes (ReadSuffix d) ts (suffix_at (expr_at d) ts) (sound-suffix d (expr_at d) (sound-expr d) ts)

operand-takes : (l r d : ℕ) → r ≤ 10 → (ts : List Token) → Takes (length ts) (operand_at l r (expr_at d) ts)
operand-takes l r d low ts = front-takes (ReadOperand l r d) ts (operand_at l r (expr_at d) ts) (sound-operand l r d (expr_at d) low (sound-expr d) ts)

branches-takes : (d : ℕ) (ts : List Token) → Takes (length ts) (branches_at (expr_at d) ts)
branches-takes d ts = front-takes (ReadBranches d) ts (branches_at (expr_at d) ts) (sound-branches d (expr_at d) (sound-expr d) ts)

leaves-if : {A P : Type 0} (r : Option (P × ℕ × List Token)) (go : P → ℕ → List Token → Option (A × ℕ × List Token)) (other : Option (A × ℕ × List Token)) (n : ℕ) → Takes n r → ((p : P) (h : ℕ) (rest : List Token) → length rest ≤ n → Leaves n (go p h rest)) → Leaves n other → Leaves n (if_tree r go other)
leaves-if None go other n t k o = o
leaves-if (Some x) go other n t k o = k x.0 x.1 x.2 t

grow-leaves : {A P : Type 0} (join : A → P → A) (d : ℕ) (step : Measured P) → ((ts : List Token) → Takes (length ts) (step ts)) → (k : ℕ) (a : A) (h : ℕ) (ts : List Token) → Leaves (length ts) (grow join d step k a h ts)
unfolding grow
grow-leaves join d step s zero a h ts = omega arith
grow-leaves join d step s (suc k) a h ts =
    let stays : length ts ≤ length ts = omega arith in
    leaves-test (nat_lt d h) _ _ (length ts) stays (
    leaves-if (step ts) _ _ (length ts) (s ts) (λ p n rest q.
    leaves-fewer (length rest) (length ts) (grow join d step k (join a p) (max h n + 1) rest) q (grow-leaves join d step s k (join a p) (max h n + 1) rest)) stays)

more-leaves : (l d : ℕ) (e : tree.ExprTree) (h : ℕ) (ts : List Token) → l ≤ 10 → Leaves (length ts) (more_at l d (expr_at d) e h ts)
unfolding more_at
more-leaves l d e h ts low =
    leaves-test (nat_eq l 3) _ _ (length ts) (grow-leaves joined d (operand_at 3 3 (expr_at d)) (operand-takes 3 3 d (omega arith)) 1 e h ts) (
    leaves-test (nat_eq l 10) _ _ (length ts) (grow-leaves chosen d (branches_at (expr_at d)) (branches-takes d) 1 e h ts) (
    grow-leaves joined d (operand_at l (l - 1) (expr_at d)) (operand-takes l (l - 1) d (omega arith)) (length ts) e h ts))

-- ---- where an expression begins, reading comes to its end at least

abbrev pub Far : ℕ → tree.ExprTree → List Token → Type 0
Far l e us = (d : ℕ) → height e ≤ suc d → (rest : List Token) → Leaves (length rest) (ladder d (expr_at d) l (us ++ rest))

far-inner : (l : ℕ) (e : tree.ExprTree) (us : List Token) → Far l e us → 0 < height e → (d : ℕ) → height e ≤ d → (rest : List Token) → Leaves (length rest) (expr_at d l (us ++ rest))
unfolding expr_at
far-inner l e us s pos zero low rest = absurd (omega arith)
far-inner l e us s pos (suc d) low rest = s d low rest

goes-leaves : (e : tree.ExprTree) (d : ℕ) (ts rest : List Token) → Goes 1 e d ts rest → Leaves (length rest) (ladder d (expr_at d) 1 ts)
goes-leaves e d ts rest p = leaves-same (length rest) (ladder d (expr_at d) 1 ts) (grow suffixed d (suffix_at (expr_at d)) p.0 e (height e) rest) (p.2 ∙ goes-one d (expr_at d) p.0 e (height e) rest) (grow-leaves suffixed d (suffix_at (expr_at d)) (suffix-takes d) p.0 e (height e) rest)

far-free : (e : tree.ExprTree) (us : List Token) → grown.Free e us → Far 1 e us
far-free e us s d low rest = goes-leaves e d (us ++ rest) rest (s d low rest)

-- a number may take a unit that follows
unit-leaves : {u : Option NumberUnit} {us : List Token} → MayUnit u us → (rest : List Token) → (v : Option NumberUnit) × (left : List Token) × (may_unit_at (us ++ rest) ≡ Some (v, left)) × (length left ≤ length rest)
unfolding may_unit_at
unit-leaves MayUnit.plain rest = elim (unit-or rest) [
  | inl e ↦ (None, rest, rw e refl, omega arith)
  | inr p ↦
      let long : length rest ≡ suc (length (p.2)) = ap length p.4 in
      (Some p.1, p.2, rw (p.5) refl, omega arith)
]
unit-leaves (MayUnit.scaled {u} t s) rest = (Some u, rest, rw (unit-here u t rest s) refl, omega arith)

number-leaves : (z : ℤ) (x : Bool) (u : Option NumberUnit) (t : Token) (us left : List Token) → t.kind ≡ kind.Number z x → may_unit_at us ≡ Some (u, left) → atom_at (t ∷ us) ≡ Some (tree.Number t.at z x u, 1, left)
unfolding atom_at scaled_at
number-leaves z x u t us left h q = rw (number-here z x t us h, q) refl

far-number : (z : ℤ) (x : Bool) (u : Option NumberUnit) (t : Token) (us : List Token) → t.kind ≡ kind.Number z x → MayUnit u us → Far 1 (tree.Number t.at z x u) (t ∷ us)
unfolding postfix_at
far-number z x u t us h m d low rest =
    let v = unit-leaves m rest in
    let e : tree.ExprTree = tree.Number t.at z x v.0 in
    let first = primary-atom d (expr_at d) (t ∷ (us ++ rest)) e 1 v.1 (number-leaves z x v.0 t (us ++ rest) v.1 h v.2) in
    let loop : postfix_at d (expr_at d) (t ∷ (us ++ rest)) ≡ grow suffixed d (suffix_at (expr_at d)) (length v.1) e 1 v.1 = rw first refl in
    leaves-fewer (length v.1) (length rest) (ladder d (expr_at d) 1 (t ∷ (us ++ rest))) v.3 (leaves-same (length v.1) (ladder d (expr_at d) 1 (t ∷ (us ++ rest))) (grow suffixed d (suffix_at (expr_at d)) (length v.1) e 1 v.1) (ladder-one d (expr_at d) (t ∷ (us ++ rest)) ∙ loop) (grow-leaves suffixed d (suffix_at (expr_at d)) (suffix-takes d) (length v.1) e 1 v.1))

two-below : (d : ℕ) (inner : ByPrecedence) (ts : List Token) → NoSign ts → ladder d inner 2 ts ≡ ladder d inner 1 ts
unfolding prefix_at
two-below d inner ts h = ladder-two d inner ts ∙ rw (h.0, h.1) (sym (ladder-one d inner ts))

far-tighter : (l : ℕ) (e : tree.ExprTree) (us : List Token) → 1 ≤ l → l < 10 → Spells l e us → Far l e us → Far (suc l) e us
far-tighter zero e us a b s p d low rest = absurd (omega arith)
far-tighter (suc zero) e us a b s p d low rest = leaves-same (length rest) (ladder d (expr_at d) 2 (us ++ rest)) (ladder d (expr_at d) 1 (us ++ rest)) (two-below d (expr_at d) (us ++ rest) (no-signs s refl rest)) (p d low rest)
far-tighter (suc (suc l)) e us a b s p d low rest =
    leaves-same (length rest) (ladder d (expr_at d) (suc (suc (suc l))) (us ++ rest)) _ (ladder-loose d (expr_at d) (suc (suc l)) (us ++ rest) (omega arith)) (
    leaves-then (ladder d (expr_at d) (suc (suc l)) (us ++ rest)) (λ f h left. more_at (suc (suc (suc l))) d (expr_at d) f h left) (length rest) (p d low rest) (λ f h left q.
    leaves-fewer (length left) (length rest) (more_at (suc (suc (suc l))) d (expr_at d) f h left) q (more-leaves (suc (suc (suc l))) d f h left (omega arith))))

far-not : (e : tree.ExprTree) (ts : List Token) (t : Token) → Far 2 e ts → 0 < height e → IsMark (codes "!") t → Far 2 (tree.Not t.at e) (t ∷ ts)
far-not e ts t s pos m d low rest =
    let high : height (tree.Not t.at e) ≡ height e + 1 = heights.height-not t.at e in
    let i = leaves-parts (length rest) (expr_at d 2 (ts ++ rest)) (far-inner 2 e ts s pos d (omega arith) rest) in
    leaves-same (length rest) (ladder d (expr_at d) 2 (t ∷ (ts ++ rest))) (Some (tree.Not t.at i.0, i.1 + 1, i.2)) (prefix-not d (expr_at d) t (ts ++ rest) i.0 i.1 i.2 m i.3) i.4

far-negation : (e : tree.ExprTree) (ts : List Token) (t : Token) → Far 2 e ts → 0 < height e → IsMark (codes "-") t → Far 2 (tree.Negation t.at e) (t ∷ ts)
far-negation e ts t s pos m d low rest =
    let high : height (tree.Negation t.at e) ≡ height e + 1 = heights.height-negation t.at e in
    let i = leaves-parts (length rest) (expr_at d 2 (ts ++ rest)) (far-inner 2 e ts s pos d (omega arith) rest) in
    leaves-same (length rest) (ladder d (expr_at d) 2 (t ∷ (ts ++ rest))) (Some (tree.Negation t.at i.0, i.1 + 1, i.2)) (prefix-negation d (expr_at d) t (ts ++ rest) i.0 i.1 i.2 m i.3) i.4

far-power : (a b : tree.ExprTree) (ts us : List Token) (t : Token) → Done 2 a ts → Far 3 b us → 0 < height b → IsOperator operator.Power t → Far 3 (tree.Binary (place_of a) a t.at operator.Power b) (ts ++ (t ∷ us))
far-power a b ts us t s r pos m d low rest =
    let high = heights.height-binary (place_of a) a t.at operator.Power b in
    let all : List Token = t ∷ (us ++ rest) in
    let ahead : binds_at all ≡ 3 = binds-operator operator.Power t (us ++ rest) m in
    let base = s d (omega arith) all (omega (arith, need-two)) in
    let first = goes-exact 2 a d (ts ++ all) all base (omega arith) in
    let i = leaves-parts (length rest) (expr_at d 3 (us ++ rest)) (far-inner 3 b us r pos d (omega arith) rest) in
    let p : Operand = record { at = t.at; operator = operator.Power; right = i.0 } in
    let step = operand-stands 3 3 (expr_at d) operator.Power t (us ++ rest) i.0 i.1 i.2 m refl i.3 in
    let read = power-turn d a (ts ++ all) all p i.1 i.2 first (omega arith) step in
    simp append_assoc (leaves-same (length rest) (ladder d (expr_at d) 3 (ts ++ all)) (Some (joined a p, max (height a) i.1 + 1, i.2)) read i.4)

-- an operand that stands after a tree, and the turns after it
left-leaves : (l d : ℕ) (a : tree.ExprTree) (ts us : List Token) (p : Operand) (n : ℕ) (rest : List Token) → 3 ≤ l → l < 9 → Goes (suc l) a d ts us → height a ≤ d → 0 < length us → operand_at (suc l) l (expr_at d) us ≡ Some (p, n, rest) → Leaves (length rest) (ladder d (expr_at d) (suc l) ts)
left-leaves l d a ts us p n rest x y g low some step =
    let step_at : Measured Operand = operand_at (suc l) l (expr_at d) in
    let many : length us ≤ g.0 = g.1 in
    let turn = grow-turn joined d step_at g.0 a (height a) us p n rest (omega arith) low step in
    leaves-same (length rest) (ladder d (expr_at d) (suc l) ts) (grow joined d step_at (g.0 - 1) (joined a p) (max (height a) n + 1) rest) (g.2 ∙ goes-left l d (expr_at d) g.0 a (height a) us x y ∙ turn) (grow-leaves joined d step_at (operand-takes (suc l) l d (omega arith)) (g.0 - 1) (joined a p) (max (height a) n + 1) rest)

far-grouped : (l : ℕ) (o : BinaryOp) (a b : tree.ExprTree) (ts us : List Token) (t : Token) → 3 ≤ l → precedence o ≡ suc l → Done (suc l) a ts → Far l b us → 0 < height b → IsOperator o t → Far (suc l) (tree.Binary (place_of a) a t.at o b) (ts ++ (t ∷ us))
far-grouped l o a b ts us t x w s r pos m d low rest =
    let high = heights.height-binary (place_of a) a t.at o b in
    let y : l < 9 = omega (arith, least o) in
    let all : List Token = t ∷ (us ++ rest) in
    let ahead : binds_at all ≡ precedence o = binds-operator o t (us ++ rest) m in
    let wants : need (suc l) ≡ l = need-left l x y in
    let base = s d (omega arith) all (omega arith) in
    let i = leaves-parts (length rest) (expr_at d l (us ++ rest)) (far-inner l b us r pos d (omega arith) rest) in
    let p : Operand = record { at = t.at; operator = o; right = i.0 } in
    let step = operand-stands (suc l) l (expr_at d) o t (us ++ rest) i.0 i.1 i.2 m w i.3 in
    let goes = left-leaves l d a (ts ++ all) all p i.1 i.2 x y base (omega arith) (omega arith) step in
    simp append_assoc (leaves-fewer (length i.2) (length rest) (ladder d (expr_at d) (suc l) (ts ++ all)) i.4 goes)

far-choice : (a b c : tree.ExprTree) (ts us vs : List Token) (q s : Token) → Done 9 c ts → Done 10 a us → 0 < height a → Far 10 b vs → 0 < height b → IsMark (codes "?") q → IsMark (codes ":") s → Far 10 (tree.Choice (place_of c) c q.at a b) (ts ++ (q ∷ (us ++ (s ∷ vs))))
far-choice a b c ts us vs q s dc da pa db pb m n d low rest =
    let high = heights.height-choice (place_of c) c q.at a b in
    let all : List Token = q ∷ (us ++ (s ∷ (vs ++ rest))) in
    let ahead : binds_at all ≡ 10 = binds-mark (codes "?") 10 q (us ++ (s ∷ (vs ++ rest))) binds-question m in
    let middle : 10 < binds_at (s ∷ (vs ++ rest)) = omega (arith, binds-mark (codes ":") 11 s (vs ++ rest) binds-colon n) in
    let nine : need 9 ≡ 8 = need-left 8 (omega arith) (omega arith) in
    let base = dc d (omega arith) all (omega arith) in
    let first = goes-exact 9 c d (ts ++ all) all base (omega arith) in
    let chosen_part = closed (codes ":") a us da pa d (omega arith) s (vs ++ rest) middle n in
    let i = leaves-parts (length rest) (expr_at d 10 (vs ++ rest)) (far-inner 10 b vs db pb d (omega arith) rest) in
    let p : Branches = record { at = q.at; chosen = a; otherwise = i.0 } in
    let step = branches-stand (expr_at d) q (us ++ (s ∷ (vs ++ rest))) a (height a) (vs ++ rest) i.0 i.1 i.2 m chosen_part i.3 in
    let read = choice-turn d c (ts ++ all) all p (max (height a) i.1) i.2 first (omega arith) step in
    simp append_assoc (leaves-same (length rest) (ladder d (expr_at d) 10 (ts ++ all)) (Some (chosen c p, max (height c) (max (height a) i.1) + 1, i.2)) read i.4)

-- ---- the whole

far : {l : ℕ} {e : tree.ExprTree} {us : List Token} → Spells l e us → Far l e us
far (Spells.tighter {l} {e} {ts} a b s) = far-tighter l e ts a b s (far s)
far (Spells.number {z} {h} {u} t {us} k m) = far-number z h u t us k m
far (Spells.truth t h) = λ d low rest. goes-leaves _ d _ rest (grown.free-true t h d low rest)
far (Spells.falsehood t h) = λ d low rest. goes-leaves _ d _ rest (grown.free-false t h d low rest)
far (Spells.named {n} t h) = λ d low rest. goes-leaves _ d _ rest (grown.free-named n t h d low rest)
far (Spells.parenthesised {e} o c {ts} m s n) = λ d low rest. goes-leaves _ d _ rest (grown.free-parenthesised e ts o c (done-expr s) (positive s) m n d low rest)
far (Spells.conversion {e} {ty} t o c {ts} g m s n) = λ d low rest. goes-leaves _ d _ rest (grown.free-conversion e ts ty t o c (done-expr s) (positive s) g m n d low rest)
far (Spells.of_type {ty} {n} w o c p m {ts} hw ho s hc hp hm) = λ d low rest. goes-leaves _ d _ rest (grown.free-type ty n w o c p m ts hw ho s hc hp hm d low rest)
far (Spells.of_message {n} w p m hw hp hm) = λ d low rest. goes-leaves _ d _ rest (grown.free-message n w p m hw hp hm d low rest)
far (Spells.of_super {n} w p m hw hp hm) = λ d low rest. goes-leaves _ d _ rest (grown.free-super n w p m hw hp hm d low rest)
far (Spells.index {a} {i} o c {ts} {us} s m t n) = λ d low rest. goes-leaves _ d _ rest (grown.free-index a i ts us o c (done-expr s) (done-expr t) (positive t) m n d low rest)
far (Spells.member {a} {n} p m {ts} s h g) = λ d low rest. goes-leaves _ d _ rest (grown.free-member a n ts p m (done-expr s) h g d low rest)
far (Spells.call {a} {es} o c {ts} {us} s m t n) = λ d low rest. goes-leaves _ d _ rest (grown.free-call a es ts us o c (done-expr s) (done-args t) m n d low rest)
far (Spells.opposite {e} t {ts} m s) = far-not e ts t (far s) (positive s) m
far (Spells.negation {e} t {ts} m s) = far-negation e ts t (far s) (positive s) m
far (Spells.power {a} {b} t {ts} {us} s m r) = far-power a b ts us t (done-expr s) (far r) (positive r) m
far (Spells.grouped {l} {o} {a} {b} t {ts} {us} x p s m r) = far-grouped l o a b ts us t x p (done-expr s) (far r) (positive r) m
far (Spells.choice {a} {b} {c} q s {ts} {us} {vs} dc m da n db) = far-choice a b c ts us vs q s (done-expr dc) (done-expr da) (positive da) (far db) (positive db) m n

pub expr-longest : {e : tree.ExprTree} {us : List Token} → Spells 10 e us → (d : ℕ) → height e ≤ d → (rest : List Token) → (f : tree.ExprTree) × (h : ℕ) × (left : List Token) × (expr_at d 10 (us ++ rest) ≡ Some (f, h, left)) × (length left ≤ length rest)
expr-longest {e} {us} s d low rest = leaves-parts (length rest) (expr_at d 10 (us ++ rest)) (far-inner 10 e us (far s) (positive s) d low rest)
