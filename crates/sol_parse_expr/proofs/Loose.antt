-- The nodes of levels 2 to 10 are read from their tokens, where what is inside is.
use Rattle.std.proofs.Common.{◌≡◌, ◌∙◌, sym, ap, refl, ℕ, suc, ◌+◌, ◌-◌, ◌<◌, ◌≤◌, max, List, ◌∷◌, ◌++◌, length, length-append, append_assoc, Some, codes, arith}
use Rattle.sol_tree.specs.declared.token.Token.{Token}
use Rattle.sol_tree.specs.declared.token.TokenKind.TheVariants as kind
use Rattle.sol_tree.specs.declared.expr.BinaryOp.{BinaryOp}
use Rattle.sol_tree.specs.declared.expr.BinaryOp.TheVariants as operator
use Rattle.sol_tree.specs.declared.expr.ExprTree as tree
use Rattle.sol_tree.specs.Places.{place_of}
use Rattle.sol_tree.specs.Precedence.{precedence}
use Rattle.sol_parse_expr.specs.declared.nodes.Operand.{Operand}
use Rattle.sol_parse_expr.specs.declared.nodes.Branches.{Branches}
use Rattle.sol_parse_expr.specs.Grammar.{IsMark, IsOperator}
use Rattle.sol_parse_expr.specs.Heights.{height}
use Rattle.sol_parse_expr.specs.Reading.{ByPrecedence, grow, closed_at, prefix_at, operand_at, joined, branches_at, chosen, more_at, ladder, expr_at}
use Rattle.sol_parse_expr.proofs.Tokens.{mark-here, operator-here, mark-not}
use Rattle.sol_parse_expr.proofs.Heights.{height-not, height-negation, height-binary, height-choice}
use Rattle.sol_parse_expr.proofs.Loops.{grow-turn, grow-once}
use Rattle.sol_parse_expr.proofs.Binding.{binds_at, binds-mark, binds-operator, binds-question, binds-colon}
use Rattle.sol_parse_expr.proofs.Climb.{goes, goes-two, goes-three, goes-ten, goes-left, need, need-two, need-three, need-ten, need-left, Goes, goes-exact, ladder-two, ladder-loose, more-three, more-ten}
use Rattle.sol_parse_expr.proofs.Grown.{Done, exact, closed}

-- ---- level 2

pub prefix-not : (d : ℕ) (inner : ByPrecedence) (t : Token) (ts : List Token) (e : tree.ExprTree) (h : ℕ) (rest : List Token) → IsMark (codes "!") t → inner 2 ts ≡ Some (e, h, rest) → ladder d inner 2 (t ∷ ts) ≡ Some (tree.Not t.at e, h + 1, rest)
unfolding prefix_at
prefix-not d inner t ts e h rest m q = ladder-two d inner (t ∷ ts) ∙ rw (mark-here (codes "!") t ts m, q) refl

pub prefix-negation : (d : ℕ) (inner : ByPrecedence) (t : Token) (ts : List Token) (e : tree.ExprTree) (h : ℕ) (rest : List Token) → IsMark (codes "-") t → inner 2 ts ≡ Some (e, h, rest) → ladder d inner 2 (t ∷ ts) ≡ Some (tree.Negation t.at e, h + 1, rest)
unfolding prefix_at
prefix-negation d inner t ts e h rest m q = ladder-two d inner (t ∷ ts) ∙ rw (mark-not (codes "!") (kind.Mark (codes "-")) t ts m refl, mark-here (codes "-") t ts m, q) refl

-- a tree with nothing to go on with
stands : (l : ℕ) (e : tree.ExprTree) (h d : ℕ) (ts rest : List Token) → ((k : ℕ) → goes l d (expr_at d) k e (height e) rest ≡ Some (e, height e, rest)) → height e ≡ h → ladder d (expr_at d) l ts ≡ Some (e, h, rest) → Goes l e d ts rest
stands l e h d ts rest g q r = (length rest, omega arith, r ∙ ap (λ (n : ℕ). Some (e, n, rest)) (sym q) ∙ sym (g (length rest)))

pub done-not : (e : tree.ExprTree) (ts : List Token) (t : Token) → Done 2 e ts → 0 < height e → IsMark (codes "!") t → Done 2 (tree.Not t.at e) (t ∷ ts)
done-not e ts t s pos m d low rest b =
    let high : height (tree.Not t.at e) ≡ height e + 1 = height-not t.at e in
    let inside = exact 2 e ts s pos d (omega arith) rest (omega (arith, need-two)) in
    stands 2 (tree.Not t.at e) (height e + 1) d (t ∷ (ts ++ rest)) rest (λ k. goes-two d (expr_at d) k (tree.Not t.at e) (height (tree.Not t.at e)) rest) high (prefix-not d (expr_at d) t (ts ++ rest) e (height e) rest m inside)

pub done-negation : (e : tree.ExprTree) (ts : List Token) (t : Token) → Done 2 e ts → 0 < height e → IsMark (codes "-") t → Done 2 (tree.Negation t.at e) (t ∷ ts)
done-negation e ts t s pos m d low rest b =
    let high : height (tree.Negation t.at e) ≡ height e + 1 = height-negation t.at e in
    let inside = exact 2 e ts s pos d (omega arith) rest (omega (arith, need-two)) in
    stands 2 (tree.Negation t.at e) (height e + 1) d (t ∷ (ts ++ rest)) rest (λ k. goes-two d (expr_at d) k (tree.Negation t.at e) (height (tree.Negation t.at e)) rest) high (prefix-negation d (expr_at d) t (ts ++ rest) e (height e) rest m inside)

-- ---- levels 3 to 9

pub operand-stands : (l r : ℕ) (inner : ByPrecedence) (o : BinaryOp) (t : Token) (ts : List Token) (e : tree.ExprTree) (h : ℕ) (rest : List Token) → IsOperator o t → precedence o ≡ l → inner r ts ≡ Some (e, h, rest) → operand_at l r inner (t ∷ ts) ≡ Some (record { at = t.at; operator = o; right = e }, h, rest)
unfolding operand_at
operand-stands l r inner o t ts e h rest m p q = rw (operator-here l o t ts m p, q) refl

-- what is read at the level below goes on at this one
climbs : (l d : ℕ) (inner : ByPrecedence) (ts : List Token) (e : tree.ExprTree) (h : ℕ) (rest : List Token) → 2 ≤ l → ladder d inner l ts ≡ Some (e, h, rest) → ladder d inner (suc l) ts ≡ more_at (suc l) d inner e h rest
climbs l d inner ts e h rest p q = ladder-loose d inner l ts p ∙ rw q refl

-- an operator of level 3 and its right operand stand after a tree
pub power-turn : (d : ℕ) (a : tree.ExprTree) (ts us : List Token) (p : Operand) (n : ℕ) (rest : List Token) → ladder d (expr_at d) 2 ts ≡ Some (a, height a, us) → height a ≤ d → operand_at 3 3 (expr_at d) us ≡ Some (p, n, rest) → ladder d (expr_at d) 3 ts ≡ Some (joined a p, max (height a) n + 1, rest)
power-turn d a ts us p n rest first low step = climbs 2 d (expr_at d) ts a (height a) us (omega arith) first ∙ more-three d (expr_at d) a (height a) us ∙ grow-once joined d (operand_at 3 3 (expr_at d)) a (height a) us p n rest low step

pub done-power : (a b : tree.ExprTree) (ts us : List Token) (t : Token) → Done 2 a ts → Done 3 b us → 0 < height b → IsOperator operator.Power t → Done 3 (tree.Binary (place_of a) a t.at operator.Power b) (ts ++ (t ∷ us))
done-power a b ts us t s r pos m d low rest q =
    let whole : tree.ExprTree = tree.Binary (place_of a) a t.at operator.Power b in
    let high : height whole ≡ max (height a) (height b) + 1 = height-binary (place_of a) a t.at operator.Power b in
    let all : List Token = t ∷ (us ++ rest) in
    let ahead : binds_at all ≡ 3 = binds-operator operator.Power t (us ++ rest) m in
    let base = s d (omega arith) all (omega (arith, need-two)) in
    let first = goes-exact 2 a d (ts ++ all) all base (omega arith) in
    let right = exact 3 b us r pos d (omega arith) rest (omega (arith, need-three)) in
    let step = operand-stands 3 3 (expr_at d) operator.Power t (us ++ rest) b (height b) rest m refl right in
    let read = power-turn d a (ts ++ all) all (record { at = t.at; operator = operator.Power; right = b }) (height b) rest first (omega arith) step in
    simp append_assoc (stands 3 whole (max (height a) (height b) + 1) d (ts ++ all) rest (λ k. goes-three d (expr_at d) k whole (height whole) rest) high read)

pub least : (o : BinaryOp) → precedence o ≤ 9
least operator.Power = omega arith
least operator.Multiply = omega arith
least operator.Divide = omega arith
least operator.Remainder = omega arith
least operator.Add = omega arith
least operator.Subtract = omega arith
least operator.Less = omega arith
least operator.Greater = omega arith
least operator.LessEqual = omega arith
least operator.GreaterEqual = omega arith
least operator.Equal = omega arith
least operator.NotEqual = omega arith
least operator.And = omega arith
least operator.Or = omega arith

-- an operand that stands after a tree is its next turn
left-turn : (l d : ℕ) (a : tree.ExprTree) (ts us : List Token) (p : Operand) (n : ℕ) (rest : List Token) → 3 ≤ l → l < 9 → Goes (suc l) a d ts us → height a ≤ d → length rest < length us → operand_at (suc l) l (expr_at d) us ≡ Some (p, n, rest) → height (joined a p) ≡ max (height a) n + 1 → Goes (suc l) (joined a p) d ts rest
left-turn l d a ts us p n rest x y g low shorter step high =
    let many : length us ≤ g.0 = g.1 in
    let turn = grow-turn joined d (operand_at (suc l) l (expr_at d)) g.0 a (height a) us p n rest (omega arith) low step in
    let same = ap (λ (h : ℕ). grow joined d (operand_at (suc l) l (expr_at d)) (g.0 - 1) (joined a p) h rest) (sym high) in
    (g.0 - 1, omega arith, g.2 ∙ goes-left l d (expr_at d) g.0 a (height a) us x y ∙ turn ∙ same ∙ sym (goes-left l d (expr_at d) (g.0 - 1) (joined a p) (height (joined a p)) rest x y))

pub done-grouped : (l : ℕ) (o : BinaryOp) (a b : tree.ExprTree) (ts us : List Token) (t : Token) → 3 ≤ l → precedence o ≡ suc l → Done (suc l) a ts → Done l b us → 0 < height b → IsOperator o t → Done (suc l) (tree.Binary (place_of a) a t.at o b) (ts ++ (t ∷ us))
done-grouped l o a b ts us t x p s r pos m d low rest q =
    let high : height (tree.Binary (place_of a) a t.at o b) ≡ max (height a) (height b) + 1 = height-binary (place_of a) a t.at o b in
    let y : l < 9 = omega (arith, least o) in
    let all : List Token = t ∷ (us ++ rest) in
    let ahead : binds_at all ≡ precedence o = binds-operator o t (us ++ rest) m in
    let wants : need (suc l) ≡ l = need-left l x y in
    let base = s d (omega arith) all (omega arith) in
    let right = exact l b us r pos d (omega arith) rest (omega arith) in
    let step = operand-stands (suc l) l (expr_at d) o t (us ++ rest) b (height b) rest m p right in
    let shorter : length rest < length all = simp length-append (omega arith) in
    simp append_assoc (left-turn l d a (ts ++ all) all (record { at = t.at; operator = o; right = b }) (height b) rest x y base (omega arith) shorter step high)

-- ---- level 10

pub branches-stand : (inner : ByPrecedence) (q : Token) (ts : List Token) (a : tree.ExprTree) (h : ℕ) (us : List Token) (b : tree.ExprTree) (n : ℕ) (rest : List Token) → IsMark (codes "?") q → closed_at (codes ":") inner ts ≡ Some (a, h, us) → inner 10 us ≡ Some (b, n, rest) → branches_at inner (q ∷ ts) ≡ Some (record { at = q.at; chosen = a; otherwise = b }, max h n, rest)
unfolding branches_at
branches-stand inner q ts a h us b n rest m x y = rw (mark-here (codes "?") q ts m, x, y) refl

-- the branches of a choice stand after its condition
pub choice-turn : (d : ℕ) (c : tree.ExprTree) (ts us : List Token) (p : Branches) (n : ℕ) (rest : List Token) → ladder d (expr_at d) 9 ts ≡ Some (c, height c, us) → height c ≤ d → branches_at (expr_at d) us ≡ Some (p, n, rest) → ladder d (expr_at d) 10 ts ≡ Some (chosen c p, max (height c) n + 1, rest)
choice-turn d c ts us p n rest first low step = climbs 9 d (expr_at d) ts c (height c) us (omega arith) first ∙ more-ten d (expr_at d) c (height c) us ∙ grow-once chosen d (branches_at (expr_at d)) c (height c) us p n rest low step

pub done-choice : (a b c : tree.ExprTree) (ts us vs : List Token) (q s : Token) → Done 9 c ts → Done 10 a us → 0 < height a → Done 10 b vs → 0 < height b → IsMark (codes "?") q → IsMark (codes ":") s → Done 10 (tree.Choice (place_of c) c q.at a b) (ts ++ (q ∷ (us ++ (s ∷ vs))))
done-choice a b c ts us vs q s dc da pa db pb m n d low rest z =
    let whole : tree.ExprTree = tree.Choice (place_of c) c q.at a b in
    let high : height whole ≡ max (height c) (max (height a) (height b)) + 1 = height-choice (place_of c) c q.at a b in
    let all : List Token = q ∷ (us ++ (s ∷ (vs ++ rest))) in
    let ahead : binds_at all ≡ 10 = binds-mark (codes "?") 10 q (us ++ (s ∷ (vs ++ rest))) binds-question m in
    let middle : 10 < binds_at (s ∷ (vs ++ rest)) = omega (arith, binds-mark (codes ":") 11 s (vs ++ rest) binds-colon n) in
    let nine : need 9 ≡ 8 = need-left 8 (omega arith) (omega arith) in
    let base = dc d (omega arith) all (omega arith) in
    let first = goes-exact 9 c d (ts ++ all) all base (omega arith) in
    let chosen_part = closed (codes ":") a us da pa d (omega arith) s (vs ++ rest) middle n in
    let other_part = exact 10 b vs db pb d (omega arith) rest (omega (arith, need-ten)) in
    let step = branches-stand (expr_at d) q (us ++ (s ∷ (vs ++ rest))) a (height a) (vs ++ rest) b (height b) rest m chosen_part other_part in
    let read = choice-turn d c (ts ++ all) all (record { at = q.at; chosen = a; otherwise = b }) (max (height a) (height b)) rest first (omega arith) step in
    simp append_assoc (stands 10 whole (max (height c) (max (height a) (height b)) + 1) d (ts ++ all) rest (λ k. goes-ten d (expr_at d) k whole (height whole) rest) high read)
