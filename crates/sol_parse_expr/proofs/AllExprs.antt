-- Each expression is read from the tokens that spell it.
use Rattle.std.proofs.Common.{◌≡◌, ◌∙◌, refl, ℕ, zero, suc, ◌+◌, ◌-◌, ◌<◌, ◌≤◌, max, List, [], ◌∷◌, ◌++◌, length, length-append, map, append_assoc, append-nil, false, Option, Some, None, codes, arith}
use Rattle.sol_tree.specs.declared.token.Token.{Token}
use Rattle.sol_tree.specs.declared.token.TokenKind.{TokenKind}
use Rattle.sol_tree.specs.declared.token.TokenKind.TheVariants as kind
use Rattle.sol_tree.specs.declared.expr.BinaryOp.TheVariants as operator
use Rattle.sol_tree.specs.declared.expr.ExprTree as tree
use Rattle.sol_tree.specs.Places.{place_of}
use Rattle.sol_parse_expr.specs.Grammar.{IsMark, named_by, Spells, SpellsAll, SpellsMore}
use Rattle.sol_parse_expr.specs.Heights.{height, greatest}
use Rattle.sol_parse_expr.specs.Reading.{ByPrecedence, is_mark, mark_at, postfix_at, prefix_at, argument_at, arguments_at, all_at, ladder, expr_at}
use Rattle.sol_parse_expr.proofs.Tokens.{mark-here, mark-not}
use Rattle.sol_parse_expr.proofs.Heights as heights
use Rattle.sol_parse_expr.proofs.Loops.{arguments-stop, arguments-turn}
use Rattle.sol_parse_expr.proofs.Binding.{binds_at, binds-mark, binds-comma, binds-call_end, quiet-unit}
use Rattle.sol_parse_expr.proofs.Atoms as atoms
use Rattle.sol_parse_expr.proofs.Climb.{goes-up, need-most, need-least, ladder-loose}
use Rattle.sol_parse_expr.proofs.Grown.{Done, exact, DoneAll, done-number, free-true, free-false, free-named, free-type, free-message, free-super, free-parenthesised, free-conversion, free-index, free-member, free-call}
use Rattle.sol_parse_expr.proofs.Loose.{done-not, done-negation, done-power, done-grouped, done-choice}

-- ---- each expression has a level

pub positive : {l : ℕ} {e : tree.ExprTree} {us : List Token} → Spells l e us → 0 < height e
positive (Spells.tighter a b s) = positive s
positive (Spells.number {z} {h} {u} t k m) = omega (arith, heights.height-number t.at z h u)
positive (Spells.truth t h) = omega (arith, heights.height-true t.at)
positive (Spells.falsehood t h) = omega (arith, heights.height-false t.at)
positive (Spells.named {n} t h) = omega (arith, heights.height-named t.at n)
positive (Spells.parenthesised {e} o c m s n) = omega (arith, heights.height-parenthesised o.at e)
positive (Spells.conversion {e} {ty} t o c g m s n) = omega (arith, heights.height-conversion t.at ty o.at e)
positive (Spells.of_type {ty} {n} w o c d m hw ho s hc hd hm) = omega (arith, heights.height-of_type w.at ty (named_by n m))
positive (Spells.of_message {n} w d m hw hd hm) = omega (arith, heights.height-of_message w.at (named_by n m))
positive (Spells.of_super {n} w d m hw hd hm) = omega (arith, heights.height-of_super w.at (named_by n m))
positive (Spells.index {a} {i} o c s m t n) = omega (arith, heights.height-index (place_of a) a o.at i)
positive (Spells.member {a} {n} d m s h g) = omega (arith, heights.height-member (place_of a) a (named_by n m))
positive (Spells.call {a} {es} o c s m t n) = omega (arith, heights.height-call (place_of a) a o.at es)
positive (Spells.opposite {e} t m s) = omega (arith, heights.height-not t.at e)
positive (Spells.negation {e} t m s) = omega (arith, heights.height-negation t.at e)
positive (Spells.power {a} {b} t s m r) = omega (arith, heights.height-binary (place_of a) a t.at operator.Power b)
positive (Spells.grouped {l} {o} {a} {b} t x p s m r) = omega (arith, heights.height-binary (place_of a) a t.at o b)
positive (Spells.choice {a} {b} {c} q s dc m da n db) = omega (arith, heights.height-choice (place_of c) c q.at a b)

-- ---- an expression of level 1 begins with no sign

abbrev pub NoSign : List Token → Type 0
NoSign ts = (mark_at (codes "!") ts ≡ None) × (mark_at (codes "-") ts ≡ None)

no-sign : (k : TokenKind) (t : Token) (ts : List Token) → t.kind ≡ k → is_mark (codes "!") k ≡ false → is_mark (codes "-") k ≡ false → NoSign (t ∷ ts)
no-sign k t ts h x y = (mark-not (codes "!") k t ts h x, mark-not (codes "-") k t ts h y)

along : (ts us rest : List Token) → NoSign (ts ++ (us ++ rest)) → NoSign ((ts ++ us) ++ rest)
along ts us rest h = rw append_assoc h

pub no-signs : {l : ℕ} {e : tree.ExprTree} {us : List Token} → Spells l e us → l ≡ 1 → (rest : List Token) → NoSign (us ++ rest)
no-signs (Spells.tighter {l} a b s) h rest = absurd (omega arith)
no-signs (Spells.number {z} {h = x} t {us} k m) h rest = no-sign (kind.Number z x) t (us ++ rest) k refl refl
no-signs (Spells.truth t s) h rest = no-sign (kind.Word (codes "true")) t rest s refl refl
no-signs (Spells.falsehood t s) h rest = no-sign (kind.Word (codes "false")) t rest s refl refl
no-signs (Spells.named {n} t s) h rest = no-sign (kind.Word n) t rest s.word refl refl
no-signs (Spells.parenthesised o c {ts} m s n) h rest = no-sign (kind.Mark (codes "(")) o ((ts ++ (c ∷ [])) ++ rest) m refl refl
no-signs (Spells.conversion t o c {ts} g m s n) h rest = no-sign (kind.Word g.text) t ((o ∷ (ts ++ (c ∷ []))) ++ rest) g.word refl refl
no-signs (Spells.of_type w o c d m {ts} hw ho s hc hd hm) h rest = no-sign (kind.Word (codes "type")) w ((o ∷ (ts ++ (c ∷ (d ∷ (m ∷ []))))) ++ rest) hw refl refl
no-signs (Spells.of_message w d m hw hd hm) h rest = no-sign (kind.Word (codes "msg")) w (d ∷ (m ∷ rest)) hw refl refl
no-signs (Spells.of_super w d m hw hd hm) h rest = no-sign (kind.Word (codes "super")) w (d ∷ (m ∷ rest)) hw refl refl
no-signs (Spells.index o c {ts} {us} s m t n) h rest = along ts (o ∷ (us ++ (c ∷ []))) rest (no-signs s refl ((o ∷ (us ++ (c ∷ []))) ++ rest))
no-signs (Spells.member d m {ts} s p g) h rest = along ts (d ∷ (m ∷ [])) rest (no-signs s refl ((d ∷ (m ∷ [])) ++ rest))
no-signs (Spells.call o c {ts} {us} s m t n) h rest = along ts (o ∷ (us ++ (c ∷ []))) rest (no-signs s refl ((o ∷ (us ++ (c ∷ []))) ++ rest))
no-signs (Spells.opposite t m s) h rest = absurd (omega arith)
no-signs (Spells.negation t m s) h rest = absurd (omega arith)
no-signs (Spells.power t s m r) h rest = absurd (omega arith)
no-signs (Spells.grouped {l} t x p s m r) h rest = absurd (omega arith)
no-signs (Spells.choice q s dc m da n db) h rest = absurd (omega arith)

done-tighter : (l : ℕ) (e : tree.ExprTree) (us : List Token) → 1 ≤ l → l < 10 → Spells l e us → Done l e us → Done (suc l) e us
done-tighter l e us a b s p d low rest q =
    let g = p d low rest (omega (arith, need-most l, need-least l)) in
    goes-up l e d (us ++ rest) rest a b g (λ h. no-signs s h rest) q

-- ---- arguments

-- the tokens are read as these arguments after others, before the mark that closes them
abbrev DoneMore : List tree.ExprTree → List Token → Type 0
DoneMore es us = (d : ℕ) → greatest (map height es) ≤ d → (c : Token) (rest : List Token) → IsMark (codes ")") c → (k : ℕ) → length us ≤ k → (before : List tree.ExprTree) (h : ℕ) → arguments_at (expr_at d) k before h (us ++ (c ∷ rest)) ≡ Some (before ++ es, max h (greatest (map height es)), c ∷ rest)

no-argument : (inner : ByPrecedence) (c : Token) (rest : List Token) → IsMark (codes ")") c → argument_at inner (c ∷ rest) ≡ None
unfolding argument_at
no-argument inner c rest m = rw (mark-not (codes ",") (kind.Mark (codes ")")) c rest m refl) refl

an-argument : (inner : ByPrecedence) (t : Token) (ts : List Token) (e : tree.ExprTree) (h : ℕ) (rest : List Token) → IsMark (codes ",") t → inner 10 ts ≡ Some (e, h, rest) → argument_at inner (t ∷ ts) ≡ Some (e, h, rest)
unfolding argument_at
an-argument inner t ts e h rest m q = rw (mark-here (codes ",") t ts m, q) refl

more-ends : {es : List tree.ExprTree} {us : List Token} → SpellsMore es us → (c : Token) (rest : List Token) → IsMark (codes ")") c → 10 < binds_at (us ++ (c ∷ rest))
more-ends SpellsMore.ended c rest m = omega (arith, binds-mark (codes ")") 11 c rest binds-call_end m)
more-ends (SpellsMore.another t {ts} {us} h s r) c rest m = omega (arith, binds-mark (codes ",") 11 t ((ts ++ us) ++ (c ∷ rest)) binds-comma h)

all-kept : (h : ℕ) (es : List tree.ExprTree) (ts : List Token) → ◌≡◌ {A = Option (List tree.ExprTree × ℕ × List Token)} (Some (es, h, ts)) (Some (es ++ [], max h 0, ts))
all-kept h es ts =
    let same : max h 0 ≡ h = omega arith in
    rw (append-nil, same) refl

all-joined : (before : List tree.ExprTree) (e : tree.ExprTree) (es : List tree.ExprTree) (h n m : ℕ) (ts : List Token) → ◌≡◌ {A = Option (List tree.ExprTree × ℕ × List Token)} (Some ((before ++ (e ∷ [])) ++ es, max (max h n) m, ts)) (Some (before ++ (e ∷ es), max h (max n m), ts))
all-joined before e es h n m ts =
    let same : max (max h n) m ≡ max h (max n m) = omega arith in
    rw (append_assoc, same) refl

done-ended : DoneMore [] []
done-ended d low c rest m k many before h = arguments-stop (expr_at d) k before h (c ∷ rest) (no-argument (expr_at d) c rest m) ∙ all-kept h before (c ∷ rest)

done-another : (e : tree.ExprTree) (es : List tree.ExprTree) (t : Token) (ts us : List Token) → IsMark (codes ",") t → Done 10 e ts → 0 < height e → SpellsMore es us → DoneMore es us → DoneMore (e ∷ es) (t ∷ (ts ++ us))
done-another e es t ts us m s pos r p d low c rest n k many before h =
    let left : List Token = us ++ (c ∷ rest) in
    let some : suc (length ts + length us) ≤ k = simp length-append at many in
    let first = exact 10 e ts s pos d (omega arith) left (more-ends r c rest n) in
    let turn = arguments-turn (expr_at d) k before h (t ∷ (ts ++ left)) e (height e) left (omega arith) (an-argument (expr_at d) t (ts ++ left) e (height e) left m first) in
    let others = p d (omega arith) c rest n (k - 1) (omega arith) (before ++ (e ∷ [])) (max h (height e)) in
    simp append_assoc (turn ∙ others ∙ all-joined before e es h (height e) (greatest (map height es)) (c ∷ rest))

no-expression : (l d : ℕ) (inner : ByPrecedence) (c : Token) (rest : List Token) → IsMark (codes ")") c → ladder d inner l (c ∷ rest) ≡ None
unfolding ladder postfix_at prefix_at
no-expression zero d inner c rest m = refl
no-expression (suc zero) d inner c rest m = rw (atoms.no_primary-end d inner c rest m) refl
no-expression (suc (suc zero)) d inner c rest m = rw (mark-not (codes "!") (kind.Mark (codes ")")) c rest m refl, mark-not (codes "-") (kind.Mark (codes ")")) c rest m refl, atoms.no_primary-end d inner c rest m) refl
no-expression (suc (suc (suc l))) d inner c rest m = ladder-loose d inner (suc (suc l)) (c ∷ rest) (omega arith) ∙ rw (no-expression (suc (suc l)) d inner c rest m) refl

done-nothing : DoneAll [] []
unfolding all_at expr_at
done-nothing zero low c rest m = refl
done-nothing (suc d) low c rest m = rw (no-expression 10 d (expr_at d) c rest m) refl

done-some : (e : tree.ExprTree) (es : List tree.ExprTree) (ts us : List Token) → Done 10 e ts → 0 < height e → SpellsMore es us → DoneMore es us → DoneAll (e ∷ es) (ts ++ us)
unfolding all_at
done-some e es ts us s pos r p d low c rest n =
    let left : List Token = us ++ (c ∷ rest) in
    let first = exact 10 e ts s pos d (omega arith) left (more-ends r c rest n) in
    let many : length us ≤ length left = simp length-append (omega arith) in
    let others = p d (omega arith) c rest n (length left) many (e ∷ []) (height e) in
    simp append_assoc (rw first others)

-- ---- the whole

mutual
  done : {l : ℕ} {e : tree.ExprTree} {us : List Token} → Spells l e us → Done l e us
  done (Spells.tighter {l} {e} {ts} a b s) = done-tighter l e ts a b s (done s)
  done (Spells.number {z} {h} {u} t {us} k m) = done-number (tree.Number t.at z h u) (t ∷ us) (heights.height-number t.at z h u) (λ rest q. atoms.atom-number z h u t us k m rest (quiet-unit rest q))
  done (Spells.truth t h) = λ d low rest q. free-true t h d low rest
  done (Spells.falsehood t h) = λ d low rest q. free-false t h d low rest
  done (Spells.named {n} t h) = λ d low rest q. free-named n t h d low rest
  done (Spells.parenthesised {e} o c {ts} m s n) = λ d low rest q. free-parenthesised e ts o c (done s) (positive s) m n d low rest
  done (Spells.conversion {e} {ty} t o c {ts} g m s n) = λ d low rest q. free-conversion e ts ty t o c (done s) (positive s) g m n d low rest
  done (Spells.of_type {ty} {n} w o c p m {ts} hw ho s hc hp hm) = λ d low rest q. free-type ty n w o c p m ts hw ho s hc hp hm d low rest
  done (Spells.of_message {n} w p m hw hp hm) = λ d low rest q. free-message n w p m hw hp hm d low rest
  done (Spells.of_super {n} w p m hw hp hm) = λ d low rest q. free-super n w p m hw hp hm d low rest
  done (Spells.index {a} {i} o c {ts} {us} s m t n) = λ d low rest q. free-index a i ts us o c (done s) (done t) (positive t) m n d low rest
  done (Spells.member {a} {n} p m {ts} s h g) = λ d low rest q. free-member a n ts p m (done s) h g d low rest
  done (Spells.call {a} {es} o c {ts} {us} s m t n) = λ d low rest q. free-call a es ts us o c (done s) (done-all t) m n d low rest
  done (Spells.opposite {e} t {ts} m s) = done-not e ts t (done s) (positive s) m
  done (Spells.negation {e} t {ts} m s) = done-negation e ts t (done s) (positive s) m
  done (Spells.power {a} {b} t {ts} {us} s m r) = done-power a b ts us t (done s) (done r) (positive r) m
  done (Spells.grouped {l} {o} {a} {b} t {ts} {us} x p s m r) = done-grouped l o a b ts us t x p (done s) (done r) (positive r) m
  done (Spells.choice {a} {b} {c} q s {ts} {us} {vs} dc m da n db) = done-choice a b c ts us vs q s (done dc) (done da) (positive da) (done db) (positive db) m n

  done-all : {es : List tree.ExprTree} {us : List Token} → SpellsAll es us → DoneAll es us
  done-all SpellsAll.nothing = done-nothing
  done-all (SpellsAll.some {e} {es} {ts} {us} s r) = done-some e es ts us (done s) (positive s) r (done-more r)

  done-more : {es : List tree.ExprTree} {us : List Token} → SpellsMore es us → DoneMore es us
  done-more SpellsMore.ended = done-ended
  done-more (SpellsMore.another {e} {es} t {ts} {us} h s r) = done-another e es t ts us h (done s) (positive s) r (done-more r)

pub done-expr : {l : ℕ} {e : tree.ExprTree} {us : List Token} → Spells l e us → Done l e us
done-expr s = done s

pub done-args : {es : List tree.ExprTree} {us : List Token} → SpellsAll es us → DoneAll es us
done-args s = done-all s
