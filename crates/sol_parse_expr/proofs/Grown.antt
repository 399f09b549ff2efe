-- Each kind of node is read from its tokens, where what is inside is.
use Rattle.std.proofs.Common.{◌≡◌, ◌∙◌, sym, ap, refl, ℕ, zero, suc, ◌+◌, ◌-◌, ◌<◌, ◌≤◌, max, List, [], ◌∷◌, ◌++◌, length, length-append, map, append_assoc, Some, codes, arith}
use Rattle.chc_nums.specs.declared.typed.Ty.{Ty}
use Rattle.sol_tree.specs.declared.token.Token.{Token}
use Rattle.sol_tree.specs.declared.token.TokenKind.TheVariants as kind
use Rattle.sol_tree.specs.declared.types.Type as types
use Rattle.sol_tree.specs.declared.expr.ExprTree as tree
use Rattle.sol_tree.specs.Places.{place_of}
use Rattle.sol_parse_expr.specs.declared.nodes.Suffix.{Suffix}
use Rattle.sol_parse_expr.specs.declared.nodes.Suffix.TheVariants as suffix
use Rattle.sol_parse_expr.specs.Grammar.{IsMark, IsWord, IsName, IsElementary, named_by, SpellsType}
use Rattle.sol_parse_expr.specs.Heights.{type_height, height, greatest}
use Rattle.sol_parse_expr.specs.Reading.{ByPrecedence, grow, atom_at, closed_at, all_at, index_at, member_at, member_suffix_at, call_at, suffix_at, suffixed, postfix_at, primary_at, expr_at}
use Rattle.sol_parse_expr.proofs.Tokens.{mark-here, mark-not}
use Rattle.sol_parse_expr.proofs.Heights.{height-true, height-false, height-named, height-of_type, height-of_message, height-of_super, height-index, height-member, height-call, height-parenthesised, height-conversion}
use Rattle.sol_parse_expr.proofs.Loops.{grow-turn}
use Rattle.sol_parse_expr.proofs.Binding.{binds_at, binds-mark, binds-index, binds-member, binds-call, binds-index_end, binds-call_end}
use Rattle.sol_parse_expr.proofs.Atoms.{member-stands, closed-stands, atom-true, atom-false, atom-named, atom-message, atom-super, primary-atom, primary-parenthesised, primary-conversion, primary-type}
use Rattle.sol_parse_expr.proofs.Climb.{goes-one, need, need-most, need-one, Goes, goes-exact, ladder-one}

-- the tokens are read as this tree, whatever stands after them that does not bind more tightly
abbrev pub Done : ℕ → tree.ExprTree → List Token → Type 0
Done l e us = (d : ℕ) → height e ≤ suc d → (rest : List Token) → need l < binds_at rest → Goes l e d (us ++ rest) rest

-- what stands inside a node, before a token that ends it
pub exact : (l : ℕ) (e : tree.ExprTree) (us : List Token) → Done l e us → 0 < height e → (d : ℕ) → height e ≤ d → (rest : List Token) → l < binds_at rest → expr_at d l (us ++ rest) ≡ Some (e, height e, rest)
unfolding expr_at
exact l e us s pos zero low rest q = absurd (omega arith)
exact l e us s pos (suc d) low rest q = goes-exact l e d (us ++ rest) rest (s d low rest (omega (arith, need-most l))) q

-- a node with what stands inside between two marks
pub closed : (m : List ℕ) (e : tree.ExprTree) (us : List Token) → Done 10 e us → 0 < height e → (d : ℕ) → height e ≤ d → (c : Token) (rest : List Token) → 10 < binds_at (c ∷ rest) → IsMark m c → closed_at m (expr_at d) (us ++ (c ∷ rest)) ≡ Some (e, height e, rest)
closed m e us s pos d low c rest q h = closed-stands m (expr_at d) e (height e) (us ++ (c ∷ rest)) c rest (exact 10 e us s pos d low (c ∷ rest) q) h

-- ---- level 1

begins : (d : ℕ) (ts : List Token) (e : tree.ExprTree) (h : ℕ) (rest : List Token) → primary_at d (expr_at d) ts ≡ Some (e, h, rest) → height e ≡ h → Goes 1 e d ts rest
unfolding postfix_at
begins d ts e h rest r q =
    let first : postfix_at d (expr_at d) ts ≡ grow suffixed d (suffix_at (expr_at d)) (length rest) e (height e) rest = rw (r, q) refl in
    (length rest, omega arith, ladder-one d (expr_at d) ts ∙ first ∙ sym (goes-one d (expr_at d) (length rest) e (height e) rest))

-- the same of a tree of level 1, whatever stands after it
abbrev pub Free : tree.ExprTree → List Token → Type 0
Free e us = (d : ℕ) → height e ≤ suc d → (rest : List Token) → Goes 1 e d (us ++ rest) rest

pub done-number : (e : tree.ExprTree) (us : List Token) → height e ≡ 1 → ((rest : List Token) → 0 < binds_at rest → atom_at (us ++ rest) ≡ Some (e, 1, rest)) → Done 1 e us
done-number e us q s d low rest b = begins d (us ++ rest) e 1 rest (primary-atom d (expr_at d) (us ++ rest) e 1 rest (s rest (omega (arith, need-one)))) q

free-atom : (e : tree.ExprTree) (us : List Token) → height e ≡ 1 → ((rest : List Token) → atom_at (us ++ rest) ≡ Some (e, 1, rest)) → Free e us
free-atom e us q s d low rest = begins d (us ++ rest) e 1 rest (primary-atom d (expr_at d) (us ++ rest) e 1 rest (s rest)) q

pub free-true : (t : Token) → IsWord (codes "true") t → Free (tree.True t.at) (t ∷ [])
free-true t h = free-atom (tree.True t.at) (t ∷ []) (height-true t.at) (atom-true t h)

pub free-false : (t : Token) → IsWord (codes "false") t → Free (tree.False t.at) (t ∷ [])
free-false t h = free-atom (tree.False t.at) (t ∷ []) (height-false t.at) (atom-false t h)

pub free-named : (n : List ℕ) (t : Token) → IsName n t → Free (tree.Named t.at n) (t ∷ [])
free-named n t h = free-atom (tree.Named t.at n) (t ∷ []) (height-named t.at n) (atom-named n t h)

pub free-message : (n : List ℕ) (w p m : Token) → IsWord (codes "msg") w → IsMark (codes ".") p → IsName n m → Free (tree.MessageMember w.at (named_by n m)) (w ∷ (p ∷ (m ∷ [])))
free-message n w p m hw hp hm = free-atom (tree.MessageMember w.at (named_by n m)) (w ∷ (p ∷ (m ∷ []))) (height-of_message w.at (named_by n m)) (atom-message n w p m hw hp hm)

pub free-super : (n : List ℕ) (w p m : Token) → IsWord (codes "super") w → IsMark (codes ".") p → IsName n m → Free (tree.SuperMember w.at (named_by n m)) (w ∷ (p ∷ (m ∷ [])))
free-super n w p m hw hp hm = free-atom (tree.SuperMember w.at (named_by n m)) (w ∷ (p ∷ (m ∷ []))) (height-of_super w.at (named_by n m)) (atom-super n w p m hw hp hm)

pub free-type : (ty : types.Type) (n : List ℕ) (w o c p m : Token) (ts : List Token) → IsWord (codes "type") w → IsMark (codes "(") o → SpellsType ty ts → IsMark (codes ")") c → IsMark (codes ".") p → IsName n m → Free (tree.TypeMember w.at ty (named_by n m)) (w ∷ (o ∷ (ts ++ (c ∷ (p ∷ (m ∷ []))))))
free-type ty n w o c p m ts hw ho s hc hp hm d low rest =
    let high : height (tree.TypeMember w.at ty (named_by n m)) ≡ type_height ty + 1 = height-of_type w.at ty (named_by n m) in
    let read = primary-type d (expr_at d) ty n w o c p m ts hw ho s (omega arith) hc hp hm rest in
    simp append_assoc (begins d (w ∷ (o ∷ (ts ++ (c ∷ (p ∷ (m ∷ rest)))))) (tree.TypeMember w.at ty (named_by n m)) (type_height ty + 1) rest read high)

pub free-parenthesised : (e : tree.ExprTree) (ts : List Token) (o c : Token) → Done 10 e ts → 0 < height e → IsMark (codes "(") o → IsMark (codes ")") c → Free (tree.Parenthesised o.at e) (o ∷ (ts ++ (c ∷ [])))
free-parenthesised e ts o c s pos m n d low rest =
    let high : height (tree.Parenthesised o.at e) ≡ height e + 1 = height-parenthesised o.at e in
    let after : 10 < binds_at (c ∷ rest) = omega (arith, binds-mark (codes ")") 11 c rest binds-call_end n) in
    let inside = closed (codes ")") e ts s pos d (omega arith) c rest after n in
    simp append_assoc (begins d (o ∷ (ts ++ (c ∷ rest))) (tree.Parenthesised o.at e) (height e + 1) rest (primary-parenthesised d (expr_at d) o (ts ++ (c ∷ rest)) e (height e) rest m inside) high)

pub free-conversion : (e : tree.ExprTree) (ts : List Token) (ty : Ty) (t o c : Token) → Done 10 e ts → 0 < height e → IsElementary ty t → IsMark (codes "(") o → IsMark (codes ")") c → Free (tree.Conversion t.at ty o.at e) (t ∷ (o ∷ (ts ++ (c ∷ []))))
free-conversion e ts ty t o c s pos g m n d low rest =
    let high : height (tree.Conversion t.at ty o.at e) ≡ height e + 1 = height-conversion t.at ty o.at e in
    let after : 10 < binds_at (c ∷ rest) = omega (arith, binds-mark (codes ")") 11 c rest binds-call_end n) in
    let inside = closed (codes ")") e ts s pos d (omega arith) c rest after n in
    simp append_assoc (begins d (t ∷ (o ∷ (ts ++ (c ∷ rest)))) (tree.Conversion t.at ty o.at e) (height e + 1) rest (primary-conversion d (expr_at d) ty t o (ts ++ (c ∷ rest)) e (height e) rest g m inside) high)

-- a suffix that stands after a tree is its next turn
suffix-turn : (a : tree.ExprTree) (d : ℕ) (ts us : List Token) (p : Suffix) (n : ℕ) (rest : List Token) → Goes 1 a d ts us → height a ≤ d → length rest < length us → suffix_at (expr_at d) us ≡ Some (p, n, rest) → height (suffixed a p) ≡ max (height a) n + 1 → Goes 1 (suffixed a p) d ts rest
suffix-turn a d ts us p n rest g low shorter step high =
    let many : length us ≤ g.0 = g.1 in
    let turn = grow-turn suffixed d (suffix_at (expr_at d)) g.0 a (height a) us p n rest (omega arith) low step in
    let same = ap (λ (h : ℕ). grow suffixed d (suffix_at (expr_at d)) (g.0 - 1) (suffixed a p) h rest) (sym high) in
    (g.0 - 1, omega arith, g.2 ∙ goes-one d (expr_at d) g.0 a (height a) us ∙ turn ∙ same ∙ sym (goes-one d (expr_at d) (g.0 - 1) (suffixed a p) (height (suffixed a p)) rest))

index-stands : (inner : ByPrecedence) (o : Token) (ts : List Token) (i : tree.ExprTree) (h : ℕ) (rest : List Token) → IsMark (codes "[") o → closed_at (codes "]") inner ts ≡ Some (i, h, rest) → suffix_at inner (o ∷ ts) ≡ Some (suffix.Index o.at i, h, rest)
unfolding suffix_at index_at
index-stands inner o ts i h rest m q = rw (mark-here (codes "[") o ts m, q) refl

pub free-index : (a i : tree.ExprTree) (ts us : List Token) (o c : Token) → Done 1 a ts → Done 10 i us → 0 < height i → IsMark (codes "[") o → IsMark (codes "]") c → Free (tree.Index (place_of a) a o.at i) (ts ++ (o ∷ (us ++ (c ∷ []))))
free-index a i ts us o c s t pos m n d low rest =
    let high : height (tree.Index (place_of a) a o.at i) ≡ max (height a) (height i) + 1 = height-index (place_of a) a o.at i in
    let ahead : 0 < binds_at (o ∷ (us ++ (c ∷ rest))) = omega (arith, binds-mark (codes "[") 1 o (us ++ (c ∷ rest)) binds-index m) in
    let after : 10 < binds_at (c ∷ rest) = omega (arith, binds-mark (codes "]") 11 c rest binds-index_end n) in
    let base = s d (omega arith) (o ∷ (us ++ (c ∷ rest))) (omega (arith, need-one)) in
    let inside = closed (codes "]") i us t pos d (omega arith) c rest after n in
    let step = index-stands (expr_at d) o (us ++ (c ∷ rest)) i (height i) rest m inside in
    let shorter : length rest < length (o ∷ (us ++ (c ∷ rest))) = simp length-append (omega arith) in
    simp append_assoc (suffix-turn a d (ts ++ (o ∷ (us ++ (c ∷ rest)))) (o ∷ (us ++ (c ∷ rest))) (suffix.Index o.at i) (height i) rest base (omega arith) shorter step high)

member_suffix-stands : (inner : ByPrecedence) (n : List ℕ) (p m : Token) (rest : List Token) → IsMark (codes ".") p → IsName n m → suffix_at inner (p ∷ (m ∷ rest)) ≡ Some (suffix.Member (named_by n m), 0, rest)
unfolding suffix_at index_at member_suffix_at
member_suffix-stands inner n p m rest h s = rw (mark-not (codes "[") (kind.Mark (codes ".")) p (m ∷ rest) h refl, member-stands n p m rest h s) refl

pub free-member : (a : tree.ExprTree) (n : List ℕ) (ts : List Token) (p m : Token) → Done 1 a ts → IsMark (codes ".") p → IsName n m → Free (tree.Member (place_of a) a (named_by n m)) (ts ++ (p ∷ (m ∷ [])))
free-member a n ts p m s h g d low rest =
    let high : height (tree.Member (place_of a) a (named_by n m)) ≡ height a + 1 = height-member (place_of a) a (named_by n m) in
    let ahead : 0 < binds_at (p ∷ (m ∷ rest)) = omega (arith, binds-mark (codes ".") 1 p (m ∷ rest) binds-member h) in
    let base = s d (omega arith) (p ∷ (m ∷ rest)) (omega (arith, need-one)) in
    let same : height (tree.Member (place_of a) a (named_by n m)) ≡ max (height a) 0 + 1 = omega arith in
    simp append_assoc (suffix-turn a d (ts ++ (p ∷ (m ∷ rest))) (p ∷ (m ∷ rest)) (suffix.Member (named_by n m)) 0 rest base (omega arith) (omega arith) (member_suffix-stands (expr_at d) n p m rest h g) same)

-- the tokens are read as these arguments, before the mark that closes them
abbrev pub DoneAll : List tree.ExprTree → List Token → Type 0
DoneAll es us = (d : ℕ) → greatest (map height es) ≤ d → (c : Token) (rest : List Token) → IsMark (codes ")") c → all_at (expr_at d) (us ++ (c ∷ rest)) ≡ Some (es, greatest (map height es), c ∷ rest)

call-stands : (inner : ByPrecedence) (o c : Token) (ts : List Token) (es : List tree.ExprTree) (h : ℕ) (rest : List Token) → IsMark (codes "(") o → all_at inner ts ≡ Some (es, h, c ∷ rest) → IsMark (codes ")") c → suffix_at inner (o ∷ ts) ≡ Some (suffix.Call o.at es, h, rest)
unfolding suffix_at index_at member_suffix_at member_at call_at
call-stands inner o c ts es h rest m q n = rw (mark-not (codes "[") (kind.Mark (codes "(")) o ts m refl, mark-not (codes ".") (kind.Mark (codes "(")) o ts m refl, mark-here (codes "(") o ts m, q, mark-here (codes ")") c rest n) refl

pub free-call : (a : tree.ExprTree) (es : List tree.ExprTree) (ts us : List Token) (o c : Token) → Done 1 a ts → DoneAll es us → IsMark (codes "(") o → IsMark (codes ")") c → Free (tree.Call (place_of a) a o.at es) (ts ++ (o ∷ (us ++ (c ∷ []))))
free-call a es ts us o c s t m n d low rest =
    let high : height (tree.Call (place_of a) a o.at es) ≡ max (height a) (greatest (map height es)) + 1 = height-call (place_of a) a o.at es in
    let ahead : 0 < binds_at (o ∷ (us ++ (c ∷ rest))) = omega (arith, binds-mark (codes "(") 1 o (us ++ (c ∷ rest)) binds-call m) in
    let base = s d (omega arith) (o ∷ (us ++ (c ∷ rest))) (omega (arith, need-one)) in
    let step = call-stands (expr_at d) o c (us ++ (c ∷ rest)) es (greatest (map height es)) rest m (t d (omega arith) c rest n) n in
    let shorter : length rest < length (o ∷ (us ++ (c ∷ rest))) = simp length-append (omega arith) in
    simp append_assoc (suffix-turn a d (ts ++ (o ∷ (us ++ (c ∷ rest)))) (o ∷ (us ++ (c ∷ rest))) (suffix.Call o.at es) (greatest (map height es)) rest base (omega arith) shorter step high)
