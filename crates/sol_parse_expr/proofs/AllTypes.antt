-- Each type is read from the tokens that spell it.
use Rattle.std.proofs.Common.{◌≡◌, ◌∙◌, sym, ap, refl, ℕ, zero, suc, ◌+◌, ◌-◌, ◌<◌, ◌≤◌, max, List, [], ◌∷◌, ◌++◌, length, append_assoc, false, Option, Some, None, codes, arith}
use Rattle.std.specs.Str.{bytes_eq}
use Rattle.chc_nums.specs.declared.typed.Ty.{Ty}
use Rattle.sol_tree.specs.declared.token.Token.{Token}
use Rattle.sol_tree.specs.declared.token.TokenKind.TheVariants as kind
use Rattle.sol_tree.specs.declared.types.Identifier.{Identifier}
use Rattle.sol_tree.specs.declared.types.Type as types
use Rattle.sol_tree.specs.Places.{type_place_of}
use Rattle.sol_parse_expr.specs.Grammar.{IsMark, IsWord, IsName, IsElementary, MayName, SpellsType}
use Rattle.sol_parse_expr.specs.Heights.{type_height}
use Rattle.sol_parse_expr.specs.Reading.{may_name_at, entry_at, mapping_at, first_type_at, name_of, brackets_at, array_of, type_at, grow}
use Rattle.sol_parse_expr.proofs.Tokens.{mark-here, word-here, elementary-here, name-here, mark-not, elementary-not, name-not}
use Rattle.sol_parse_expr.proofs.Heights.{height-elementary, height-named_type, height-array, height-mapping}
use Rattle.sol_parse_expr.proofs.Loops.{grow-stop, grow-array}
use Rattle.sol_parse_expr.proofs.Binding.{name-no_type}
use Rattle.sol_parse_expr.proofs.Keywords.{keyword}

-- ---- what stands after a type

pub no-brackets : (m : List ℕ) (t : Token) (ts : List Token) → IsMark m t → bytes_eq m (codes "[") ≡ false → brackets_at (t ∷ ts) ≡ None
unfolding brackets_at
no-brackets m t ts h q = rw (mark-not (codes "[") (kind.Mark m) t ts h q) refl

two-brackets : (o c : Token) (rest : List Token) → IsMark (codes "[") o → IsMark (codes "]") c → brackets_at (o ∷ (c ∷ rest)) ≡ Some (tt, 0, rest)
unfolding brackets_at
two-brackets o c rest m n = rw (mark-here (codes "[") o (c ∷ rest) m, mark-here (codes "]") c rest n) refl

name-stands : {i : Option Identifier} {is : List Token} → MayName i is → (m : List ℕ) (t : Token) (ts : List Token) → IsMark m t → may_name_at (is ++ (t ∷ ts)) ≡ Some (i, t ∷ ts)
unfolding may_name_at
name-stands MayName.unnamed m t ts h = rw (name-not (kind.Mark m) t ts h refl) refl
name-stands (MayName.named {n} s g) m t ts h = rw (name-here n s (t ∷ ts) g) refl

name-ends : {i : Option Identifier} {is : List Token} → MayName i is → (m : List ℕ) (t : Token) (ts : List Token) → IsMark m t → bytes_eq m (codes "[") ≡ false → brackets_at (is ++ (t ∷ ts)) ≡ None
unfolding brackets_at
name-ends MayName.unnamed m t ts h q = no-brackets m t ts h q
name-ends (MayName.named {n} s g) m t ts h q = rw (mark-not (codes "[") (kind.Word n) s (t ∷ ts) g.word refl) refl

pub positive-type : {t : types.Type} {us : List Token} → SpellsType t us → 0 < type_height t
positive-type (SpellsType.elementary {ty} t s) = omega (arith, height-elementary t.at ty)
positive-type (SpellsType.named {n} t s) = omega (arith, height-named_type t.at n)
positive-type (SpellsType.array {e} {ts} o c s m n) = omega (arith, height-array (type_place_of e) e)
positive-type (SpellsType.mapping {k} {v} {i} {j} w o a c {ks} {is} {vs} {js} hw ho sk si ha sv sj hc) = omega (arith, height-mapping w.at k i v j)

-- ---- reading goes on after the type

-- reading is the loop that has the type and at least as many turns as tokens are left
abbrev TypeDone : types.Type → List Token → Type 0
TypeDone t us = (d : ℕ) → type_height t ≤ suc d → (rest : List Token) → (k : ℕ) × (length rest ≤ k) × (type_at (suc d) (us ++ rest) ≡ grow array_of d brackets_at k t (type_height t) rest)

begins : (d : ℕ) (ts : List Token) (t : types.Type) (h : ℕ) (rest : List Token) → first_type_at (type_at d) ts ≡ Some (t, h, rest) → type_height t ≡ h → (k : ℕ) × (length rest ≤ k) × (type_at (suc d) ts ≡ grow array_of d brackets_at k t (type_height t) rest)
unfolding type_at
begins d ts t h rest e q = (length rest, omega arith, rw (e, q) refl)

type-exact : (t : types.Type) (us : List Token) → TypeDone t us → 0 < type_height t → (d : ℕ) → type_height t ≤ d → (rest : List Token) → brackets_at rest ≡ None → type_at d (us ++ rest) ≡ Some (t, type_height t, rest)
type-exact t us s pos zero low rest q = absurd (omega arith)
type-exact t us s pos (suc d) low rest q =
    let p = s d low rest in
    p.2 ∙ grow-stop array_of d brackets_at p.0 t (type_height t) rest q

done-elementary : (ty : Ty) (t : Token) → IsElementary ty t → TypeDone (types.Elementary t.at ty) (t ∷ [])
unfolding first_type_at
done-elementary ty t s d low rest = begins d (t ∷ rest) (types.Elementary t.at ty) 1 rest (rw (elementary-here ty t rest s) refl) (height-elementary t.at ty)

done-named : (n : List ℕ) (t : Token) → IsName n t → TypeDone (types.Named t.at n) (t ∷ [])
unfolding first_type_at
done-named n t s d low rest = begins d (t ∷ rest) (types.Named t.at n) 1 rest (rw (elementary-not (kind.Word n) t rest s.word (name-no_type n s.free), name-here n t rest s) refl) (height-named_type t.at n)

done-array : (e : types.Type) (ts : List Token) (o c : Token) → TypeDone e ts → IsMark (codes "[") o → IsMark (codes "]") c → TypeDone (types.Array (type_place_of e) e) (ts ++ (o ∷ (c ∷ [])))
done-array e ts o c s m n d low rest =
    let high : type_height (types.Array (type_place_of e) e) ≡ type_height e + 1 = height-array (type_place_of e) e in
    let p = s d (omega arith) (o ∷ (c ∷ rest)) in
    let long : suc (suc (length rest)) ≤ p.0 = p.1 in
    let turn = grow-array d p.0 e (type_height e) (o ∷ (c ∷ rest)) rest (omega arith) (omega arith) (two-brackets o c rest m n) in
    (p.0 - 1, omega arith, simp append_assoc (p.2 ∙ turn ∙ ap (λ (h : ℕ). grow array_of d brackets_at (p.0 - 1) (types.Array (type_place_of e) e) h rest) (sym high)))

entry-exact : (d : ℕ) (t : types.Type) (us : List Token) (i : Option Identifier) (is : List Token) → TypeDone t us → 0 < type_height t → type_height t ≤ d → MayName i is → (m : List ℕ) (c : Token) (ts : List Token) → IsMark m c → bytes_eq m (codes "[") ≡ false → entry_at (type_at d) (us ++ (is ++ (c ∷ ts))) ≡ Some (record { ty = t; name = i }, type_height t, c ∷ ts)
unfolding entry_at
entry-exact d t us i is s pos low n m c ts h q = rw (type-exact t us s pos d low (is ++ (c ∷ ts)) (name-ends n m c ts h q), name-stands n m c ts h) refl

done-mapping : (k v : types.Type) (i j : Option Identifier) (w o a c : Token) (ks is vs js : List Token) → IsWord (codes "mapping") w → IsMark (codes "(") o → TypeDone k ks → 0 < type_height k → MayName i is → IsMark (codes "=>") a → TypeDone v vs → 0 < type_height v → MayName j js → IsMark (codes ")") c → TypeDone (types.Mapping w.at k i v j) (w ∷ (o ∷ (ks ++ (is ++ (a ∷ (vs ++ (js ++ (c ∷ []))))))))
unfolding first_type_at mapping_at
done-mapping k v i j w o a c ks is vs js hw ho sk pk si ha sv pv sj hc d low rest =
    let high : type_height (types.Mapping w.at k i v j) ≡ max (type_height k) (type_height v) + 1 = height-mapping w.at k i v j in
    let t5 : List Token = vs ++ (js ++ (c ∷ rest)) in
    let t2 : List Token = ks ++ (is ++ (a ∷ t5)) in
    let name : name_of (kind.Word (codes "mapping")) ≡ None = rw ((keyword (codes "mapping") refl).no_name) refl in
    let key = entry-exact d k ks i is sk pk (omega arith) si (codes "=>") a t5 ha refl in
    let value = entry-exact d v vs j js sv pv (omega arith) sj (codes ")") c rest hc refl in
    let first : first_type_at (type_at d) (w ∷ (o ∷ t2)) ≡ Some (types.Mapping w.at k i v j, max (type_height k) (type_height v) + 1, rest) =
    rw (elementary-not (kind.Word (codes "mapping")) w (o ∷ t2) hw (keyword (codes "mapping") refl).no_type, name-not (kind.Word (codes "mapping")) w (o ∷ t2) hw name, word-here (codes "mapping") w (o ∷ t2) hw, mark-here (codes "(") o t2 ho, key, mark-here (codes "=>") a t5 ha, value, mark-here (codes ")") c rest hc) refl in
    simp append_assoc (begins d (w ∷ (o ∷ t2)) (types.Mapping w.at k i v j) (max (type_height k) (type_height v) + 1) rest first high)

done-type : {t : types.Type} {us : List Token} → SpellsType t us → TypeDone t us
done-type (SpellsType.elementary {ty} t s) = done-elementary ty t s
done-type (SpellsType.named {n} t s) = done-named n t s
done-type (SpellsType.array {e} {ts} o c s m n) = done-array e ts o c (done-type s) m n
done-type (SpellsType.mapping {k} {v} {i} {j} w o a c {ks} {is} {vs} {js} hw ho sk si ha sv sj hc) = done-mapping k v i j w o a c ks is vs js hw ho (done-type sk) (positive-type sk) si ha (done-type sv) (positive-type sv) sj hc

pub type-all : {t : types.Type} {us : List Token} → SpellsType t us → (d : ℕ) → type_height t ≤ d → (rest : List Token) → brackets_at rest ≡ None → type_at d (us ++ rest) ≡ Some (t, type_height t, rest)
type-all {t} {us} s d low rest q = type-exact t us (done-type s) (positive-type s) d low rest q
