-- The token that stands first: what it rules out, and with which tokens expressions and types begin.
use Rattle.std.proofs.Common.{◌≡◌, ◌∙◌, sym, ap, refl, ℕ, zero, suc, ◌<◌, List, [], ◌∷◌, ◌++◌, length, append_assoc, Option, Some, None, Bool, true, false, ◌||◌, not, inl, inr, codes, arith}
use Rattle.chc_nums.specs.declared.typed.Ty.{Ty}
use Rattle.sol_tree.specs.declared.token.Token.{Token}
use Rattle.sol_tree.specs.declared.token.TokenKind.{TokenKind}
use Rattle.sol_tree.specs.declared.token.TokenKind.TheVariants as kind
use Rattle.sol_tree.specs.declared.types.Type as types
use Rattle.sol_tree.specs.declared.expr.ExprTree as tree
use Rattle.sol_tree.specs.declared.expr.BinaryOp.{BinaryOp}
use Rattle.sol_tree.specs.declared.expr.BinaryOp.TheVariants as operator
use Rattle.std.specs.Str.{bytes_eq}
use Rattle.std.proofs.lemmas.Slice.Eq.{bytes_eq-Decides}
use Rattle.sol_tree.specs.Refused.{is_one_of}
use Rattle.sol_tree.specs.Words.{elementary_type, operator_of, is_name, is_none}
use Rattle.sol_parse_expr.specs.Grammar.{IsMark, IsWord, IsName, IsElementary, IsOperator, SpellsType, Spells}
use Rattle.sol_parse_expr.specs.Ends.{Ends, goes_on}
use Rattle.sol_parse_expr.specs.Reading.{is_mark, is_word, mark_at, word_at, elementary_at, name_at, brackets_at, mapping_at, first_type_at, type_at, array_of, name_of, then_tree}
use Rattle.sol_parse_expr.proofs.Keywords.{Keyword, keyword, keywords}
use Rattle.sol_parse_expr.proofs.Tokens.{mark-or, word-or, mark-here, mark-not, word-not, elementary-not, name-not}
use Rattle.sol_parse_expr.proofs.Binding.{name-differs}
use Rattle.sol_parse_expr.proofs.Loops.{grow-stop}
use Rattle.sol_parse_expr.proofs.After.{Holds, after-word, if-elementary, if-name}

-- ---- a first token of one kind

abbrev pub KindFirst : TokenKind → List Token → Type 0
KindFirst k ts = (t : Token) × (us : List Token) × (t.kind ≡ k) × (ts ≡ t ∷ us)

abbrev pub WordFirst : List ℕ → List Token → Type 0
WordFirst v ts = KindFirst (kind.Word v) ts

abbrev pub MarkFirst : List ℕ → List Token → Type 0
MarkFirst m ts = KindFirst (kind.Mark m) ts

abbrev pub NameFirst : List Token → Type 0
NameFirst ts = (t : Token) × (n : List ℕ) × (us : List Token) × IsName n t × (ts ≡ t ∷ us)

kind-mark : (m : List ℕ) (k : TokenKind) (ts : List Token) → is_mark m k ≡ false → KindFirst k ts → mark_at m ts ≡ None
kind-mark m k ts q f = rw (f.3) (mark-not m k f.0 f.1 f.2 q)

kind-word : (w : List ℕ) (k : TokenKind) (ts : List Token) → is_word w k ≡ false → KindFirst k ts → word_at w ts ≡ None
kind-word w k ts q f = rw (f.3) (word-not w k f.0 f.1 f.2 q)

kind-name : (k : TokenKind) (ts : List Token) → name_of k ≡ None → KindFirst k ts → name_at ts ≡ None
kind-name k ts q f = rw (f.3) (name-not k f.0 f.1 f.2 q)

name-kind : (ts : List Token) (f : NameFirst ts) → KindFirst (kind.Word f.1) ts
name-kind ts f = (f.0, f.2, f.3.word, f.4)

pub word-word : (w v : List ℕ) (ts : List Token) → bytes_eq v w ≡ false → WordFirst v ts → word_at w ts ≡ None
word-word w v ts q f = kind-word w (kind.Word v) ts q f

pub word-mark : (w m : List ℕ) (ts : List Token) → MarkFirst m ts → word_at w ts ≡ None
word-mark w m ts f = kind-word w (kind.Mark m) ts refl f

pub word-name : (w : List ℕ) (ts : List Token) → is_one_of w keywords ≡ true → NameFirst ts → word_at w ts ≡ None
word-name w ts q f = let k = keyword w q in kind-word w (kind.Word f.1) ts (name-differs f.1 w f.3.free k.no_name) (name-kind ts f)

pub mark-word : (m v : List ℕ) (ts : List Token) → WordFirst v ts → mark_at m ts ≡ None
mark-word m v ts f = kind-mark m (kind.Word v) ts refl f

pub mark-mark : (m n : List ℕ) (ts : List Token) → bytes_eq n m ≡ false → MarkFirst n ts → mark_at m ts ≡ None
mark-mark m n ts q f = kind-mark m (kind.Mark n) ts q f

pub mark-name : (m : List ℕ) (ts : List Token) → NameFirst ts → mark_at m ts ≡ None
mark-name m ts f = kind-mark m (kind.Word f.1) ts refl (name-kind ts f)

pub name-word : (v : List ℕ) (ts : List Token) → is_one_of v keywords ≡ true → WordFirst v ts → name_at ts ≡ None
name-word v ts q f = let k = keyword v q in kind-name (kind.Word v) ts (rw (k.no_name) refl) f

pub name-mark : (m : List ℕ) (ts : List Token) → MarkFirst m ts → name_at ts ≡ None
name-mark m ts f = kind-name (kind.Mark m) ts refl f

pub brackets-none : (ts : List Token) → mark_at (codes "[") ts ≡ None → brackets_at ts ≡ None
unfolding brackets_at
brackets-none ts e = rw e refl

-- ---- a first token that passes a test

unfoldable pub first : (TokenKind → Bool) → List Token → Bool
first test [] = false
first test (t ∷ ts) = test t.kind

pub first-here : (test : TokenKind → Bool) (k : TokenKind) (t : Token) (ts : List Token) (b : Bool) → t.kind ≡ k → test k ≡ b → first test (t ∷ ts) ≡ b
unfolding first
first-here test k t ts b h e = rw h e

pub first-weaker : (f g : TokenKind → Bool) → ((k : TokenKind) → f k ≡ true → g k ≡ true) → (ts : List Token) → first f ts ≡ true → first g ts ≡ true
unfolding first
first-weaker f g w [] h = absurd (cc)
first-weaker f g w (t ∷ ts) h = w t.kind h

pub first-some : (f : TokenKind → Bool) (ts : List Token) → first f ts ≡ true → 0 < length ts
unfolding first
first-some f [] h = absurd (cc)
first-some f (t ∷ ts) h = omega arith

-- what fails the test does not stand there
pub first-no_mark : (f : TokenKind → Bool) (m : List ℕ) (ts : List Token) → f (kind.Mark m) ≡ false → first f ts ≡ true → mark_at m ts ≡ None
first-no_mark f m ts q h = elim (mark-or m ts) [
  | inl e ↦ e
  | inr x ↦
      let same : first f ts ≡ false = ap (first f) x.3 ∙ first-here f (kind.Mark m) x.0 x.1 false x.2 q in
      absurd (cc (same, h))
]

pub first-no_word : (f : TokenKind → Bool) (w : List ℕ) (ts : List Token) → f (kind.Word w) ≡ false → first f ts ≡ true → word_at w ts ≡ None
first-no_word f w ts q h = elim (word-or w ts) [
  | inl e ↦ e
  | inr x ↦
      let same : first f ts ≡ false = ap (first f) x.3 ∙ first-here f (kind.Word w) x.0 x.1 false x.2 q in
      absurd (cc (same, h))
]

-- ---- with what expressions and types begin

-- names and elementary types
abbrev pub typed_word : List ℕ → Bool
typed_word w = is_name w || not (is_none (elementary_type w))

abbrev pub expr_words : List (List ℕ)
expr_words = codes "true" ∷ codes "false" ∷ codes "type" ∷ codes "msg" ∷ codes "super" ∷ []

abbrev pub begins_word : List ℕ → Bool
begins_word w = is_one_of w expr_words || typed_word w

abbrev pub begins_mark : List ℕ → Bool
begins_mark m = is_one_of m (codes "(" ∷ codes "!" ∷ codes "-" ∷ [])

-- what an expression begins with
abbrev pub begins : TokenKind → Bool
begins (kind.Word w) = begins_word w
begins (kind.Number z h) = true
begins kind.Text = false
begins (kind.Mark m) = begins_mark m

-- what a type that is no mapping begins with
abbrev pub typed : TokenKind → Bool
typed (kind.Word w) = typed_word w
typed (kind.Number z h) = false
typed kind.Text = false
typed (kind.Mark m) = false

-- what a type begins with
abbrev pub begins_type : TokenKind → Bool
begins_type (kind.Word w) = bytes_eq w (codes "mapping") || typed_word w
begins_type (kind.Number z h) = false
begins_type kind.Text = false
begins_type (kind.Mark m) = false

pub or-left : (a b : Bool) → a ≡ true → (a || b) ≡ true
or-left a b e = rw e refl

pub or-right : (a b : Bool) → b ≡ true → (a || b) ≡ true
or-right true b e = refl
or-right false b e = e

typed-name : (n : List ℕ) → is_name n ≡ true → typed_word n ≡ true
typed-name n e = or-left (is_name n) _ e

typed-elementary : (w : List ℕ) (ty : Ty) → elementary_type w ≡ Some ty → typed_word w ≡ true
typed-elementary w ty e = or-right (is_name w) _ (rw e refl)

pub begins-not : (w : List ℕ) → is_one_of w expr_words ≡ false → Keyword w → begins_word w ≡ false
begins-not w q k = rw (q, k.no_name, k.no_type) refl

begins_type-not : (w : List ℕ) → bytes_eq w (codes "mapping") ≡ false → Keyword w → begins_type (kind.Word w) ≡ false
begins_type-not w q k = rw (q, k.no_name, k.no_type) refl

-- neither brackets nor a name
abbrev pub Quiet : List Token → Type 0
Quiet ts = (brackets_at ts ≡ None) × (name_at ts ≡ None)

-- a first token with which an expression begins; where a type may begin with it too, neither brackets nor a name follow
abbrev pub Headed : List Token → Type 0
Headed us = (t : Token) × (more : List Token) × (us ≡ t ∷ more) × (begins t.kind ≡ true) × ((rest : List Token) → Quiet rest → typed t.kind ≡ true → Quiet (more ++ rest))

-- ---- what is quiet

quiet-mark : (m : List ℕ) (t : Token) (ts : List Token) → IsMark m t → bytes_eq m (codes "[") ≡ false → Quiet (t ∷ ts)
unfolding brackets_at
quiet-mark m t ts i b = (rw (mark-not (codes "[") (kind.Mark m) t ts i b) refl, name-not (kind.Mark m) t ts i refl)

no-bracket : operator_of (codes "[") ≡ None
unfolding operator_of
no-bracket = refl

other-text : (a b : List ℕ) → (c : Bool) → bytes_eq a b ≡ c → (a ≡ b → ⊥) → bytes_eq a b ≡ false
other-text a b true e n = absurd (n ((bytes_eq-Decides a b).0 e))
other-text a b false e n = e

quiet-operator : (o : BinaryOp) (t : Token) (ts : List Token) → IsOperator o t → Quiet (t ∷ ts)
quiet-operator o t ts i =
    let differ : i.text ≡ codes "[" → ⊥ = λ e.
    (let n : operator_of i.text ≡ None = rw e no-bracket in
    let c : ◌≡◌ {A = Option BinaryOp} None (Some o) = sym n ∙ i.named in
    absurd (cc)) in
    quiet-mark i.text t ts i.mark (other-text i.text (codes "[") (bytes_eq i.text (codes "[")) refl differ)

-- what begins with such a token passes the test
headed-begins : (us : List Token) → Headed us → (rest : List Token) → first begins (us ++ rest) ≡ true
headed-begins us h rest =
    let same : us ++ rest ≡ h.0 ∷ (h.1 ++ rest) = ap (λ (w : List Token). w ++ rest) h.2 in
    rw same (first-here begins h.0.kind h.0 (h.1 ++ rest) true refl h.3)

quiet-index : (o : Token) (us rest : List Token) → IsMark (codes "[") o → Headed us → Quiet (o ∷ (us ++ rest))
unfolding brackets_at
quiet-index o us rest i h = (rw (mark-here (codes "[") o (us ++ rest) i) (rw (first-no_mark begins (codes "]") (us ++ rest) refl (headed-begins us h rest)) refl), name-not (kind.Mark (codes "[")) o (us ++ rest) i refl)

-- ---- how each form begins

-- what goes on behind an expression that begins so
onward : (ts vs : List Token) → Headed ts → ((rest : List Token) → Quiet rest → Quiet (vs ++ rest)) → Headed (ts ++ vs)
onward ts vs h q = (h.0, h.1 ++ vs, ap (λ (w : List Token). w ++ vs) h.2, h.3, λ rest r k. rw append_assoc (h.4 (vs ++ rest) (q rest r) k))

first-word : (w : List ℕ) (t : Token) (more : List Token) → IsWord w t → begins_word w ≡ true → ((rest : List Token) → Quiet rest → typed_word w ≡ true → Quiet (more ++ rest)) → Headed (t ∷ more)
first-word w t more i b q = (t, more, refl, rw i b, λ rest r k. q rest r (rw i at k))

first-mark : (m : List ℕ) (t : Token) (more : List Token) → IsMark m t → begins_mark m ≡ true → Headed (t ∷ more)
first-mark m t more i b =
    let n : typed t.kind ≡ false = rw i refl in
    (t, more, refl, rw i b, λ rest r k. absurd (cc (k, n)))

-- words that begin an expression and no type
untyped : (w : List ℕ) (t : Token) (more : List Token) → IsWord w t → is_one_of w expr_words ≡ true → Keyword w → Headed (t ∷ more)
untyped w t more i b k =
    let n : typed_word w ≡ false = rw (k.no_name, k.no_type) refl in
    first-word w t more i (or-left (is_one_of w expr_words) (typed_word w) b) (λ rest r q. absurd (cc (q, n)))

number-untyped : (t : Token) (k : TokenKind) → t.kind ≡ k → typed k ≡ false → begins k ≡ true → (more : List Token) → Headed (t ∷ more)
number-untyped t k e n b more =
    let m : typed t.kind ≡ false = rw e n in
    (t, more, refl, rw e b, λ rest r q. absurd (cc (q, m)))

pub head : {l : ℕ} {e : tree.ExprTree} {us : List Token} → Spells l e us → Headed us
head (Spells.tighter {l} {e} {ts} a b s) = head s
head (Spells.number {z} {h} {u} t {us} i m) = number-untyped t (kind.Number z h) i refl refl us
head (Spells.truth t i) = untyped (codes "true") t [] i refl (keyword (codes "true") refl)
head (Spells.falsehood t i) = untyped (codes "false") t [] i refl (keyword (codes "false") refl)
head (Spells.named {n} t i) = first-word n t [] i.word (or-right (is_one_of n expr_words) (typed_word n) (typed-name n i.free)) (λ rest r k. r)
head (Spells.parenthesised {e} o c {ts} i s j) = first-mark (codes "(") o (ts ++ (c ∷ [])) i refl
head (Spells.conversion {e} {ty} t o c {ts} i j s k) = first-word i.text t (o ∷ (ts ++ (c ∷ []))) i.word (or-right (is_one_of i.text expr_words) (typed_word i.text) (typed-elementary i.text ty i.named)) (λ rest r q. quiet-mark (codes "(") o ((ts ++ (c ∷ [])) ++ rest) j refl)
head (Spells.of_type {ty} {n} w o c d m {ts} iw io s ic id im) = untyped (codes "type") w (o ∷ (ts ++ (c ∷ (d ∷ (m ∷ []))))) iw refl (keyword (codes "type") refl)
head (Spells.of_message {n} w d m iw id im) = untyped (codes "msg") w (d ∷ (m ∷ [])) iw refl (keyword (codes "msg") refl)
head (Spells.of_super {n} w d m iw id im) = untyped (codes "super") w (d ∷ (m ∷ [])) iw refl (keyword (codes "super") refl)
head (Spells.index {a} {i} o c {ts} {us} s io si ic) = onward ts (o ∷ (us ++ (c ∷ []))) (head s) (λ rest r. rw append_assoc (quiet-index o us ((c ∷ []) ++ rest) io (head si)))
head (Spells.member {a} {n} d m {ts} s id im) = onward ts (d ∷ (m ∷ [])) (head s) (λ rest r. quiet-mark (codes ".") d ((m ∷ []) ++ rest) id refl)
head (Spells.call {a} {es} o c {ts} {us} s io sa ic) = onward ts (o ∷ (us ++ (c ∷ []))) (head s) (λ rest r. quiet-mark (codes "(") o ((us ++ (c ∷ [])) ++ rest) io refl)
head (Spells.opposite {e} t {ts} i s) = first-mark (codes "!") t ts i refl
head (Spells.negation {e} t {ts} i s) = first-mark (codes "-") t ts i refl
head (Spells.power {a} {b} t {ts} {us} s i r) = onward ts (t ∷ us) (head s) (λ rest q. quiet-operator operator.Power t (us ++ rest) i)
head (Spells.grouped {l} {o} {a} {b} t {ts} {us} deep p s i r) = onward ts (t ∷ us) (head s) (λ rest q. quiet-operator o t (us ++ rest) i)
head (Spells.choice {a} {b} {c} q s {ts} {us} {vs} sc iq sa is sb) = onward ts (q ∷ (us ++ (s ∷ vs))) (head sc) (λ rest r. quiet-mark (codes "?") q ((us ++ (s ∷ vs)) ++ rest) iq refl)

-- ---- an expression is no declaration

bracket-goes_on : goes_on (kind.Mark (codes "[")) ≡ true
unfolding operator_of
bracket-goes_on = refl

end-quiet : brackets_at [] ≡ None
unfolding brackets_at mark_at
end-quiet = refl

ends-quiet : (rest : List Token) → Ends rest → name_at rest ≡ None → Quiet rest
unfolding brackets_at
ends-quiet [] e n = (end-quiet, n)
ends-quiet (t ∷ ts) e n = (
  elim (mark-or (codes "[") (t ∷ ts)) [
    | inl miss ↦ rw miss refl
    | inr x ↦
        let c : ◌≡◌ {A = List Token} (t ∷ ts) (x.0 ∷ x.1) = x.3 in
        let same : t ≡ x.0 = cc in
        let k : t.kind ≡ kind.Mark (codes "[") = rw same (x.2) in
        let f : goes_on t.kind ≡ true = rw k bracket-goes_on in
        absurd (cc (e, f))
  ],
  n,
)

begins-mapping : begins_word (codes "mapping") ≡ false
begins-mapping = begins-not (codes "mapping") refl (keyword (codes "mapping") refl)

elementary-typed : (ty : Ty) (t : Token) → IsElementary ty t → typed t.kind ≡ true
elementary-typed ty t i = rw (i.word) (typed-elementary i.text ty i.named)

name-typed : (n : List ℕ) (t : Token) → IsName n t → typed t.kind ≡ true
name-typed n t i = rw (i.word) (typed-name n i.free)

same-head : (t u : Token) (ts us : List Token) → ◌≡◌ {A = List Token} (t ∷ ts) (u ∷ us) → (t ≡ u) × (ts ≡ us)
same-head t u ts us e = (cc, cc)

never : {A : Type 0} (P : List Token → A → ℕ → List Token → Type 0) (ts : List Token) (r : Option (A × ℕ × List Token)) → ((a : A) (h : ℕ) (rest : List Token) → P ts a h rest) → Holds P ts r
never P ts None k = tt
never P ts (Some x) k = k x.0 x.1 x.2

then-holds : {A B : Type 0} (r : Option (A × ℕ × List Token)) (go : A → ℕ → List Token → Option (B × ℕ × List Token)) (P : List Token → B → ℕ → List Token → Type 0) (Q : List Token → A → ℕ → List Token → Type 0) (ts : List Token) → Holds Q ts r → ((a : A) (h : ℕ) (rest : List Token) → Q ts a h rest → Holds P ts (go a h rest)) → Holds P ts (then_tree r go)
then-holds None go P Q ts g k = tt
then-holds (Some x) go P Q ts g k = k x.0 x.1 x.2 g

-- what is left is quiet, where reading began at these tokens
abbrev Leaves : Token → List Token → {A : Type 0} → List Token → A → ℕ → List Token → Type 0
Leaves u v w a h rest = w ≡ u ∷ v → Quiet rest

first-quiet : (u : Token) (v : List Token) → begins u.kind ≡ true → (typed u.kind ≡ true → Quiet v) → (d : ℕ) (ts : List Token) → Holds (Leaves u v) ts (first_type_at (type_at d) ts)
unfolding first_type_at mapping_at
first-quiet u v b q d ts =
    if-elementary ts _ _ (Leaves u v) (λ t ty us i e.
    let p = same-head t u us v e in
    let k : typed u.kind ≡ true = rw (← (p.0)) (elementary-typed ty t i) in
    rw (p.1) (q k)) (
    if-name ts _ _ (Leaves u v) (λ t n us i e.
    let p = same-head t u us v e in
    let k : typed u.kind ≡ true = rw (← (p.0)) (name-typed n t i) in
    rw (p.1) (q k)) (
    after-word (codes "mapping") ts _ (Leaves u v) (λ w us i.
    never (Leaves u v) (w ∷ us) _ (λ a h rest e.
    let p = same-head w u us v e in
    let k : u.kind ≡ kind.Word (codes "mapping") = rw (← (p.0)) i in
    let f : begins u.kind ≡ false = rw k begins-mapping in
    absurd (cc (b, f))))))

type-quiet : (u : Token) (v : List Token) → begins u.kind ≡ true → (typed u.kind ≡ true → Quiet v) → (d : ℕ) → Holds (λ w a h rest. Quiet rest) (u ∷ v) (type_at d (u ∷ v))
unfolding type_at
type-quiet u v b q zero = tt
type-quiet u v b q (suc d) =
    then-holds (first_type_at (type_at d) (u ∷ v)) _ (λ w a h rest. Quiet rest) (Leaves u v) (u ∷ v) (first-quiet u v b q d (u ∷ v)) (λ a h rest p.
    let r = p refl in
    let e : brackets_at rest ≡ None = r.0 in
    rw (grow-stop array_of d brackets_at (length rest) a h rest e) r)

-- after a type that stands where an expression begins there is no name
pub no-declaration : {l : ℕ} {e : tree.ExprTree} {us : List Token} → Spells l e us → (d : ℕ) (rest : List Token) → Ends rest → name_at rest ≡ None → (t : types.Type) (h : ℕ) (r : List Token) → type_at d (us ++ rest) ≡ Some (t, h, r) → name_at r ≡ None
no-declaration {l} {e} {us} s d rest ends n t h r q =
    let x = head s in
    let y = type-quiet x.0 (x.1 ++ rest) x.3 (λ k. x.4 rest (ends-quiet rest ends n) k) d in
    let same : us ++ rest ≡ x.0 ∷ (x.1 ++ rest) = ap (λ (w : List Token). w ++ rest) x.2 in
    let p : type_at d (x.0 ∷ (x.1 ++ rest)) ≡ Some (t, h, r) = rw same at q in
    let z : Quiet r = rw p at y in
    z.1

-- ---- expressions and types, and what follows them

pub expr-begins : {l : ℕ} {e : tree.ExprTree} {us : List Token} → Spells l e us → (rest : List Token) → first begins (us ++ rest) ≡ true
expr-begins {l} {e} {us} s rest = headed-begins us (head s) rest

pub type-begins : {t : types.Type} {us : List Token} → SpellsType t us → (rest : List Token) → first begins_type (us ++ rest) ≡ true
type-begins (SpellsType.elementary {ty} t i) rest = first-here begins_type (kind.Word i.text) t rest true i.word (or-right (bytes_eq i.text (codes "mapping")) (typed_word i.text) (typed-elementary i.text ty i.named))
type-begins (SpellsType.named {n} t i) rest = first-here begins_type (kind.Word n) t rest true i.word (or-right (bytes_eq n (codes "mapping")) (typed_word n) (typed-name n i.free))
type-begins (SpellsType.array {e} {ts} o c s io ic) rest = rw (append_assoc ts) (type-begins s _)
type-begins (SpellsType.mapping w o a c iw io sk mi ia sv mj ic) rest = first-here begins_type (kind.Word (codes "mapping")) w _ true iw refl

-- no type begins with a mark
pub type-mark : (d : ℕ) (m : List ℕ) (ts : List Token) → MarkFirst m ts → type_at d ts ≡ None
unfolding type_at first_type_at mapping_at
type-mark zero m ts f = refl
type-mark (suc d) m ts f =
    let e : elementary_at ts ≡ None = rw (f.3) (elementary-not (kind.Mark m) f.0 f.1 f.2 refl) in
    rw (e, name-mark m ts f, word-mark (codes "mapping") m ts f) refl

-- nor with a keyword, but for `mapping`
pub type-keyword : (d : ℕ) (w : List ℕ) (ts : List Token) → bytes_eq w (codes "mapping") ≡ false → Keyword w → WordFirst w ts → type_at d ts ≡ None
unfolding type_at first_type_at mapping_at
type-keyword zero w ts q k f = refl
type-keyword (suc d) w ts q k f =
    let e : elementary_at ts ≡ None = rw (f.3) (elementary-not (kind.Word w) f.0 f.1 f.2 k.no_type) in
    let n : name_at ts ≡ None = kind-name (kind.Word w) ts (rw (k.no_name) refl) f in
    rw (e, n, word-word (codes "mapping") w ts q f) refl

pub type-no_word : (w : List ℕ) → bytes_eq w (codes "mapping") ≡ false → Keyword w → {t : types.Type} {us : List Token} → SpellsType t us → (rest : List Token) → word_at w (us ++ rest) ≡ None
type-no_word w q k {t} {us} s rest = first-no_word begins_type w (us ++ rest) (begins_type-not w q k) (type-begins s rest)
