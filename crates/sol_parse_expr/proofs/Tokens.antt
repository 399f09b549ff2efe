-- What a reader of one token gives, by that token.
use Rattle.std.proofs.Common.{◌≡◌, ap, refl, ℕ, List, [], ◌∷◌, Bool, true, false, Option, Some, None, ◌⊎◌, inl, inr, nat_eq, arith}
use Rattle.std.specs.Str.{bytes_eq}
use Rattle.std.proofs.lemmas.Slice.Eq.{bytes_eq-Decides}
use Rattle.std.proofs.lemmas.Bool.Decides.{nat_tests}
use lib.IntN.{ℤ}
use Rattle.chc_nums.specs.declared.typed.Ty.{Ty}
use Rattle.sol_tree.specs.declared.token.Token.{Token}
use Rattle.sol_tree.specs.declared.token.TokenKind.{TokenKind}
use Rattle.sol_tree.specs.declared.token.TokenKind.TheVariants as kind
use Rattle.sol_tree.specs.declared.expr.NumberUnit.{NumberUnit}
use Rattle.sol_tree.specs.declared.expr.BinaryOp.{BinaryOp}
use Rattle.sol_tree.specs.Words.{is_name}
use Rattle.sol_tree.specs.Precedence.{precedence}
use Rattle.sol_parse_expr.specs.Grammar.{IsMark, IsWord, IsName, IsElementary, IsUnit, IsOperator, named_by}
use Rattle.sol_parse_expr.specs.Reading.{is_mark, is_word, type_of, unit_of, binary_of, of_precedence, name_of, number_of, mark_at, word_at, elementary_at, unit_at, operator_at, name_at, number_at}

pub either : (b : Bool) → (b ≡ true) ⊎ (b ≡ false)
either true = inl refl
either false = inr refl

optional : {A : Type 0} (o : Option A) → (o ≡ None) ⊎ ((x : A) × (o ≡ Some x))
optional None = inl refl
optional (Some x) = inr (x, refl)

same-text : (a : List ℕ) → bytes_eq a a ≡ true
same-text a = (bytes_eq-Decides a a).1 refl

-- ---- a token that stands there

pub mark-here : (m : List ℕ) (t : Token) (ts : List Token) → IsMark m t → mark_at m (t ∷ ts) ≡ Some (t.at, ts)
unfolding mark_at
mark-here m t ts h = rw (h, same-text m) refl

pub word-here : (w : List ℕ) (t : Token) (ts : List Token) → IsWord w t → word_at w (t ∷ ts) ≡ Some (t.at, ts)
unfolding word_at
word-here w t ts h = rw (h, same-text w) refl

pub elementary-here : (ty : Ty) (t : Token) (ts : List Token) → IsElementary ty t → elementary_at (t ∷ ts) ≡ Some ((t.at, ty), ts)
unfolding elementary_at
elementary-here ty t ts h = rw (h.word, h.named) refl

pub unit-here : (u : NumberUnit) (t : Token) (ts : List Token) → IsUnit u t → unit_at (t ∷ ts) ≡ Some (u, ts)
unfolding unit_at
unit-here u t ts h = rw (h.word, h.named) refl

pub name-here : (n : List ℕ) (t : Token) (ts : List Token) → IsName n t → name_at (t ∷ ts) ≡ Some (named_by n t, ts)
unfolding name_at
name-here n t ts h = rw (h.word, h.free) refl

pub number-here : (z : ℤ) (x : Bool) (t : Token) (ts : List Token) → t.kind ≡ kind.Number z x → number_at (t ∷ ts) ≡ Some ((t.at, (z, x)), ts)
unfolding number_at
number-here z x t ts h = rw h refl

pub operator-here : (l : ℕ) (o : BinaryOp) (t : Token) (ts : List Token) → IsOperator o t → precedence o ≡ l → operator_at l (t ∷ ts) ≡ Some ((t.at, o), ts)
unfolding operator_at
operator-here l o t ts h p =
    let q : nat_eq (precedence o) l ≡ true = grind (arith, nat_tests) in
    rw (h.mark, h.named, q) refl

-- ---- a token that does not

pub mark-not : (m : List ℕ) (k : TokenKind) (t : Token) (ts : List Token) → t.kind ≡ k → is_mark m k ≡ false → mark_at m (t ∷ ts) ≡ None
unfolding mark_at
mark-not m k t ts h q = rw (h, q) refl

pub word-not : (w : List ℕ) (k : TokenKind) (t : Token) (ts : List Token) → t.kind ≡ k → is_word w k ≡ false → word_at w (t ∷ ts) ≡ None
unfolding word_at
word-not w k t ts h q = rw (h, q) refl

pub elementary-not : (k : TokenKind) (t : Token) (ts : List Token) → t.kind ≡ k → type_of k ≡ None → elementary_at (t ∷ ts) ≡ None
unfolding elementary_at
elementary-not k t ts h q = rw (h, q) refl

pub unit-not : (k : TokenKind) (t : Token) (ts : List Token) → t.kind ≡ k → unit_of k ≡ None → unit_at (t ∷ ts) ≡ None
unfolding unit_at
unit-not k t ts h q = rw (h, q) refl

pub name-not : (k : TokenKind) (t : Token) (ts : List Token) → t.kind ≡ k → name_of k ≡ None → name_at (t ∷ ts) ≡ None
unfolding name_at
name-not k t ts h q = rw (h, q) refl

pub number-not : (k : TokenKind) (t : Token) (ts : List Token) → t.kind ≡ k → number_of k ≡ None → number_at (t ∷ ts) ≡ None
unfolding number_at
number-not k t ts h q = rw (h, q) refl

pub operator-not : (l : ℕ) (k : TokenKind) (t : Token) (ts : List Token) → t.kind ≡ k → of_precedence l (binary_of k) ≡ None → operator_at l (t ∷ ts) ≡ None
unfolding operator_at
operator-not l k t ts h q = rw (h, q) refl

-- ---- the token that was read

is-mark : (m : List ℕ) (k : TokenKind) → is_mark m k ≡ true → k ≡ kind.Mark m
is-mark m (kind.Word w) h = absurd (cc)
is-mark m (kind.Number z x) h = absurd (cc)
is-mark m kind.Text h = absurd (cc)
is-mark m (kind.Mark n) h = ap (λ (x : List ℕ). kind.Mark x) ((bytes_eq-Decides n m).0 h)

is-word : (w : List ℕ) (k : TokenKind) → is_word w k ≡ true → k ≡ kind.Word w
is-word w (kind.Word v) h = ap (λ (x : List ℕ). kind.Word x) ((bytes_eq-Decides v w).0 h)
is-word w (kind.Number z x) h = absurd (cc)
is-word w kind.Text h = absurd (cc)
is-word w (kind.Mark n) h = absurd (cc)

abbrev pub MarkOr : List ℕ → List Token → Type 0
MarkOr m ts = (mark_at m ts ≡ None) ⊎ ((t : Token) × (rest : List Token) × IsMark m t × (ts ≡ t ∷ rest) × (mark_at m ts ≡ Some (t.at, rest)))

pub mark-or : (m : List ℕ) (ts : List Token) → MarkOr m ts
unfolding mark_at
mark-or m [] = inl refl
mark-or m (t ∷ ts) = elim (either (is_mark m t.kind)) [ inl a ↦ inr (t, ts, is-mark m t.kind a, refl, mark-here m t ts (is-mark m t.kind a)) | inr b ↦ inl (rw b refl) ]

abbrev pub WordOr : List ℕ → List Token → Type 0
WordOr w ts = (word_at w ts ≡ None) ⊎ ((t : Token) × (rest : List Token) × IsWord w t × (ts ≡ t ∷ rest) × (word_at w ts ≡ Some (t.at, rest)))

pub word-or : (w : List ℕ) (ts : List Token) → WordOr w ts
unfolding word_at
word-or w [] = inl refl
word-or w (t ∷ ts) = elim (either (is_word w t.kind)) [ inl a ↦ inr (t, ts, is-word w t.kind a, refl, word-here w t ts (is-word w t.kind a)) | inr b ↦ inl (rw b refl) ]

is-elementary : (ty : Ty) (t : Token) (k : TokenKind) → t.kind ≡ k → type_of k ≡ Some ty → IsElementary ty t
is-elementary ty t (kind.Word w) e h = record { text = w; word = e; named = h }
is-elementary ty t (kind.Number z x) e h = absurd (cc)
is-elementary ty t kind.Text e h = absurd (cc)
is-elementary ty t (kind.Mark n) e h = absurd (cc)

abbrev pub ElementaryOr : List Token → Type 0
ElementaryOr ts = (elementary_at ts ≡ None) ⊎ ((t : Token) × (ty : Ty) × (rest : List Token) × IsElementary ty t × (ts ≡ t ∷ rest) × (elementary_at ts ≡ Some ((t.at, ty), rest)))

pub elementary-or : (ts : List Token) → ElementaryOr ts
unfolding elementary_at
elementary-or [] = inl refl
elementary-or (t ∷ ts) = elim (optional (type_of t.kind)) [ inl b ↦ inl (rw b refl) | inr x ↦ inr (t, x.0, ts, is-elementary x.0 t t.kind refl x.1, refl, rw (x.1) refl) ]

is-unit : (u : NumberUnit) (t : Token) (k : TokenKind) → t.kind ≡ k → unit_of k ≡ Some u → IsUnit u t
is-unit u t (kind.Word w) e h = record { text = w; word = e; named = h }
is-unit u t (kind.Number z x) e h = absurd (cc)
is-unit u t kind.Text e h = absurd (cc)
is-unit u t (kind.Mark n) e h = absurd (cc)

abbrev pub UnitOr : List Token → Type 0
UnitOr ts = (unit_at ts ≡ None) ⊎ ((t : Token) × (u : NumberUnit) × (rest : List Token) × IsUnit u t × (ts ≡ t ∷ rest) × (unit_at ts ≡ Some (u, rest)))

pub unit-or : (ts : List Token) → UnitOr ts
unfolding unit_at
unit-or [] = inl refl
unit-or (t ∷ ts) = elim (optional (unit_of t.kind)) [ inl b ↦ inl (rw b refl) | inr x ↦ inr (t, x.0, ts, is-unit x.0 t t.kind refl x.1, refl, rw (x.1) refl) ]

name-test : (w n : List ℕ) (t : Token) (b : Bool) → is_name w ≡ b → t.kind ≡ kind.Word w → name_of (kind.Word w) ≡ Some n → IsName n t
name-test w n t true q e h =
    let s : ◌≡◌ {A = Option (List ℕ)} (Some w) (Some n) = rw q at h in
    let i : w ≡ n = cc in
    record { word = rw (← i) e; free = rw (← i) q }
name-test w n t false q e h =
    let s : ◌≡◌ {A = Option (List ℕ)} None (Some n) = rw q at h in
    absurd (cc)

is-named : (n : List ℕ) (t : Token) (k : TokenKind) → t.kind ≡ k → name_of k ≡ Some n → IsName n t
is-named n t (kind.Word w) e h = name-test w n t (is_name w) refl e h
is-named n t (kind.Number z x) e h = absurd (cc)
is-named n t kind.Text e h = absurd (cc)
is-named n t (kind.Mark m) e h = absurd (cc)

abbrev pub NameOr : List Token → Type 0
NameOr ts = (name_at ts ≡ None) ⊎ ((t : Token) × (n : List ℕ) × (rest : List Token) × IsName n t × (ts ≡ t ∷ rest) × (name_at ts ≡ Some (named_by n t, rest)))

pub name-or : (ts : List Token) → NameOr ts
unfolding name_at
name-or [] = inl refl
name-or (t ∷ ts) = elim (optional (name_of t.kind)) [ inl b ↦ inl (rw b refl) | inr x ↦ inr (t, x.0, ts, is-named x.0 t t.kind refl x.1, refl, rw (x.1) refl) ]

is-number : (n : ℤ × Bool) (t : Token) (k : TokenKind) → t.kind ≡ k → number_of k ≡ Some n → t.kind ≡ kind.Number n.0 n.1
is-number n t (kind.Word w) e h = absurd (cc)
is-number n t (kind.Number z x) e h =
    let i : ◌≡◌ {A = ℤ × Bool} (z, x) n = cc in
    rw (← i) e
is-number n t kind.Text e h = absurd (cc)
is-number n t (kind.Mark m) e h = absurd (cc)

abbrev pub NumberOr : List Token → Type 0
NumberOr ts = (number_at ts ≡ None) ⊎ ((t : Token) × (n : ℤ × Bool) × (rest : List Token) × (t.kind ≡ kind.Number n.0 n.1) × (ts ≡ t ∷ rest) × (number_at ts ≡ Some ((t.at, n), rest)))

pub number-or : (ts : List Token) → NumberOr ts
unfolding number_at
number-or [] = inl refl
number-or (t ∷ ts) = elim (optional (number_of t.kind)) [ inl b ↦ inl (rw b refl) | inr x ↦ inr (t, x.0, ts, is-number x.0 t t.kind refl x.1, refl, rw (x.1) refl) ]

is-operator : (o : BinaryOp) (t : Token) (k : TokenKind) → t.kind ≡ k → binary_of k ≡ Some o → IsOperator o t
is-operator o t (kind.Word w) e h = absurd (cc)
is-operator o t (kind.Number z x) e h = absurd (cc)
is-operator o t kind.Text e h = absurd (cc)
is-operator o t (kind.Mark n) e h = record { text = n; mark = e; named = h }

precedence-test : (l : ℕ) (p o : BinaryOp) (b : Bool) → nat_eq (precedence p) l ≡ b → of_precedence l (Some p) ≡ Some o → (p ≡ o) × (precedence o ≡ l)
precedence-test l p o true q h =
    let s : ◌≡◌ {A = Option BinaryOp} (Some p) (Some o) = rw q at h in
    let i : p ≡ o = cc in
    let j : precedence p ≡ l = grind (arith, nat_tests) in
    (i, rw i at j)
precedence-test l p o false q h =
    let s : ◌≡◌ {A = Option BinaryOp} None (Some o) = rw q at h in
    absurd (cc)

of-precedence : (l : ℕ) (o : BinaryOp) (c : Option BinaryOp) → of_precedence l c ≡ Some o → (c ≡ Some o) × (precedence o ≡ l)
of-precedence l o None h = absurd (cc)
of-precedence l o (Some p) h = let x = precedence-test l p o (nat_eq (precedence p) l) refl h in (ap (λ (z : BinaryOp). Some z) x.0, x.1)

abbrev pub OperatorOr : ℕ → List Token → Type 0
OperatorOr l ts = (operator_at l ts ≡ None) ⊎ ((t : Token) × (o : BinaryOp) × (rest : List Token) × IsOperator o t × (precedence o ≡ l) × (ts ≡ t ∷ rest) × (operator_at l ts ≡ Some ((t.at, o), rest)))

pub operator-or : (l : ℕ) (ts : List Token) → OperatorOr l ts
unfolding operator_at
operator-or l [] = inl refl
operator-or l (t ∷ ts) = elim (optional (of_precedence l (binary_of t.kind))) [
  | inl b ↦ inl (rw b refl)
  | inr x ↦
      let y = of-precedence l x.0 (binary_of t.kind) x.1 in
      inr (t, x.0, ts, is-operator x.0 t t.kind refl y.0, y.1, refl, rw (x.1) refl)
]
