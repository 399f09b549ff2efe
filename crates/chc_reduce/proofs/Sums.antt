-- Sums of literals: they are in order, and have the literals' values.
use Rattle.std.proofs.Common.{◌≡◌, ◌≢◌, ◌∙◌, sym, ap, subst, refl, ℕ, ◌<◌, ◌≤◌, List, [], ◌∷◌, Option, Some, None, unwrap_or, true, false, pos, ◌+ℤ◌, ◌-ℤ◌, ◌*ℤ◌, neg_ℤ, arith, inl, inr, if◌then◌else◌, Bool}
use Rattle.std.specs.Ordering.{int_eq}
use Rattle.std.proofs.lemmas.Int.{ints}
use Rattle.std.proofs.lemmas.Bool.{cases_lt, cases_eq}
use lib.IntN.{ℤ}
use Rattle.chc_nums.specs.Wide.{in_128}
use Rattle.chc_nums.proofs.Fits.{in_128-value}
use Rattle.chc_nums.proofs.Ring.{add-mul, zero-mul, neg-mul}
use Rattle.chc_nums.specs.Values.{with_value}
use Rattle.chc_form.specs.declared.linear.Lin.{Lin}
use Rattle.chc_form.specs.declared.system.App.{App}
use Rattle.chc_form.specs.declared.lemma.LitTerm.{LitTerm}
use Rattle.chc_form.specs.declared.lemma.LitTerm.TheVariants as term
use Rattle.chc_form.specs.declared.lemma.Lit.{Lit}
use Rattle.chc_form.specs.Linear.{sum_of, value_of, AscendFrom, Ascend}
use Rattle.chc_form.specs.Valuations.{Valuation, at_atom}
use Rattle.chc_form.specs.Lemmas.{term_value, terms_value, lit_value}
use Rattle.chc_reduce.specs.Literals.{put_term, raised, variable_of, terms_onto, narrowed_terms, narrowed, literal_sum, opposite_terms, opposite_sum}
use Rattle.chc_reduce.proofs.Terms.{raised-less, raised-same, raised-more}

pub value-some : {A B : Type 0} → (o : Option A) (go : A → Option B) (b : B) → with_value o go ≡ Some b → (a : A) × (o ≡ Some a) × (go a ≡ Some b)
value-some None go b h = absurd (cc)
value-some (Some a) go b h = (a, refl, h)

some-same : {A : Type 0} → (a b : A) → Some a ≡ Some b → a ≡ b
some-same a b e = cc

-- ---- order

lower-bound : (m n : ℕ) (ts : List (ℕ × ℤ)) → m ≤ n → AscendFrom n ts → AscendFrom m ts
lower-bound m n [] l h = tt
lower-bound m n (t ∷ ts) l h = (omega (arith, h.0), h.1, h.2)

no-zero : (z : ℤ) → int_eq z (pos 0) ≡ false → z ≢ pos 0
no-zero z h e = let none : int_eq (pos 0) (pos 0) ≡ false = subst (λ (y : ℤ). int_eq y (pos 0) ≡ false) e h in absurd (cc)

put-from : (n x : ℕ) (a : ℤ) (ts : List (ℕ × ℤ)) (b : Bool) → int_eq a (pos 0) ≡ b → n < x → AscendFrom x ts → AscendFrom n (if b then ts else (x, a) ∷ ts)
put-from n x a ts true e l h = lower-bound n x ts (omega arith) h
put-from n x a ts false e l h = (l, no-zero a e, h)

put-ascends-from : (n x : ℕ) (a : ℤ) (ts : List (ℕ × ℤ)) → n < x → AscendFrom x ts → AscendFrom n (put_term x a ts)
put-ascends-from n x a ts l h = put-from n x a ts (int_eq a (pos 0)) refl l h

from-ascends : (n : ℕ) (ts : List (ℕ × ℤ)) → AscendFrom n ts → Ascend ts
from-ascends n [] h = tt
from-ascends n (t ∷ ts) h = (h.1, h.2)

put-first : (x : ℕ) (a : ℤ) (ts : List (ℕ × ℤ)) (b : Bool) → int_eq a (pos 0) ≡ b → AscendFrom x ts → Ascend (if b then ts else (x, a) ∷ ts)
put-first x a ts true e h = from-ascends x ts h
put-first x a ts false e h = (no-zero a e, h)

put-ascends : (x : ℕ) (a : ℤ) (ts : List (ℕ × ℤ)) → AscendFrom x ts → Ascend (put_term x a ts)
put-ascends x a ts h = put-first x a ts (int_eq a (pos 0)) refl h

raised-from : (n x : ℕ) (a : ℤ) (ts : List (ℕ × ℤ)) → n < x → AscendFrom n ts → AscendFrom n (raised x a ts)
raised-from n x a [] l h = put-ascends-from n x a [] l tt
raised-from n x a (t ∷ ts) l h =
    elim (cases_lt x t.0) [
      | inl less ↦ subst (AscendFrom n) (sym (raised-less x a t ts less)) (put-ascends-from n x a (t ∷ ts) l (less, h.1, h.2))
      | inr past ↦ elim (cases_eq x t.0) [
        | inl same ↦ subst (AscendFrom n) (sym (raised-same x a t ts same)) (put-ascends-from n x (t.1 +ℤ a) ts l (subst (λ (m : ℕ). AscendFrom m ts) (sym same) h.2))
        | inr other ↦
            let more : t.0 < x = omega arith in
            subst (AscendFrom n) (sym (raised-more x a t ts past other)) (h.0, h.1, raised-from t.0 x a ts more h.2)
      ]
    ]

raised-ascends : (x : ℕ) (a : ℤ) (ts : List (ℕ × ℤ)) → Ascend ts → Ascend (raised x a ts)
raised-ascends x a [] h = put-ascends x a [] tt
raised-ascends x a (t ∷ ts) h =
    elim (cases_lt x t.0) [
      | inl less ↦ subst Ascend (sym (raised-less x a t ts less)) (put-ascends x a (t ∷ ts) (less, h.0, h.1))
      | inr past ↦ elim (cases_eq x t.0) [
        | inl same ↦ subst Ascend (sym (raised-same x a t ts same)) (put-ascends x (t.1 +ℤ a) ts (subst (λ (m : ℕ). AscendFrom m ts) (sym same) h.1))
        | inr other ↦
            let more : t.0 < x = omega arith in
            subst Ascend (sym (raised-more x a t ts past other)) (h.0, raised-from t.0 x a ts more h.1)
      ]
    ]

onto-ascends : (p : App) (made : List (ℕ × ℤ)) (ts : List (LitTerm × ℤ)) (us : List (ℕ × ℤ)) → Ascend made → terms_onto p made ts ≡ Some us → Ascend us
onto-ascends p made [] us h e = subst Ascend (some-same made us e) h
onto-ascends p made (t ∷ ts) us h e =
    let x = value-some (variable_of p t.0) (λ x. terms_onto p (raised x t.1 made) ts) us e in
    onto-ascends p (raised x.0 t.1 made) ts us (raised-ascends x.0 t.1 made h) x.2

minus-not_zero : (z : ℤ) → z ≢ pos 0 → neg_ℤ z ≢ pos 0
minus-not_zero z h e = h (omega (arith, ints, e))

opposite-from : (n : ℕ) (ts : List (ℕ × ℤ)) → AscendFrom n ts → AscendFrom n (opposite_terms ts)
opposite-from n [] h = tt
opposite-from n (t ∷ ts) h = (h.0, minus-not_zero t.1 h.1, opposite-from t.0 ts h.2)

opposite-ascends : (ts : List (ℕ × ℤ)) → Ascend ts → Ascend (opposite_terms ts)
opposite-ascends [] h = tt
opposite-ascends (t ∷ ts) h = (minus-not_zero t.1 h.0, opposite-from t.0 ts h.1)

-- what is left where each number has 128 bits
narrowed-terms-same : (ts us : List (ℕ × ℤ)) → narrowed_terms ts ≡ Some us → us ≡ ts
narrowed-terms-same [] us e = sym (some-same [] us e)
narrowed-terms-same (t ∷ ts) us e =
    let a = value-some (in_128 t.1) (λ a. with_value (narrowed_terms ts) (λ more. Some ((t.0, a) ∷ more))) us e in
    let m = value-some (narrowed_terms ts) (λ more. Some ((t.0, a.0) ∷ more)) us a.2 in
    let number : a.0 ≡ t.1 = in_128-value t.1 a.0 a.1 in
    let rest : m.0 ≡ ts = narrowed-terms-same ts m.0 m.1 in
    let whole : (t.0, a.0) ∷ m.0 ≡ us = some-same ((t.0, a.0) ∷ m.0) us m.2 in
    sym whole ∙ ap (λ (z : ℤ). (t.0, z) ∷ m.0) number ∙ ap (λ (xs : List (ℕ × ℤ)). t ∷ xs) rest

narrowed-same : (ts : List (ℕ × ℤ)) (k : ℤ) (s : Lin) → narrowed ts k ≡ Some s → (s.terms ≡ ts) × (s.konst ≡ k)
narrowed-same ts k s e =
    let us = value-some (narrowed_terms ts) (λ us. with_value (in_128 k) (λ c. Some (record { terms = us; konst = c }))) s e in
    let c = value-some (in_128 k) (λ c. Some (record { terms = us.0; konst = c })) s us.2 in
    let same : (record { terms = us.0; konst = c.0 }) ≡ s = cc (c.2) in
    subst (λ (m : Lin). (m.terms ≡ ts) × (m.konst ≡ k)) same (narrowed-terms-same ts us.0 us.1, in_128-value k c.0 c.1)

pub literal-ascends : (p : App) (l : Lit) (s : Lin) → literal_sum p l ≡ Some s → Ascend s.terms
unfolding literal_sum
literal-ascends p l s e =
    let v = value-some (terms_onto p [] l.terms) (λ ts. narrowed ts l.konst) s e in
    subst Ascend (sym (narrowed-same v.0 l.konst s v.2).0) (onto-ascends p [] l.terms v.0 tt v.1)

pub opposite-sum-ascends : (p : App) (l : Lit) (s : Lin) → opposite_sum p l ≡ Some s → Ascend s.terms
unfolding opposite_sum
opposite-sum-ascends p l s e =
    let v = value-some (terms_onto p [] l.terms) (λ ts. narrowed (opposite_terms ts) (pos 1 -ℤ l.konst)) s e in
    subst Ascend (sym (narrowed-same (opposite_terms v.0) (pos 1 -ℤ l.konst) s v.2).0) (opposite-ascends v.0 (onto-ascends p [] l.terms v.0 tt v.1))

-- ---- values

put-sum-by : (x : ℕ) (a : ℤ) (ts : List (ℕ × ℤ)) (y : ℕ → ℤ) (b : Bool) → int_eq a (pos 0) ≡ b → sum_of (if b then ts else (x, a) ∷ ts) y ≡ (a *ℤ y x) +ℤ sum_of ts y
put-sum-by x a ts y true e = let z : a ≡ pos 0 = grind (arith, ints) in rw z (omega (arith, ints, zero-mul (y x)))
put-sum-by x a ts y false e = refl

put-sum : (x : ℕ) (a : ℤ) (ts : List (ℕ × ℤ)) (y : ℕ → ℤ) → sum_of (put_term x a ts) y ≡ (a *ℤ y x) +ℤ sum_of ts y
put-sum x a ts y = put-sum-by x a ts y (int_eq a (pos 0)) refl

raised-sum : (x : ℕ) (a : ℤ) (ts : List (ℕ × ℤ)) (y : ℕ → ℤ) → sum_of (raised x a ts) y ≡ (a *ℤ y x) +ℤ sum_of ts y
raised-sum x a [] y = put-sum x a [] y
raised-sum x a (t ∷ ts) y =
    elim (cases_lt x t.0) [
      | inl less ↦ ap (λ (us : List (ℕ × ℤ)). sum_of us y) (raised-less x a t ts less) ∙ put-sum x a (t ∷ ts) y
      | inr past ↦ elim (cases_eq x t.0) [
        | inl same ↦
            let scaled : (t.1 +ℤ a) *ℤ y x ≡ (t.1 *ℤ y x) +ℤ (a *ℤ y x) = add-mul t.1 a (y x) in
            let here : t.1 *ℤ y x ≡ t.1 *ℤ y t.0 = ap (λ (m : ℕ). t.1 *ℤ y m) same in
            let whole : sum_of (raised x a (t ∷ ts)) y ≡ sum_of (put_term x (t.1 +ℤ a) ts) y = ap (λ (us : List (ℕ × ℤ)). sum_of us y) (raised-same x a t ts same) in
            omega (arith, ints, whole, put-sum x (t.1 +ℤ a) ts y, scaled, here)
        | inr other ↦
            let whole : sum_of (raised x a (t ∷ ts)) y ≡ sum_of (t ∷ raised x a ts) y = ap (λ (us : List (ℕ × ℤ)). sum_of us y) (raised-more x a t ts past other) in
            omega (arith, ints, whole, raised-sum x a ts y)
      ]
    ]

-- the value of a term that is an argument, whatever the bound keys are
term-variable : (p : App) (t : LitTerm) (x : ℕ) (v : Valuation) (ks : List ℤ) → variable_of p t ≡ Some x → term_value (at_atom v p) ks t ≡ v.number x
term-variable p (term.Arg i) x v ks e = ap (λ (o : Option ℕ). v.number (unwrap_or o 0)) e
term-variable p (term.Key i) x v ks e = absurd (cc)
term-variable p (term.Read i at) x v ks e = absurd (cc)

onto-sum : (p : App) (made : List (ℕ × ℤ)) (ts : List (LitTerm × ℤ)) (us : List (ℕ × ℤ)) (v : Valuation) (ks : List ℤ) → terms_onto p made ts ≡ Some us → sum_of us v.number ≡ sum_of made v.number +ℤ terms_value (at_atom v p) ks ts
onto-sum p made [] us v ks e = let same : made ≡ us = some-same made us e in let z : sum_of us v.number ≡ sum_of made v.number = ap (λ (m : List (ℕ × ℤ)). sum_of m v.number) (sym same) in omega (arith, ints)
onto-sum p made (t ∷ ts) us v ks e =
    let x = value-some (variable_of p t.0) (λ x. terms_onto p (raised x t.1 made) ts) us e in
    let here : t.1 *ℤ term_value (at_atom v p) ks t.0 ≡ t.1 *ℤ v.number x.0 = ap (λ (z : ℤ). t.1 *ℤ z) (term-variable p t.0 x.0 v ks x.1) in
    omega (arith, ints, onto-sum p (raised x.0 t.1 made) ts us v ks x.2, raised-sum x.0 t.1 made v.number, here)

pub literal-value : (p : App) (l : Lit) (s : Lin) (v : Valuation) (ks : List ℤ) → literal_sum p l ≡ Some s → value_of s v.number ≡ lit_value (at_atom v p) ks l
unfolding literal_sum
literal-value p l s v ks e =
    let u = value-some (terms_onto p [] l.terms) (λ ts. narrowed ts l.konst) s e in
    let same = narrowed-same u.0 l.konst s u.2 in
    let terms : sum_of s.terms v.number ≡ sum_of u.0 v.number = ap (λ (ts : List (ℕ × ℤ)). sum_of ts v.number) same.0 in
    omega (arith, ints, terms, same.1, onto-sum p [] l.terms u.0 v ks u.1)

-- ---- opposites

opposite-terms-sum : (ts : List (ℕ × ℤ)) (y : ℕ → ℤ) → sum_of (opposite_terms ts) y ≡ neg_ℤ (sum_of ts y)
opposite-terms-sum [] y = refl
opposite-terms-sum (t ∷ ts) y = omega (arith, ints, neg-mul t.1 (y t.0), opposite-terms-sum ts y)

pub opposite-value : (p : App) (l : Lit) (s : Lin) (v : Valuation) (ks : List ℤ) → opposite_sum p l ≡ Some s → value_of s v.number ≡ pos 1 -ℤ lit_value (at_atom v p) ks l
unfolding opposite_sum
opposite-value p l s v ks e =
    let u = value-some (terms_onto p [] l.terms) (λ ts. narrowed (opposite_terms ts) (pos 1 -ℤ l.konst)) s e in
    let same = narrowed-same (opposite_terms u.0) (pos 1 -ℤ l.konst) s u.2 in
    let terms : sum_of s.terms v.number ≡ sum_of (opposite_terms u.0) v.number = ap (λ (ts : List (ℕ × ℤ)). sum_of ts v.number) same.0 in
    omega (arith, ints, terms, same.1, opposite-terms-sum u.0 v.number, onto-sum p [] l.terms u.0 v ks u.1)
