-- A lemma of a system says the same at values that agree at the places of its predicate.
use Rattle.std.proofs.Common.{◌≡◌, ◌∙◌, refl, subst, ap, ℕ, ◌<◌, List, [], ◌∷◌, length, map, true, pos, ◌+ℤ◌, ◌*ℤ◌, ◌≤ℤ◌, arith, inl, inr}
use Rattle.std.specs.Prelude.{Option, Some, None, slice_get, nat_lt}
use Rattle.std.specs.List.{list_all}
use Rattle.std.proofs.lemmas.Bool.{and_parts}
use lib.IntN.{ℤ}
use Rattle.chc_nums.specs.declared.Ty.{Ty}
use Rattle.chc_form.specs.declared.system.Sort.{Sort}
use Rattle.chc_form.specs.declared.system.Sort.TheVariants as sort
use Rattle.chc_form.specs.declared.lemma.KeyTerm.{KeyTerm}
use Rattle.chc_form.specs.declared.lemma.KeyTerm.TheVariants as key
use Rattle.chc_form.specs.declared.lemma.LitTerm.{LitTerm}
use Rattle.chc_form.specs.declared.lemma.LitTerm.TheVariants as term
use Rattle.chc_form.specs.declared.lemma.Lit.{Lit}
use Rattle.chc_form.specs.declared.lemma.Lemma.{Lemma}
use Rattle.chc_form.specs.Valuations.{Valuation}
use Rattle.chc_form.specs.Derivations.{Agree}
use Rattle.chc_form.specs.Lemmas.{key_value, term_value, terms_value, lit_value, OneHolds, LemmaAt}
use Rattle.chc_form.specs.WellMade.{is_sized, is_number, is_of_type, is_key_term, are_key_terms, is_read, is_term, is_lit, is_lemma_of}
use Rattle.chc_form.proofs.Passing.{place-there}

module _ (n : ℕ) (v w : Valuation) (same : Agree n v w) (places : List Sort) (size : length places ≡ n) (keys : List Ty) (ks : List ℤ) where
  key-same : (t : Ty) (k : KeyTerm) → is_key_term places keys t k ≡ true → key_value v ks k ≡ key_value w ks k
  key-same t (key.Arg i) h = let there : i < length places = place-there (λ o. is_of_type o t) places i refl h in same.numbers i (omega arith)
  key-same t (key.Key i) h = refl

  keys-same : (ts : List Ty) (at : List KeyTerm) → are_key_terms places keys ts at ≡ true → map (key_value v ks) at ≡ map (key_value w ks) at
  keys-same [] [] h = refl
  keys-same [] (k ∷ more) h = absurd (cc)
  keys-same (t ∷ ts) [] h = absurd (cc)
  keys-same (t ∷ ts) (k ∷ more) h =
      let both = and_parts (is_key_term places keys t k) (are_key_terms places keys ts more) h in
      let first : key_value v ks k ≡ key_value w ks k = key-same t k both.0 in
      let rest : map (key_value v ks) more ≡ map (key_value w ks) more = keys-same ts more both.1 in
      cc (first, rest)

  read-same : (o : Option Sort) (at : List KeyTerm) → is_read places keys o at ≡ true → map (key_value v ks) at ≡ map (key_value w ks) at
  read-same None at h = absurd (cc)
  read-same (Some (sort.Whole t)) at h = absurd (cc)
  read-same (Some sort.Free) at h = absurd (cc)
  read-same (Some (sort.Map types value)) at h = keys-same types at h

  term-same : (t : LitTerm) → is_term places keys t ≡ true → term_value v ks t ≡ term_value w ks t
  term-same (term.Arg i) h = let there : i < length places = place-there is_number places i refl h in same.numbers i (omega arith)
  term-same (term.Key i) h = refl
  term-same (term.Read i at) h =
      let there : i < length places = place-there (λ o. is_read places keys o at) places i refl h in
      same.mappings i (omega arith) (map (key_value v ks) at) ∙ ap (λ (es : List ℤ). w.mapping i es) (read-same (slice_get places i) at h)

  terms-same : (ts : List (LitTerm × ℤ)) → list_all (λ t. is_term places keys t.0) ts ≡ true → terms_value v ks ts ≡ terms_value w ks ts
  terms-same [] h = refl
  terms-same (t ∷ ts) h =
      let both = and_parts (is_term places keys t.0) (list_all (λ t. is_term places keys t.0) ts) h in
      ap (λ (z : ℤ). (t.1 *ℤ z) +ℤ terms_value v ks ts) (term-same t.0 both.0) ∙ ap (λ (z : ℤ). (t.1 *ℤ term_value w ks t.0) +ℤ z) (terms-same ts both.1)

  literal-same : (ls : List Lit) → list_all (is_lit places keys) ls ≡ true → OneHolds v ks ls → OneHolds w ks ls
  literal-same [] h one = one
  literal-same (l ∷ ls) h one =
      let both = and_parts (is_lit places keys l) (list_all (is_lit places keys) ls) h in
      let equal : lit_value v ks l ≡ lit_value w ks l = ap (λ (z : ℤ). z +ℤ l.konst) (terms-same l.terms both.0) in
      elim one [
        | inl this ↦ inl (subst (λ (z : ℤ). z ≤ℤ pos 0) equal this)
        | inr other ↦ inr (literal-same ls both.1 other)
      ]

-- the lemma is true at both
pub lemma-same : (n : ℕ) (v w : Valuation) → Agree n v w → (places : List Sort) → length places ≡ n → (l : Lemma) → is_lemma_of (Some places) l ≡ true → LemmaAt v l → LemmaAt w l
lemma-same n v w same places size l h at ks fit =
    let few = and_parts (nat_lt (length l.keys) 3) _ h in
    let lits : list_all (is_lit places l.keys) l.lits ≡ true = (and_parts (list_all is_sized l.keys) (list_all (is_lit places l.keys) l.lits) few.1).1 in
    literal-same n v w same places size l.keys ks l.lits lits (at ks fit)
