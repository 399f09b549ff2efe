-- What a lemma says at the values of an atom's arguments.
use Rattle.std.specs.Prelude.{◌≡◌, ◌⊎◌, ℕ, List, [], ◌∷◌, map, pos, ◌+ℤ◌, ◌*ℤ◌, ◌≤ℤ◌, unwrap_or, slice_get}
use lib.IntN.{ℤ}
use Rattle.chc_form.specs.declared.lemma.KeyTerm.{KeyTerm}
use Rattle.chc_form.specs.declared.lemma.KeyTerm.TheVariants as key
use Rattle.chc_form.specs.declared.lemma.LitTerm.{LitTerm}
use Rattle.chc_form.specs.declared.lemma.LitTerm.TheVariants as term
use Rattle.chc_form.specs.declared.lemma.Lit.{Lit}
use Rattle.chc_form.specs.declared.lemma.Lemma.{Lemma}
use Rattle.chc_form.specs.declared.lemma.Cube.{Cube}
use Rattle.chc_form.specs.declared.system.App.{App}
use Rattle.chc_form.specs.Valuations.{Valuation, KeysFit, at_atom}

-- the bound key of a number
abbrev pub key_at : List ℤ → ℕ → ℤ
key_at ks i = unwrap_or (slice_get ks i) (pos 0)

abbrev pub key_value : Valuation → List ℤ → KeyTerm → ℤ
key_value w ks (key.Arg i) = w.number i
key_value w ks (key.Key i) = key_at ks i

abbrev pub term_value : Valuation → List ℤ → LitTerm → ℤ
term_value w ks (term.Arg i) = w.number i
term_value w ks (term.Key i) = key_at ks i
term_value w ks (term.Read i at) = w.mapping i (map (key_value w ks) at)

abbrev pub terms_value : Valuation → List ℤ → List (LitTerm × ℤ) → ℤ
terms_value w ks [] = pos 0
terms_value w ks (t ∷ ts) = (t.1 *ℤ term_value w ks t.0) +ℤ terms_value w ks ts

-- the sum of a literal at values and bound keys
abbrev pub lit_value : Valuation → List ℤ → Lit → ℤ
lit_value w ks l = terms_value w ks l.terms +ℤ l.konst

-- one of the literals holds
abbrev pub OneHolds : Valuation → List ℤ → List Lit → Type 0
OneHolds w ks [] = ⊥
OneHolds w ks (l ∷ ls) = (lit_value w ks l ≤ℤ pos 0) ⊎ OneHolds w ks ls

-- all of the literals hold
abbrev pub AllHold : Valuation → List ℤ → List Lit → Type 0
AllHold w ks [] = Unit {0}
AllHold w ks (l ∷ ls) = (lit_value w ks l ≤ℤ pos 0) × AllHold w ks ls

-- the lemma is true at values of its predicate's arguments
abbrev pub LemmaAt : Valuation → Lemma → Type 0
LemmaAt w l = (ks : List ℤ) → KeysFit l.keys ks → OneHolds w ks l.lits

-- the cube is true at values of its predicate's arguments
abbrev pub CubeAt : Valuation → Cube → Type 0
CubeAt w c = (ks : List ℤ) × KeysFit c.keys ks × AllHold w ks c.lits

-- every lemma of the atom's predicate is true at the values of the atom's arguments
abbrev pub AtomHolds : List Lemma → Valuation → App → Type 0
AtomHolds [] v a = Unit {0}
AtomHolds (l ∷ ls) v a = (l.pred ≡ a.pred → LemmaAt (at_atom v a) l) × AtomHolds ls v a

-- all atoms hold
abbrev pub AtomsHold : List Lemma → Valuation → List App → Type 0
AtomsHold ls v [] = Unit {0}
AtomsHold ls v (a ∷ more) = AtomHolds ls v a × AtomsHold ls v more
