-- The literals of lemmas at the arguments of atoms, as sums over the variables of a rule or query. Sums are exact: whether a
-- number leaves 128 bits is judged on the finished inequality.
use Rattle.std.specs.Prelude.{ℕ, ◌==◌, nat_lt, List, [], ◌∷◌, Option, Some, None, pos, ◌+ℤ◌, ◌-ℤ◌, neg_ℤ, if◌then◌else◌, slice_get}
use lib.IntN.{ℤ}
use Rattle.std.specs.Ordering.{int_eq}
use Rattle.chc_nums.specs.Wide.{in_128}
use Rattle.chc_nums.specs.Totals.{IsWithin}
use Rattle.chc_nums.specs.Values.{with_value}
use Rattle.chc_form.specs.declared.linear.Lin.{Lin}
use Rattle.chc_form.specs.declared.system.App.{App}
use Rattle.chc_form.specs.declared.lemma.LitTerm.{LitTerm}
use Rattle.chc_form.specs.declared.lemma.LitTerm.TheVariants as term
use Rattle.chc_form.specs.declared.lemma.Lit.{Lit}

-- a term in front of others, which vanishes where its coefficient is 0
abbrev pub put_term : ℕ → ℤ → List (ℕ × ℤ) → List (ℕ × ℤ)
put_term x a ts = if int_eq a (pos 0) then ts else (x, a) ∷ ts

-- a variable's coefficient raised by a, where terms stand by ascending variables
abbrev pub raised : ℕ → ℤ → List (ℕ × ℤ) → List (ℕ × ℤ)
raised x a [] = put_term x a []
raised x a (t ∷ ts) =
    if nat_lt x t.0
    then put_term x a (t ∷ ts)
    else (
    if x == t.0
    then put_term x (t.1 +ℤ a) ts
    else t ∷ raised x a ts
    )

-- each coefficient is no further from 0 than a sum of so many numbers of 128 bits
abbrev pub AreWithin : ℕ → List (ℕ × ℤ) → Type 0
AreWithin k [] = Unit {0}
AreWithin k (t ∷ ts) = IsWithin k t.1 × AreWithin k ts

-- the variable that is the argument of a term; none for a bound key and for what a mapping holds
abbrev pub variable_of : App → LitTerm → Option ℕ
variable_of a (term.Arg i) = slice_get a.args i
variable_of a (term.Key i) = None
variable_of a (term.Read i ks) = None

-- terms at an atom's arguments, after others: the exact sums of their coefficients
abbrev pub terms_onto : App → List (ℕ × ℤ) → List (LitTerm × ℤ) → Option (List (ℕ × ℤ))
terms_onto a made [] = Some made
terms_onto a made (t ∷ ts) = with_value (variable_of a t.0) (λ x. terms_onto a (raised x t.1 made) ts)

-- ---- finished inequalities

-- terms whose coefficients have 128 bits
abbrev pub narrowed_terms : List (ℕ × ℤ) → Option (List (ℕ × ℤ))
narrowed_terms [] = Some []
narrowed_terms (t ∷ ts) = with_value (in_128 t.1) (λ a. with_value (narrowed_terms ts) (λ more. Some ((t.0, a) ∷ more)))

-- a sum whose numbers all have 128 bits
abbrev pub narrowed : List (ℕ × ℤ) → ℤ → Option Lin
narrowed ts k = with_value (narrowed_terms ts) (λ us. with_value (in_128 k) (λ c. Some (record { terms = us; konst = c })))

-- the sum of a literal at an atom's arguments: none where it speaks of a bound key or of a mapping, or leaves 128 bits
unfoldable pub literal_sum : App → Lit → Option Lin
literal_sum a l = with_value (terms_onto a [] l.terms) (λ ts. narrowed ts l.konst)

-- terms with the other sign
abbrev pub opposite_terms : List (ℕ × ℤ) → List (ℕ × ℤ)
opposite_terms [] = []
opposite_terms (t ∷ ts) = (t.0, neg_ℤ t.1) ∷ opposite_terms ts

-- the sum that says the opposite over whole numbers: 1 - s in place of s
unfoldable pub opposite_sum : App → Lit → Option Lin
opposite_sum a l = with_value (terms_onto a [] l.terms) (λ ts. narrowed (opposite_terms ts) (pos 1 -ℤ l.konst))
