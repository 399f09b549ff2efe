-- Lemmas that a search may try on a system: an argument is at most a number.
use Rattle.std.specs.Prelude.{ℕ, ◌+◌, List, [], ◌∷◌, ◌++◌, take, pos, neg_ℤ, Option, Some, None, Bool, false, not, ◌&&◌, if◌then◌else◌}
use Rattle.std.specs.List.{flat_map}
use lib.IntN.{ℤ}
use lib.Signed.{lt_z}
use Rattle.chc_nums.specs.declared.Ty.{Ty}
use Rattle.chc_nums.specs.declared.Ty.TheVariants as ty
use Rattle.chc_nums.specs.Types.{least, greatest}
use Rattle.chc_nums.specs.declared.limits.TheConstants.{MAX_CANDIDATES}
use Rattle.chc_form.specs.declared.system.Sort.{Sort}
use Rattle.chc_form.specs.declared.system.Sort.TheVariants as sort
use Rattle.chc_form.specs.declared.system.System.{System}
use Rattle.chc_form.specs.declared.lemma.LitTerm.TheVariants as term
use Rattle.chc_form.specs.declared.lemma.Lemma.{Lemma}
use Rattle.chc_templates.specs.Constants.{constants_of}

-- to be at most k says something of a type's numbers: some are, and others aren't
abbrev pub splits : ℤ → Ty → Bool
splits k t = not (lt_z k (least t)) && lt_z k (greatest t)

-- of an integer or a truth value; nothing is said of addresses, other numbers and mappings
abbrev pub splits_sort : ℤ → Sort → Bool
splits_sort k (sort.Whole ty.Bool) = splits k ty.Bool
splits_sort k (sort.Whole (ty.Uint n)) = splits k (ty.Uint n)
splits_sort k (sort.Whole (ty.Int n)) = splits k (ty.Int n)
splits_sort k (sort.Whole ty.Addr) = false
splits_sort k sort.Free = false
splits_sort k (sort.Map keys value) = false

-- the constant of the literal that an argument of this sort is at most k, if that says something of it
unfoldable pub konst_for : ℤ → Sort → Option ℤ
konst_for k s = if splits_sort k s then Some (neg_ℤ k) else None

-- the sum of c and the argument of predicate p at place i is at most 0
abbrev pub lemma_on : ℕ → ℕ → ℤ → Lemma
lemma_on p i c = record { pred = p; keys = []; lits = record { terms = (term.Arg i, pos 1) ∷ []; konst = c } ∷ [] }

abbrev pub lemmas_on : ℕ → ℕ → Option ℤ → List Lemma
lemmas_on p i None = []
lemmas_on p i (Some c) = lemma_on p i c ∷ []

-- the argument of predicate p at place i, of this sort, is at most k
abbrev pub on_place : ℤ → ℕ → ℕ → Sort → List Lemma
on_place k p i s = lemmas_on p i (konst_for k s)

-- for each argument of predicate p, from place i on
abbrev pub on_places : ℤ → ℕ → ℕ → List Sort → List Lemma
on_places k p i [] = []
on_places k p i (s ∷ ss) = on_place k p i s ++ on_places k p (i + 1) ss

-- for each predicate, from p on
abbrev pub on_preds : ℤ → ℕ → List (List Sort) → List Lemma
on_preds k p [] = []
on_preds k p (ss ∷ more) = on_places k p 0 ss ++ on_preds k (p + 1) more

-- for each of some numbers, each predicate, each argument
abbrev pub on_numbers : List (List Sort) → List ℤ → List Lemma
on_numbers preds ks = flat_map (λ k. on_preds k 0 preds) ks

-- for the first eight constants; the first 1,024 of them
unfoldable pub candidates_of : System → List Lemma
candidates_of s = take MAX_CANDIDATES (on_numbers s.preds (take 8 (constants_of s)))
