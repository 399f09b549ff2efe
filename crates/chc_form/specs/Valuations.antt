-- What variables stand for.
use Rattle.std.specs.Prelude.{◌≡◌, ℕ, List, [], ◌∷◌, pos, unwrap_or, slice_get, Some}
use lib.IntN.{ℤ}
use Rattle.chc_nums.specs.declared.Ty.{Ty}
use Rattle.chc_nums.specs.Types.{InRange}
use Rattle.chc_form.specs.declared.system.Sort.{Sort}
use Rattle.chc_form.specs.declared.system.Sort.TheVariants as sort
use Rattle.chc_form.specs.declared.system.App.{App}

-- a number for each variable that is no mapping, and for each mapping what it holds at keys
pub record Valuation : Type 0 where
  pub number : ℕ → ℤ
  pub mapping : ℕ → List ℤ → ℤ

-- as many keys as types, each in its type
abbrev pub KeysFit : List Ty → List ℤ → Type 0
KeysFit [] [] = Unit {0}
KeysFit [] (k ∷ ks) = ⊥
KeysFit (t ∷ ts) [] = ⊥
KeysFit (t ∷ ts) (k ∷ ks) = InRange t k × KeysFit ts ks

-- a mapping from keys in their types to values in theirs, 0 elsewhere
pub record IsMapping (keys : List Ty) (value : Ty) (m : List ℤ → ℤ) : Type 0 where
  pub inside : (ks : List ℤ) → KeysFit keys ks → InRange value (m ks)
  pub outside : (ks : List ℤ) → (KeysFit keys ks → ⊥) → m ks ≡ pos 0

-- the variable's value is one of its sort
abbrev pub HasSort : Valuation → ℕ → Sort → Type 0
HasSort v x (sort.Whole t) = InRange t (v.number x)
HasSort v x sort.Free = Unit {0}
HasSort v x (sort.Map keys value) = IsMapping keys value (v.mapping x)

-- each variable's value is one of its sort
abbrev pub HasSorts : Valuation → List Sort → Type 0
HasSorts v sorts = (x : ℕ) (s : Sort) → slice_get sorts x ≡ Some s → HasSort v x s

-- the variable that is an atom's argument at a place
abbrev pub arg_at : App → ℕ → ℕ
arg_at a j = unwrap_or (slice_get a.args j) 0

-- the values of an atom's arguments, by their places
abbrev pub at_atom : Valuation → App → Valuation
at_atom v a = record { number = λ j. v.number (arg_at a j); mapping = λ j. v.mapping (arg_at a j) }
