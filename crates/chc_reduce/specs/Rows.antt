-- The rows of a formula, in order: what stands in it outside every choice. An `Or` of one alternative is opened where it
-- stands; any other `Or` is a choice, and what stands in it is left out.
use Rattle.std.specs.Prelude.{ℕ, List, [], ◌∷◌, ◌++◌, Bool, true, false}
use Rattle.chc_form.specs.declared.linear.Lin.{Lin}
use Rattle.chc_form.specs.declared.formula.Formula.{Formula}
use Rattle.chc_form.specs.declared.formula.Formula.TheOpen.{Formula-F}
use Rattle.chc_form.specs.declared.formula.Formula.TheFolds.{fold-Formula}

-- an inequality, an `Or` of one alternative, or a choice
pub data Entry : Type 0 where
  row : Lin → Entry
  opened : Entry
  choice : Entry

-- lists one after another
abbrev pub joined : {A : Type 0} → List (List A) → List A
joined [] = []
joined (xs ∷ more) = xs ++ joined more

-- what follows from the one entry of a list, or else what is given
abbrev pub only : {A B : Type 0} → List A → B → (A → B) → B
only [] other f = other
only (a ∷ []) other f = f a
only (a ∷ b ∷ more) other f = other

abbrev pub entries_step : Formula-F (List Entry) → List Entry
entries_step (Formula-F.Le l) = row l ∷ []
entries_step (Formula-F.And parts) = joined parts
entries_step (Formula-F.Or parts) = only parts (choice ∷ []) (λ part. opened ∷ part)

-- the list of the formula
unfoldable pub entries_of : Formula → List Entry
entries_of f = fold-Formula (List Entry) entries_step f

-- ---- what is read off the list

abbrev pub sums_in : List Entry → List Lin
sums_in [] = []
sums_in (row l ∷ es) = l ∷ sums_in es
sums_in (opened ∷ es) = sums_in es
sums_in (choice ∷ es) = sums_in es

abbrev pub taken_in : List Entry → List ℕ
taken_in [] = []
taken_in (row l ∷ es) = taken_in es
taken_in (opened ∷ es) = 0 ∷ taken_in es
taken_in (choice ∷ es) = taken_in es

abbrev pub has_no_choice : List Entry → Bool
has_no_choice [] = true
has_no_choice (row l ∷ es) = has_no_choice es
has_no_choice (opened ∷ es) = has_no_choice es
has_no_choice (choice ∷ es) = false

-- the inequalities
unfoldable pub rows_of : Formula → List Lin
rows_of f = sums_in (entries_of f)

-- the alternative that is taken, number 0, at each `Or` that is opened
unfoldable pub branch_of : Formula → List ℕ
branch_of f = taken_in (entries_of f)

-- whether there is no choice
unfoldable pub is_plain : Formula → Bool
is_plain f = has_no_choice (entries_of f)
