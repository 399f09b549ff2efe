-- The rows of each kind of formula.
use Rattle.std.proofs.Common.{◌≡◌, ◌∙◌, sym, ap, refl, ℕ, List, [], ◌∷◌, ◌++◌, Bool, true, false, ◌&&◌, map, append-nil}
use Rattle.std.proofs.Math.Bool.{and_assoc}
use Rattle.std.specs.List.{list_all}
use Rattle.chc_form.specs.declared.linear.Lin.{Lin}
use Rattle.chc_form.specs.declared.formula.Formula.{Formula, Le, And, Or}
use Rattle.chc_form.specs.declared.formula.Formula.TheOpen.{Formula-F}
use Rattle.chc_form.specs.declared.formula.Formula.TheVariants.{rolls-Le, rolls-And, rolls-Or}
use Rattle.chc_form.specs.declared.formula.Formula.TheFolds.{fold-Formula, fold-roll-Formula}
use Rattle.chc_reduce.specs.Rows.{Entry, row, opened, choice, joined, only, entries_step, entries_of, sums_in, taken_in, has_no_choice, rows_of, is_plain, branch_of}

-- ---- the list

entries_of-Le : (l : Lin) → entries_of (Le l) ≡ row l ∷ []
unfolding entries_of
entries_of-Le l = ap (fold-Formula (List Entry) entries_step) (sym (rolls-Le l)) ∙ fold-roll-Formula (List Entry) entries_step (Formula-F.Le l)

entries_of-And : (fs : List Formula) → entries_of (And fs) ≡ joined (map entries_of fs)
unfolding entries_of
entries_of-And fs = ap (fold-Formula (List Entry) entries_step) (sym (rolls-And fs)) ∙ fold-roll-Formula (List Entry) entries_step (Formula-F.And fs)

entries_of-Or : (fs : List Formula) → entries_of (Or fs) ≡ only (map entries_of fs) (choice ∷ []) (λ es. opened ∷ es)
unfolding entries_of
entries_of-Or fs = ap (fold-Formula (List Entry) entries_step) (sym (rolls-Or fs)) ∙ fold-roll-Formula (List Entry) entries_step (Formula-F.Or fs)

-- ---- lists one after another

sums-append : (es ds : List Entry) → sums_in (es ++ ds) ≡ sums_in es ++ sums_in ds
sums-append [] ds = refl
sums-append (row l ∷ es) ds = ap (λ (ls : List Lin). l ∷ ls) (sums-append es ds)
sums-append (opened ∷ es) ds = sums-append es ds
sums-append (choice ∷ es) ds = sums-append es ds

taken-append : (es ds : List Entry) → taken_in (es ++ ds) ≡ taken_in es ++ taken_in ds
taken-append [] ds = refl
taken-append (row l ∷ es) ds = taken-append es ds
taken-append (opened ∷ es) ds = ap (λ (b : List ℕ). 0 ∷ b) (taken-append es ds)
taken-append (choice ∷ es) ds = taken-append es ds

no-choice-append : (es ds : List Entry) → has_no_choice (es ++ ds) ≡ (has_no_choice es && has_no_choice ds)
no-choice-append [] ds = refl
no-choice-append (row l ∷ es) ds = no-choice-append es ds
no-choice-append (opened ∷ es) ds = no-choice-append es ds
no-choice-append (choice ∷ es) ds = refl

sums-joined : (fs : List Formula) → sums_in (joined (map entries_of fs)) ≡ joined (map rows_of fs)
unfolding rows_of
sums-joined [] = refl
sums-joined (f ∷ fs) = sums-append (entries_of f) (joined (map entries_of fs)) ∙ ap (λ (ls : List Lin). sums_in (entries_of f) ++ ls) (sums-joined fs)

taken-joined : (fs : List Formula) → taken_in (joined (map entries_of fs)) ≡ joined (map branch_of fs)
unfolding branch_of
taken-joined [] = refl
taken-joined (f ∷ fs) = taken-append (entries_of f) (joined (map entries_of fs)) ∙ ap (λ (b : List ℕ). taken_in (entries_of f) ++ b) (taken-joined fs)

no-choice-joined : (fs : List Formula) → has_no_choice (joined (map entries_of fs)) ≡ list_all (λ b. b) (map is_plain fs)
unfolding is_plain
no-choice-joined [] = refl
no-choice-joined (f ∷ fs) = no-choice-append (entries_of f) (joined (map entries_of fs)) ∙ ap (λ (b : Bool). has_no_choice (entries_of f) && b) (no-choice-joined fs)

sums-only : (fs : List Formula) → sums_in (only (map entries_of fs) (choice ∷ []) (λ es. opened ∷ es)) ≡ only (map rows_of fs) [] (λ r. r)
unfolding rows_of
sums-only [] = refl
sums-only (f ∷ []) = refl
sums-only (f ∷ g ∷ more) = refl

taken-only : (fs : List Formula) → taken_in (only (map entries_of fs) (choice ∷ []) (λ es. opened ∷ es)) ≡ only (map branch_of fs) [] (λ b. 0 ∷ b)
unfolding branch_of
taken-only [] = refl
taken-only (f ∷ []) = refl
taken-only (f ∷ g ∷ more) = refl

no-choice-only : (fs : List Formula) → has_no_choice (only (map entries_of fs) (choice ∷ []) (λ es. opened ∷ es)) ≡ only (map is_plain fs) false (λ b. b)
unfolding is_plain
no-choice-only [] = refl
no-choice-only (f ∷ []) = refl
no-choice-only (f ∷ g ∷ more) = refl

-- ---- what is read off the list

pub rows_of-Le : (l : Lin) → rows_of (Le l) ≡ l ∷ []
unfolding rows_of
rows_of-Le l = ap sums_in (entries_of-Le l)

pub rows_of-And : (fs : List Formula) → rows_of (And fs) ≡ joined (map rows_of fs)
unfolding rows_of
rows_of-And fs = ap sums_in (entries_of-And fs) ∙ sums-joined fs

pub rows_of-Or : (fs : List Formula) → rows_of (Or fs) ≡ only (map rows_of fs) [] (λ r. r)
unfolding rows_of
rows_of-Or fs = ap sums_in (entries_of-Or fs) ∙ sums-only fs

pub is_plain-Le : (l : Lin) → is_plain (Le l) ≡ true
unfolding is_plain
is_plain-Le l = ap has_no_choice (entries_of-Le l)

pub is_plain-And : (fs : List Formula) → is_plain (And fs) ≡ list_all (λ b. b) (map is_plain fs)
unfolding is_plain
is_plain-And fs = ap has_no_choice (entries_of-And fs) ∙ no-choice-joined fs

pub is_plain-Or : (fs : List Formula) → is_plain (Or fs) ≡ only (map is_plain fs) false (λ b. b)
unfolding is_plain
is_plain-Or fs = ap has_no_choice (entries_of-Or fs) ∙ no-choice-only fs

pub branch_of-Le : (l : Lin) → branch_of (Le l) ≡ []
unfolding branch_of
branch_of-Le l = ap taken_in (entries_of-Le l)

pub branch_of-And : (fs : List Formula) → branch_of (And fs) ≡ joined (map branch_of fs)
unfolding branch_of
branch_of-And fs = ap taken_in (entries_of-And fs) ∙ taken-joined fs

pub branch_of-Or : (fs : List Formula) → branch_of (Or fs) ≡ only (map branch_of fs) [] (λ b. 0 ∷ b)
unfolding branch_of
branch_of-Or fs = ap taken_in (entries_of-Or fs) ∙ taken-only fs

pub and-true : (a : Bool) → (a && true) ≡ a
and-true true = refl
and-true false = refl

pub and-false : (a : Bool) → (a && false) ≡ false
and-false true = refl
and-false false = refl

pub and-later : (a b c : Bool) → ((a && b) && c) ≡ (a && (b && c))
and-later a b c = and_assoc a b c

pub ruleset shapes = (rows_of-Le, rows_of-And, rows_of-Or, is_plain-Le, is_plain-And, is_plain-Or, branch_of-Le, branch_of-And, branch_of-Or, append-nil, and-true, and-false, and-later)
