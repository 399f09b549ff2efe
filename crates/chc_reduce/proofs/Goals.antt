-- A rule's formula falls into what comes before its goal, its goal and what comes after it.
use Rattle.std.proofs.Common.{◌≡◌, ◌∙◌, sym, ap, subst, refl, ℕ, suc, ◌<◌, List, [], ◌∷◌, ◌++◌, append_assoc, true, map, Option, Some, None, slice_get, length}
use Rattle.std.specs.Prelude.{slice_index_or}
use Rattle.std.specs.List.{list_all}
use Rattle.std.proofs.lemmas.Option.{slice_get_read}
use Rattle.chc_form.specs.declared.linear.Lin.{Lin}
use Rattle.chc_form.specs.declared.formula.Formula.{Formula, Le, And}
use Rattle.chc_form.specs.declared.system.Sort.{Sort}
use Rattle.chc_form.specs.declared.system.Sort.TheVariants as sort
use Rattle.chc_form.specs.declared.system.App.{App}
use Rattle.chc_form.specs.declared.system.Rule.{Rule}
use Rattle.chc_form.specs.declared.system.System.{System}
use Rattle.chc_form.specs.declared.lemma.Lit.{Lit}
use Rattle.chc_form.specs.declared.lemma.Lemma.{Lemma}
use Rattle.chc_form.specs.Linear.{AllAscend, lins}
use Rattle.chc_form.specs.WellMade.{well_made}
use Rattle.chc_form.proofs.Orders.{rule-ascends}
use Rattle.chc_form.proofs.Entries.{got-contained}
use Rattle.chc_reduce.specs.declared.premises.Premises.{Premises}
use Rattle.chc_reduce.specs.Literals.{opposite_sum}
use Rattle.chc_reduce.specs.Reduced.{lower, upper, ranges, at_most, refuted, constraint, instances, reduced_rule, reduced_rule_at}
use Rattle.chc_reduce.specs.Rows.{joined, rows_of, is_plain, branch_of}
use Rattle.chc_reduce.specs.Premises.{goal_part, ranges_part, premises_part, AreMadeOf, ArePremises, InOrder}
use Rattle.chc_reduce.proofs.Shapes.{rows_of-And, is_plain-Le, is_plain-And, branch_of-Le, branch_of-And}
use Rattle.chc_reduce.proofs.Sorts.{got_rule, few_rule}
use Rattle.chc_reduce.proofs.Ordered.{and-ordered, ordered-append, ranges-ordered, constraints-ordered, instances-ordered}

joined-append : {B : Type 0} (f : Formula → List B) (fs gs : List Formula) → joined (map f (fs ++ gs)) ≡ joined (map f fs) ++ joined (map f gs)
joined-append f [] gs = refl
joined-append f (h ∷ fs) gs = ap (λ (xs : List _). f h ++ xs) (joined-append f fs gs) ∙ sym (append_assoc (f h) (joined (map f fs)) (joined (map f gs)))

-- ---- rows

rows-split : (r : Rule) (goal : Lemma) (ls : List Lemma) → rows_of (reduced_rule r (Some goal) ls) ≡ rows_of (ranges_part r) ++ (rows_of (goal_part r.head goal) ++ rows_of (premises_part r ls))
unfolding reduced_rule
rows-split r goal ls =
    let rs : List Formula = ranges 0 r.vars in
    let gs : List Formula = map (refuted r.head) goal.lits in
    let cs : List Formula = map constraint r.cons ++ instances r.body ls in
    rw (rows_of-And rs, rows_of-And gs, rows_of-And cs)
    (rows_of-And (rs ++ (gs ++ cs)) ∙ joined-append rows_of rs (gs ++ cs) ∙ ap (λ (xs : List Lin). joined (map rows_of rs) ++ xs) (joined-append rows_of gs cs))

-- ---- choices

-- formulas without a choice, and with none that is taken
abbrev AllPlain : List Formula → Type 0
AllPlain [] = Unit {0}
AllPlain (f ∷ fs) = (branch_of f ≡ []) × (is_plain f ≡ true) × AllPlain fs

range-branch : (a b : Lin) → branch_of (And (Le a ∷ Le b ∷ [])) ≡ []
range-branch a b = rw (branch_of-And (Le a ∷ Le b ∷ []), branch_of-Le a, branch_of-Le b) refl

range-plain : (a b : Lin) → is_plain (And (Le a ∷ Le b ∷ [])) ≡ true
range-plain a b = rw (is_plain-And (Le a ∷ Le b ∷ []), is_plain-Le a, is_plain-Le b) refl

ranges-plain : (x : ℕ) (ss : List Sort) → AllPlain (ranges x ss)
ranges-plain x [] = tt
ranges-plain x (sort.Whole t ∷ ss) = (range-branch (lower x t) (upper x t), range-plain (lower x t) (upper x t), ranges-plain (suc x) ss)
ranges-plain x (sort.Free ∷ ss) = ranges-plain (suc x) ss
ranges-plain x (sort.Map ks v ∷ ss) = ranges-plain (suc x) ss

at_most-plain : (o : Option Lin) → (branch_of (at_most o) ≡ []) × (is_plain (at_most o) ≡ true)
at_most-plain None = (branch_of-And [], is_plain-And [])
at_most-plain (Some l) = (branch_of-Le l, is_plain-Le l)

refuted-plain : (p : App) (ls : List Lit) → AllPlain (map (refuted p) ls)
refuted-plain p [] = tt
refuted-plain p (l ∷ ls) = let e = at_most-plain (opposite_sum p l) in (e.0, e.1, refuted-plain p ls)

branch-past : (fs gs : List Formula) → AllPlain fs → joined (map branch_of (fs ++ gs)) ≡ joined (map branch_of gs)
branch-past [] gs h = refl
branch-past (f ∷ fs) gs h = rw h.0 (branch-past fs gs h.2)

plain-past : (fs gs : List Formula) → AllPlain fs → list_all (λ b. b) (map is_plain (fs ++ gs)) ≡ list_all (λ b. b) (map is_plain gs)
plain-past [] gs h = refl
plain-past (f ∷ fs) gs h = rw h.1 (plain-past fs gs h.2)

branch-same : (r : Rule) (goal : Lemma) (ls : List Lemma) → branch_of (reduced_rule r (Some goal) ls) ≡ branch_of (premises_part r ls)
unfolding reduced_rule
branch-same r goal ls =
    let rs : List Formula = ranges 0 r.vars in
    let gs : List Formula = map (refuted r.head) goal.lits in
    let cs : List Formula = map constraint r.cons ++ instances r.body ls in
    branch_of-And (rs ++ (gs ++ cs)) ∙ branch-past rs (gs ++ cs) (ranges-plain 0 r.vars) ∙ branch-past gs cs (refuted-plain r.head goal.lits) ∙ sym (branch_of-And cs)

plain-same : (r : Rule) (goal : Lemma) (ls : List Lemma) → is_plain (reduced_rule r (Some goal) ls) ≡ is_plain (premises_part r ls)
unfolding reduced_rule
plain-same r goal ls =
    let rs : List Formula = ranges 0 r.vars in
    let gs : List Formula = map (refuted r.head) goal.lits in
    let cs : List Formula = map constraint r.cons ++ instances r.body ls in
    is_plain-And (rs ++ (gs ++ cs)) ∙ plain-past rs (gs ++ cs) (ranges-plain 0 r.vars) ∙ plain-past gs cs (refuted-plain r.head goal.lits) ∙ sym (is_plain-And cs)

-- ---- premises

rows-around : (r : Rule) (goal : Lemma) (ls : List Lemma) (g : Premises) → AreMadeOf r ls g → rows_of (ranges_part r) ++ (rows_of (goal_part r.head goal) ++ rows_of (premises_part r ls)) ≡ lins g.before ++ (rows_of (goal_part g.head goal) ++ lins g.after)
rows-around r goal ls g h = rw (h.before, h.head, h.after) refl

pub premises-are : (s : System) (i : ℕ) (r : Rule) (ls : List Lemma) (g : Premises) → slice_get s.rules i ≡ Some r → AreMadeOf r ls g → ArePremises s i ls g
premises-are s i r ls g e h = record {
  rows = λ goal. ap (λ (o : Option Rule). rows_of (reduced_rule_at o (Some goal) ls)) e ∙ rows-split r goal ls ∙ rows-around r goal ls g h;
  branch = λ goal. ap (λ (o : Option Rule). branch_of (reduced_rule_at o (Some goal) ls)) e ∙ branch-same r goal ls ∙ sym h.branch;
  plain = λ goal. ap (λ (o : Option Rule). is_plain (reduced_rule_at o (Some goal) ls)) e ∙ plain-same r goal ls ∙ sym h.plain;
}

pub premises-ordered : (s : System) (i : ℕ) (r : Rule) (ls : List Lemma) (g : Premises) → well_made s ≡ true → slice_get s.rules i ≡ Some r → AreMadeOf r ls g → InOrder g
premises-ordered s i r ls g w e h = record {
  before = subst AllAscend (sym h.before) (and-ordered (ranges 0 r.vars) (ranges-ordered 0 r.vars));
  after = subst AllAscend (sym h.after) (and-ordered (map constraint r.cons ++ instances r.body ls) (ordered-append (map constraint r.cons) (instances r.body ls) (constraints-ordered r.cons (λ c j. rule-ascends s r c w (got-contained s.rules i r e) j)) (instances-ordered r.body ls)));
}

-- the entry that is read at a place
pub read-rule : (s : System) (i : ℕ) (r : Rule) → i < length s.rules → r ≡ slice_index_or s.rules i r → slice_get s.rules i ≡ Some r
read-rule s i r h e = slice_get_read s.rules (length s.rules) i r refl h e

pub ruleset premises = (premises-are, premises-ordered, read-rule, got_rule, few_rule)
