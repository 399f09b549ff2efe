-- Where a rule's body holds at values and a lemma is false at the head, the values make the formula true; and so where a
-- query holds.
use Rattle.std.proofs.Common.{◌≡◌, ◌∙◌, sym, subst, refl, ℕ, zero, suc, ◌+◌, List, [], ◌∷◌, ◌++◌, ◌==◌, Bool, true, false, ◌||◌, ◌⊎◌, inl, inr, map, Option, Some, None, slice_get, pos, ◌+ℤ◌, ◌-ℤ◌, ◌*ℤ◌, ◌≤ℤ◌, neg_ℤ, arith, if◌then◌else◌}
use Rattle.std.specs.List.{list_all, list_any}
use Rattle.std.proofs.lemmas.Int.{ints}
use Rattle.std.proofs.lemmas.Bool.Decides.{nat_tests}
use Rattle.std.proofs.lemmas.Bool.{and_parts, and_from}
use lib.IntN.{ℤ, negsuc}
use Rattle.chc_nums.specs.declared.Ty.{Ty}
use Rattle.chc_nums.specs.Types.{InRange}
use Rattle.chc_form.specs.declared.linear.Lin.{Lin}
use Rattle.chc_form.specs.declared.formula.Formula.{Formula, Le, And, Or}
use Rattle.chc_form.specs.declared.system.Sort.{Sort}
use Rattle.chc_form.specs.declared.system.Sort.TheVariants as sort
use Rattle.chc_form.specs.declared.system.Con.{Con}
use Rattle.chc_form.specs.declared.system.Con.TheVariants as con
use Rattle.chc_form.specs.declared.system.App.{App}
use Rattle.chc_form.specs.declared.system.Rule.{Rule}
use Rattle.chc_form.specs.declared.system.Query.{Query}
use Rattle.chc_form.specs.declared.system.System.{System}
use Rattle.chc_form.specs.declared.system.Part.TheVariants as part
use Rattle.chc_form.specs.declared.lemma.Lit.{Lit}
use Rattle.chc_form.specs.declared.lemma.Lemma.{Lemma}
use Rattle.chc_form.specs.Linear.{sum_of, value_of}
use Rattle.chc_form.specs.Formulas.{TrueAt, FormulaRefuted, frac_true}
use Rattle.chc_form.specs.Valuations.{Valuation, KeysFit, HasSort, HasSorts, at_atom}
use Rattle.chc_form.specs.Constraints.{ConAt, ConsAt}
use Rattle.chc_form.specs.Lemmas.{lit_value, OneHolds, LemmaAt, AtomHolds, AtomsHold}
use Rattle.chc_form.specs.Solving.{BodyHolds, QueryHolds}
use Rattle.chc_form.proofs.Truths.{frac_true-Le, frac_true-And, frac_true-Or}
use Rattle.chc_reduce.specs.Literals.{literal_sum, opposite_sum}
use Rattle.chc_reduce.specs.Reduced.{lower, upper, range_of, ranges, at_most, refuted, granted, goal_parts, constraint, instance_of, instances_at, instances, reduced_rule, reduced_query, reduced_rule_at, reduced_query_at, reduced}
use Rattle.chc_reduce.proofs.Satisfying.{above_not}
use Rattle.chc_reduce.proofs.Sums.{literal-value, opposite-value}
use Rattle.chc_nums.proofs.Ring.{minus-mul}
use Rattle.lists.proofs.Tests.{or-left, or-right}

-- all formulas are true at these whole numbers
abbrev AllTrue : (ℕ → ℤ) → List Formula → Type 0
AllTrue x fs = list_all (λ b. b) (map (frac_true x (pos 1)) fs) ≡ true

all-append : (x : ℕ → ℤ) (fs gs : List Formula) → AllTrue x fs → AllTrue x gs → AllTrue x (fs ++ gs)
all-append x [] gs h k = k
all-append x (f ∷ fs) gs h k =
    let p = and_parts (frac_true x (pos 1) f) (list_all (λ b. b) (map (frac_true x (pos 1)) fs)) h in
    and_from (frac_true x (pos 1) f) (list_all (λ b. b) (map (frac_true x (pos 1)) (fs ++ gs))) p.0 (all-append x fs gs p.1 k)

all-more : (x : ℕ → ℤ) (f : Formula) (fs : List Formula) → TrueAt x f → AllTrue x fs → AllTrue x (f ∷ fs)
all-more x f fs h k = and_from (frac_true x (pos 1) f) (list_all (λ b. b) (map (frac_true x (pos 1)) fs)) h k

and-true : (x : ℕ → ℤ) (fs : List Formula) → AllTrue x fs → TrueAt x (And fs)
and-true x fs h = frac_true-And x (pos 1) fs ∙ h

nothing-true : (x : ℕ → ℤ) → TrueAt x (And [])
nothing-true x = and-true x [] refl

times-one : (z : ℤ) → z *ℤ pos 1 ≡ z
times-one z = omega (arith, ints)

one-times : (z : ℤ) → pos 1 *ℤ z ≡ z
one-times z = omega (arith, ints)

le-true : (x : ℕ → ℤ) (l : Lin) → value_of l x ≤ℤ pos 0 → TrueAt x (Le l)
le-true x l h = frac_true-Le x (pos 1) l ∙ above_not (sum_of l.terms x +ℤ (l.konst *ℤ pos 1)) (omega (arith, ints, times-one l.konst, h))

-- ---- ranges

range-true : (v : Valuation) (x : ℕ) (t : Ty) → InRange t (v.number x) → TrueAt v.number (range_of x t)
range-true v x t h =
    let low : value_of (lower x t) v.number ≤ℤ pos 0 = omega (arith, ints, minus-mul (v.number x), h.0) in
    let high : value_of (upper x t) v.number ≤ℤ pos 0 = omega (arith, ints, one-times (v.number x), h.1) in
    and-true v.number (Le (lower x t) ∷ Le (upper x t) ∷ []) (all-more v.number (Le (lower x t)) (Le (upper x t) ∷ []) (le-true v.number (lower x t) low) (all-more v.number (Le (upper x t)) [] (le-true v.number (upper x t) high) refl))

-- the sorts of variables from number x on
abbrev Sorted : Valuation → ℕ → List Sort → Type 0
Sorted v x [] = Unit {0}
Sorted v x (s ∷ ss) = HasSort v x s × Sorted v (suc x) ss

sorted-from : (v : Valuation) (x : ℕ) (ss : List Sort) → ((j : ℕ) (s : Sort) → slice_get ss j ≡ Some s → HasSort v (x + j) s) → Sorted v x ss
sorted-from v x [] h = tt
sorted-from v x (s ∷ ss) h =
    let e : x + 0 ≡ x = omega arith in (
      subst (λ (n : ℕ). HasSort v n s) e (h 0 s refl),
      sorted-from v (suc x) ss (λ j r g. let k : x + suc j ≡ suc x + j = omega arith in subst (λ (n : ℕ). HasSort v n r) k (h (suc j) r g)),
    )

ranges-true : (v : Valuation) (x : ℕ) (ss : List Sort) → Sorted v x ss → AllTrue v.number (ranges x ss)
ranges-true v x [] h = refl
ranges-true v x (sort.Whole t ∷ ss) h = all-more v.number (range_of x t) (ranges (suc x) ss) (range-true v x t h.0) (ranges-true v (suc x) ss h.1)
ranges-true v x (sort.Free ∷ ss) h = ranges-true v (suc x) ss h.1
ranges-true v x (sort.Map ks w ∷ ss) h = ranges-true v (suc x) ss h.1

sorts-true : (v : Valuation) (ss : List Sort) → HasSorts v ss → AllTrue v.number (ranges 0 ss)
sorts-true v ss h = ranges-true v 0 ss (sorted-from v 0 ss (λ j s g. let e : 0 + j ≡ j = omega arith in rw e (h j s g)))

-- ---- constraints

constraint-true : (sorts : List Sort) (v : Valuation) (c : Con) → ConAt sorts v c → TrueAt v.number (constraint c)
constraint-true sorts v (con.Le l) h = le-true v.number l h
constraint-true sorts v (con.Differ l) h = nothing-true v.number
constraint-true sorts v (con.Mul a b w) h = nothing-true v.number
constraint-true sorts v (con.Div a b q) h = nothing-true v.number
constraint-true sorts v (con.Rem a b r) h = nothing-true v.number
constraint-true sorts v (con.Sel m ks x) h = nothing-true v.number
constraint-true sorts v (con.Sto n m ks e) h = nothing-true v.number
constraint-true sorts v (con.Zero m) h = nothing-true v.number

constraints-true : (sorts : List Sort) (v : Valuation) (cs : List Con) → ConsAt sorts v cs → AllTrue v.number (map constraint cs)
constraints-true sorts v [] h = refl
constraints-true sorts v (c ∷ cs) h = all-more v.number (constraint c) (map constraint cs) (constraint-true sorts v c h.0) (constraints-true sorts v cs h.1)

-- ---- literals

granted-by : (v : Valuation) (p : App) (l : Lit) (ks : List ℤ) (o : Option Lin) → literal_sum p l ≡ o → lit_value (at_atom v p) ks l ≤ℤ pos 0 → TrueAt v.number (at_most o)
granted-by v p l ks None e h = nothing-true v.number
granted-by v p l ks (Some s) e h = le-true v.number s (subst (λ (z : ℤ). z ≤ℤ pos 0) (sym (literal-value p l s v ks e)) h)

granted-true : (v : Valuation) (p : App) (l : Lit) (ks : List ℤ) → lit_value (at_atom v p) ks l ≤ℤ pos 0 → TrueAt v.number (granted p l)
granted-true v p l ks h = granted-by v p l ks (literal_sum p l) refl h

-- a number is at most 0, or it isn't
at-most-zero : (z : ℤ) → (z ≤ℤ pos 0) ⊎ (pos 1 ≤ℤ z)
at-most-zero (pos zero) = inl (omega (arith, ints))
at-most-zero (pos (suc n)) = inr (omega (arith, ints))
at-most-zero (negsuc n) = inl (omega (arith, ints))

refuted-sum : (v : Valuation) (p : App) (l : Lit) (s : Lin) → opposite_sum p l ≡ Some s → (((ks : List ℤ) → lit_value (at_atom v p) ks l ≤ℤ pos 0) → ⊥) → value_of s v.number ≤ℤ pos 0
refuted-sum v p l s e never =
    let each : (ks : List ℤ) → value_of s v.number ≡ pos 1 -ℤ lit_value (at_atom v p) ks l = λ ks. opposite-value p l s v ks e in
    elim (at-most-zero (lit_value (at_atom v p) [] l)) [
      | inl low ↦ absurd (never (λ ks. omega (arith, ints, each ks, each [], low)))
      | inr high ↦ omega (arith, ints, each [], high)
    ]

refuted-by : (v : Valuation) (p : App) (l : Lit) (o : Option Lin) → opposite_sum p l ≡ o → (((ks : List ℤ) → lit_value (at_atom v p) ks l ≤ℤ pos 0) → ⊥) → TrueAt v.number (at_most o)
refuted-by v p l None e never = nothing-true v.number
refuted-by v p l (Some s) e never = le-true v.number s (refuted-sum v p l s e never)

goals-true : (v : Valuation) (p : App) (ls : List Lit) → (((ks : List ℤ) → OneHolds (at_atom v p) ks ls) → ⊥) → AllTrue v.number (map (refuted p) ls)
goals-true v p [] never = refl
goals-true v p (l ∷ ls) never =
    all-more v.number (refuted p l) (map (refuted p) ls) (refuted-by v p l (opposite_sum p l) refl (λ h. never (λ ks. inl (h ks)))) (goals-true v p ls (λ h. never (λ ks. inr (h ks))))

goal-true : (v : Valuation) (p : App) (goal : Lemma) → (LemmaAt (at_atom v p) goal → ⊥) → AllTrue v.number (goal_parts p (Some goal))
goal-true v p goal never = goals-true v p goal.lits (λ h. never (λ ks fit. h ks))

-- ---- lemmas of the body's atoms

one-true : (v : Valuation) (p : App) (ks : List ℤ) (ls : List Lit) → OneHolds (at_atom v p) ks ls → list_any (λ b. b) (map (frac_true v.number (pos 1)) (map (granted p) ls)) ≡ true
one-true v p ks [] h = absurd h
one-true v p ks (l ∷ ls) (inl h) = or-left (frac_true v.number (pos 1) (granted p l)) (list_any (λ b. b) (map (frac_true v.number (pos 1)) (map (granted p) ls))) (granted-true v p l ks h)
one-true v p ks (l ∷ ls) (inr h) = or-right (frac_true v.number (pos 1) (granted p l)) (list_any (λ b. b) (map (frac_true v.number (pos 1)) (map (granted p) ls))) (one-true v p ks ls h)

instance-true : (v : Valuation) (p : App) (l : Lemma) (keys : List Ty) → l.keys ≡ keys → LemmaAt (at_atom v p) l → AllTrue v.number (instance_of p l keys)
instance-true v p l [] e h =
    let fit : KeysFit l.keys [] = subst (λ (ts : List Ty). KeysFit ts []) (sym e) tt in
    all-more v.number (Or (map (granted p) l.lits)) [] (frac_true-Or v.number (pos 1) (map (granted p) l.lits) ∙ one-true v p [] l.lits (h [] fit)) refl
instance-true v p l (k ∷ ks) e h = refl

same-true : (v : Valuation) (p : App) (l : Lemma) (b : Bool) → (l.pred == p.pred) ≡ b → (l.pred ≡ p.pred → LemmaAt (at_atom v p) l) → AllTrue v.number (if b then instance_of p l l.keys else [])
same-true v p l true e h = let same : l.pred ≡ p.pred = grind (arith, nat_tests) in instance-true v p l l.keys refl (h same)
same-true v p l false e h = refl

atom-true : (v : Valuation) (p : App) (ls : List Lemma) → AtomHolds ls v p → AllTrue v.number (instances_at p ls)
atom-true v p [] h = refl
atom-true v p (l ∷ ls) h = all-append v.number (if l.pred == p.pred then instance_of p l l.keys else []) (instances_at p ls) (same-true v p l (l.pred == p.pred) refl h.0) (atom-true v p ls h.1)

atoms-true : (v : Valuation) (body : List App) (ls : List Lemma) → AtomsHold ls v body → AllTrue v.number (instances body ls)
atoms-true v [] ls h = refl
atoms-true v (p ∷ body) ls h = all-append v.number (instances_at p ls) (instances body ls) (atom-true v p ls h.0) (atoms-true v body ls h.1)

-- ---- the whole

rule-true : (r : Rule) (goal : Lemma) (ls : List Lemma) (v : Valuation) → BodyHolds ls r v → (LemmaAt (at_atom v r.head) goal → ⊥) → TrueAt v.number (reduced_rule r (Some goal) ls)
unfolding reduced_rule
rule-true r goal ls v h never =
    and-true v.number (ranges 0 r.vars ++ (goal_parts r.head (Some goal) ++ (map constraint r.cons ++ instances r.body ls)))
    (all-append v.number (ranges 0 r.vars) _ (sorts-true v r.vars h.sorts) (all-append v.number (goal_parts r.head (Some goal)) _ (goal-true v r.head goal never) (all-append v.number (map constraint r.cons) (instances r.body ls) (constraints-true r.vars v r.cons h.constraints) (atoms-true v r.body ls h.atoms))))

query-true : (q : Query) (ls : List Lemma) (v : Valuation) → QueryHolds ls q v → TrueAt v.number (reduced_query q ls)
unfolding reduced_query
query-true q ls v h =
    and-true v.number (ranges 0 q.vars ++ (map constraint q.cons ++ instances q.body ls))
    (all-append v.number (ranges 0 q.vars) _ (sorts-true v q.vars h.sorts) (all-append v.number (map constraint q.cons) (instances q.body ls) (constraints-true q.vars v q.cons h.constraints) (atoms-true v q.body ls h.atoms)))

pub body-true : (s : System) (i : ℕ) (r : Rule) (goal : Lemma) (ls : List Lemma) (v : Valuation) → slice_get s.rules i ≡ Some r → BodyHolds ls r v → (LemmaAt (at_atom v r.head) goal → ⊥) → TrueAt v.number (reduced s (part.Rule i) (Some goal) ls)
body-true s i r goal ls v e h never = subst (λ (o : Option Rule). TrueAt v.number (reduced_rule_at o (Some goal) ls)) (sym e) (rule-true r goal ls v h never)

pub asked-true : (s : System) (i : ℕ) (q : Query) (ls : List Lemma) (v : Valuation) → slice_get s.queries i ≡ Some q → QueryHolds ls q v → TrueAt v.number (reduced s (part.Query i) None ls)
asked-true s i q ls v e h = subst (λ (o : Option Query). TrueAt v.number (reduced_query_at o ls)) (sym e) (query-true q ls v h)

-- ---- what a refuted formula shows

one-decided : (v : Valuation) (ks : List ℤ) (ls : List Lit) → OneHolds v ks ls ⊎ (OneHolds v ks ls → ⊥)
one-decided v ks [] = inr (λ h. h)
one-decided v ks (l ∷ ls) =
    elim (at-most-zero (lit_value v ks l)) [
      | inl low ↦ inl (inl low)
      | inr high ↦ elim (one-decided v ks ls) [
        | inl h ↦ inl (inr h)
        | inr never ↦ inr (λ h. elim h [
          | inl low ↦ absurd (omega (arith, ints, low, high))
          | inr more ↦ never more
        ])
      ]
    ]

pub rule-shown : (s : System) (i : ℕ) (r : Rule) (goal : Lemma) (ls : List Lemma) (v : Valuation) → slice_get s.rules i ≡ Some r → BodyHolds ls r v → FormulaRefuted (reduced s (part.Rule i) (Some goal) ls) → LemmaAt (at_atom v r.head) goal
rule-shown s i r goal ls v e h closed ks fit =
    elim (one-decided (at_atom v r.head) ks goal.lits) [
      | inl one ↦ one
      | inr never ↦ absurd (closed v.number (pos 1) (omega (arith, ints)) (body-true s i r goal ls v e h (λ lemma. never (lemma ks fit))))
    ]

pub query-shown : (s : System) (i : ℕ) (q : Query) (ls : List Lemma) (v : Valuation) → slice_get s.queries i ≡ Some q → QueryHolds ls q v → FormulaRefuted (reduced s (part.Query i) None ls) → ⊥
query-shown s i q ls v e h closed = closed v.number (pos 1) (omega (arith, ints)) (asked-true s i q ls v e h)

pub ruleset reductions = (body-true, asked-true, rule-shown, query-shown)
