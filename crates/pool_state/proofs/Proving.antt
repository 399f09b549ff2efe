-- Proofs that leave no obligation of a batch open show that it is relative to its base.
use Rattle.std.proofs.Common.{◌≡◌, ◌∙◌, sym, ap, subst, refl, ℕ, zero, suc, ◌+◌, ◌==◌, List, [], ◌∷◌, ◌++◌, Bool, true, false, ◌&&◌, Option, Some, None, slice_get, arith, if◌then◌else◌}
use Rattle.std.specs.List.{Contains}
use Rattle.std.proofs.lemmas.Bool.Decides.{nat_tests}
use Rattle.std.proofs.lemmas.Option.{slice_get-get_or}
use Rattle.std.proofs.lemmas.Bool.{and_parts}
use lib.IntN.{ℤ}
use Rattle.chc_form.specs.declared.formula.Formula.{Formula}
use Rattle.chc_form.specs.declared.system.Rule.{Rule}
use Rattle.chc_form.specs.declared.system.System.{System}
use Rattle.chc_form.specs.declared.system.Part.TheVariants as part
use Rattle.chc_form.specs.declared.lemma.Lemma.{Lemma}
use Rattle.chc_form.specs.Formulas.{FormulaRefuted}
use Rattle.chc_form.specs.Solving.{Relative}
use Rattle.chc_form.specs.WellMade.{well_made}
use Rattle.chc_form.proofs.Farkas.{refutes-fractions}
use Rattle.chc_reduce.specs.Obligations.{Obligation, at_rules, for_lemmas, obligations}
use Rattle.chc_reduce.specs.Reduced.{reduced}
use Rattle.chc_reduce.specs.Rows.{rows_of}
use Rattle.chc_reduce.proofs.Satisfying.{rows-refute}
use Rattle.chc_reduce.proofs.Truthful.{rule-shown}
use Rattle.chc_cert.specs.Passing.{passes}
use Rattle.chc_cert.proofs.Laws.{passes-refutes}
use Rattle.pool_state.specs.Unproved.{unproved}

-- ---- the obligations

abbrev AllRefuted : List Obligation → Type 0
AllRefuted [] = Unit {0}
AllRefuted (o ∷ os) = FormulaRefuted o.formula × AllRefuted os

passed-refuted : (p : List ℤ) (f : Formula) → passes p (rows_of f) ≡ true → FormulaRefuted f
passed-refuted p f h = rows-refute f (refutes-fractions p (rows_of f) (passes-refutes p (rows_of f) h))

proved-both : (b : Bool) (rest : Option (ℕ × ℕ)) (first : ℕ × ℕ) → (if b then rest else Some first) ≡ None → (b ≡ true) × (rest ≡ None)
proved-both true rest first h = (refl, h)
proved-both false rest first h = absurd (cc (h))

proved-refuted : (os : List Obligation) (ps : List (List ℤ)) → unproved os ps ≡ None → AllRefuted os
proved-refuted [] ps h = tt
proved-refuted (o ∷ os) [] h = absurd (cc (h))
proved-refuted (o ∷ os) (p ∷ ps) h =
    let a = proved-both (passes p (rows_of o.formula)) (unproved os ps) (o.lemma, o.rule) h in
    (passed-refuted p o.formula a.0, proved-refuted os ps a.1)

refuted-first : (os more : List Obligation) → AllRefuted (os ++ more) → AllRefuted os
refuted-first [] more h = tt
refuted-first (o ∷ os) more h = (h.0, refuted-first os more h.1)

refuted-second : (os more : List Obligation) → AllRefuted (os ++ more) → AllRefuted more
refuted-second [] more h = h
refuted-second (o ∷ os) more h = refuted-second os more h.1

-- ---- the obligation of a lemma at a rule

abbrev Shown : System → List Lemma → Lemma → ℕ → Type 0
Shown s have l i = FormulaRefuted (reduced s (part.Rule i) (Some l) have)

rule-refuted : (s : System) (have : List Lemma) (k : ℕ) (l : Lemma) (i : ℕ) (r : Rule) (rs : List Rule) (b : Bool) → (r.head.pred == l.pred) ≡ b → AllRefuted (if b then (record { lemma = k; rule = i; formula = reduced s (part.Rule i) (Some l) have }) ∷ at_rules s have k l (suc i) rs else at_rules s have k l (suc i) rs) → (l.pred ≡ r.head.pred → Shown s have l i) × AllRefuted (at_rules s have k l (suc i) rs)
rule-refuted s have k l i r rs true e h = (λ same. h.0, h.1)
rule-refuted s have k l i r rs false e h = (λ same. absurd (grind (arith, nat_tests)), h)

rules-refuted : (s : System) (have : List Lemma) (k : ℕ) (l : Lemma) (i : ℕ) (rs : List Rule) → AllRefuted (at_rules s have k l i rs) → (j : ℕ) (r : Rule) → slice_get rs j ≡ Some r → l.pred ≡ r.head.pred → Shown s have l (i + j)
rules-refuted s have k l i [] h j r g same = absurd (cc (g))
rules-refuted s have k l i (q ∷ rs) h zero r g same =
    let a = rule-refuted s have k l i q rs (q.head.pred == l.pred) refl h in
    let e : q ≡ r = cc (g) in
    let n : i ≡ i + 0 = omega arith in
    subst (Shown s have l) n (a.0 (same ∙ ap (λ (x : Rule). x.head.pred) (sym e)))
rules-refuted s have k l i (q ∷ rs) h (suc j) r g same =
    let a = rule-refuted s have k l i q rs (q.head.pred == l.pred) refl h in
    let n : suc i + j ≡ i + suc j = omega arith in
    subst (Shown s have l) n (rules-refuted s have k l (suc i) rs a.1 j r g same)

lemmas-refuted : (s : System) (have : List Lemma) (k : ℕ) (ls : List Lemma) → AllRefuted (for_lemmas s have k ls) → (n : ℕ) (l : Lemma) → slice_get ls n ≡ Some l → (i : ℕ) (r : Rule) → slice_get s.rules i ≡ Some r → l.pred ≡ r.head.pred → Shown s have l i
lemmas-refuted s have k [] h n l g i r there same = absurd (cc (g))
lemmas-refuted s have k (m ∷ ls) h zero l g i r there same =
    let own = refuted-first (at_rules s have k m 0 s.rules) (for_lemmas s have (suc k) ls) h in
    let e : m ≡ l = cc (g) in
    let n : 0 + i ≡ i = omega arith in
    subst (λ (x : Lemma). Shown s have x i) e (subst (Shown s have m) n (rules-refuted s have k m 0 s.rules own i r there (ap (λ (x : Lemma). x.pred) e ∙ same)))
lemmas-refuted s have k (m ∷ ls) h (suc n) l g i r there same =
    lemmas-refuted s have (suc k) ls (refuted-second (at_rules s have k m 0 s.rules) (for_lemmas s have (suc k) ls) h) n l g i r there same

contains-place : {A : Type 0} (xs : List A) (x : A) → Contains xs x → (i : ℕ) × (slice_get xs i ≡ Some x)
contains-place xs x c = (c.0, slice_get-get_or xs c.0 x c.1 ∙ ap (λ y. Some y) c.2)

-- ---- the batch

-- a batch with no open obligation is relative to its base
pub unproved-relative : (s : System) (base batch : List Lemma) (proofs : List (List ℤ)) → well_made s ≡ true → unproved (obligations s base batch) proofs ≡ None → Relative s base batch
unproved-relative s base batch proofs made h r there l of same v body =
    let rule = contains-place s.rules r there in
    let place = contains-place batch l of in
    let shown = lemmas-refuted s (base ++ batch) 0 batch (proved-refuted (obligations s base batch) proofs h) place.0 l place.1 rule.0 r rule.1 same in
    rule-shown s rule.0 r l (base ++ batch) v rule.1 body shown

-- as many proofs as obligations, each of which passes for its own
abbrev pub all_pass : List (List ℤ) → List Obligation → Bool
all_pass [] [] = true
all_pass [] (o ∷ os) = false
all_pass (p ∷ ps) [] = false
all_pass (p ∷ ps) (o ∷ os) = passes p (rows_of o.formula) && all_pass ps os

-- proofs that all pass leave no obligation open
pub proved-none : (os : List Obligation) (ps : List (List ℤ)) → all_pass ps os ≡ true → unproved os ps ≡ None
proved-none [] ps h = refl
proved-none (o ∷ os) [] h = absurd (cc (h))
proved-none (o ∷ os) (p ∷ ps) h =
    let a = and_parts (passes p (rows_of o.formula)) (all_pass ps os) h in
    rw a.0 (proved-none os ps a.1)
