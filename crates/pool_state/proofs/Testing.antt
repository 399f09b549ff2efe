-- Tests of obligations one after another.
use Rattle.std.proofs.Common.{◌≡◌, ◌∙◌, sym, ap, refl, ℕ, suc, ◌+◌, ◌-◌, ◌≤◌, ◌<◌, subst, length, get_or, take, drop, List, [], ◌∷◌, ◌++◌, Bool, true, false, Some, None, arith, if◌then◌else◌}
use Rattle.std.specs.Prelude.{Ok, Err}
use Rattle.std.proofs.Math.Seq.{take-length}
use Rattle.std.proofs.lemmas.Bool.Decides.{nat_tests}
use Rattle.std.specs.List.{list_all}
use Rattle.std.proofs.lemmas.Bool.{and_parts}
use lib.IntN.{ℤ}
use Rattle.chc_form.specs.declared.system.System.{System}
use Rattle.chc_form.specs.declared.lemma.Lemma.{Lemma}
use Rattle.chc_reduce.specs.Obligations.{Obligation, at_rules, for_lemmas}
use Rattle.chc_reduce.specs.Rows.{rows_of}
use Rattle.chc_cert.specs.Passing.{passes}
use Rattle.pool_state.specs.Tested.{ProofsLeft, tested_one, and_then, tested, open_of, Leaves, LeavesOpen}
use Rattle.pool_state.specs.Unproved.{unproved}
use Rattle.pool_state.specs.declared.fault.BatchFault.{BatchFault}
use Rattle.pool_state.specs.declared.fault.BatchFault.TheVariants as fault

then-append : (l : ProofsLeft) (f g : List (List ℤ) → ProofsLeft) → and_then (and_then l f) g ≡ and_then l (λ ps. and_then (f ps) g)
then-append (Ok ps) f g = refl
then-append (Err first) f g = refl

then-same : (l : ProofsLeft) (f g : List (List ℤ) → ProofsLeft) → ((ps : List (List ℤ)) → f ps ≡ g ps) → and_then l f ≡ and_then l g
then-same (Ok ps) f g h = h ps
then-same (Err first) f g h = refl

-- the first of two lists of obligations is tested first
pub tested-append : (os more : List Obligation) (ps : List (List ℤ)) → tested (os ++ more) ps ≡ and_then (tested os ps) (tested more)
tested-append [] more ps = refl
tested-append (o ∷ os) more ps =
    then-same (tested_one o ps) (tested (os ++ more)) (λ qs. and_then (tested os qs) (tested more)) (tested-append os more) ∙ sym (then-append (tested_one o ps) (tested os) (tested more))

open-one : (b : Bool) (first : ℕ × ℕ) (os : List Obligation) (ps : List (List ℤ)) → (open_of (tested os ps) ≡ unproved os ps) → open_of (and_then (if b then Ok ps else Err first) (tested os)) ≡ (if b then unproved os ps else Some first)
open-one true first os ps h = h
open-one false first os ps h = refl

-- what stays open is the first obligation that is unproved
pub open-unproved : (os : List Obligation) (ps : List (List ℤ)) → open_of (tested os ps) ≡ unproved os ps
open-unproved [] ps = refl
open-unproved (o ∷ os) [] = refl
open-unproved (o ∷ os) (p ∷ ps) = open-one (passes p (rows_of o.formula)) (o.lemma, o.rule) os ps (open-unproved os ps)

-- a lemma is tested before those that follow it
pub lemma-tested : (s : System) (have : List Lemma) (k : ℕ) (l : Lemma) (ls : List Lemma) (ps : List (List ℤ)) → tested (for_lemmas s have k (l ∷ ls)) ps ≡ and_then (tested (at_rules s have k l 0 s.rules) ps) (tested (for_lemmas s have (k + 1) ls))
lemma-tested s have k l ls ps =
    let e : k + 1 ≡ suc k = omega arith in
    rw e (tested-append (at_rules s have k l 0 s.rules) (for_lemmas s have (suc k) ls) ps)

pub lemma-left : (s : System) (have : List Lemma) (k : ℕ) (l : Lemma) (ls : List Lemma) (ps left : List (List ℤ)) → 1 ≤ length ls → l ≡ get_or ls 0 l → tested (at_rules s have k l 0 s.rules) ps ≡ Ok left → tested (for_lemmas s have (k + 1) (take (length ls - 1) (drop 1 ls))) left ≡ tested (for_lemmas s have k ls) ps
lemma-left s have k l [] ps left many e h = absurd (omega arith)
lemma-left s have k l (m ∷ ls) ps left many e h =
    let n : length (m ∷ ls) - 1 ≡ length ls = omega arith in
    let own : tested (at_rules s have k m 0 s.rules) ps ≡ Ok left = subst (λ (x : Lemma). tested (at_rules s have k x 0 s.rules) ps ≡ Ok left) e h in
    rw (n, take-length ls) (sym (lemma-tested s have k m ls ps ∙ ap (λ (t : ProofsLeft). and_then t (tested (for_lemmas s have (k + 1) ls))) own))

pub lemma-open : (s : System) (have : List Lemma) (k : ℕ) (l : Lemma) (ls : List Lemma) (ps : List (List ℤ)) (first : ℕ × ℕ) → tested (at_rules s have k l 0 s.rules) ps ≡ Err first → tested (for_lemmas s have k (l ∷ ls)) ps ≡ Err first
lemma-open s have k l ls ps first h = lemma-tested s have k l ls ps ∙ ap (λ (t : ProofsLeft). and_then t (tested (for_lemmas s have (k + 1) ls))) h

pub ruleset appends = (lemma-tested, lemma-open)

-- what stays open of a test is unproved
pub stays-open : {A : Type 0} (os : List Obligation) (ps : List (List ℤ)) (Says : A → Type 0) (f : BatchFault) → Leaves (tested os ps) (Err f) → LeavesOpen (unproved os ps) Says (Err f)
stays-open os ps Says (fault.Unproved lemma rule) h = sym (open-unproved os ps) ∙ ap open_of h
stays-open os ps Says fault.NoMemory h = tt

pub none-open : (os : List Obligation) (ps rest : List (List ℤ)) → tested os ps ≡ Ok rest → unproved os ps ≡ None
none-open os ps rest h = sym (open-unproved os ps) ∙ ap open_of h

pub ruleset unproving = (stays-open, none-open)
