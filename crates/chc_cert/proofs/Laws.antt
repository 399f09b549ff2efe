-- Multipliers that pass refute the rows, and those that refute them pass.
use Rattle.std.proofs.Common.{◌≡◌, ◌∙◌, refl, ℕ, zero, suc, ◌<◌, ◌==◌, not, List, [], ◌∷◌, length, Option, Some, None, true, arith, pos, ◌≤ℤ◌, ◌<ℤ◌, inl, inr}
use lib.IntN.{ℤ}
use lib.Signed.{lt_z}
use Rattle.std.specs.List.{list_all}
use Rattle.std.specs.Ordering.{int_eq}
use Rattle.std.proofs.lemmas.Int.{ints}
use Rattle.std.proofs.lemmas.Bool.{cases_lt, and_parts}
use Rattle.chc_form.specs.declared.linear.Lin.{Lin}
use Rattle.chc_form.specs.Multipliers.{coef, weighted, NoneNegative, Refutes}
use Rattle.chc_form.specs.RowSums.{number_at, variable_sums, constant_sum, zeros, width, Summed}
use Rattle.chc_nums.proofs.Values.{int_eq-true}
use Rattle.chc_cert.specs.Passing.{none_negative, is_above, are_gone, passes}
use Rattle.chc_form.proofs.RowSums.{length-zeros, zeros-at}
use Rattle.chc_form.proofs.RowSums.{sums-exact, constant-exact, weighted-past}
use Rattle.lists.proofs.Tests.{same-true, same-is}

-- ---- what passes refutes

not-negative : (m : ℤ) → not (lt_z m (pos 0)) ≡ true → pos 0 ≤ℤ m
not-negative m h = grind (arith, ints)

signs-of : (ms : List ℤ) → none_negative ms ≡ true → NoneNegative ms
signs-of [] h = tt
signs-of (m ∷ ms) h = let a = and_parts (not (lt_z m (pos 0))) (none_negative ms) h in (not-negative m a.0, signs-of ms a.1)

zero-at : (sums : List ℤ) (v : ℕ) → list_all (λ s. int_eq s (pos 0)) sums ≡ true → number_at sums v ≡ pos 0
zero-at [] v h = refl
zero-at (s ∷ sums) zero h = int_eq-true s (and_parts (int_eq s (pos 0)) (list_all (λ s. int_eq s (pos 0)) sums) h).0
zero-at (s ∷ sums) (suc v) h = zero-at sums v (and_parts (int_eq s (pos 0)) (list_all (λ s. int_eq s (pos 0)) sums) h).1

gone-of : (ms : List ℤ) (ls : List Lin) (o : Option (List ℤ)) → variable_sums ms ls (zeros (width ls)) ≡ o → are_gone o ≡ true → (v : ℕ) → weighted (λ l. coef l.terms v) ms ls ≡ pos 0
gone-of ms ls None e h v = absurd (cc (h))
gone-of ms ls (Some out) e h v =
    let exact = sums-exact ms ls (zeros (width ls)) out e in
    elim (cases_lt v (width ls)) [
      | inl l ↦ omega (arith, ints, exact.1 v (omega (arith, length-zeros (width ls))), zeros-at (width ls) v, zero-at out v h)
      | inr past ↦ weighted-past v ms ls (omega arith)
    ]

positive : (c : ℤ) → lt_z (pos 0) c ≡ true → pos 0 <ℤ c
positive c h = grind (arith, ints)

above-of : (ms : List ℤ) (ls : List Lin) (o : Option ℤ) → constant_sum (pos 0) ms ls ≡ o → is_above o ≡ true → pos 0 <ℤ weighted (λ l. l.konst) ms ls
above-of ms ls None e h = absurd (cc (h))
above-of ms ls (Some c) e h = omega (arith, ints, constant-exact (pos 0) ms ls c e, positive c h)

-- multipliers that pass refute the rows
pub passes-refutes : (ms : List ℤ) (ls : List Lin) → passes ms ls ≡ true → Refutes ms ls
unfolding passes
passes-refutes ms ls h =
    let a = and_parts (length ms == length ls) _ h in
    let b = and_parts (none_negative ms) _ a.1 in
    let c = and_parts (is_above (constant_sum (pos 0) ms ls)) (are_gone (variable_sums ms ls (zeros (width ls)))) b.1 in record {
      count = same-true (length ms) (length ls) a.0;
      signs = signs-of ms b.0;
      gone = gone-of ms ls (variable_sums ms ls (zeros (width ls))) refl c.1;
      above = above-of ms ls (constant_sum (pos 0) ms ls) refl c.0;
    }

-- ---- what refutes passes, where its sums are there

negative-not : (m : ℤ) → pos 0 ≤ℤ m → not (lt_z m (pos 0)) ≡ true
negative-not m h = grind (arith, ints)

signs-pass : (ms : List ℤ) → NoneNegative ms → none_negative ms ≡ true
signs-pass [] h = refl
signs-pass (m ∷ ms) h = rw (negative-not m h.0) (signs-pass ms h.1)

zero-is : (s : ℤ) → s ≡ pos 0 → int_eq s (pos 0) ≡ true
zero-is s h = rw h refl

zeros-pass : (sums : List ℤ) → ((v : ℕ) → v < length sums → number_at sums v ≡ pos 0) → list_all (λ s. int_eq s (pos 0)) sums ≡ true
zeros-pass [] h = refl
zeros-pass (s ∷ sums) h =
    let first : int_eq s (pos 0) ≡ true = zero-is s (h 0 (omega arith)) in
    rw first (zeros-pass sums (λ v l. h (suc v) (omega arith)))

above-is : (c : ℤ) → pos 0 <ℤ c → lt_z (pos 0) c ≡ true
above-is c h = grind (arith, ints)

pub refutes-passes : (ms : List ℤ) (ls : List Lin) → Refutes ms ls → Summed ms ls → passes ms ls ≡ true
unfolding passes
refutes-passes ms ls r t =
    let exact = sums-exact ms ls (zeros (width ls)) t.sums t.variables in
    let all : length t.sums ≡ width ls = exact.0 ∙ length-zeros (width ls) in
    let gone : list_all (λ s. int_eq s (pos 0)) t.sums ≡ true =
    zeros-pass t.sums (λ v l. omega (arith, ints, exact.1 v (omega (arith, exact.0)), zeros-at (width ls) v, r.gone v)) in
    let above : lt_z (pos 0) t.constant ≡ true = above-is t.constant (omega (arith, ints, constant-exact (pos 0) ms ls t.constant t.constants, r.above)) in
    rw (same-is (length ms) (length ls) r.count, signs-pass ms r.signs, t.constants, t.variables, above) gone
