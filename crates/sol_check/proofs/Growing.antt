-- One verdict more, on the next target, and the probe that it may need.
use Rattle.std.proofs.Common.{◌≡◌, sym, subst, ℕ, suc, ◌+◌, List, [], ◌∷◌, ◌++◌, length, arith, Result, Ok, Err, OnOk, Option, Some, slice_get}
use Rattle.chc_form.specs.declared.System.{System}
use Rattle.chc_form.specs.declared.Lemma.{Lemma}
use Rattle.chc_houdini.specs.declared.RoundStop.{RoundStop}
use Rattle.sol_core.specs.declared.Program.{Program}
use Rattle.sol_core.specs.declared.Script.{Script}
use Rattle.sol_probe.specs.FirstHit.{IsFirstHit, AreFirstHits}
use Rattle.sol_report.specs.declared.Verdict.{Verdict}
use Rattle.sol_check.specs.Found.{VerdictFound, VerdictsFound}

found-more : (p : Program) (s : System) (drops : List RoundStop) (ls : List Lemma) (t k : ℕ) (vs : List (ℕ × Verdict)) (v : Verdict) → k ≡ t + length vs → VerdictsFound p s drops ls t vs → VerdictFound p s drops ls k v → VerdictsFound p s drops ls t (vs ++ (k, v) ∷ [])
found-more p s drops ls t k [] v e h f = let same : k ≡ t = omega arith in (same, subst (λ (n : ℕ). VerdictFound p s drops ls n v) same f, tt)
found-more p s drops ls t k (u ∷ us) v e h f = (h.0, h.1, found-more p s drops ls (suc t) k us v (omega arith) h.2 f)

pub found_ok : {E : Type 0} (p : Program) (s : System) (drops : List RoundStop) (ls : List Lemma) (old new : List (ℕ × Verdict)) (k : ℕ) (v : Verdict) (r : Result (Unit {0}) E) → k ≡ length old → VerdictsFound p s drops ls 0 old → VerdictFound p s drops ls k v → OnOk r (new ≡ old ++ (k, v) ∷ []) → OnOk r (VerdictsFound p s drops ls 0 new)
found_ok p s drops ls old new k v (Ok u) e h f same = subst (VerdictsFound p s drops ls 0) (sym same) (found-more p s drops ls 0 k old v (omega arith) h f)
found_ok p s drops ls old new k v (Err u) e h f same = tt

pub first-in : (p : Program) (firsts : List (Option Script)) (t : ℕ) (o : Option Script) → AreFirstHits p firsts → slice_get firsts t ≡ Some o → IsFirstHit p t o
first-in p firsts t o h e = h.each t o e

pub first-count : (p : Program) (firsts : List (Option Script)) → AreFirstHits p firsts → length firsts ≡ length p.sites
first-count p firsts h = h.count

pub ruleset probing = (first-in, first-count)
