-- Marks of what workers have seen.
use Rattle.std.proofs.Common.{◌≡◌, ◌∙◌, sym, ap, subst, refl, ℕ, zero, suc, true, ◌+◌, ◌≤◌, List, [], ◌∷◌, ◌++◌, map, length, take, drop, Some, arith}
use Rattle.std.specs.Prelude.{slice_get, slice_set}
use Rattle.std.proofs.Math.Seq.{take-length}
use Rattle.std.proofs.lemmas.List.{length-append, take-append-le, take-append-drop}
use Rattle.chc_form.specs.declared.system.System.{System}
use Rattle.chc_form.specs.WellMade.{well_made}
use Rattle.pool_state.specs.declared.joined.Joined.{Joined}
use Rattle.pool_state.specs.Content.{Batched, Content, IsPool, joined_to}
use Rattle.pool_core.specs.declared.marks.Mark.{Mark}
use Rattle.pool_core.specs.Core.{IsFront, AreFronts, IsCore, nothing, unseen, beginning}
use Rattle.pool_core.specs.Marks.{front_of, core_of, AreMarks, start, starts}
use Rattle.pool_core.proofs.Fronts.{pool-nothing}

front-marked : (p : Content) (m : Mark) → IsFront (front_of p m) p
front-marked p m = record {
  system = refl;
  batches = (drop m.batches p.batches, sym (take-append-drop m.batches p.batches));
  lemmas = (drop m.lemmas p.lemmas, sym (take-append-drop m.lemmas p.lemmas));
}

pub fronts-marked : (p : Content) (ms : List Mark) → AreMarks p ms → AreFronts p (map (front_of p) ms)
fronts-marked p [] h = tt
fronts-marked p (m ∷ ms) h = ((front-marked p m, h.0.2), fronts-marked p ms h.1)

-- a pool with marks is a core
pub core-marked : (p : Content) (ms : List Mark) → IsPool p → AreMarks p ms → IsCore (core_of p ms)
core-marked p ms q h = record { pool = q; seen = fronts-marked p ms h }

-- ---- a batch joins

joined-front : (p : Content) (k : ℕ) (b : Batched) (m : Mark) → m.batches ≤ length p.batches → m.lemmas ≤ length p.lemmas → front_of (joined_to p k b) m ≡ front_of p m
joined-front p k b m few less =
    let j : Joined = record { worker = k; base = length b.base; len = length b.lemmas } in
    ap (λ (js : List Joined). record { system = p.system; batches = js; lemmas = take m.lemmas (p.lemmas ++ b.lemmas) }) (take-append-le m.batches p.batches (j ∷ []) few)
    ∙ ap (λ ls. record { system = p.system; batches = take m.batches p.batches; lemmas = ls }) (take-append-le m.lemmas p.lemmas b.lemmas less)

pub marks-joined : (p : Content) (k : ℕ) (b : Batched) (ms : List Mark) → AreMarks p ms → AreMarks (joined_to p k b) ms
marks-joined p k b [] h = tt
marks-joined p k b (m ∷ ms) h =
    let j : Joined = record { worker = k; base = length b.base; len = length b.lemmas } in
    let few = h.0.0 in
    let less = h.0.1 in
    let more : m.batches ≤ length (p.batches ++ j ∷ []) = omega (arith, few, length-append p.batches (j ∷ [])) in
    let longer : m.lemmas ≤ length (p.lemmas ++ b.lemmas) = omega (arith, less, length-append p.lemmas b.lemmas) in
    ((more, longer, subst IsPool (sym (joined-front p k b m few less)) h.0.2), marks-joined p k b ms h.1)

pub seen-joined : (p : Content) (k : ℕ) (b : Batched) (ms : List Mark) → AreMarks p ms → map (front_of (joined_to p k b)) ms ≡ map (front_of p) ms
seen-joined p k b [] h = refl
seen-joined p k b (m ∷ ms) h =
    ap (λ (f : Content). f ∷ map (front_of (joined_to p k b)) ms) (joined-front p k b m h.0.0 h.0.1) ∙ ap (λ (fs : List Content). front_of p m ∷ fs) (seen-joined p k b ms h.1)

-- ---- a worker looks

-- all of a pool
abbrev pub whole : Content → Mark
whole p = record { batches = length p.batches; lemmas = length p.lemmas }

whole-front : (p : Content) → front_of p (whole p) ≡ p
whole-front p =
    ap (λ (js : List Joined). record { system = p.system; batches = js; lemmas = take (length p.lemmas) p.lemmas }) (take-length p.batches)
    ∙ ap (λ ls. record { system = p.system; batches = p.batches; lemmas = ls }) (take-length p.lemmas)

pub marks-looked : (p : Content) (ms : List Mark) (k : ℕ) → IsPool p → AreMarks p ms → AreMarks p (slice_set ms k (whole p))
marks-looked p [] zero q h = tt
marks-looked p [] (suc k) q h = tt
marks-looked p (m ∷ ms) zero q h = ((omega arith, omega arith, subst IsPool (sym (whole-front p)) q), h.1)
marks-looked p (m ∷ ms) (suc k) q h = (h.0, marks-looked p ms k q h.1)

pub seen-looked : (p : Content) (ms : List Mark) (k : ℕ) → map (front_of p) (slice_set ms k (whole p)) ≡ slice_set (map (front_of p) ms) k p
seen-looked p [] zero = refl
seen-looked p [] (suc k) = refl
seen-looked p (m ∷ ms) zero = ap (λ (f : Content). f ∷ map (front_of p) ms) (whole-front p)
seen-looked p (m ∷ ms) (suc k) = ap (λ (fs : List Content). front_of p m ∷ fs) (seen-looked p ms k)

-- ---- the beginning

pub starts-more : (n : ℕ) → starts n ++ start ∷ [] ≡ starts (n + 1)
starts-more n = more n ∙ ap starts one
  where
    one : suc n ≡ n + 1
    one = omega arith

    more : (m : ℕ) → starts m ++ start ∷ [] ≡ starts (suc m)
    more zero = refl
    more (suc m) = ap (λ (ms : List Mark). start ∷ ms) (more m)

pub starts-unseen : (s : System) (n : ℕ) → map (front_of (nothing s)) (starts n) ≡ unseen s n
starts-unseen s zero = refl
starts-unseen s (suc n) = ap (λ (fs : List Content). nothing s ∷ fs) (starts-unseen s n)

pub starts-marks : (s : System) (n : ℕ) → well_made s ≡ true → AreMarks (nothing s) (starts n)
starts-marks s zero made = tt
starts-marks s (suc n) made = ((omega arith, omega arith, pool-nothing s made), starts-marks s n made)

pub core-begins : (s : System) (n : ℕ) → core_of (nothing s) (starts n) ≡ beginning s n
core-begins s n = ap (λ (fs : List Content). record { pool = nothing s; seen = fs }) (starts-unseen s n)

pub ruleset starting = (starts-more, starts-unseen, starts-marks, core-begins)

-- ---- a worker's mark

pub mark-at : (p : Content) (ms : List Mark) (k : ℕ) (m : Mark) → AreMarks p ms → slice_get ms k ≡ Some m → (m.lemmas ≤ length p.lemmas) × (slice_get (map (front_of p) ms) k ≡ Some (front_of p m))
mark-at p [] zero m h e = absurd (cc)
mark-at p [] (suc k) m h e = absurd (cc)
mark-at p (n ∷ ms) zero m h e = let same : n ≡ m = cc in (subst (λ (x : Mark). x.lemmas ≤ length p.lemmas) same h.0.1, ap (λ (x : Mark). Some (front_of p x)) same)
mark-at p (n ∷ ms) (suc k) m h e = mark-at p ms k m h.1 e

pub ruleset marking = (core-marked, marks-joined, seen-joined, marks-looked, seen-looked)
