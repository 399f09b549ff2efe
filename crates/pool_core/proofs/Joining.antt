-- What a worker has seen, by its mark, and what may join after it.
use Rattle.std.proofs.Common.{◌≡◌, ◌∙◌, sym, ap, subst, refl, ℕ, zero, suc, ◌<◌, Bool, true, IsTrue, ◌↔◌, ◌⊎◌, inl, List, [], ◌∷◌, ◌++◌, map, length, take, get_or, Option, Some, None, Result, Ok, Err, arith}
use Rattle.std.specs.Prelude.{slice_get, IsSomeAnd}
use Rattle.std.proofs.lemmas.List.{length-take-le}
use Rattle.chc_form.specs.declared.lemma.Lemma.{Lemma}
use Rattle.pool_lock.specs.Entries.{StartsWith}
use Rattle.pool_state.specs.Content.{Batched, Content, Fits, Appends, joined_to}
use Rattle.pool_core.specs.declared.marks.Mark.{Mark}
use Rattle.pool_core.specs.declared.events.Told.TheVariants as told
use Rattle.pool_core.specs.Core.{Core}
use Rattle.pool_core.specs.Marks.{front_of, core_of, AreMarks}
use Rattle.pool_core.specs.Steps.{Publishes}
use Rattle.pool_core.proofs.Fronts.{some-and, fits-front, front-at}
use Rattle.pool_core.proofs.Marking.{mark-at, fronts-marked, marks-joined, seen-joined}

-- ---- a worker's mark

entry-at : (p : Content) (ms : List Mark) (k : ℕ) (m : Mark) → k < length (map (front_of p) ms) → m ≡ get_or ms k m → slice_get ms k ≡ Some m
entry-at p [] k m h e = absurd (omega (arith, h))
entry-at p (n ∷ ms) zero m h e = ap (λ (x : Mark). Some x) (sym e)
entry-at p (n ∷ ms) (suc k) m h e = entry-at p ms k m (omega (arith, h)) e

-- how much of a pool's lemmas the mark of a worker covers
pub mark-within : (p : Content) (ms : List Mark) (c : Core) (k : ℕ) (m : Mark) → core_of p ms ≡ c → AreMarks p ms → k < length c.seen → m ≡ get_or ms k m → m.lemmas ≡ length (take m.lemmas p.lemmas)
mark-within p ms c k m same h few e =
    let within : k < length (map (front_of p) ms) = rw (ap (λ (x : Core). length x.seen) same) few in
    sym (length-take-le m.lemmas p.lemmas (mark-at p ms k m h (entry-at p ms k m within e)).0)

-- the lemmas that the mark covers are those that the worker has seen
pub mark-seen : (p : Content) (ms : List Mark) (c : Core) (k : ℕ) (m : Mark) → core_of p ms ≡ c → AreMarks p ms → k < length c.seen → m ≡ get_or ms k m → IsSomeAnd (slice_get c.seen k) (λ had. take m.lemmas p.lemmas ≡ had.lemmas)
mark-seen p ms c k m same h few e =
    let within : k < length (map (front_of p) ms) = rw (ap (λ (x : Core). length x.seen) same) few in
    let at = (mark-at p ms k m h (entry-at p ms k m within e)).1 in
    let there : slice_get c.seen k ≡ Some (front_of p m) = ap (λ (x : Core). slice_get x.seen k) (sym same) ∙ at in
    subst (λ (o : Option Content). IsSomeAnd o (λ had. take m.lemmas p.lemmas ≡ had.lemmas)) (sym there) refl

seen-system : (p : Content) (ms : List Mark) (k : ℕ) (had : Content) → slice_get (map (front_of p) ms) k ≡ Some had → had.system ≡ p.system
seen-system p [] zero had e = absurd (cc)
seen-system p [] (suc k) had e = absurd (cc)
seen-system p (m ∷ ms) zero had e = let same : front_of p m ≡ had = cc in ap (λ (x : Content). x.system) (sym same)
seen-system p (m ∷ ms) (suc k) had e = seen-system p ms k had e

-- ---- what fits

fits-both : (had : Content) (b : Batched) (ls base : List Lemma) (r : Bool) → ls ≡ had.lemmas → had.system ≡ b.system → base ≡ b.base → IsTrue r ↔ StartsWith ls base → IsTrue r ↔ Fits had b
fits-both had b ls base r l s e h = (
  λ t. let u = h.0 t in record { same = sym s; rest = u.0; prefix = sym l ∙ u.1 ∙ ap (λ (xs : List Lemma). xs ++ u.0) e },
  λ f. h.1 (f.rest, l ∙ f.prefix ∙ ap (λ (xs : List Lemma). xs ++ f.rest) (sym e)),
)

pub alike-fits : (p : Content) (ms : List Mark) (c : Core) (k : ℕ) (b : Batched) (ls base : List Lemma) (r : Bool) → core_of p ms ≡ c → IsSomeAnd (slice_get c.seen k) (λ had. ls ≡ had.lemmas) → p.system ≡ b.system → base ≡ b.base → IsTrue r ↔ StartsWith ls base → IsSomeAnd (slice_get c.seen k) (λ had. IsTrue r ↔ Fits had b)
alike-fits p ms c k b ls base r same seen s e h =
    let a = some-and (slice_get c.seen k) (λ had. ls ≡ had.lemmas) seen in
    let own : slice_get (map (front_of p) ms) k ≡ Some a.0 = ap (λ (x : Core). slice_get x.seen k) same ∙ a.1 in
    subst (λ (o : Option Content). IsSomeAnd o (λ had. IsTrue r ↔ Fits had b)) (sym a.1) (fits-both a.0 b ls base r a.2 (seen-system p ms k a.0 own ∙ s) e h)

pub unalike-fits : (p : Content) (ms : List Mark) (c : Core) (k : ℕ) (b : Batched) (r : Bool) → core_of p ms ≡ c → AreMarks p ms → k < length c.seen → (p.system ≡ b.system → ⊥) → (IsTrue r → ⊥) → IsSomeAnd (slice_get c.seen k) (λ had. IsTrue r ↔ Fits had b)
unalike-fits p ms c k b r same h few differ never =
    step (slice_get c.seen k) refl
  where
    within : k < length (map (front_of p) ms)
    within = rw (ap (λ (x : Core). length x.seen) same) few

    missing : (xs : List Mark) (j : ℕ) → j < length (map (front_of p) xs) → slice_get (map (front_of p) xs) j ≡ None → ⊥
    missing [] j less e = absurd (omega (arith, less))
    missing (x ∷ xs) zero less e = absurd (cc)
    missing (x ∷ xs) (suc j) less e = missing xs j (omega (arith, less)) e

    step : (o : Option Content) → slice_get c.seen k ≡ o → IsSomeAnd o (λ had. IsTrue r ↔ Fits had b)
    step None e = absurd (missing ms k within (ap (λ (x : Core). slice_get x.seen k) same ∙ e))
    step (Some had) e = (λ t. absurd (never t), λ f. absurd (differ (sym (seen-system p ms k had (ap (λ (x : Core). slice_get x.seen k) same ∙ e)) ∙ sym f.same)))

-- ---- what joins

-- what fits what a worker has seen fits the pool
pub seen-fits : (p : Content) (ms : List Mark) (c : Core) (k : ℕ) (b : Batched) → core_of p ms ≡ c → AreMarks p ms → IsSomeAnd (slice_get c.seen k) (λ had. IsTrue true ↔ Fits had b) → Fits p b
seen-fits p ms c k b same h seen =
    let a = some-and (slice_get c.seen k) (λ had. IsTrue true ↔ Fits had b) seen in
    let own : slice_get (map (front_of p) ms) k ≡ Some a.0 = ap (λ (x : Core). slice_get x.seen k) same ∙ a.1 in
    fits-front a.0 p b (front-at p (map (front_of p) ms) k a.0 (fronts-marked p ms h) own).0 (a.2.0 refl)

pub appended-marks : {E : Type 0} (p new : Content) (k : ℕ) (b : Batched) (ms : List Mark) (r : Result (Unit {0}) (Batched × E)) → Appends p k b new r → AreMarks p ms → AreMarks new ms
appended-marks p new k b ms (Ok u) a h = subst (λ (x : Content). AreMarks x ms) (sym a) (marks-joined p k b ms h)
appended-marks p new k b ms (Err e) a h = subst (λ (x : Content). AreMarks x ms) (sym a.0) h

pub placed : (p new : Content) (ms : List Mark) (c : Core) (k : ℕ) (b : Batched) (at : ℕ) → core_of p ms ≡ c → AreMarks p ms → IsSomeAnd (slice_get c.seen k) (λ had. IsTrue true ↔ Fits had b) → new ≡ joined_to p k b → at ≡ length p.batches → Publishes c k b (told.Placed at) (core_of new ms)
placed p new ms c k b at same h seen is here =
    let a = some-and (slice_get c.seen k) (λ had. IsTrue true ↔ Fits had b) seen in
    let t : told.Placed at ≡ told.Placed (length c.pool.batches) = ap told.Placed (here ∙ ap (λ (x : Core). length x.pool.batches) same) in
    let joined : core_of new ms ≡ record { pool = joined_to c.pool k b; seen = c.seen } =
    ap (λ (x : Content). core_of x ms) is
    ∙ ap (λ (fs : List Content). record { pool = joined_to p k b; seen = fs }) (seen-joined p k b ms h)
    ∙ ap (λ (x : Core). record { pool = joined_to x.pool k b; seen = x.seen }) same in
    subst (λ (o : Option Content). IsSomeAnd o (λ had. (Fits had b × (told.Placed at ≡ told.Placed (length c.pool.batches)) × (core_of new ms ≡ record { pool = joined_to c.pool k b; seen = c.seen })) ⊎ ((Fits had b → ⊥) × (told.Placed at ≡ told.Stranger b) × (core_of new ms ≡ c)))) (sym a.1) (inl (a.2.0 refl, t, joined))

pub kept-back : (p new : Content) (ms : List Mark) (c : Core) → core_of p ms ≡ c → new ≡ p → core_of new ms ≡ c
kept-back p new ms c same is = ap (λ (x : Content). core_of x ms) is ∙ same
