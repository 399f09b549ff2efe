-- What steps and runs keep of a core, and what they bring to it.
use Rattle.std.proofs.Common.{◌≡◌, ◌∙◌, sym, ap, subst, ℕ, true, ◌⊎◌, inl, inr, ⊎_elim, List, [], ◌∷◌, ◌++◌, length, append_assoc, append-nil, Some}
use Rattle.std.specs.Prelude.{slice_get}
use Rattle.chc_form.specs.declared.system.System.{System}
use Rattle.chc_form.specs.Solving.{Solves}
use Rattle.chc_form.specs.WellMade.{well_made}
use Rattle.pool_state.specs.Content.{Batched, Content, Fits, joined_to}
use Rattle.pool_state.specs.Items.{items_in}
use Rattle.pool_state.proofs.Growing.{grown-solves}
use Rattle.pool_state.proofs.Following.{joined-item}
use Rattle.pool_core.specs.declared.events.Event.{Event}
use Rattle.pool_core.specs.declared.events.Event.TheVariants.{Look, Publish, Answer}
use Rattle.pool_core.specs.declared.events.Told.{Told}
use Rattle.pool_core.specs.declared.events.Told.TheVariants as told
use Rattle.pool_core.specs.Core.{Core, IsFront, IsCore, beginning}
use Rattle.pool_core.specs.Steps.{Steps, Publishes}
use Rattle.pool_core.specs.Runs.{Runs, IsOfBatch, AreBatches, joined_at, joins}
use Rattle.pool_core.proofs.Fronts.{some-and, front-same, front-through, fits-front, pool-nothing, pool-joins, fronts-none, fronts-joined, fronts-looked, front-at, looked-longer}

pub begins : (s : System) (n : ℕ) → well_made s ≡ true → IsCore (beginning s n)
begins s n made = record { pool = pool-nothing s made; seen = fronts-none s n made }

pub solved : (c : Core) → IsCore c → Solves c.pool.system c.pool.lemmas
solved c h = grown-solves c.pool.system c.pool.batches c.pool.lemmas h.pool.grown

pub seen-solved : (c : Core) (k : ℕ) (had : Content) → IsCore c → slice_get c.seen k ≡ Some had → IsFront had c.pool × Solves had.system had.lemmas
seen-solved c k had h e = let f = front-at c.pool c.seen k had h.seen e in (f.0, grown-solves had.system had.batches had.lemmas f.1.grown)

-- the two ways of a publication: the batch fits the pool and joins, or it is a stranger's
pub published : (c d : Core) (k : ℕ) (b : Batched) (t : Told) → IsCore c → Publishes c k b t d
    → (Fits c.pool b × (t ≡ told.Placed (length c.pool.batches)) × (d ≡ record { pool = joined_to c.pool k b; seen = c.seen })) ⊎ ((t ≡ told.Stranger b) × (d ≡ c))
published c d k b t h s =
    let a = some-and (slice_get c.seen k) (λ had. (Fits had b × (t ≡ told.Placed (length c.pool.batches)) × (d ≡ record { pool = joined_to c.pool k b; seen = c.seen })) ⊎ ((Fits had b → ⊥) × (t ≡ told.Stranger b) × (d ≡ c))) s in
    ⊎_elim (λ u. inl (fits-front a.0 c.pool b (front-at c.pool c.seen k a.0 h.seen a.1).0 u.0, u.1, u.2)) (λ u. inr (u.1, u.2)) a.2

-- ---- cores stay cores

step-kept : (c d : Core) (e : Event) (t : Told) → IsCore c → IsOfBatch e → Steps c e t d → IsCore d
step-kept c d (Look k) t h q s = subst IsCore (sym s.1) (record { pool = h.pool; seen = fronts-looked c.pool c.seen k h.pool h.seen })
step-kept c d (Publish k b) t h q s =
    ⊎_elim
    (λ u. subst IsCore (sym u.2) (record { pool = pool-joins c.pool k b h.pool q u.0; seen = fronts-joined c.pool k b c.seen h.seen }))
    (λ u. subst IsCore (sym u.1) h)
    (published c d k b t h s)
step-kept c d (Answer k i) t h q s = subst IsCore (sym s.3) h

pub run-kept : (c d : Core) (es : List Event) (ts : List Told) → IsCore c → AreBatches es → Runs c es ts d → IsCore d
run-kept c d [] [] h q r = subst IsCore (sym r) h
run-kept c d [] (t ∷ ts) h q r = absurd r
run-kept c d (e ∷ es) [] h q r = absurd r
run-kept c d (e ∷ es) (t ∷ ts) h q r = run-kept r.0 d es ts (step-kept c r.0 e t h q.0 r.1) q.1 r.2

-- ---- what joins

step-brings : (c d : Core) (e : Event) (t : Told) → IsCore c → Steps c e t d → items_in d.pool ≡ items_in c.pool ++ joined_at e t
step-brings c d (Look k) t h s = ap (λ (x : Core). items_in x.pool) s.1 ∙ sym (append-nil (items_in c.pool))
step-brings c d (Publish k b) t h s =
    ⊎_elim
    (λ u. ap (λ (x : Core). items_in x.pool) u.2 ∙ joined-item c.pool k b h.pool u.0 ∙ ap (λ (x : Told). items_in c.pool ++ joined_at (Publish k b) x) (sym u.1))
    (λ u. ap (λ (x : Core). items_in x.pool) u.1 ∙ sym (append-nil (items_in c.pool)) ∙ ap (λ (x : Told). items_in c.pool ++ joined_at (Publish k b) x) (sym u.0))
    (published c d k b t h s)
step-brings c d (Answer k i) t h s = ap (λ (x : Core). items_in x.pool) s.3 ∙ sym (append-nil (items_in c.pool))

pub run-brings : (c d : Core) (es : List Event) (ts : List Told) → IsCore c → AreBatches es → Runs c es ts d → items_in d.pool ≡ items_in c.pool ++ joins es ts
run-brings c d [] [] h q r = ap (λ (x : Core). items_in x.pool) r ∙ sym (append-nil (items_in c.pool))
run-brings c d [] (t ∷ ts) h q r = absurd r
run-brings c d (e ∷ es) [] h q r = absurd r
run-brings c d (e ∷ es) (t ∷ ts) h q r =
    run-brings r.0 d es ts (step-kept c r.0 e t h q.0 r.1) q.1 r.2
    ∙ ap (λ (l : List (ℕ × Batched)). l ++ joins es ts) (step-brings c r.0 e t h r.1)
    ∙ append_assoc (items_in c.pool) (joined_at e t) (joins es ts)

-- ---- what is seen grows

step-longer : (c d : Core) (e : Event) (t : Told) (k : ℕ) (had : Content) → IsCore c → Steps c e t d → slice_get c.seen k ≡ Some had → (has : Content) × (slice_get d.seen k ≡ Some has) × IsFront had has
step-longer c d (Look j) t k had h s e =
    let l = looked-longer c.pool c.seen j k had e (front-at c.pool c.seen k had h.seen e).0 in
    (l.0, ap (λ (x : Core). slice_get x.seen k) s.1 ∙ l.1, l.2)
step-longer c d (Publish j b) t k had h s e =
    ⊎_elim
    (λ u. (had, ap (λ (x : Core). slice_get x.seen k) u.2 ∙ e, front-same had))
    (λ u. (had, ap (λ (x : Core). slice_get x.seen k) u.1 ∙ e, front-same had))
    (published c d j b t h s)
step-longer c d (Answer j i) t k had h s e = (had, ap (λ (x : Core). slice_get x.seen k) s.3 ∙ e, front-same had)

run-longer : (c d : Core) (es : List Event) (ts : List Told) (k : ℕ) (had : Content) → IsCore c → AreBatches es → Runs c es ts d → slice_get c.seen k ≡ Some had → (has : Content) × (slice_get d.seen k ≡ Some has) × IsFront had has
run-longer c d [] [] k had h q r e = (had, ap (λ (x : Core). slice_get x.seen k) r ∙ e, front-same had)
run-longer c d [] (t ∷ ts) k had h q r e = absurd r
run-longer c d (f ∷ es) [] k had h q r e = absurd r
run-longer c d (f ∷ es) (t ∷ ts) k had h q r e =
    let l = step-longer c r.0 f t k had h r.1 e in
    let m = run-longer r.0 d es ts k l.0 (step-kept c r.0 f t h q.0 r.1) q.1 r.2 l.1 in
    (m.0, m.1, front-through had l.0 m.0 l.2 m.2)

pub seen-longer : (c d : Core) (es : List Event) (ts : List Told) (k : ℕ) (had has : Content) → IsCore c → AreBatches es → Runs c es ts d → slice_get c.seen k ≡ Some had → slice_get d.seen k ≡ Some has → IsFront had has
seen-longer c d es ts k had has h q r e f =
    let l = run-longer c d es ts k had h q r e in
    let same : l.0 ≡ has = some-same l.0 has (sym l.1 ∙ f) in
    subst (IsFront had) same l.2
  where
    some-same : (x y : Content) → Some x ≡ Some y → x ≡ y
    some-same x y i = cc

pub ruleset keeping = (begins, solved, seen-solved, run-kept, run-brings, seen-longer)
