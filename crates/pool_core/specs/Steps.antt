-- What an event does.
use Rattle.std.specs.Prelude.{◌≡◌, ℕ, ◌<◌, ◌⊎◌, length, slice_get, slice_set, Result, Ok, Err, None, IsSomeAnd}
use Rattle.chc_nums.specs.declared.limits.TheConstants.{MAX_NODES, MAX_PIVOTS}
use Rattle.chc_form.specs.declared.linear.Limits.{Limits}
use Rattle.chc_form.specs.declared.system.Part.TheVariants as part
use Rattle.chc_reduce.specs.Reduced.{reduced}
use Rattle.chc_ask.specs.declared.open.Asked.{Asked}
use Rattle.chc_ask.specs.Asked.{asked_of}
use Rattle.pool_state.specs.Content.{Batched, Fits, joined_to}
use Rattle.pool_core.specs.declared.events.Event.{Event}
use Rattle.pool_core.specs.declared.events.Event.TheVariants.{Look, Publish, Answer}
use Rattle.pool_core.specs.declared.events.Told.{Told}
use Rattle.pool_core.specs.declared.events.Told.TheVariants as told
use Rattle.pool_core.specs.Core.{Core}

-- how far each question goes
abbrev pub limits : Limits
limits = record { pivots = MAX_PIVOTS; nodes = MAX_NODES }

-- a worker has seen the pool
abbrev pub looked : Core → ℕ → Core
looked c k = record { pool = c.pool; seen = slice_set c.seen k c.pool }

-- where the batch fits what its worker has seen, it joins, and its place among the batches is told; elsewhere it is a stranger's, and
-- nothing changes
abbrev pub Publishes : Core → ℕ → Batched → Told → Core → Type 0
Publishes c k b t d = IsSomeAnd (slice_get c.seen k) (λ had. (Fits had b × (t ≡ told.Placed (length c.pool.batches)) × (d ≡ record { pool = joined_to c.pool k b; seen = c.seen })) ⊎ ((Fits had b → ⊥) × (t ≡ told.Stranger b) × (d ≡ c)))

-- the answer is that on the query under what the worker has seen
abbrev pub Answers : Core → ℕ → ℕ → Asked → Type 0
Answers c k i a = IsSomeAnd (slice_get c.seen k) (λ had. a ≡ asked_of limits (reduced c.pool.system (part.Query i) None had.lemmas))

abbrev pub Steps : Core → Event → Told → Core → Type 0
Steps c (Look k) t d = (t ≡ told.Seen (length c.pool.lemmas)) × (d ≡ looked c k)
Steps c (Publish k b) t d = Publishes c k b t d
Steps c (Answer k i) t d = (a : Asked) × Answers c k i a × (t ≡ told.Asked a) × (d ≡ c)

-- there are such a worker and such a query
abbrev pub IsInRange : Core → Event → Type 0
IsInRange c (Look k) = k < length c.seen
IsInRange c (Publish k b) = k < length c.seen
IsInRange c (Answer k i) = (k < length c.seen) × (i < length c.pool.system.queries)

-- what a publication leaves, and what a step: without memory all is as it was, and what was given is handed back
abbrev pub HasPublished : {E : Type 0} → Core → ℕ → Batched → Core → Result Told (Batched × E) → Type 0
HasPublished c k b d (Ok t) = Publishes c k b t d
HasPublished c k b d (Err e) = (d ≡ c) × (e.0 ≡ b)

abbrev pub HasStepped : {E : Type 0} → Core → Event → Core → Result Told (Event × E) → Type 0
HasStepped c e d (Ok t) = Steps c e t d
HasStepped c e d (Err f) = (d ≡ c) × (f.0 ≡ e)
