-- What a list of events does.
use Rattle.std.specs.Prelude.{◌≡◌, ℕ, List, [], ◌∷◌, ◌++◌, Result, Ok, Err}
use Rattle.std.specs.declared.vec.Vec.{Vec}
use Rattle.std.specs.declared.alloc.Global.{Global}
use Rattle.pool_state.specs.Content.{Batched, IsBatch}
use Rattle.pool_core.specs.declared.events.Event.{Event}
use Rattle.pool_core.specs.declared.events.Event.TheVariants.{Look, Publish, Answer}
use Rattle.pool_core.specs.declared.events.Told.{Told}
use Rattle.pool_core.specs.declared.events.Told.TheVariants.{Seen, Placed, Stranger, Asked}
use Rattle.pool_core.specs.Core.{Core}
use Rattle.pool_core.specs.Steps.{Steps, IsInRange}

-- each event does its step, one after another, and of each something is told
abbrev pub Runs : Core → List Event → List Told → Core → Type 0
Runs c [] [] d = d ≡ c
Runs c [] (t ∷ ts) d = ⊥
Runs c (e ∷ es) [] d = ⊥
Runs c (e ∷ es) (t ∷ ts) d = (m : Core) × Steps c e t m × Runs m es ts d

-- one of the events was refused: the core stands as after those before it
abbrev pub StoppedIn : Core → List Event → Core → Type 0
StoppedIn c es d = (before : List Event) × (e : Event) × (after : List Event) × (ts : List Told) × (es ≡ before ++ e ∷ after) × Runs c before ts d

-- what a run leaves
abbrev pub RanTo : {E : Type 0} → Core → List Event → Core → Result (Vec Told Global) E → Type 0
RanTo c es d (Ok ts) = Runs c es ts.items d
RanTo c es d (Err e) = StoppedIn c es d

-- what one event more leaves
abbrev pub Adds : {E : Type 0} → Core → Event → Core → List Told → List Told → Result (Unit {0}) E → Type 0
Adds c e d old new (Ok u) = (t : Told) × Steps c e t d × (new ≡ old ++ t ∷ [])
Adds c e d old new (Err f) = (d ≡ c) × (new ≡ old)

abbrev pub AreInRange : Core → List Event → Type 0
AreInRange c [] = Unit {0}
AreInRange c (e ∷ es) = IsInRange c e × AreInRange c es

-- what is published are batches
abbrev pub IsOfBatch : Event → Type 0
IsOfBatch (Look k) = Unit {0}
IsOfBatch (Publish k b) = IsBatch b
IsOfBatch (Answer k i) = Unit {0}

abbrev pub AreBatches : List Event → Type 0
AreBatches [] = Unit {0}
AreBatches (e ∷ es) = IsOfBatch e × AreBatches es

-- the batch that joined at an event, with the number of its worker
abbrev pub joined_at : Event → Told → List (ℕ × Batched)
joined_at (Publish k b) (Placed at) = (k, b) ∷ []
joined_at (Publish k b) (Seen n) = []
joined_at (Publish k b) (Stranger b') = []
joined_at (Publish k b) (Asked a) = []
joined_at (Look k) t = []
joined_at (Answer k i) t = []

-- the batches that joined, in order
abbrev pub joins : List Event → List Told → List (ℕ × Batched)
joins [] ts = []
joins (e ∷ es) [] = []
joins (e ∷ es) (t ∷ ts) = joined_at e t ++ joins es ts
