-- What workers have seen, by how many batches and lemmas that were.
use Rattle.std.specs.Prelude.{ℕ, zero, suc, ◌≤◌, List, [], ◌∷◌, map, take, length}
use Rattle.pool_state.specs.Content.{Content, IsPool}
use Rattle.pool_core.specs.declared.marks.Mark.{Mark}
use Rattle.pool_core.specs.Core.{Core}

-- the first batches and lemmas of a pool
abbrev pub front_of : Content → Mark → Content
front_of p m = record { system = p.system; batches = take m.batches p.batches; lemmas = take m.lemmas p.lemmas }

abbrev pub core_of : Content → List Mark → Core
core_of p ms = record { pool = p; seen = map (front_of p) ms }

-- each mark lies in the pool, and what it marks is a pool
abbrev pub AreMarks : Content → List Mark → Type 0
AreMarks p [] = Unit {0}
AreMarks p (m ∷ ms) = ((m.batches ≤ length p.batches) × (m.lemmas ≤ length p.lemmas) × IsPool (front_of p m)) × AreMarks p ms

-- nothing is marked
abbrev pub start : Mark
start = record { batches = 0; lemmas = 0 }

-- so many workers have seen nothing
abbrev pub starts : ℕ → List Mark
starts zero = []
starts (suc n) = start ∷ starts n
