-- What follows from a value, or none where there is none.
use Rattle.std.specs.Prelude.{Option, Some, None}

abbrev pub with_value : {A B : Type 0} → Option A → (A → Option B) → Option B
with_value None go = None
with_value (Some a) go = go a
