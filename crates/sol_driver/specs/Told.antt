-- What putting several lines leaves.
use Rattle.std.specs.Prelude.{◌≡◌, ℕ, List, Option, Result, Ok, Err}
use Rattle.sol_outside.specs.declared.SinkFault.{SinkFault}
use Rattle.sol_outside.specs.declared.SinkFault.TheVariants as sink
use Rattle.sol_outside.specs.Causes.{Rose, Appended, AppendedPart}

-- all was written; or a put failed, for which alone the count of faults rose, or memory was wanting, and a prefix was
-- written
abbrev pub Tells : ℕ → ℕ → Option (List ℕ) → Option (List ℕ) → List ℕ → Result (Unit {0}) SinkFault → Type 0
Tells before now old new bytes (Ok u) = (now ≡ before) × Appended old new bytes
Tells before now old new bytes (Err sink.Failed) = Rose before now × AppendedPart old new bytes
Tells before now old new bytes (Err sink.NoMemory) = (now ≡ before) × AppendedPart old new bytes
