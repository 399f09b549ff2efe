-- What one call on a reader or a writer of bytes may answer, which gives or takes a part of them.
use Rattle.std.specs.Prelude.{◌≡◌, ℕ, zero, suc, ◌+◌, ◌<◌, ◌≤◌, Bool, true, false, List, [], ◌++◌, length, take, Option, Result, Ok, Err}
use Rattle.std.specs.Io.KnownBytes.{Consumes, IsAtEnd}
use Rattle.sol_outside.specs.Causes.{Rose, Appended}
use Rattle.sol_outside.specs.declared.ends.ShelfFault.{ShelfFault}
use Rattle.sol_outside.specs.declared.ends.ShelfFault.TheVariants as shelf
use Rattle.sol_outside.specs.declared.parts.PartFault.{PartFault}

-- the first of the bytes that were left came, none of them only where none was left or asked for; or a fault, which alone
-- is counted
abbrev pub ReadsPart : ℕ → ℕ → Option (List ℕ) → Option (List ℕ) → List ℕ → Result ℕ PartFault → Type 0
ReadsPart before now old new part (Ok n) = (now ≡ before) × (n ≤ length part) × Consumes old new (take n part) × (n ≡ 0 → 0 < length part → IsAtEnd new)
ReadsPart before now old new part (Err f) = Rose before now

-- how a write that took so many bytes is counted: one that took nothing failed
abbrev pub Counts : ℕ → ℕ → ℕ → Type 0
Counts zero before now = Rose before now
Counts (suc n) before now = now ≡ before

-- the first of the bytes were taken, maybe not all; or a fault, and nothing was taken
abbrev pub WritesPart : ℕ → ℕ → Option (List ℕ) → Option (List ℕ) → List ℕ → Result ℕ PartFault → Type 0
WritesPart before now old new bytes (Ok n) = (n ≤ length bytes) × Appended old new (take n bytes) × Counts n before now
WritesPart before now old new bytes (Err f) = Rose before now × (new ≡ old)

-- one more part of what is left was read to the end of some bytes, or nothing is left (false)
abbrev pub ReadsOn : ℕ → ℕ → Option (List ℕ) → Option (List ℕ) → ℕ → List ℕ → List ℕ → Result Bool ShelfFault → Type 0
ReadsOn before now old new most had has (Ok true) = (now ≡ before) × (length had < length has) × (length has ≤ most) × (part : List ℕ) × (has ≡ had ++ part) × Consumes old new part
ReadsOn before now old new most had has (Ok false) = (now ≡ before) × (has ≡ had) × Consumes old new [] × IsAtEnd new
ReadsOn before now old new most had has (Err shelf.Failed) = Rose before now
ReadsOn before now old new most had has (Err (shelf.TooLong n)) = (now ≡ before) × (n ≡ most) × (part : List ℕ) × (most < length had + length part) × Consumes old new part
ReadsOn before now old new most had has (Err shelf.NoMemory) = now ≡ before
