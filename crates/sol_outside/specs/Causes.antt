-- What a call on a shelf or a sink may answer, and why.
use Rattle.std.specs.Prelude.{◌≡◌, ℕ, ◌+◌, ◌-◌, ◌^◌, ◌<◌, ◌≤◌, min, List, ◌++◌, length, take, Option, Some, None, Result, Ok, Err, IfSome}
use Rattle.std.specs.declared.vec.Vec.{Vec}
use Rattle.std.specs.declared.alloc.Global.{Global}
use Rattle.sol_outside.specs.declared.ends.ShelfFault.{ShelfFault}
use Rattle.sol_outside.specs.declared.ends.ShelfFault.TheVariants as shelf
use Rattle.sol_outside.specs.declared.ends.SinkFault.{SinkFault}
use Rattle.sol_outside.specs.declared.ends.SinkFault.TheVariants as sink

-- a count went up by one, or stays at the end of its type
abbrev pub Rose : ℕ → ℕ → Type 0
Rose before now = now ≡ min (before + 1) (2 ^ 64 - 1)

-- a read of what may be known: all of it, and at most so many bytes; a failure, which alone is counted; more bytes than
-- that; or want of memory
abbrev pub Reads : ℕ → ℕ → Option (List ℕ) → ℕ → Result (Vec ℕ Global) ShelfFault → Type 0
Reads before now held most (Ok v) = (now ≡ before) × (length v.items ≤ most) × IfSome held (λ bytes. v.items ≡ bytes)
Reads before now held most (Err shelf.Failed) = Rose before now
Reads before now held most (Err (shelf.TooLong n)) = (now ≡ before) × (n ≡ most) × IfSome held (λ bytes. most < length bytes)
Reads before now held most (Err shelf.NoMemory) = now ≡ before

-- what was written, where it is known, has these bytes more
abbrev pub Appended : Option (List ℕ) → Option (List ℕ) → List ℕ → Type 0
Appended None new bytes = new ≡ None
Appended (Some old) new bytes = new ≡ Some (old ++ bytes)

abbrev pub AppendedPart : Option (List ℕ) → Option (List ℕ) → List ℕ → Type 0
AppendedPart old new bytes = (n : ℕ) × Appended old new (take n bytes)

-- a put: all is written; a failure, which alone is counted, after a prefix; or want of memory, and nothing is written
abbrev pub Puts : ℕ → ℕ → Option (List ℕ) → Option (List ℕ) → List ℕ → Result (Unit {0}) SinkFault → Type 0
Puts before now old new bytes (Ok u) = (now ≡ before) × Appended old new bytes
Puts before now old new bytes (Err sink.Failed) = Rose before now × AppendedPart old new bytes
Puts before now old new bytes (Err sink.NoMemory) = (now ≡ before) × (new ≡ old)
