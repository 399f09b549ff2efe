-- What calls in memory answer that are told by their numbers to fail.
use Rattle.std.specs.Prelude.{◌≡◌, ℕ, ◌<◌, Bool, true, false, ◌==◌, if◌then◌else◌, List, [], ◌∷◌, ◌++◌, length, take, Option, Some, None, Result, Ok, Err}
use Rattle.std.specs.declared.vec.Vec.{Vec}
use Rattle.std.specs.declared.alloc.Global.{Global}
use Rattle.sol_outside.specs.declared.ends.ShelfFault.{ShelfFault}
use Rattle.sol_outside.specs.declared.ends.ShelfFault.TheVariants as shelf
use Rattle.sol_outside.specs.declared.ends.SinkFault.{SinkFault}
use Rattle.sol_outside.specs.declared.ends.SinkFault.TheVariants as sink

-- whether a number stands in a list
abbrev pub is_told : List ℕ → ℕ → Bool
is_told [] number = false
is_told (n ∷ ns) number = if n == number then true else is_told ns number

-- a read, as it is told to fail or not: it fails where it is told, and where the name isn't there; else it gives the bytes,
-- but where they are too many or memory is wanting
abbrev pub ReadsAsTold : Bool → Option (List ℕ) → ℕ → Result (Vec ℕ Global) ShelfFault → Type 0
ReadsAsTold true held most answer = answer ≡ Err shelf.Failed
ReadsAsTold false None most answer = answer ≡ Err shelf.Failed
ReadsAsTold false (Some bytes) most (Ok v) = v.items ≡ bytes
ReadsAsTold false (Some bytes) most (Err shelf.Failed) = ⊥
ReadsAsTold false (Some bytes) most (Err (shelf.TooLong n)) = most < length bytes
ReadsAsTold false (Some bytes) most (Err shelf.NoMemory) = Unit {0}

-- after how many bytes the first entry of a number fails
abbrev pub told_cut : List (ℕ × ℕ) → ℕ → Option ℕ
told_cut [] number = None
told_cut (e ∷ es) number = if e.0 == number then Some e.1 else told_cut es number

-- a put, as it is told to fail after some bytes or not: it fails where it is told, after so many bytes or after all where
-- there are fewer; else it writes all; where memory is wanting it writes nothing
abbrev pub PutsAsTold : Option ℕ → List ℕ → List ℕ → List ℕ → Result (Unit {0}) SinkFault → Type 0
PutsAsTold None old new bytes (Ok u) = new ≡ old ++ bytes
PutsAsTold None old new bytes (Err sink.Failed) = ⊥
PutsAsTold None old new bytes (Err sink.NoMemory) = new ≡ old
PutsAsTold (Some after) old new bytes (Ok u) = ⊥
PutsAsTold (Some after) old new bytes (Err sink.Failed) = new ≡ old ++ take after bytes
PutsAsTold (Some after) old new bytes (Err sink.NoMemory) = new ≡ old
