-- What calls in memory answer that are told by their numbers how many bytes to move.
use Rattle.std.specs.Prelude.{◌≡◌, ℕ, min, max, List, slice_get, Option, Some, None, Result, Ok, Err}
use Rattle.sol_outside.specs.declared.parts.PartFault.{PartFault}
use Rattle.sol_outside.specs.declared.told_parts.PartStep.{PartStep}
use Rattle.sol_outside.specs.declared.told_parts.PartStep.TheVariants.{AtMost, Fails}

-- the step of a number; those past the list move what they can
abbrev pub step_or_all : Option PartStep → PartStep
step_or_all None = AtMost 4294967295
step_or_all (Some s) = s

abbrev pub step_of : List PartStep → ℕ → PartStep
step_of steps number = step_or_all (slice_get steps number)

-- how many bytes are read where at most so many may be, so many are left, and there is room for so many; one may always be
abbrev pub given : ℕ → ℕ → ℕ → ℕ
given most left room = min (min (max most 1) left) room

abbrev pub ReadsAsStep : PartStep → ℕ → ℕ → Result ℕ PartFault → Type 0
ReadsAsStep (AtMost most) left room (Ok n) = n ≡ given most left room
ReadsAsStep (AtMost most) left room (Err f) = ⊥
ReadsAsStep Fails left room (Ok n) = ⊥
ReadsAsStep Fails left room (Err f) = Unit {0}

-- where at most so many bytes may be written of so many; else memory was wanting
abbrev pub WritesAsStep : PartStep → ℕ → Result ℕ PartFault → Type 0
WritesAsStep (AtMost most) all (Ok n) = n ≡ min all most
WritesAsStep (AtMost most) all (Err f) = Unit {0}
WritesAsStep Fails all (Ok n) = ⊥
WritesAsStep Fails all (Err f) = Unit {0}
