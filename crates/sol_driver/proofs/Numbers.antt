-- The number of the status that a program ends with.
use Rattle.std.proofs.Common.{◌≡◌, ℕ, List, Option, None, refl}
use Rattle.sol_outside.specs.Causes.{AppendedPart}
use Rattle.sol_outside.proofs.Writing.{appended-nothing}
use Rattle.sol_driver.specs.declared.outcome.Status.{Status}
use Rattle.sol_driver.specs.declared.outcome.Status.TheVariants as status
use Rattle.sol_driver.specs.Ends.{Asked, Told, EndsWith, before}
use Rattle.sol_driver.specs.Texts.{code_of, status_line}
use Rattle.sol_driver.specs.Program.{EndsAsNumber}

pub ends-as_number : (a : Asked) (t : Told) (s : Status) (n : ℕ) → EndsWith a t s → n ≡ code_of s → EndsAsNumber a t n
ends-as_number a t s n ends number = record { status = s; ends = ends; number = number }

pub wants-memory : (a : Asked) (t : Told) → AppendedPart t.written_before t.written_after (status_line status.NoMemory) → EndsAsNumber a t 7
wants-memory a t part = record { status = status.NoMemory; ends = (None, before part); number = refl }

-- nothing is a part of any text
pub appended-none : (old : Option (List ℕ)) (text : List ℕ) → AppendedPart old old text
appended-none old text = (0, appended-nothing old)

pub ruleset numbers = (ends-as_number, wants-memory, appended-none)
