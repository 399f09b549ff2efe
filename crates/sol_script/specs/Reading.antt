-- The script that a text tells, or the first line that is wrong and why.
use Rattle.std.specs.Prelude.{◌≡◌, ℕ, suc, List, [], ◌∷◌, ◌++◌, length, Option, Some, None, Result, Ok, Err, Bool, true, false, nat_lt, if◌then◌else◌, option_to_list}
use lib.IntN.{ℤ}
use Rattle.sol_core.specs.declared.Program.{Program}
use Rattle.sol_core.specs.declared.Script.{Script}
use Rattle.sol_core.specs.declared.Answer.{Answer}
use Rattle.sol_core.specs.declared.Call.{Call, out-Call, roll-Call}
use Rattle.sol_core.specs.declared.Reply.{Reply, roll-Reply}
use Rattle.sol_script.specs.declared.line.Line.{Line}
use Rattle.sol_script.specs.declared.line.Line.TheVariants as line
use Rattle.sol_script.specs.declared.reading.Level.{Level}
use Rattle.sol_script.specs.declared.reading.Reading.{Reading}
use Rattle.sol_script.specs.declared.fault.ScriptTextFault.{ScriptTextFault}
use Rattle.sol_script.specs.declared.fault.ScriptTextFault.TheVariants as fault
use Rattle.sol_script.specs.Pieces.{ended, tail}
use Rattle.sol_script.specs.Lines.{said}

-- the greatest number of replies that are open at one line
abbrev pub depth_limit : ℕ
depth_limit = 128

-- ---- the script so far

-- all but the last of a list, and the last
abbrev pub before_pair : {A : Type 0} → A → Option (List A × A) → Option (List A × A)
before_pair x None = Some ([], x)
before_pair x (Some (front, last)) = Some (x ∷ front, last)

abbrev pub apart : {A : Type 0} → List A → Option (List A × A)
apart [] = None
apart (x ∷ xs) = before_pair x (apart xs)

-- a call with no replies yet
abbrev pub plain_call : ℕ → ℤ → List ℤ → Call
plain_call door sender args = roll-Call (record { fun = door; sender = sender; args = args; replies = [] })

-- a call with one reply more
abbrev pub replied : Call → Reply → Call
replied c r = roll-Call (record { fun = (out-Call c).fun; sender = (out-Call c).sender; args = (out-Call c).args; replies = (out-Call c).replies ++ r ∷ [] })

abbrev pub begun : ℤ → List ℤ → Reading
begun sender args = record { sender = sender; args = args; levels = []; calls = []; last = None }

-- the calls of the innermost level
abbrev pub calls_of : Reading → List Call
calls_of r = r.calls ++ option_to_list r.last

-- a call begins on the innermost level
abbrev pub with_call : Reading → Call → Reading
with_call r c = record { sender = r.sender; args = r.args; levels = r.levels; calls = calls_of r; last = Some c }

-- a reply opens to the last call of the innermost level
abbrev pub with_level : Reading → Call → Reading
with_level r c = record { sender = r.sender; args = r.args; levels = r.levels ++ record { before = r.calls; last = c } ∷ []; calls = []; last = None }

-- the innermost reply closes with an answer
abbrev pub with_answer : Reading → List Level × Level → Answer → Reading
with_answer r (outer, l) a = record { sender = r.sender; args = r.args; levels = outer; calls = l.before; last = Some (replied l.last (roll-Reply (record { calls = calls_of r; answer = a }))) }

-- ---- one line more

abbrev pub opened : ℕ → Reading → Option Call → Result Reading ScriptTextFault
opened n r None = Err (fault.BadLine n)
opened n r (Some c) = if nat_lt (length r.levels) depth_limit then Ok (with_level r c) else Err (fault.TooDeep n)

abbrev pub answered : ℕ → Reading → Answer → Option (List Level × Level) → Result Reading ScriptTextFault
answered n r a None = Err (fault.BadLine n)
answered n r a (Some l) = Ok (with_answer r l a)

-- a line of a number says something after the deployment and before the end
abbrev pub line_read : ℕ → Reading → Line → Result Reading ScriptTextFault
line_read n r (line.Deploy sender args) = Err (fault.BadLine n)
line_read n r (line.Call None sender args) = Err (fault.NoName n)
line_read n r (line.Call (Some door) sender args) = Ok (with_call r (plain_call door sender args))
line_read n r line.Reply = opened n r r.last
line_read n r (line.Answer a) = answered n r a (apart r.levels)
line_read n r line.End = Err (fault.BadLine n)

-- ---- the whole text

-- nothing stands behind the line of a number
abbrev pub if_last : ℕ → List (List ℕ) → List ℕ → Script → Result Script ScriptTextFault
if_last n [] [] s = Ok s
if_last n [] (b ∷ bs) s = Err (fault.BadLine (suc n))
if_last n (l ∷ ls) rest s = Err (fault.BadLine (suc n))

-- the line `end` stands where no reply is open
abbrev pub closed : ℕ → List (List ℕ) → List ℕ → Reading → List Level → Result Script ScriptTextFault
closed n ls rest r [] = if_last n ls rest (record { sender = r.sender; args = r.args; calls = calls_of r })
closed n ls rest r (level ∷ levels) = Err (fault.BadLine n)

abbrev pub then_read : Result Reading ScriptTextFault → (Reading → Result Script ScriptTextFault) → Result Script ScriptTextFault
then_read (Ok r) go = go r
then_read (Err e) go = Err e

abbrev pub is_end : Line → Bool
is_end (line.Deploy sender args) = false
is_end (line.Call door sender args) = false
is_end line.Reply = false
is_end (line.Answer a) = false
is_end line.End = true

-- the line `end` closes the script, and any other one goes on
abbrev pub by_line : ℕ → List (List ℕ) → List ℕ → Reading → (Reading → Result Script ScriptTextFault) → Option Line → Result Script ScriptTextFault
by_line n ls rest r go None = Err (fault.BadLine n)
by_line n ls rest r go (Some l) = if is_end l then closed n ls rest r r.levels else then_read (line_read n r l) go

-- the lines after the deployment, the first of which has a number, and what no line feed ends
unfoldable pub read_lines : Program → List (List ℕ) → List ℕ → ℕ → Reading → Result Script ScriptTextFault
read_lines p [] rest n r = Err (fault.BadLine n)
read_lines p (l ∷ ls) rest n r = by_line n ls rest r (read_lines p ls rest (suc n)) (said p l)

-- the first line is the deployment
abbrev pub read_first : Program → List (List ℕ) → List ℕ → Option Line → Result Script ScriptTextFault
read_first p ls rest (Some (line.Deploy sender args)) = read_lines p ls rest 2 (begun sender args)
read_first p ls rest (Some (line.Call door sender args)) = Err (fault.BadLine 1)
read_first p ls rest (Some line.Reply) = Err (fault.BadLine 1)
read_first p ls rest (Some (line.Answer a)) = Err (fault.BadLine 1)
read_first p ls rest (Some line.End) = Err (fault.BadLine 1)
read_first p ls rest None = Err (fault.BadLine 1)

abbrev pub read_whole : Program → List (List ℕ) → List ℕ → Result Script ScriptTextFault
read_whole p [] rest = Err (fault.BadLine 1)
read_whole p (l ∷ ls) rest = read_first p ls rest (said p l)

-- what a text tells: lines end in line feeds and count from 1
unfoldable pub read_script : Program → List ℕ → Result Script ScriptTextFault
read_script p text = read_whole p (ended 10 text) (tail 10 text)

-- an answer is this one, or memory was wanting
abbrev pub Reads : {A : Type 0} → Result A ScriptTextFault → Result A ScriptTextFault → Type 0
Reads told (Ok a) = told ≡ Ok a
Reads told (Err fault.NoMemory) = Unit {0}
Reads told (Err (fault.BadLine n)) = told ≡ Err (fault.BadLine n)
Reads told (Err (fault.NoName n)) = told ≡ Err (fault.NoName n)
Reads told (Err (fault.TooDeep n)) = told ≡ Err (fault.TooDeep n)
