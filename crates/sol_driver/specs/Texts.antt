-- Statuses, and the texts that they have.
use Rattle.std.specs.Prelude.{ℕ, List, [], ◌∷◌, Bool, true, false, codes, if◌then◌else◌}
use Rattle.sol_report.specs.declared.Verdict.{Verdict}
use Rattle.sol_report.specs.declared.Verdict.TheVariants as verdict
use Rattle.sol_replay.specs.declared.shown.Replayed.{Replayed}
use Rattle.sol_replay.specs.declared.shown.Replayed.TheVariants as replayed
use Rattle.sol_driver.specs.declared.outcome.Status.{Status}
use Rattle.sol_driver.specs.declared.outcome.Status.TheVariants as status

abbrev pub is_unsafe : Verdict → Bool
is_unsafe (verdict.Safe ms n) = false
is_unsafe (verdict.Unsafe x n) = true
is_unsafe (verdict.Unknown s o seen tries) = false

abbrev pub is_unknown : Verdict → Bool
is_unknown (verdict.Safe ms n) = false
is_unknown (verdict.Unsafe x n) = false
is_unknown (verdict.Unknown s o seen tries) = true

abbrev pub some_verdict : (Verdict → Bool) → List (ℕ × Verdict) → Bool
some_verdict f [] = false
some_verdict f (v ∷ vs) = if f v.1 then true else some_verdict f vs

-- a report's status: unsafe, where some target is; else unknown, where some target is
abbrev pub status_of : List (ℕ × Verdict) → Status
status_of vs = if some_verdict is_unsafe vs then status.Unsafe else (if some_verdict is_unknown vs then status.Unknown else status.Good)

-- the one line of a status that has no report, but for a refused source and a replay, whose lines tell the cause
abbrev pub status_line : Status → List ℕ
status_line status.Good = []
status_line status.Unsafe = []
status_line status.Unknown = []
status_line status.Source = []
status_line status.Words = codes "words refused\n"
status_line status.ReadFault = codes "read fault\n"
status_line status.WriteFault = []
status_line status.NoMemory = codes "no memory\n"
status_line status.TooLong = codes "file too long\n"
status_line status.Script = []

-- the number that a process ends with
abbrev pub code_of : Status → ℕ
code_of status.Good = 0
code_of status.Unsafe = 1
code_of status.Unknown = 2
code_of status.Source = 3
code_of status.Words = 4
code_of status.ReadFault = 5
code_of status.WriteFault = 6
code_of status.NoMemory = 7
code_of status.TooLong = 8
code_of status.Script = 9

-- ---- replays

abbrev pub replay_line : Replayed → List ℕ
replay_line replayed.Violated = codes "violated\n"
replay_line replayed.NotViolated = codes "not violated\n"
replay_line replayed.ScriptRefused = codes "script refused\n"
replay_line replayed.NoTarget = codes "no target\n"

abbrev pub replay_status : Replayed → Status
replay_status replayed.Violated = status.Good
replay_status replayed.NotViolated = status.Script
replay_status replayed.ScriptRefused = status.Script
replay_status replayed.NoTarget = status.Script
