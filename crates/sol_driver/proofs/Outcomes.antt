-- What was found and told ends as it should.
use Rattle.std.proofs.Common.{ℕ, List, Option, Some, None, Result, Ok, Err}
use Rattle.std.specs.List.{concat}
use Rattle.sol_replay.specs.declared.shown.Replayed.{Replayed}
use Rattle.sol_outside.specs.declared.SinkFault.{SinkFault}
use Rattle.sol_outside.specs.declared.SinkFault.TheVariants as sink
use Rattle.sol_outside.specs.Causes.{AppendedPart, Puts}
use Rattle.sol_report.specs.declared.Report.{Report}
use Rattle.sol_report.specs.Texts.{text_of}
use Rattle.sol_driver.specs.declared.outcome.Status.{Status}
use Rattle.sol_driver.specs.declared.outcome.Status.TheVariants as status
use Rattle.sol_driver.specs.declared.outcome.Outcome.{Outcome}
use Rattle.sol_driver.specs.declared.find.Finding.TheVariants as finding
use Rattle.sol_driver.specs.Ends.{Asked, Told, Found, ToldWithoutMemory, before, within, Ends}
use Rattle.sol_driver.specs.Findings.{IsFinding}
use Rattle.sol_driver.specs.Outcomes.{TellsText, whole, part, stopped, without_memory}
use Rattle.sol_driver.specs.Texts.{status_of, status_line, replay_line, replay_status}
use Rattle.sol_outside.proofs.Writing.{appended-nothing}
use Rattle.sol_driver.proofs.Writing.{appended-whole}

-- whatever a put answers, it wrote a part
pub puts_part : (earlier now : ℕ) (old new : Option (List ℕ)) (bytes : List ℕ) (r : Result (Unit {0}) SinkFault) → Puts earlier now old new bytes r → AppendedPart old new bytes
puts_part earlier now old new bytes (Ok u) h = appended-whole old new bytes h.1
puts_part earlier now old new bytes (Err sink.Failed) h = h.1
puts_part earlier now old new bytes (Err sink.NoMemory) h = (0, rw h.1 (appended-nothing old))

pub ruleset attempts = (puts_part)

found-ends : (a : Asked) (t : Told) (s : Status) (r : Option Report) (text : List ℕ) (o : Outcome) → Found a s r text → TellsText s r text t o → Ends a t o
found-ends a t status.Good r text _ f (whole good w) = record { text = text; found = f; written = w; good = good }
found-ends a t status.Unsafe r text _ f (whole good w) = record { text = text; found = f; written = w; good = good }
found-ends a t status.Unknown r text _ f (whole good w) = record { text = text; found = f; written = w; good = good }
found-ends a t status.Source r text _ f (whole good w) = record { text = text; found = f; written = w; good = good }
found-ends a t status.Words r text _ f (whole good w) = record { text = text; found = f; written = w; good = good }
found-ends a t status.ReadFault r text _ f (whole good w) = record { text = text; found = f; written = w; good = good }
found-ends a t status.TooLong r text _ f (whole good w) = record { text = text; found = f; written = w; good = good }
found-ends a t status.Script r text _ f (whole good w) = record { text = text; found = f; written = w; good = good }
found-ends a t status.WriteFault r text _ f (whole good w) = absurd f
found-ends a t status.NoMemory r text _ f (whole good w) = absurd f
found-ends a t s r text _ f (part rose w) = record { status = s; text = text; found = f; written = w; rose = rose }
found-ends a t s r text _ f (stopped between w v) = within s text f between w v
found-ends a t s r text _ f (without_memory w) = before w

pub line-ends : (a : Asked) (t : Told) (s : Status) (o : Outcome) → IsFinding a (finding.Line s) → TellsText s None (status_line s) t o → Ends a t o
line-ends a t s o f w = found-ends a t s None (status_line s) o f w

pub refused-ends : (a : Asked) (t : Told) (line : List ℕ) (o : Outcome) → IsFinding a (finding.Refused line) → TellsText status.Source None line t o → Ends a t o
refused-ends a t line o f w = found-ends a t status.Source None line o f w

pub report-ends : (a : Asked) (t : Told) (r : Report) (o : Outcome) → IsFinding a (finding.Checked r) → TellsText (status_of r.verdicts) (Some r) (text_of r) t o → Ends a t o
report-ends a t r o f w = found-ends a t (status_of r.verdicts) (Some r) (text_of r) o f w

pub listing-ends : (a : Asked) (t : Told) (lines : List (List ℕ)) (o : Outcome) → IsFinding a (finding.Listed lines) → TellsText status.Good None (concat lines) t o → Ends a t o
listing-ends a t lines o f w = found-ends a t status.Good None (concat lines) o f w

pub shown-ends : (a : Asked) (t : Told) (r : Replayed) (o : Outcome) → IsFinding a (finding.Shown r) → TellsText (replay_status r) None (replay_line r) t o → Ends a t o
shown-ends a t r o f w = found-ends a t (replay_status r) None (replay_line r) o f w

pub ruleset outcomes = (line-ends, refused-ends, report-ends, listing-ends, shown-ends, stopped, without_memory, whole, part, before)
