-- What telling something that was found leaves.
use Rattle.std.specs.Prelude.{ℕ, List, Option, None}
use Rattle.sol_outside.specs.Causes.{Rose, Appended, AppendedPart}
use Rattle.sol_report.specs.declared.Report.{Report}
use Rattle.sol_driver.specs.declared.outcome.Status.{Status}
use Rattle.sol_driver.specs.declared.outcome.Status.TheVariants as status
use Rattle.sol_driver.specs.declared.outcome.Outcome.{Outcome}
use Rattle.sol_driver.specs.Ends.{Told, NoWriteFault}
use Rattle.sol_driver.specs.Texts.{status_line}

-- the text was written whole, and status and report stay; or a put failed, and a prefix was written; or memory was
-- wanting after a prefix, or before anything was written, and then a part of the line that says so was written
pub data TellsText (s : Status) (r : Option Report) (text : List ℕ) (t : Told) : Outcome → Type 0 where
  whole : NoWriteFault t → Appended t.written_before t.written_after text → TellsText s r text t (record { status = s; report = r })
  part : Rose t.faults_before t.faults_after → AppendedPart t.written_before t.written_after text → TellsText s r text t (record { status = status.WriteFault; report = r })
  stopped : (between : Option (List ℕ)) → AppendedPart t.written_before between text → AppendedPart between t.written_after (status_line status.NoMemory) → TellsText s r text t (record { status = status.NoMemory; report = r })
  without_memory : AppendedPart t.written_before t.written_after (status_line status.NoMemory) → TellsText s r text t (record { status = status.NoMemory; report = None })
