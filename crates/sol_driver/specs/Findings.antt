-- What is known before anything is written.
use Rattle.std.specs.Prelude.{◌≡◌, ◌≤◌, ◌<◌, ℕ, List, length, Option, Some, None, Result, Ok, Err, IfSome}
use Rattle.std.specs.List.{concat}
use Rattle.chc_nums.specs.declared.limits.TheConstants.{MAX_FILE_BYTES}
use Rattle.sol_core.specs.declared.Site.{Site}
use Rattle.sol_outside.specs.Causes.{Rose}
use Rattle.sol_words.specs.declared.Request.{Request}
use Rattle.sol_words.specs.declared.Request.TheVariants as form
use Rattle.sol_words.specs.declared.Source.{Source}
use Rattle.sol_words.specs.Request.{source_of}
use Rattle.sol_first.specs.declared.Contract.{Contract}
use Rattle.sol_first.specs.Elaborated.{program_of}
use Rattle.sol_check.specs.Reports.{IsReportOf}
use Rattle.sol_replay.specs.declared.shown.Replayed.{Replayed}
use Rattle.sol_replay.specs.Replays.{Replays}
use Rattle.sol_report.specs.declared.Report.{Report}
use Rattle.sol_report.specs.Texts.{text_of}
use Rattle.sol_report.specs.Listing.{listing_of}
use Rattle.sol_driver.specs.Refusals.{IsRefused, IsRefusedWith}
use Rattle.sol_driver.specs.Stands.{HasContract}
use Rattle.sol_driver.specs.declared.outcome.Status.TheVariants as status
use Rattle.sol_driver.specs.declared.contract.CheckFault.{CheckFault}
use Rattle.sol_driver.specs.declared.contract.CheckFault.TheVariants as fault
use Rattle.sol_driver.specs.declared.find.Finding.{Finding}
use Rattle.sol_driver.specs.declared.find.Finding.TheVariants as finding
use Rattle.sol_driver.specs.Ends.{Asked, Found}
use Rattle.sol_driver.specs.Texts.{status_of, status_line, replay_line, replay_status}

-- a status that has one line, a refused source and its line, a report, whose verdicts give the status, the list of the targets,
-- or what a script shows
abbrev pub IsFinding : Asked → Finding → Type 0
IsFinding a (finding.Line s) = Found a s None (status_line s)
IsFinding a (finding.Refused line) = Found a status.Source None line
IsFinding a (finding.Checked r) = Found a (status_of r.verdicts) (Some r) (text_of r)
IsFinding a (finding.Listed lines) = Found a status.Good None (concat lines)
IsFinding a (finding.Shown r) = Found a (replay_status r) None (replay_line r)

-- what the bytes of a source give: the contract, or why they are refused
abbrev pub GivesContract : Option (List ℕ) → List ℕ → Result Contract CheckFault → Type 0
GivesContract name bytes (Ok c) = HasContract name bytes c
GivesContract name bytes (Err (fault.Refused r)) = IsRefused name bytes r
GivesContract name bytes (Err fault.NoMemory) = Unit {0}

-- what a contract gives for a request, of a shelf that holds these bytes and whose count of faults goes from one number to
-- another: its report, its targets, or what a script shows, which is read from the shelf
pub data Answers (c : Contract) (holds : List ℕ → Option (List ℕ)) (before after : ℕ) : Request → Finding → Type 0 where
  checked : {source : Source} {r : Report} → after ≡ before → IsReportOf c r → Answers c holds before after (form.Check source) (finding.Checked r)
  listed : {source : Source} {lines : List (List ℕ)} → after ≡ before → lines ≡ listing_of (program_of c).sites → Answers c holds before after (form.Targets source) (finding.Listed lines)
  shown : {source : Source} {script : List ℕ} {target : Site} {r : Replayed} (bytes : List ℕ) → after ≡ before → IfSome (holds script) (λ those. bytes ≡ those) → length bytes ≤ MAX_FILE_BYTES → Replays (program_of c) bytes target r → Answers c holds before after (form.Replay source script target) (finding.Shown r)
  failed : {source : Source} {script : List ℕ} {target : Site} → Rose before after → Answers c holds before after (form.Replay source script target) (finding.Line status.ReadFault)
  long : {source : Source} {script : List ℕ} {target : Site} → after ≡ before → IfSome (holds script) (λ those. MAX_FILE_BYTES < length those) → Answers c holds before after (form.Replay source script target) (finding.Line status.TooLong)

-- what the bytes of a source give for a request: the line of a cause for which they are refused, or what their contract gives
pub data IsJudged (q : Request) (bytes : List ℕ) (holds : List ℕ → Option (List ℕ)) (before after : ℕ) : Finding → Type 0 where
  refused : {line : List ℕ} → after ≡ before → IsRefusedWith (source_of q).contract bytes line → IsJudged q bytes holds before after (finding.Refused line)
  answered : {f : Finding} (c : Contract) → HasContract (source_of q).contract bytes c → Answers c holds before after q f → IsJudged q bytes holds before after f
