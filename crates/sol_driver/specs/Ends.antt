-- How a command ends: the clause of the top calls.
use Rattle.std.specs.Prelude.{ℕ, ◌≡◌, ◌⊎◌, ◌<◌, ◌≤◌, List, length, map, Option, Some, None, IfSome, string_bytes}
use Rattle.std.specs.List.{concat}
use Rattle.std.specs.declared.string.String.{String}
use Rattle.std.specs.declared.alloc.Global.{Global}
use Rattle.chc_nums.specs.declared.limits.TheConstants.{MAX_FILE_BYTES}
use Rattle.sol_outside.specs.Causes.{Rose, Appended, AppendedPart}
use Rattle.sol_report.specs.declared.Report.{Report}
use Rattle.sol_report.specs.Texts.{text_of}
use Rattle.sol_report.specs.Listing.{listing_of}
use Rattle.sol_core.specs.declared.Site.{Site}
use Rattle.sol_words.specs.declared.Request.{Request}
use Rattle.sol_words.specs.declared.Request.TheVariants as form
use Rattle.sol_words.specs.declared.Source.{Source}
use Rattle.sol_words.specs.Request.{request, source_of}
use Rattle.sol_first.specs.declared.Contract.{Contract}
use Rattle.sol_first.specs.Elaborated.{program_of}
use Rattle.sol_replay.specs.declared.shown.Replayed.{Replayed}
use Rattle.sol_replay.specs.Replays.{Replays}
use Rattle.sol_driver.specs.declared.outcome.Status.{Status}
use Rattle.sol_driver.specs.declared.outcome.Status.TheVariants as status
use Rattle.sol_driver.specs.declared.outcome.Outcome.{Outcome}
use Rattle.sol_driver.specs.Refusals.{IsRefusedWith}
use Rattle.sol_driver.specs.Stands.{HasContract, Stands}
use Rattle.sol_driver.specs.Texts.{status_of, status_line, replay_line, replay_status}

-- what was asked: the words; the bytes that the shelf holds under a name, where it tells them; and its count of faults,
-- before and after
pub record Asked : Type 0 where
  pub words : List (String Global)
  pub holds : List ℕ → Option (List ℕ)
  pub faults_before : ℕ
  pub faults_after : ℕ

-- what was told: what was written, before and after, where the sink tells it; and its count of faults, before and after
pub record Told : Type 0 where
  pub written_before : Option (List ℕ)
  pub written_after : Option (List ℕ)
  pub faults_before : ℕ
  pub faults_after : ℕ

-- what was asked of a shelf
abbrev pub asked : List (String Global) → (List ℕ → Option (List ℕ)) → ℕ → ℕ → Asked
asked words holds before after = record { words = words; holds = holds; faults_before = before; faults_after = after }

-- what was told to a sink
abbrev pub told : Option (List ℕ) → Option (List ℕ) → ℕ → ℕ → Told
told old new before after = record { written_before = old; written_after = new; faults_before = before; faults_after = after }

-- the words ask for this
abbrev pub Asks : Asked → Request → Type 0
Asks a q = request (map string_bytes a.words) ≡ Some q

-- no read failed
abbrev pub NoReadFault : Asked → Type 0
NoReadFault a = a.faults_after ≡ a.faults_before

-- no put failed
abbrev pub NoWriteFault : Told → Type 0
NoWriteFault t = t.faults_after ≡ t.faults_before

-- the bytes are those that the shelf holds under a name, where it tells them; they are at most 262,144
pub record WasRead (a : Asked) (name bytes : List ℕ) : Type 0 where
  pub good : NoReadFault a
  pub held : IfSome (a.holds name) (λ those. those ≡ bytes)
  pub short : length bytes ≤ MAX_FILE_BYTES

-- the shelf holds more than 262,144 bytes under a name, where it tells them
abbrev pub IsLong : Asked → List ℕ → Type 0
IsLong a name = IfSome (a.holds name) (λ those. MAX_FILE_BYTES < length those)

-- a report is asked for; the file was read, its text is of the language, and this is a right report of it with this status
pub record Reported (a : Asked) (s : Status) (r : Report) : Type 0 where
  pub source : Source
  pub asks : Asks a (form.Check source)
  pub bytes : List ℕ
  pub read : WasRead a source.file bytes
  pub stands : Stands source.contract bytes r
  pub status : status_of r.verdicts ≡ s

-- the targets are asked for; the file was read, and the text lists the targets of its contract
pub record Listed (a : Asked) (text : List ℕ) : Type 0 where
  pub source : Source
  pub asks : Asks a (form.Targets source)
  pub bytes : List ℕ
  pub read : WasRead a source.file bytes
  pub contract : Contract
  pub has : HasContract source.contract bytes contract
  pub text_is : text ≡ concat (listing_of (program_of contract).sites)

-- a replay is asked for; both files were read, and this is what the script's text shows of the target of the contract
pub record Shown (a : Asked) (s : Status) (text : List ℕ) : Type 0 where
  pub source : Source
  pub script : List ℕ
  pub target : Site
  pub asks : Asks a (form.Replay source script target)
  pub bytes : List ℕ
  pub read : WasRead a source.file bytes
  pub contract : Contract
  pub has : HasContract source.contract bytes contract
  pub script_bytes : List ℕ
  pub script_read : WasRead a script script_bytes
  pub replayed : Replayed
  pub replays : Replays (program_of contract) script_bytes target replayed
  pub status : replay_status replayed ≡ s
  pub text_is : text ≡ replay_line replayed

-- the file was read, and its text is refused for a cause that this line tells
pub record Refused (a : Asked) (line : List ℕ) : Type 0 where
  pub request : Request
  pub asks : Asks a request
  pub bytes : List ℕ
  pub read : WasRead a (source_of request).file bytes
  pub refused : IsRefusedWith (source_of request).contract bytes line

-- the words ask something of a file, and a read failed: the shelf's count of faults rose by it
pub record ReadFailed (a : Asked) : Type 0 where
  pub request : Request
  pub asks : Asks a request
  pub rose : Rose a.faults_before a.faults_after

-- the file of the source holds more than 262,144 bytes; or its contract is of the language, and the file of a script does
pub data TooLong (a : Asked) : Type 0 where
  long_source : (q : Request) → Asks a q → NoReadFault a → IsLong a (source_of q).file → TooLong a
  long_script : (source : Source) (script : List ℕ) (target : Site) → Asks a (form.Replay source script target) → (bytes : List ℕ) → WasRead a source.file bytes → (c : Contract) → HasContract source.contract bytes c → IsLong a script → TooLong a

-- the words are of no form that is read, and nothing was read
abbrev pub Strange : Asked → Type 0
Strange a = (request (map string_bytes a.words) ≡ None) × NoReadFault a

-- what was found before anything was written: a status, its report, if it has one, and the text of both
abbrev pub Found : Asked → Status → Option Report → List ℕ → Type 0
Found a status.Good (Some r) text = Reported a status.Good r × (text ≡ text_of r)
Found a status.Good None text = Listed a text ⊎ Shown a status.Good text
Found a status.Unsafe (Some r) text = Reported a status.Unsafe r × (text ≡ text_of r)
Found a status.Unsafe None text = ⊥
Found a status.Unknown (Some r) text = Reported a status.Unknown r × (text ≡ text_of r)
Found a status.Unknown None text = ⊥
Found a status.Source None text = Refused a text
Found a status.Source (Some r) text = ⊥
Found a status.Words None text = Strange a × (text ≡ status_line status.Words)
Found a status.Words (Some r) text = ⊥
Found a status.ReadFault None text = ReadFailed a × (text ≡ status_line status.ReadFault)
Found a status.ReadFault (Some r) text = ⊥
Found a status.TooLong None text = TooLong a × (text ≡ status_line status.TooLong)
Found a status.TooLong (Some r) text = ⊥
Found a status.Script None text = Shown a status.Script text
Found a status.Script (Some r) text = ⊥
Found a status.WriteFault r text = ⊥
Found a status.NoMemory r text = ⊥

-- what was found was written whole
pub record ToldWhole (a : Asked) (t : Told) (s : Status) (r : Option Report) : Type 0 where
  pub text : List ℕ
  pub found : Found a s r text
  pub written : Appended t.written_before t.written_after text
  pub good : NoWriteFault t

-- a put of what was found failed: the sink's count of faults rose, and a prefix of the text was written
pub record ToldPart (a : Asked) (t : Told) (r : Option Report) : Type 0 where
  pub status : Status
  pub text : List ℕ
  pub found : Found a status r text
  pub written : AppendedPart t.written_before t.written_after text
  pub rose : Rose t.faults_before t.faults_after

-- memory was wanting: before anything was written; or after a part of what was found was written. Then the line that says
-- so was tried, and a part of it was written.
pub data ToldWithoutMemory (a : Asked) (t : Told) : Option Report → Type 0 where
  before : AppendedPart t.written_before t.written_after (status_line status.NoMemory) → ToldWithoutMemory a t None
  within : (s : Status) (text : List ℕ) {r : Option Report} → Found a s r text → (between : Option (List ℕ)) → AppendedPart t.written_before between text → AppendedPart between t.written_after (status_line status.NoMemory) → ToldWithoutMemory a t r

-- Each status but those of a failed put and of want of memory comes only by what was found, which was then written
-- whole. How far each comes exactly where its cause is stands in `src/laws.rt`. When memory is wanting is free.
abbrev pub EndsAs : Asked → Told → Status → Option Report → Type 0
EndsAs a t status.Good r = ToldWhole a t status.Good r
EndsAs a t status.Unsafe r = ToldWhole a t status.Unsafe r
EndsAs a t status.Unknown r = ToldWhole a t status.Unknown r
EndsAs a t status.Source r = ToldWhole a t status.Source r
EndsAs a t status.Words r = ToldWhole a t status.Words r
EndsAs a t status.ReadFault r = ToldWhole a t status.ReadFault r
EndsAs a t status.TooLong r = ToldWhole a t status.TooLong r
EndsAs a t status.Script r = ToldWhole a t status.Script r
EndsAs a t status.WriteFault r = ToldPart a t r
EndsAs a t status.NoMemory r = ToldWithoutMemory a t r

abbrev pub Ends : Asked → Told → Outcome → Type 0
Ends a t o = EndsAs a t o.status o.report

-- the end has this status, with a report or none
abbrev pub EndsWith : Asked → Told → Status → Type 0
EndsWith a t s = (report : Option Report) × EndsAs a t s report
