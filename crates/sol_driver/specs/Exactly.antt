-- How far each status comes exactly where its cause is: the words of the laws.
use Rattle.std.specs.Prelude.{◌≡◌, ◌≢◌, ◌⊎◌, ℕ, ◌-◌, ◌^◌, ◌<◌, List, Some, IfSome}
use Rattle.sol_core.specs.declared.Site.{Site}
use Rattle.sol_words.specs.declared.Request.{Request}
use Rattle.sol_words.specs.declared.Request.TheVariants as form
use Rattle.sol_words.specs.declared.Source.{Source}
use Rattle.sol_words.specs.Request.{source_of}
use Rattle.sol_first.specs.declared.Contract.{Contract}
use Rattle.sol_first.specs.Elaborated.{program_of}
use Rattle.sol_replay.specs.declared.shown.Replayed.{Replayed}
use Rattle.sol_replay.specs.Replays.{Replays}
use Rattle.sol_report.specs.declared.Report.{Report}
use Rattle.sol_driver.specs.declared.outcome.Status.{Status}
use Rattle.sol_driver.specs.declared.outcome.Status.TheVariants as status
use Rattle.sol_driver.specs.Ends.{Asked, Asks, IsLong}
use Rattle.sol_driver.specs.Refusals.{IsRefusedWith}
use Rattle.sol_driver.specs.Stands.{HasContract, Stands}
use Rattle.sol_driver.specs.Texts.{status_of, replay_status}

-- a status that is neither that of a failed put nor that of want of memory
abbrev pub Undisturbed : Status → Type 0
Undisturbed s = (s ≢ status.WriteFault) × (s ≢ status.NoMemory)

-- a count of faults that can still rise
abbrev pub CanRise : ℕ → Type 0
CanRise count = count < 2 ^ 64 - 1

-- the words ask something of a file, and the shelf tells that it holds these bytes
pub record Holds (a : Asked) (bytes : List ℕ) : Type 0 where
  pub request : Request
  pub asks : Asks a request
  pub held : a.holds (source_of request).file ≡ Some bytes

-- a report is asked for, the text is of the language, and a right report of it gives the status
pub record HasReport (a : Asked) (text : List ℕ) (s : Status) : Type 0 where
  pub source : Source
  pub asks : Asks a (form.Check source)
  pub report : Report
  pub stands : Stands source.contract text report
  pub gives : status_of report.verdicts ≡ s

-- the targets are asked for, and the text is of the language
pub record HasTargets (a : Asked) (text : List ℕ) : Type 0 where
  pub source : Source
  pub asks : Asks a (form.Targets source)
  pub contract : Contract
  pub has : HasContract source.contract text contract

-- a replay is asked for, the text is of the language, and what the script's text shows of the target gives the status
pub record HasReplay (a : Asked) (text : List ℕ) (s : Status) : Type 0 where
  pub source : Source
  pub script : List ℕ
  pub target : Site
  pub asks : Asks a (form.Replay source script target)
  pub contract : Contract
  pub has : HasContract source.contract text contract
  pub script_text : List ℕ
  pub held : IfSome (a.holds script) (λ those. those ≡ script_text)
  pub replayed : Replayed
  pub replays : Replays (program_of contract) script_text target replayed
  pub gives : replay_status replayed ≡ s

-- a replay is asked for, the text is of the language, and the script's is too long
pub record HasLongScript (a : Asked) (text : List ℕ) : Type 0 where
  pub source : Source
  pub script : List ℕ
  pub target : Site
  pub asks : Asks a (form.Replay source script target)
  pub contract : Contract
  pub has : HasContract source.contract text contract
  pub long : IsLong a script

-- the text is refused
pub record HasRefusal (a : Asked) (text : List ℕ) : Type 0 where
  pub request : Request
  pub asks : Asks a request
  pub line : List ℕ
  pub refused : IsRefusedWith (source_of request).contract text line

-- what the status of a text that was read says of it
abbrev pub Judges : Asked → List ℕ → Status → Type 0
Judges a text status.Good = HasReport a text status.Good ⊎ (HasTargets a text ⊎ HasReplay a text status.Good)
Judges a text status.Unsafe = HasReport a text status.Unsafe
Judges a text status.Unknown = HasReport a text status.Unknown
Judges a text status.Source = HasRefusal a text
Judges a text status.Script = HasReplay a text status.Script
Judges a text status.TooLong = HasLongScript a text
Judges a text status.Words = ⊥
Judges a text status.ReadFault = ⊥
Judges a text status.WriteFault = ⊥
Judges a text status.NoMemory = ⊥
