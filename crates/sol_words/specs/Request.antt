-- What the words of the command line ask: `check FILE`, `targets FILE`, or `replay FILE SCRIPT TARGET`, each with
-- `--contract NAME` anywhere behind the command.
use Rattle.std.specs.Prelude.{ℕ, List, [], ◌∷◌, Option, Some, None, false, bytes_eq, codes, if◌then◌else◌}
use Rattle.sol_core.specs.declared.Site.{Site}
use Rattle.sol_words.specs.declared.arguments.Arguments.{Arguments}
use Rattle.sol_words.specs.declared.request.Source.{Source}
use Rattle.sol_words.specs.declared.request.Request.{Request}
use Rattle.sol_words.specs.declared.request.Request.TheVariants as form
use Rattle.sol_words.specs.Arguments.{nothing, arguments}
use Rattle.sol_words.specs.Target.{target}

abbrev pub source_in : List ℕ → Arguments → Source
source_in file a = record { file = file; contract = a.contract }

abbrev pub checks : Arguments → List (List ℕ) → Option Request
checks a [] = None
checks a (file ∷ []) = Some (form.Check (source_in file a))
checks a (file ∷ other ∷ words) = None

abbrev pub lists : Arguments → List (List ℕ) → Option Request
lists a [] = None
lists a (file ∷ []) = Some (form.Targets (source_in file a))
lists a (file ∷ other ∷ words) = None

abbrev pub replays_at : Source → List ℕ → Option Site → Option Request
replays_at source script None = None
replays_at source script (Some site) = Some (form.Replay source script site)

abbrev pub replays : Arguments → List (List ℕ) → Option Request
replays a [] = None
replays a (file ∷ []) = None
replays a (file ∷ script ∷ []) = None
replays a (file ∷ script ∷ word ∷ []) = replays_at (source_in file a) script (target word)
replays a (file ∷ script ∷ word ∷ other ∷ words) = None

-- by the command, what the words behind it ask
abbrev pub asked : List ℕ → Arguments → Option Request
asked command a =
    if bytes_eq command (codes "check") then checks a a.words
    else (if bytes_eq command (codes "targets") then lists a a.words
    else (if bytes_eq command (codes "replay") then replays a a.words
    else None))

abbrev pub asked_if : List ℕ → Option Arguments → Option Request
asked_if command None = None
asked_if command (Some a) = asked command a

abbrev pub request : List (List ℕ) → Option Request
request [] = None
request (command ∷ words) = asked_if command (arguments nothing false words)

abbrev pub source_of : Request → Source
source_of (form.Check source) = source
source_of (form.Targets source) = source
source_of (form.Replay source script site) = source
