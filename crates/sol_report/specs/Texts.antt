-- The text of a report, line by line.
use Rattle.std.specs.Prelude.{ℕ, suc, List, [], ◌∷◌, ◌++◌, Option, Some, None, codes, decimal, slice_get, map, length}
use Rattle.std.specs.List.{concat}
use Rattle.chc_ask.specs.declared.Why.{Why}
use Rattle.chc_ask.specs.declared.Why.TheVariants as why
use Rattle.sol_core.specs.Kinds.{kind_word}
use Rattle.sol_core.specs.declared.Site.{Site}
use Rattle.sol_core.specs.declared.Program.{Program}
use Rattle.sol_script.specs.ScriptText.{script_lines}
use Rattle.sol_report.specs.declared.report.Stop.{Stop}
use Rattle.sol_report.specs.declared.report.Stop.TheVariants as stop
use Rattle.sol_report.specs.declared.report.Verdict.{Verdict}
use Rattle.sol_report.specs.declared.report.Verdict.TheVariants as verdict
use Rattle.sol_report.specs.declared.report.Report.{Report}

abbrev pub why_word : Why → List ℕ
why_word (why.Point x d) = codes "point"
why_word why.Wide = codes "wide"
why_word why.Pivots = codes "pivots"
why_word why.Nodes = codes "nodes"

abbrev pub stop_word : Stop → List ℕ
stop_word (stop.Round d) = codes "rounds"
stop_word (stop.Target o) = why_word o.why

-- `safe`, `unsafe`, or `unknown templates A pool B`
abbrev pub verdict_words : Verdict → List ℕ
verdict_words (verdict.Safe ms n) = codes "safe"
verdict_words (verdict.Unsafe x n) = codes "unsafe"
verdict_words (verdict.Unknown s o seen tries) = codes "unknown templates " ++ stop_word s ++ codes " pool " ++ why_word o.why

-- `L:C KIND VERDICT`
abbrev pub site_line : Site → Verdict → List ℕ
site_line s v = decimal s.line ++ codes ":" ++ decimal s.col ++ codes " " ++ kind_word s.kind ++ codes " " ++ verdict_words v ++ codes "\n"

abbrev pub line_at : Option Site → Verdict → List ℕ
line_at None v = []
line_at (Some s) v = site_line s v

-- a line with two spaces before it
abbrev pub indented : List ℕ → List ℕ
indented l = codes "  " ++ l

-- the script of an unsafe target, line by line
abbrev pub violation_lines : Program → Verdict → List (List ℕ)
violation_lines p (verdict.Safe ms n) = []
violation_lines p (verdict.Unsafe x n) = map indented (script_lines p x)
violation_lines p (verdict.Unknown s o seen tries) = []

abbrev pub target_lines : Program → List (ℕ × Verdict) → List (List ℕ)
target_lines p [] = []
target_lines p (v ∷ vs) = (line_at (slice_get p.sites v.0) v.1 ∷ violation_lines p v.1) ++ target_lines p vs

abbrev pub safe_count : List (ℕ × Verdict) → ℕ
safe_count [] = 0
safe_count ((t, verdict.Safe ms n) ∷ vs) = suc (safe_count vs)
safe_count ((t, verdict.Unsafe x n) ∷ vs) = safe_count vs
safe_count ((t, verdict.Unknown s o seen tries) ∷ vs) = safe_count vs

abbrev pub unsafe_count : List (ℕ × Verdict) → ℕ
unsafe_count [] = 0
unsafe_count ((t, verdict.Safe ms n) ∷ vs) = unsafe_count vs
unsafe_count ((t, verdict.Unsafe x n) ∷ vs) = suc (unsafe_count vs)
unsafe_count ((t, verdict.Unknown s o seen tries) ∷ vs) = unsafe_count vs

abbrev pub unknown_count : List (ℕ × Verdict) → ℕ
unknown_count [] = 0
unknown_count ((t, verdict.Safe ms n) ∷ vs) = unknown_count vs
unknown_count ((t, verdict.Unsafe x n) ∷ vs) = unknown_count vs
unknown_count ((t, verdict.Unknown s o seen tries) ∷ vs) = suc (unknown_count vs)

-- `safe S unsafe U unknown K`
abbrev pub count_words : List (ℕ × Verdict) → List ℕ
count_words vs = codes "safe " ++ decimal (safe_count vs) ++ codes " unsafe " ++ decimal (unsafe_count vs) ++ codes " unknown " ++ decimal (unknown_count vs)

-- `targets T safe S unsafe U unknown K`
abbrev pub last_line : List (ℕ × Verdict) → List ℕ
last_line vs = codes "targets " ++ decimal (length vs) ++ codes " " ++ count_words vs ++ codes "\n"

abbrev pub lines_of : Report → List (List ℕ)
lines_of r = target_lines r.program r.verdicts ++ last_line r.verdicts ∷ []

abbrev pub text_of : Report → List ℕ
text_of r = concat (lines_of r)
