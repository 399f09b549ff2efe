-- What the driver finds, step by step; what it says of the text stands in `Stands`.
use Rattle.std.specs.Prelude.{◌≡◌, ℕ, suc, List, [], ◌∷◌, length, Option, Some, None}
use Rattle.std.specs.Arc.{arc_value}
use Rattle.chc_form.specs.declared.System.{System}
use Rattle.chc_form.specs.declared.Lemma.{Lemma}
use Rattle.chc_form.specs.declared.Part.TheVariants as part
use Rattle.chc_nums.specs.declared.limits.TheConstants.{MAX_TURNS}
use Rattle.chc_reduce.specs.Reduced.{reduced}
use Rattle.chc_ask.specs.declared.Open.{Open}
use Rattle.chc_ask.specs.declared.Asked.TheVariants as asked
use Rattle.chc_ask.specs.Asked.{asked_of}
use Rattle.chc_houdini.specs.declared.RoundStop.{RoundStop}
use Rattle.chc_houdini.specs.declared.Greatest.{Greatest}
use Rattle.chc_houdini.specs.Proofs.{AllAsked}
use Rattle.chc_reduce.specs.Obligations.{obligations}
use Rattle.chc_houdini.specs.Drops.{RightDrops, kept}
use Rattle.chc_templates.specs.Candidates.{candidates_of}
use Rattle.sol_core.specs.declared.Program.{Program}
use Rattle.sol_probe.specs.FirstHit.{IsFirstHit}
use Rattle.sol_report.specs.declared.Stop.{Stop}
use Rattle.sol_report.specs.declared.Stop.TheVariants as stop
use Rattle.sol_report.specs.declared.Verdict.{Verdict}
use Rattle.sol_report.specs.declared.Verdict.TheVariants as verdict
use Rattle.sol_report.specs.declared.Report.{Report}
use Rattle.sol_check.specs.Verdicts.{first_of_limit, limits}
use Rattle.sol_check.specs.Reports.{IsPoolOf}

-- why templates leave a target open, whose own query stays open so
abbrev pub stop_by : Option RoundStop → Open → Stop
stop_by None o = stop.Target o
stop_by (Some d) o = stop.Round d

-- what probes say of a target whose query stays open so
abbrev pub IsProbed : Program → List RoundStop → ℕ → Open → Verdict → Type 0
IsProbed p drops t left (verdict.Safe ms n) = ⊥
IsProbed p drops t left (verdict.Unsafe x n) = (n ≡ MAX_TURNS) × IsFirstHit p t (Some x)
IsProbed p drops t left (verdict.Unknown why o seen tries) = (o ≡ left) × IsFirstHit p t None × (why ≡ stop_by (first_of_limit drops) o) × (seen ≡ 0) × (tries ≡ 0)

-- what was found of a target: the answer under lemmas, and then by probes
abbrev pub VerdictFound : Program → System → List RoundStop → List Lemma → ℕ → Verdict → Type 0
VerdictFound p s drops ls t (verdict.Safe ms n) = (n ≡ length ls) × (asked_of limits (reduced s (part.Query t) None ls) ≡ asked.Refuted ms)
VerdictFound p s drops ls t (verdict.Unsafe x n) = (n ≡ MAX_TURNS) × IsFirstHit p t (Some x)
VerdictFound p s drops ls t (verdict.Unknown why o seen tries) = (asked_of limits (reduced s (part.Query t) None ls) ≡ asked.Open o) × IsFirstHit p t None × (why ≡ stop_by (first_of_limit drops) o) × (seen ≡ 0) × (tries ≡ 0)

-- verdicts on targets in order, from number t on
abbrev pub VerdictsFound : Program → System → List RoundStop → List Lemma → ℕ → List (ℕ × Verdict) → Type 0
VerdictsFound p s drops ls t [] = Unit {0}
VerdictsFound p s drops ls t (v ∷ vs) = (v.0 ≡ t) × VerdictFound p s drops ls t v.1 × VerdictsFound p s drops ls (suc t) vs

-- what the rounds over the candidates of a system give
pub record IsGreatest (s : System) (g : Greatest) : Type 0 where
  pub right : RightDrops s limits (candidates_of s) g.drops g.rounds
  pub kept : g.lemmas ≡ kept g.drops (candidates_of s)
  pub proofs : AllAsked limits (obligations s [] g.lemmas) g.proofs

-- what was found of a program and its rules
pub record IsReported (p : Program) (s : System) (r : Report) : Type 0 where
  pub program : r.program ≡ p
  pub system : arc_value r.system ≡ s
  pub rounds : ℕ
  pub drops : RightDrops s limits (candidates_of s) r.drops rounds
  pub pool : IsPoolOf s (kept r.drops (candidates_of s)) r.pool
  pub verdicts : VerdictsFound p s r.drops r.pool.lemmas 0 r.verdicts
  pub targets : length r.verdicts ≡ length p.sites
