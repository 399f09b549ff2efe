-- When a verdict on a target is right.
use Rattle.std.specs.Prelude.{◌≡◌, ◌⊎◌, ◌≤◌, ℕ, suc, List, [], ◌∷◌, length, take, Option, Some, None}
use lib.IntN.{ℤ}
use Rattle.chc_nums.specs.declared.limits.TheConstants.{MAX_NODES, MAX_PIVOTS, MAX_TURNS}
use Rattle.chc_form.specs.declared.Limits.{Limits}
use Rattle.chc_form.specs.declared.Formula.{Formula}
use Rattle.chc_form.specs.declared.System.{System}
use Rattle.chc_form.specs.declared.Part.TheVariants as part
use Rattle.chc_form.specs.declared.Lemma.{Lemma}
use Rattle.chc_form.specs.Multipliers.{Refutes}
use Rattle.chc_form.specs.Formulas.{FormulaRefuted}
use Rattle.chc_reduce.specs.Reduced.{reduced}
use Rattle.chc_reduce.specs.Rows.{rows_of}
use Rattle.chc_ask.specs.declared.Why.{Why}
use Rattle.chc_ask.specs.declared.Why.TheVariants as why
use Rattle.chc_ask.specs.declared.Open.{Open}
use Rattle.chc_ask.specs.Open.{MeetsLimit, StaysOpen}
use Rattle.chc_houdini.specs.declared.RoundStop.{RoundStop}
use Rattle.sol_core.specs.declared.Program.{Program}
use Rattle.sol_core.specs.declared.Script.{Script}
use Rattle.sol_meaning.specs.Run.{Violates}
use Rattle.sol_core.specs.Fits.{Fits}
use Rattle.sol_probe.specs.FirstHit.{IsFirstHit}
use Rattle.sol_report.specs.declared.Stop.{Stop}
use Rattle.sol_report.specs.declared.Stop.TheVariants as stop
use Rattle.sol_report.specs.declared.Verdict.{Verdict}
use Rattle.sol_report.specs.declared.Verdict.TheVariants as verdict

-- how far each question goes
abbrev pub limits : Limits
limits = record { pivots = MAX_PIVOTS; nodes = MAX_NODES }

-- what verdicts rest on: the program, its rule system, the drops of the template rounds, the lemmas that were kept, and those
-- of the pool
pub record Basis : Type 0 where
  pub program : Program
  pub system : System
  pub drops : List RoundStop
  pub kept : List Lemma
  pub pool : List Lemma

-- the formula of a target's query under lemmas
abbrev pub query_under : Basis → ℕ → List Lemma → Formula
query_under b t ls = reduced b.system (part.Query t) None ls

-- it isn't refuted over fractions, or meets a limit
abbrev pub IsOpen : Formula → Type 0
IsOpen f = (FormulaRefuted f → ⊥) ⊎ MeetsLimit limits f

-- a drop, where it came of a limit, or else a later one
abbrev pub or_later : RoundStop → Why → Option RoundStop → Option RoundStop
or_later d (why.Point x n) later = later
or_later d why.Wide later = Some d
or_later d why.Pivots later = Some d
or_later d why.Nodes later = Some d

-- the first drop that came of a limit
abbrev pub first_of_limit : List RoundStop → Option RoundStop
first_of_limit [] = None
first_of_limit (d ∷ ds) = or_later d d.left.why (first_of_limit ds)

-- why the templates leave a target open: the first drop that came of a limit, where there is one, and else its own query
abbrev pub StopStands : Basis → ℕ → Stop → Type 0
StopStands b t (stop.Round d) = first_of_limit b.drops ≡ Some d
StopStands b t (stop.Target o) = (first_of_limit b.drops ≡ None) × StaysOpen limits (query_under b t b.kept) o

-- the multipliers refute the query under the first n lemmas of the pool; and no script that fits and no number of turns violate
-- the target
pub record IsSafe (b : Basis) (t : ℕ) (ms : List ℤ) (n : ℕ) : Type 0 where
  pub within : n ≤ length b.pool
  pub refutes : Refutes ms (rows_of (query_under b t (take n b.pool)))
  pub never : (x : Script) (k : ℕ) → Fits b.program x → Violates b.program t x k → ⊥

-- the script fits and violates the target within as many turns as a run has at most, and is the first probe that does
pub record IsUnsafe (b : Basis) (t : ℕ) (x : Script) (n : ℕ) : Type 0 where
  pub turns : n ≡ MAX_TURNS
  pub fits : Fits b.program x
  pub violates : Violates b.program t x MAX_TURNS
  pub first : IsFirstHit b.program t (Some x)

-- the query stays open under the kept lemmas, and under the pool's; and no probe violates the target
pub record IsUnknown (b : Basis) (t : ℕ) (templates : Stop) (pool : Open) (seen tries : ℕ) : Type 0 where
  pub under_kept : IsOpen (query_under b t b.kept)
  pub under_pool : IsOpen (query_under b t b.pool)
  pub no_probe : IsFirstHit b.program t None
  pub templates_stop : StopStands b t templates
  pub pool_stop : StaysOpen limits (query_under b t b.pool) pool
  pub nothing_seen : seen ≡ 0
  pub nothing_tried : tries ≡ 0

abbrev pub VerdictStands : Basis → ℕ → Verdict → Type 0
VerdictStands b t (verdict.Safe ms n) = IsSafe b t ms n
VerdictStands b t (verdict.Unsafe x n) = IsUnsafe b t x n
VerdictStands b t (verdict.Unknown s o seen tries) = IsUnknown b t s o seen tries

-- right verdicts on targets in order, from number t on
abbrev pub VerdictsStand : Basis → ℕ → List (ℕ × Verdict) → Type 0
VerdictsStand b t [] = Unit {0}
VerdictsStand b t (v ∷ vs) = (v.0 ≡ t) × VerdictStands b t v.1 × VerdictsStand b (suc t) vs
