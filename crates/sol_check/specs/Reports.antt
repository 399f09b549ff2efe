-- What a report says of a contract.
use Rattle.std.specs.Prelude.{◌≡◌, ℕ, List, [], ◌∷◌, length, true}
use Rattle.std.specs.Arc.{arc_value}
use Rattle.chc_form.specs.declared.System.{System}
use Rattle.chc_form.specs.declared.Lemma.{Lemma}
use Rattle.chc_form.specs.Solving.{Solves}
use Rattle.chc_form.specs.WellMade.{well_made}
use Rattle.chc_encode.specs.Sound.{Sound, Exact, Asks}
use Rattle.chc_templates.specs.Candidates.{candidates_of}
use Rattle.chc_houdini.specs.Drops.{RightDrops, kept}
use Rattle.pool_state.specs.Content.{Content, IsPool}
use Rattle.sol_core.specs.declared.Program.{Program}
use Rattle.sol_first.specs.declared.Contract.{Contract}
use Rattle.sol_first.specs.Elaborated.{program_of}
use Rattle.sol_report.specs.declared.Report.{Report}
use Rattle.sol_check.specs.Verdicts.{Basis, VerdictsStand, limits}

-- the rules are those of the program: lemmas that solve them and refute a target's query leave no script that violates the
-- target; a target is derived exactly where some script violates it; and query k asks of target k
pub record IsSystemOf (s : System) (p : Program) : Type 0 where
  pub well : well_made s ≡ true
  pub sound : Sound s p
  pub exact : Exact s p
  pub asks : Asks s p

-- what a pool holds whose one batch is these lemmas, of worker 0 and over no lemmas; where there are none, it has no batch
abbrev pub first_content : System → List Lemma → Content
first_content s [] = record { system = s; batches = []; lemmas = [] }
first_content s (l ∷ ls) = record { system = s; batches = (record { worker = 0; base = 0; len = length (l ∷ ls) }) ∷ []; lemmas = l ∷ ls }

-- the pool holds the kept lemmas as its one batch, and its lemmas solve the rules
pub record IsPoolOf (s : System) (ls : List Lemma) (c : Content) : Type 0 where
  pub holds : c ≡ first_content s ls
  pub keeps : IsPool c
  pub solves : Solves s c.lemmas

-- what the verdicts of a report rest on
abbrev pub basis_of : Report → Basis
basis_of r = record {
  program = r.program;
  system = arc_value r.system;
  drops = r.drops;
  kept = kept r.drops (candidates_of (arc_value r.system));
  pool = r.pool.lemmas;
}

-- the program is that of the contract, and the rules are the program's; the drops of the template rounds are right, and the pool
-- holds the candidates that were kept; and there is one right verdict per target, in order
pub record IsReportOf (c : Contract) (r : Report) : Type 0 where
  pub program : r.program ≡ program_of c
  pub system : IsSystemOf (arc_value r.system) r.program
  pub rounds : ℕ
  pub drops : RightDrops (arc_value r.system) limits (candidates_of (arc_value r.system)) r.drops rounds
  pub pool : IsPoolOf (arc_value r.system) (kept r.drops (candidates_of (arc_value r.system))) r.pool
  pub verdicts : VerdictsStand (basis_of r) 0 r.verdicts
  pub targets : length r.verdicts ≡ length r.program.sites
