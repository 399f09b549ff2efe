-- What a rule system says of a program.
use Rattle.std.specs.Prelude.{ℕ, ◌≡◌, List, length, Some, slice_get, true}
use Rattle.std.specs.List.{list_all}
use Rattle.chc_form.specs.declared.Query.{Query}
use Rattle.chc_form.specs.declared.System.{System}
use Rattle.chc_form.specs.declared.Lemma.{Lemma}
use Rattle.chc_form.specs.WellMade.{of_system}
use Rattle.chc_form.specs.Solving.{Solves, Refutes}
use Rattle.chc_form.specs.Derivations.{Derivable}
use Rattle.sol_core.specs.declared.Program.{Program}
use Rattle.sol_core.specs.declared.Script.{Script}
use Rattle.sol_core.specs.Fits.{Fits}
use Rattle.sol_meaning.specs.Run.{Violates}

-- a target whose query is refuted by lemmas that solve the system is violated by no script, in any number of turns
abbrev pub Sound : System → Program → Type 0
Sound s p = (lemmas : List Lemma) → list_all (of_system s) lemmas ≡ true → Solves s lemmas → (t : ℕ) → Refutes s t lemmas → (x : Script) → Fits p x → (n : ℕ) → Violates p t x n → ⊥

-- what the system derives is violated by some script, and what some script violates is derived
pub record Exact (s : System) (p : Program) : Type 0 where
  pub scripts : (t : ℕ) → Derivable s t → (x : Script) × (n : ℕ) × Fits p x × Violates p t x n
  pub derivations : (t : ℕ) (x : Script) (n : ℕ) → Fits p x → Violates p t x n → Derivable s t

-- one query for each target, in the order of their numbers
pub record Asks (s : System) (p : Program) : Type 0 where
  pub count : length s.queries ≡ length p.sites
  pub targets : (k : ℕ) (q : Query) → slice_get s.queries k ≡ Some q → q.target ≡ k
