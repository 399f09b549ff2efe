-- Which probe of a program is the first that violates a target within as many turns as a run has at most.
use Rattle.std.specs.Prelude.{◌≡◌, ◌==◌, ℕ, List, ◌∷◌, ◌++◌, length, slice_get, Option, Some, None, Bool}
use Rattle.std.specs.List.{Contains, list_any}
use Rattle.chc_nums.specs.declared.limits.TheConstants.{MAX_TURNS}
use Rattle.sol_core.specs.declared.Program.{Program}
use Rattle.sol_core.specs.declared.Script.{Script}
use Rattle.sol_meaning.specs.Run.{run, Violates}
use Rattle.sol_probe.specs.Probes.{probes}

abbrev pub IsFirstHit : Program → ℕ → Option Script → Type 0
IsFirstHit p site None = (s : Script) → Contains (probes p) s → Violates p site s MAX_TURNS → ⊥
IsFirstHit p site (Some s) = (before : List Script) × (after : List Script) × (probes p ≡ before ++ s ∷ after) × Violates p site s MAX_TURNS × ((q : Script) → Contains before q → Violates p site q MAX_TURNS → ⊥)

-- an answer for each target of a program, in order
pub record AreFirstHits (p : Program) (firsts : List (Option Script)) : Type 0 where
  pub count : length firsts ≡ length p.sites
  pub each : (t : ℕ) (o : Option Script) → slice_get firsts t ≡ Some o → IsFirstHit p t o

-- the same as a test
unfoldable pub is_hit : Program → ℕ → Script → Bool
is_hit p site s = list_any (λ t. site == t) (run p s MAX_TURNS).hits
