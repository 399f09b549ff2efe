-- A table of the first scripts that violate each target, and how one more script is noted in it.
use Rattle.std.specs.Prelude.{◌≡◌, ◌<◌, ◌&&◌, ℕ, List, [], ◌∷◌, Option, None, Some, length, get_or, nat_lt, slice_set, is_none, if◌then◌else◌}
use Rattle.std.specs.List.{find}
use Rattle.sol_core.specs.declared.Program.{Program}
use Rattle.sol_core.specs.declared.Script.{Script}
use Rattle.sol_probe.specs.FirstHit.{is_hit}

-- at a target that has none
abbrev pub noted_at : Script → List (Option Script) → ℕ → List (Option Script)
noted_at s firsts t = if nat_lt t (length firsts) && is_none (get_or firsts t None) then slice_set firsts t (Some s) else firsts

-- at those of these targets that have none
abbrev pub noted : Script → List (Option Script) → List ℕ → List (Option Script)
noted s firsts [] = firsts
noted s firsts (t ∷ ts) = noted s (noted_at s firsts t) ts

-- for each target of a program the first of these scripts that violates it
pub record AreFirstOf (p : Program) (scripts : List Script) (firsts : List (Option Script)) : Type 0 where
  pub count : length firsts ≡ length p.sites
  pub each : (t : ℕ) → t < length firsts → get_or firsts t None ≡ find (is_hit p t) scripts
