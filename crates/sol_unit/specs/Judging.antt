-- What units keep: those of a linearization where its members mean what they mean there, and the events and errors of the file where
-- names mean units alone.
use Rattle.std.specs.Prelude.{ℕ, true, false, ◌+◌, List, [], ◌∷◌, map, Option, Some, None, ◌≡◌, Bool, not, ◌&&◌, Result, Ok, Err, if◌then◌else◌, slice_get}
use Rattle.std.specs.Option.{option_map_or}
use Rattle.sol_tree.specs.declared.file.Unit as units
use Rattle.sol_tree.specs.declared.file.Unit.TheVariants as unit
use Rattle.sol_judged.specs.declared.tables.Declared.{Declared}
use Rattle.sol_judged.specs.declared.fault.TypeFault.{TypeFault}
use Rattle.sol_judged.specs.Judged.{◌>>=◌, IsFault}
use Rattle.sol_judged.specs.Names.{has}
use Rattle.sol_stated.specs.Checks.{Check, pass, all_checks}
use Rattle.sol_stated.specs.Contexts.{Context, Function}
use Rattle.sol_declared.specs.declared.kinds.UnitKind.{UnitKind}
use Rattle.sol_declared.specs.declared.kinds.UnitKind.TheVariants as kind
use Rattle.sol_declared.specs.Members.{judge_members, event, error}
use Rattle.sol_names.specs.Units.{members, is_interface}
use Rattle.sol_unit.specs.declared.scenes.Scene.{Scene}
use Rattle.sol_unit.specs.Lineages.{read_in}
use Rattle.sol_unit.specs.declared.scenes.Shared.{Shared}
use Rattle.sol_unit.specs.Outers.{order_at}
use Rattle.sol_unit.specs.Files.{file_names}
use Rattle.sol_unit.specs.Scenes.{shared_in, scene_with}

-- Ok exactly where there is no fault, with what is kept; or one of the faults; or no memory
abbrev pub Keeps : {A : Type 0} → Check → A → Result A TypeFault → Type 0
Keeps j a (Ok b) = (j ≡ pass) × (b ≡ a)
Keeps j a (Err e) = IsFault j.faults e

-- ---- the units of a linearization

abbrev pub kind_of : units.Unit → UnitKind
kind_of (unit.Contract at a n bs ms) = if a then kind.Abstract else kind.Concrete
kind_of (unit.Interface at n bs ms) = kind.Interface
kind_of (unit.Event at e) = kind.Interface
kind_of (unit.Error at e) = kind.Interface

-- around the members of the unit at a place
abbrev pub context_in : Scene → ℕ → Context
context_in s u = record { declared = s.declared; has_body = s.has_body; unit = u; is_checked = true; in_loop = false; kind = Function None }

abbrev pub judge_unit : Scene → ℕ → units.Unit → Check
judge_unit s u x = judge_members (context_in s u) (kind_of x) (members x)

unfoldable pub judge_place : Scene → List units.Unit → ℕ → Check
judge_place s us u = option_map_or (judge_unit s u) (slice_get us u) pass

abbrev pub judge_units : Scene → List units.Unit → List ℕ → Check
judge_units s us order = all_checks (map (judge_place s us) order)

-- ---- events and errors of the file

abbrev pub judge_alone : Declared → ℕ → units.Unit → Check
judge_alone d u (unit.Contract at a n bs ms) = pass
judge_alone d u (unit.Interface at n bs ms) = pass
judge_alone d u (unit.Event at e) = event (read_in d u) e
judge_alone d u (unit.Error at e) = error (read_in d u) e

abbrev pub judge_all_alone : Declared → ℕ → List units.Unit → Check
judge_all_alone d u [] = pass
judge_all_alone d u (x ∷ xs) = judge_alone d u x >>= λ v. judge_all_alone d (u + 1) xs

-- ---- the whole

-- the units at some places, in the tables of a linearization
unfoldable pub judge_in : List units.Unit → Shared → List ℕ → List ℕ → Check
judge_in us s order places = judge_units (scene_with us s order) us places

-- an interface that isn't in the linearization is judged in its own; a contract that isn't is not judged
abbrev pub is_outside : List ℕ → ℕ → units.Unit → Bool
is_outside lineage u x = is_interface x && not (has lineage u)

abbrev pub judge_own : List units.Unit → Shared → List ℕ → ℕ → units.Unit → Check
judge_own us s lineage u x = if is_outside lineage u x then judge_in us s (order_at s.orders u) (u ∷ []) else pass

abbrev pub judge_all_own : List units.Unit → Shared → List ℕ → ℕ → List units.Unit → Check
judge_all_own us s lineage u [] = pass
judge_all_own us s lineage u (x ∷ xs) = judge_own us s lineage u x >>= λ v. judge_all_own us s lineage (u + 1) xs

abbrev pub judge_with : List units.Unit → Shared → List ℕ → Check
judge_with us s lineage = judge_in us s lineage lineage >>= λ v. judge_all_own us s lineage 0 us

-- a file whose units have these linearizations, for the contract with this one
unfoldable pub judge_file : List units.Unit → List (List ℕ) → List ℕ → Check
judge_file us orders lineage = judge_all_alone (file_names us) 0 us >>= λ v. judge_with us (shared_in us orders) lineage
