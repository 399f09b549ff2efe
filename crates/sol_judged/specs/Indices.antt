-- `[ ]` after a mapping or an array (Solidity's documentation, "Mapping Types", "Arrays"). Rule 15.
use Rattle.std.specs.Prelude.{ℕ, List, [], ◌∷◌, ◌++◌, length, Option, Some, None, ◌==◌, ◌+◌, if◌then◌else◌, slice_get}
use lib.IntN.{ℤ}
use Rattle.sol_core.specs.declared.program.Expr.{Expr, Num}
use Rattle.sol_core.specs.declared.program.Place.TheVariants as place
use Rattle.sol_judged.specs.declared.rules.Rule.TheVariants as rule
use Rattle.sol_judged.specs.declared.types.ValueType.{ValueType}
use Rattle.sol_judged.specs.declared.tables.MapType.{MapType}
use Rattle.sol_judged.specs.Settings.{Setting}
use Rattle.sol_judged.specs.declared.findings.Found.TheVariants as is
use Rattle.sol_judged.specs.declared.findings.Value.{Value}
use Rattle.sol_judged.specs.Judged.{Judged, sound, broken, ◌>>=◌}
use Rattle.sol_judged.specs.Types.{program_type, is_unsigned}
use Rattle.sol_judged.specs.LiteralTypes.{smallest}
use Rattle.sol_judged.specs.Found.{Seen, Known, Unknown}
use Rattle.sol_judged.specs.Operands.{side, wanted}

abbrev pub with_key : MapType → ℕ → List Expr → Expr → Judged Seen
with_key map m keys k = sound (Known (if length keys + 1 == length map.keys then is.Place None map.value (place.Map m (keys ++ k ∷ [])) else is.Mapping None m (keys ++ k ∷ [])))

abbrev pub keyed : MapType → ℕ → List Expr → Option ValueType → ℕ → ℕ → Seen → Judged Seen
keyed map m keys None opened first s = broken rule.Index opened Unknown
keyed map m keys (Some t) opened first s = wanted rule.Index opened t first s >>= with_key map m keys

-- a key of a mapping, after those that it has
abbrev pub mapped : Option MapType → ℕ → List Expr → ℕ → ℕ → Seen → Judged Seen
mapped None m keys opened first s = broken rule.Index opened Unknown
mapped (Some map) m keys opened first s = keyed map m keys (slice_get map.keys (length keys)) opened first s

-- a literal index takes its smallest type
abbrev pub place_number : ℕ → Option ValueType → ℤ → Judged (Option Value)
place_number first None z = broken rule.LiteralType first None
place_number first (Some t) z = sound (Some (record { ty = t; expr = Num z (program_type t) }))

unfoldable pub place_value : ℕ → ℕ → Seen → Judged (Option Value)
place_value opened first (Known (is.Literal z)) = place_number first (smallest z) z
place_value opened first s = side rule.Index opened None first s

abbrev pub element : ℕ → ValueType → ℕ → Option Value → Judged Seen
element a t opened None = sound Unknown
element a t opened (Some v) = if is_unsigned v.ty then sound (Known (is.Place None t (place.Elem a v.expr opened))) else broken rule.Index opened Unknown

-- an index; else rule 15 is broken at the `[`
unfoldable pub indexed : Setting → ℕ → Seen → ℕ → Seen → Judged Seen
indexed w opened (Known (is.Mapping name m keys)) first s = mapped (slice_get w.declared.maps m) m keys opened first s
indexed w opened (Known (is.Array name_at a t)) first s = place_value opened first s >>= element a t opened
indexed w opened Unknown first s = sound Unknown
indexed w opened _ first s = broken rule.Index opened Unknown
