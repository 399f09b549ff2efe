-- The functions that an outsider may call.
use Rattle.std.specs.Prelude.{ℕ, List, Option, Some, None, take, slice_get}
use Rattle.std.specs.Option.{option_map}
use Rattle.chc_nums.specs.declared.Ty.{Ty}
use Rattle.sol_core.specs.declared.program.Fun.{Fun}
use Rattle.sol_core.specs.declared.program.Program.{Program}

-- the function at a place, where there is one
abbrev pub fun_at : Program → Option ℕ → Option Fun
fun_at p None = None
fun_at p (Some f) = slice_get p.funs f

-- the function behind a door
abbrev pub door : Program → ℕ → Option Fun
door p d = fun_at p (slice_get p.doors d)

-- the types of a function's parameters
abbrev pub params_of : Fun → List Ty
params_of f = take f.params f.locals
