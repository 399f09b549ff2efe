-- Functions (Solidity's documentation, "Functions"). Functions with a body and constructors are numbered together, as the functions of
-- a program; a function of an interface has the number of its place.
use Rattle.std.specs.Prelude.{ℕ, ◌+◌, List, [], ◌∷◌, ◌++◌, length, Option, Some, None, Bool, ◌||◌}
use Rattle.std.specs.List.{list_any}
use Rattle.sol_tree.specs.declared.file.Fun.{Fun}
use Rattle.sol_tree.specs.declared.file.FunSpecifier.{FunSpecifier}
use Rattle.sol_tree.specs.declared.stmt.Block.{Block}
use Rattle.sol_judged.specs.declared.tables.Function.{Function}
use Rattle.sol_judged.specs.declared.tables.OuterFunction.{OuterFunction}
use Rattle.sol_judged.specs.declared.tables.Meaning.TheVariants as means
use Rattle.sol_judged.specs.Settings.{Setting}
use Rattle.sol_declared.specs.Specifiers.{is_external, is_view, is_pure}
use Rattle.sol_unit.specs.declared.tables.Tables.{Tables}
use Rattle.sol_unit.specs.Reads.{Read, Readable, then_read, read_params, read_returned}
use Rattle.sol_unit.specs.Added.{Added, added_if_read, no_type}

abbrev pub reads_alone : FunSpecifier → Bool
reads_alone m = is_view m || is_pure m

-- the number of a function, where it has a body, and how many have one after it
abbrev pub number_of_body : Option Block → ℕ → Option ℕ
number_of_body None n = None
number_of_body (Some b) n = Some n

abbrev pub after_body : Option Block → ℕ → ℕ
after_body None n = n
after_body (Some b) n = n + 1

-- the parameters of a function and what it returns
unfoldable pub read_outer : Setting → Fun → Read OuterFunction
read_outer w f = then_read (read_params w f.params) (λ ps. then_read (read_returned w f.returns) (λ r. Readable (record { params = ps; ret = r; is_view = list_any reads_alone f.specifiers })))

abbrev pub inner_function : Fun → ℕ → OuterFunction → Function
inner_function f n o = record { params = o.params; ret = o.ret; number = number_of_body f.body n; is_external = list_any is_external f.specifiers; is_view = o.is_view }

unfoldable pub added_function : Fun → OuterFunction → Tables → Added Tables
added_function f o t = record { meaning = means.Function (length t.functions); tables = record t { functions = t.functions ++ inner_function f t.bodies o ∷ []; bodies = after_body f.body t.bodies } }

unfoldable pub function : Setting → Fun → Tables → Added Tables
function w f t = added_if_read (read_outer w f) (added_function f) t

-- a constructor has no name, and a number
abbrev pub constructor : Tables → Added Tables
constructor t = record { meaning = no_type; tables = record t { bodies = t.bodies + 1 } }
