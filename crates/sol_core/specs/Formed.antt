-- Which programs are formed: numbers are places in the lists that they name, and each part has the type that its place needs.
use Rattle.std.specs.Prelude.{ℕ, ◌^◌, List, [], ◌∷◌, length, Option, Some, None, Bool, true, false, not, ◌&&◌, ◌||◌, ◌==◌, nat_lt, nat_le, if◌then◌else◌, slice_get, bytes_eq}
use Rattle.std.specs.List.{list_all}
use Rattle.chc_nums.specs.declared.Ty.{Ty}
use Rattle.sol_core.specs.declared.program.Build.{Build}
use Rattle.sol_core.specs.declared.program.BuildArg.{BuildArg}
use Rattle.sol_core.specs.declared.program.BuildArg.TheVariants as arg
use Rattle.sol_core.specs.declared.program.Fun.{Fun}
use Rattle.sol_core.specs.declared.program.Kind.{Kind}
use Rattle.sol_core.specs.declared.program.Kind.TheVariants as kind
use Rattle.sol_core.specs.declared.program.MapTy.{MapTy}
use Rattle.sol_core.specs.declared.program.OutFun.{OutFun}
use Rattle.sol_core.specs.declared.program.Program.{Program}
use Rattle.sol_core.specs.declared.program.Site.{Site}
use Rattle.sol_core.specs.Values.{is_type, in_range, widens}
use Rattle.sol_core.specs.Doors.{fun_at, params_of}
use Rattle.sol_core.specs.Statements.{are_stmts}
use Rattle.sol_core.specs.TypesOf.{is_place, is_place_if}

-- ---- state variables and functions

-- one or two keys
abbrev pub is_map : MapTy → Bool
is_map m = (nat_le 1 (length m.keys) && nat_le (length m.keys) 2) && (list_all is_type m.keys && is_type m.val)

abbrev pub is_type_if : Option Ty → Bool
is_type_if None = true
is_type_if (Some t) = is_type t

abbrev pub is_out_fun : OutFun → Bool
is_out_fun f = list_all is_type f.params && is_type_if f.ret

-- every parameter of the deployment and of a function has a type of a size that Solidity has
abbrev pub are_params : Program → Bool
are_params p = list_all is_type p.params && list_all (λ f. list_all is_type (params_of f)) p.funs

abbrev pub is_fun : Program → Fun → Bool
is_fun p f = list_all is_type f.locals && (nat_le f.params (length f.locals) && (is_place_if f.locals f.ret && are_stmts p f.locals f.view f.body false))

-- ---- construction

-- an argument is a number of the parameter's type, or a parameter that converts implicitly to it
abbrev pub converts_to : Ty → Option Ty → Bool
converts_to t None = false
converts_to t (Some u) = widens u t

abbrev pub is_arg : Program → Ty → BuildArg → Bool
is_arg p t (arg.Num z) = is_type t && in_range t z
is_arg p t (arg.Param i) = converts_to t (slice_get p.params i)

abbrev pub are_args : Program → List Ty → List BuildArg → Bool
are_args p [] [] = true
are_args p [] (a ∷ more) = false
are_args p (t ∷ ts) [] = false
are_args p (t ∷ ts) (a ∷ more) = is_arg p t a && are_args p ts more

-- a constructor takes as many arguments as it has parameters, and where there is none there are no arguments
abbrev pub is_constructor : Program → Option Fun → List BuildArg → Bool
is_constructor p None more = false
is_constructor p (Some f) more = are_args p (params_of f) more

abbrev pub is_constructed : Program → Option ℕ → List BuildArg → Bool
is_constructed p None more = are_args p [] more
is_constructed p (Some f) more = is_constructor p (slice_get p.funs f) more

abbrev pub is_build : Program → Build → Bool
is_build p b = are_stmts p [] false b.inits false && is_constructed p b.fun b.args

-- ---- doors

-- a letter, `_` or `$`
abbrev pub begins_word : ℕ → Bool
begins_word b = (nat_le 65 b && nat_le b 90) || ((nat_le 97 b && nat_le b 122) || ((b == 95) || (b == 36)))

-- such a byte, or a digit
abbrev pub goes_on : ℕ → Bool
goes_on b = begins_word b || (nat_le 48 b && nat_le b 57)

abbrev pub is_word : List ℕ → Bool
is_word [] = false
is_word (b ∷ bs) = begins_word b && list_all goes_on bs

abbrev pub named : List ℕ → Option Fun → Bool
named q None = false
named q (Some f) = bytes_eq f.name q

-- a function behind one of some doors has a name
abbrev pub has_door_named : Program → List ℕ → List ℕ → Bool
has_door_named p [] q = false
has_door_named p (d ∷ ds) q = named q (slice_get p.funs d) || has_door_named p ds q

abbrev pub is_door : Program → Option Fun → List ℕ → Bool
is_door p None rest = false
is_door p (Some f) rest = is_word f.name && not (has_door_named p rest f.name)

-- each names a function, and no two of these have one name
abbrev pub are_doors : Program → List ℕ → Bool
are_doors p [] = true
are_doors p (d ∷ ds) = is_door p (slice_get p.funs d) ds && are_doors p ds

-- ---- targets

abbrev pub kind_number : Kind → ℕ
kind_number kind.Assert = 0
kind_number kind.Underflow = 1
kind_number kind.Overflow = 2
kind_number kind.DivByZero = 3
kind_number kind.OutOfBounds = 4
kind_number kind.PopEmptyArray = 5

-- one target stands before another: by line, column and kind number
abbrev pub comes_before : Site → Site → Bool
comes_before a b = nat_lt a.line b.line || ((a.line == b.line) && (nat_lt a.col b.col || ((a.col == b.col) && nat_lt (kind_number a.kind) (kind_number b.kind))))

abbrev pub in_order : Site → List Site → Bool
in_order a [] = true
in_order a (b ∷ bs) = comes_before a b && in_order b bs

abbrev pub are_ordered : List Site → Bool
are_ordered [] = true
are_ordered (a ∷ rest) = in_order a rest

-- ---- the program

abbrev pub are_variables : Program → Bool
are_variables p = list_all is_type p.scalars && (list_all is_map p.maps && (list_all is_type p.arrays && list_all is_type p.params))

abbrev pub are_functions : Program → Bool
are_functions p = list_all (is_fun p) p.funs && (list_all is_out_fun p.outs && list_all (is_build p) p.builds)

abbrev pub formed : Program → Bool
formed p = (are_variables p && are_functions p) && (are_doors p p.doors && (are_ordered p.sites && nat_lt (length p.sites) (2 ^ 31)))
