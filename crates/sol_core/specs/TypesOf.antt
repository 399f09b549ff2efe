-- The type of an expression whose parts have the types that their places need.
use Rattle.std.specs.Prelude.{ℕ, List, [], ◌∷◌, length, Option, Some, None, Bool, true, false, ◌&&◌, ◌==◌, nat_lt, if◌then◌else◌, slice_get}
use lib.IntN.{ℤ}
use Rattle.chc_nums.specs.declared.Ty.{Ty}
use Rattle.chc_nums.specs.declared.Ty.TheVariants as ty
use Rattle.sol_core.specs.declared.program.Cmp.{Cmp}
use Rattle.sol_core.specs.declared.program.Cmp.TheVariants as cmp
use Rattle.sol_core.specs.declared.program.Expr.{Expr}
use Rattle.sol_core.specs.declared.program.Expr.TheOpen.{Expr-F}
use Rattle.sol_core.specs.declared.program.Expr.TheFolds.{fold-Expr}
use Rattle.sol_core.specs.declared.program.Fun.{Fun}
use Rattle.sol_core.specs.declared.program.MapTy.{MapTy}
use Rattle.sol_core.specs.declared.program.PanicSites.{PanicSites}
use Rattle.sol_core.specs.declared.program.Program.{Program}
use Rattle.sol_core.specs.Values.{is_type, is_integer, is_unsigned, same_type, in_range}
use Rattle.sol_core.specs.Doors.{params_of}

-- a number is a place in a list
abbrev pub is_place : {A : Type 0} → List A → ℕ → Bool
is_place xs i = nat_lt i (length xs)

abbrev pub is_place_if : {A : Type 0} → List A → Option ℕ → Bool
is_place_if xs None = true
is_place_if xs (Some i) = is_place xs i

-- the targets of an operation exist
abbrev pub are_sites : Program → PanicSites → Bool
are_sites p m = is_place_if p.sites m.under && (is_place_if p.sites m.over && is_place_if p.sites m.zero)

-- an expression has a type
abbrev pub has : Ty → Option Ty → Bool
has t None = false
has t (Some u) = same_type u t

-- expressions have some types, in order, and are as many
abbrev pub have : List Ty → List (Option Ty) → Bool
have [] [] = true
have [] (e ∷ es) = false
have (t ∷ ts) [] = false
have (t ∷ ts) (e ∷ es) = has t e && have ts es

-- an expression has some type, and another one has the same
abbrev pub alike : Option Ty → Option Ty → Bool
alike None e = false
alike (Some t) e = has t e

abbrev pub has_integer : Option Ty → Bool
has_integer None = false
has_integer (Some t) = is_integer t

abbrev pub has_unsigned : Option Ty → Bool
has_unsigned None = false
has_unsigned (Some t) = is_unsigned t

abbrev pub has_some : Option Ty → Bool
has_some None = false
has_some (Some t) = true

abbrev pub when : Bool → Option Ty → Option Ty
when b t = if b then t else None

-- a mapping's value at keys of its types
abbrev pub read_type : Option MapTy → List (Option Ty) → Option Ty
read_type None es = None
read_type (Some m) es = when (have m.keys es) (Some m.val)

-- the type of what a function returns
abbrev pub return_at : List Ty → Option ℕ → Option Ty
return_at locals None = None
return_at locals (Some r) = slice_get locals r

abbrev pub return_of : Fun → Option Ty
return_of f = return_at f.locals f.ret

-- the value of a call of a function that is view or pure
abbrev pub call_type : Option Fun → List (Option Ty) → Option Ty
call_type None es = None
call_type (Some f) es = when (f.view && have (params_of f) es) (return_of f)

-- integers are ordered, and values of any type may be equal
abbrev pub comparable : Cmp → Option Ty → Option Ty → Bool
comparable cmp.Lt a b = has_integer a && alike a b
comparable cmp.Le a b = has_integer a && alike a b
comparable cmp.Gt a b = has_integer a && alike a b
comparable cmp.Ge a b = has_integer a && alike a b
comparable cmp.Eq a b = alike a b
comparable cmp.Ne a b = alike a b

-- One line for each form, from the types of its parts. The locals are those of the function around; an initialiser has none.
unfoldable pub type_step : Program → List Ty → Expr-F (Option Ty) → Option Ty
type_step p locals (Expr-F.Num z t) = when (is_type t && in_range t z) (Some t)
type_step p locals (Expr-F.Local i) = slice_get locals i
type_step p locals (Expr-F.Scalar i) = slice_get p.scalars i
type_step p locals (Expr-F.MapAt m es) = read_type (slice_get p.maps m) es
type_step p locals (Expr-F.ElemAt a e site) = when (has_unsigned e && is_place p.sites site) (slice_get p.arrays a)
type_step p locals (Expr-F.Len a) = when (is_place p.arrays a) (Some (ty.Uint 12))
type_step p locals Expr-F.Sender = Some ty.Addr
type_step p locals (Expr-F.Arith o t checked a b m) = when (is_integer t && (has t a && (has t b && are_sites p m))) (Some t)
type_step p locals (Expr-F.Compare c a b) = when (comparable c a b) (Some ty.Bool)
type_step p locals (Expr-F.Not a) = when (has ty.Bool a) (Some ty.Bool)
type_step p locals (Expr-F.Both a b) = when (has ty.Bool a && has ty.Bool b) (Some ty.Bool)
type_step p locals (Expr-F.Either a b) = when (has ty.Bool a && has ty.Bool b) (Some ty.Bool)
type_step p locals (Expr-F.Pick c a b) = when (has ty.Bool c && alike a b) a
type_step p locals (Expr-F.Cast s t a) = when (is_integer s && (is_integer t && has s a)) (Some t)
type_step p locals (Expr-F.Call f es) = call_type (slice_get p.funs f) es

unfoldable pub type_of : Program → List Ty → Expr → Option Ty
type_of p locals e = fold-Expr (Option Ty) (type_step p locals) e
