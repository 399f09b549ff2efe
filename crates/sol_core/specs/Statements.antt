-- Which statements have parts of the types that their places need.
use Rattle.std.specs.Prelude.{ℕ, List, [], ◌∷◌, map, Option, Some, None, Bool, true, false, not, ◌&&◌, ◌||◌, slice_get}
use Rattle.std.specs.List.{list_all}
use Rattle.chc_nums.specs.declared.Ty.{Ty}
use Rattle.chc_nums.specs.declared.Ty.TheVariants as ty
use Rattle.sol_core.specs.declared.program.Expr.{Expr}
use Rattle.sol_core.specs.declared.program.Place.{Place}
use Rattle.sol_core.specs.declared.program.Place.TheVariants as place
use Rattle.sol_core.specs.declared.program.Stmt.{Stmt}
use Rattle.sol_core.specs.declared.program.Stmt.TheOpen.{Stmt-F}
use Rattle.sol_core.specs.declared.program.Stmt.TheFolds.{fold-Stmt}
use Rattle.sol_core.specs.declared.program.Fun.{Fun}
use Rattle.sol_core.specs.declared.program.OutFun.{OutFun}
use Rattle.sol_core.specs.declared.program.Program.{Program}
use Rattle.sol_core.specs.Values.{is_integer, widens}
use Rattle.sol_core.specs.Doors.{params_of}
use Rattle.sol_core.specs.TypesOf.{type_of, is_place, are_sites, has, have, alike, has_integer, has_unsigned, has_some, when, read_type, return_of}

abbrev pub types_of : Program → List Ty → List Expr → List (Option Ty)
types_of p locals es = map (type_of p locals) es

-- the type of what a place holds
abbrev pub place_type : Program → List Ty → Place → Option Ty
place_type p locals (place.Local i) = slice_get locals i
place_type p locals (place.Scalar i) = slice_get p.scalars i
place_type p locals (place.Map m es) = read_type (slice_get p.maps m) (types_of p locals es)
place_type p locals (place.Elem a e site) = when (has_unsigned (type_of p locals e) && is_place p.sites site) (slice_get p.arrays a)

abbrev pub is_local : Place → Bool
is_local (place.Local i) = true
is_local (place.Scalar i) = false
is_local (place.Map m es) = false
is_local (place.Elem a e site) = false

-- a function that is view or pure writes its locals alone
abbrev pub may_write : Bool → Place → Bool
may_write view q = not view || is_local q

-- a value of the first type, where there is one, may be written as one of the second
abbrev pub stores : Option Ty → Option Ty → Bool
stores None t = false
stores (Some t) None = false
stores (Some t) (Some u) = widens t u

-- what a call returns goes to a place, where it has one
abbrev pub takes_value : Program → List Ty → Bool → Option Place → Option Ty → Bool
takes_value p locals view None ret = true
takes_value p locals view (Some q) ret = may_write view q && stores ret (place_type p locals q)

-- a call of a function; one that is view or pure calls only such
abbrev pub is_call : Program → List Ty → Bool → Option Place → Option Fun → List Expr → Bool
is_call p locals view q None es = false
is_call p locals view q (Some f) es = (not view || f.view) && (have (params_of f) (types_of p locals es) && takes_value p locals view q (return_of f))

-- an external call
abbrev pub is_out : Program → List Ty → Bool → Option Place → Option OutFun → Expr → List Expr → Bool
is_out p locals view q None e es = false
is_out p locals view q (Some f) e es = not view && (has ty.Addr (type_of p locals e) && (have f.params (types_of p locals es) && takes_value p locals view q f.ret))

-- each of some statements is formed, within a loop or not
abbrev pub all_formed : List (Bool → Bool) → Bool → Bool
all_formed [] in_loop = true
all_formed (s ∷ ss) in_loop = s in_loop && all_formed ss in_loop

-- One line for each form. The locals are those of the function around, and whether it is view or pure is told.
unfoldable pub stmt_step : Program → List Ty → Bool → Stmt-F (Bool → Bool) → Bool → Bool
stmt_step p locals view (Stmt-F.Set q e) in_loop = may_write view q && alike (place_type p locals q) (type_of p locals e)
stmt_step p locals view (Stmt-F.Step q o t checked e m) in_loop = may_write view q && (is_integer t && (has t (place_type p locals q) && (has t (type_of p locals e) && are_sites p m)))
stmt_step p locals view (Stmt-F.Push a e) in_loop = not view && alike (slice_get p.arrays a) (type_of p locals e)
stmt_step p locals view (Stmt-F.Pop a site) in_loop = not view && (is_place p.arrays a && is_place p.sites site)
stmt_step p locals view (Stmt-F.Clear a) in_loop = not view && is_place p.arrays a
stmt_step p locals view (Stmt-F.Call q f es) in_loop = is_call p locals view q (slice_get p.funs f) es
stmt_step p locals view (Stmt-F.Out q f e es) in_loop = is_out p locals view q (slice_get p.outs f) e es
stmt_step p locals view (Stmt-F.If c a b) in_loop = has ty.Bool (type_of p locals c) && (all_formed a in_loop && all_formed b in_loop)
stmt_step p locals view (Stmt-F.While c a b) in_loop = has ty.Bool (type_of p locals c) && (all_formed a true && all_formed b true)
stmt_step p locals view (Stmt-F.DoWhile a c) in_loop = all_formed a true && has ty.Bool (type_of p locals c)
stmt_step p locals view Stmt-F.Break in_loop = in_loop
stmt_step p locals view Stmt-F.Continue in_loop = in_loop
stmt_step p locals view Stmt-F.Leave in_loop = true
stmt_step p locals view (Stmt-F.Scope a) in_loop = all_formed a in_loop
stmt_step p locals view (Stmt-F.Require e) in_loop = has ty.Bool (type_of p locals e)
stmt_step p locals view (Stmt-F.Assert e site) in_loop = has ty.Bool (type_of p locals e) && is_place p.sites site
stmt_step p locals view (Stmt-F.Revert es) in_loop = list_all has_some (types_of p locals es)
stmt_step p locals view (Stmt-F.Emit es) in_loop = not view && list_all has_some (types_of p locals es)

unfoldable pub is_stmt : Program → List Ty → Bool → Stmt → Bool → Bool
is_stmt p locals view s in_loop = fold-Stmt (Bool → Bool) (stmt_step p locals view) s in_loop

-- statements of a body or an initialiser, which stand in no loop
abbrev pub are_stmts : Program → List Ty → Bool → List Stmt → Bool → Bool
are_stmts p locals view ss in_loop = list_all (λ s. is_stmt p locals view s in_loop) ss
