-- Whether a program is one that is computed: it has only the forms that the evaluator computes, and the types of its
-- operations and those that its conversions give have sizes that Solidity has, in every body and every initialiser.
use Rattle.std.specs.Prelude.{ℕ, Option, Some, None, Bool, true, false, nat_le, ◌&&◌, Result, Ok, Err, IsTrue}
use Rattle.std.specs.List.{list_all}
use Rattle.chc_nums.specs.declared.Ty.{Ty}
use Rattle.chc_nums.specs.declared.Ty.TheVariants as ty
use Rattle.sol_core.specs.declared.Expr.{Expr}
use Rattle.sol_core.specs.declared.Expr.TheOpen.{Expr-F}
use Rattle.sol_core.specs.declared.Expr.TheFolds.{fold-Expr}
use Rattle.sol_core.specs.declared.Place.{Place}
use Rattle.sol_core.specs.declared.Place.TheVariants as place
use Rattle.sol_core.specs.declared.Stmt.{Stmt}
use Rattle.sol_core.specs.declared.Stmt.TheOpen.{Stmt-F}
use Rattle.sol_core.specs.declared.Stmt.TheFolds.{fold-Stmt}
use Rattle.sol_core.specs.Values.{each}
use Rattle.sol_core.specs.declared.Fun.{Fun}
use Rattle.sol_core.specs.declared.Build.{Build}
use Rattle.sol_core.specs.declared.Program.{Program}
use Rattle.sol_meaning.specs.declared.world.Got.{Got}
use Rattle.sol_meaning.specs.declared.world.Got.TheVariants as got
use Rattle.sol_meaning.specs.declared.world.Spot.{Spot}
use Rattle.sol_meaning.specs.declared.world.Spot.TheVariants as spot

abbrev pub is_size : ℕ → Bool
is_size s = nat_le 1 s && nat_le s 12

-- from 1 to 12 bytes
abbrev pub type_sized : Ty → Bool
type_sized ty.Bool = true
type_sized (ty.Uint s) = is_size s
type_sized (ty.Int s) = is_size s
type_sized ty.Addr = true

abbrev pub expr_layer : Expr-F Bool → Bool
expr_layer (Expr-F.Num n t) = true
expr_layer (Expr-F.Local i) = true
expr_layer (Expr-F.Scalar i) = true
expr_layer (Expr-F.MapAt m es) = false
expr_layer (Expr-F.ElemAt a e site) = e
expr_layer (Expr-F.Len a) = true
expr_layer Expr-F.Sender = true
expr_layer (Expr-F.Arith o t c a b m) = type_sized t && (a && b)
expr_layer (Expr-F.Compare c a b) = a && b
expr_layer (Expr-F.Not a) = a
expr_layer (Expr-F.Both a b) = a && b
expr_layer (Expr-F.Either a b) = a && b
expr_layer (Expr-F.Pick a b c) = a && (b && c)
expr_layer (Expr-F.Cast s t a) = type_sized t && a
expr_layer (Expr-F.Call f es) = each es

-- whether every operation and conversion of an expression is in a type of such a size
unfoldable pub expr_sized : Expr → Bool
expr_sized e = fold-Expr Bool expr_layer e

abbrev pub place_sized : Place → Bool
place_sized (place.Local i) = true
place_sized (place.Scalar i) = true
place_sized (place.Map m es) = false
place_sized (place.Elem a e site) = expr_sized e

abbrev pub place_sized_if : Option Place → Bool
place_sized_if None = true
place_sized_if (Some p) = place_sized p

-- a place that is written and read: entries of mappings are not
abbrev pub spot_sized : Spot → Bool
spot_sized (spot.Local i) = true
spot_sized (spot.Scalar i) = true
spot_sized (spot.Entry m a b) = false
spot_sized (spot.Element a n) = true

-- where a place is found, it is such a place
abbrev pub IsFound : {E : Type 0} → Result (Got Spot) E → Type 0
IsFound (Ok (got.Value s)) = IsTrue (spot_sized s)
IsFound (Ok got.Reverted) = Unit {0}
IsFound (Ok got.Cut) = Unit {0}
IsFound (Err e) = Unit {0}

abbrev pub stmt_layer : Stmt-F Bool → Bool
stmt_layer (Stmt-F.Set p e) = place_sized p && expr_sized e
stmt_layer (Stmt-F.Step p o t c e m) = place_sized p && (type_sized t && expr_sized e)
stmt_layer (Stmt-F.Push a e) = expr_sized e
stmt_layer (Stmt-F.Pop a site) = true
stmt_layer (Stmt-F.Clear a) = true
stmt_layer (Stmt-F.Call p f es) = place_sized_if p && list_all expr_sized es
stmt_layer (Stmt-F.Out p f e es) = place_sized_if p && (expr_sized e && list_all expr_sized es)
stmt_layer (Stmt-F.If e a b) = expr_sized e && (each a && each b)
stmt_layer (Stmt-F.While e a b) = expr_sized e && (each a && each b)
stmt_layer (Stmt-F.DoWhile a e) = each a && expr_sized e
stmt_layer Stmt-F.Break = true
stmt_layer Stmt-F.Continue = true
stmt_layer Stmt-F.Leave = true
stmt_layer (Stmt-F.Scope a) = each a
stmt_layer (Stmt-F.Require e) = expr_sized e
stmt_layer (Stmt-F.Assert e site) = expr_sized e
stmt_layer (Stmt-F.Revert es) = list_all expr_sized es
stmt_layer (Stmt-F.Emit es) = list_all expr_sized es

unfoldable pub stmt_sized : Stmt → Bool
stmt_sized s = fold-Stmt Bool stmt_layer s

abbrev pub fun_sized : Fun → Bool
fun_sized f = list_all stmt_sized f.body

abbrev pub build_sized : Build → Bool
build_sized b = list_all stmt_sized b.inits

abbrev pub is_sized : Program → Bool
is_sized p = list_all fun_sized p.funs && list_all build_sized p.builds
