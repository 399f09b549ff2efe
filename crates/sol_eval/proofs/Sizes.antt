-- What a sized form has: sized parts.
use Rattle.std.proofs.Common.{◌≡◌, ◌∙◌, sym, ap, ℕ, zero, suc, Bool, true, false, ◌&&◌, List, [], ◌∷◌, Option, Some, map, refl, slice_get, nat_le, arith}
use Rattle.std.specs.List.{list_all}
use lib.IntN.{ℤ}
use Rattle.std.proofs.lemmas.Bool.Decides.{nat_tests}
use Rattle.std.proofs.lemmas.Bool.{and_parts}
use Rattle.chc_nums.specs.declared.Ty.{Ty}
use Rattle.chc_nums.specs.declared.Ty.TheVariants as ty
use Rattle.chc_nums.specs.declared.Op.{Op}
use Rattle.chc_nums.specs.Types.{IsType}
use Rattle.sol_core.specs.declared.Cmp.{Cmp}
use Rattle.sol_core.specs.declared.PanicSites.{PanicSites}
use Rattle.sol_core.specs.declared.Place.{Place}
use Rattle.sol_core.specs.declared.Expr.{Expr, Num, Local, Scalar, Sender, MapAt, ElemAt, Len, Arith, Compare, Not, Both, Either, Pick, Cast, Call}
use Rattle.sol_core.specs.declared.Expr.TheVariants as expression
use Rattle.sol_core.specs.declared.Expr.TheOpen.{Expr-F}
use Rattle.sol_core.specs.declared.Expr.TheFolds.{fold-Expr, fold-roll-Expr}
use Rattle.sol_core.specs.declared.Stmt as statement_of
use Rattle.sol_core.specs.declared.Stmt.{Stmt, Set, Step, Push, Pop, Clear, Out, If, While, DoWhile, Break, Continue, Leave, Scope, Require, Assert, Revert, Emit}
use Rattle.sol_core.specs.declared.Stmt.TheVariants as statement
use Rattle.sol_core.specs.declared.Stmt.TheOpen.{Stmt-F}
use Rattle.sol_core.specs.declared.Stmt.TheFolds.{fold-Stmt, fold-roll-Stmt}
use Rattle.sol_core.specs.Values.{each}
use Rattle.sol_eval.specs.Sized.{type_sized, expr_layer, expr_sized, place_sized, place_sized_if, stmt_layer, stmt_sized, fun_sized, build_sized, is_sized}
use Rattle.sol_core.specs.declared.Fun.{Fun}
use Rattle.sol_core.specs.declared.Program.{Program}

pub type_size : (t : Ty) → type_sized t ≡ true → IsType t
type_size ty.Bool h = tt
type_size (ty.Uint s) h = let p = and_parts (nat_le 1 s) (nat_le s 12) h in (grind (arith, nat_tests), grind (arith, nat_tests))
type_size (ty.Int s) h = let p = and_parts (nat_le 1 s) (nat_le s 12) h in (grind (arith, nat_tests), grind (arith, nat_tests))
type_size ty.Addr h = tt

-- a test of every part
each-part : {A : Type 0} (test : A → Bool) (xs : List A) → each (map test xs) ≡ list_all test xs
each-part test [] = refl
each-part test (x ∷ xs) = ap (λ (b : Bool). test x && b) (each-part test xs)

pub sized-Num : (n : ℤ) (t : Ty) → expr_sized (Num n t) ≡ true
unfolding expr_sized
sized-Num n t = ap (λ (z : Expr). fold-Expr Bool expr_layer z) (sym (expression.rolls-Num n t)) ∙ fold-roll-Expr Bool expr_layer (Expr-F.Num n t)

pub sized-Local : (i : ℕ) → expr_sized (Local i) ≡ true
unfolding expr_sized
sized-Local i = ap (λ (z : Expr). fold-Expr Bool expr_layer z) (sym (expression.rolls-Local i)) ∙ fold-roll-Expr Bool expr_layer (Expr-F.Local i)

pub sized-Scalar : (i : ℕ) → expr_sized (Scalar i) ≡ true
unfolding expr_sized
sized-Scalar i = ap (λ (z : Expr). fold-Expr Bool expr_layer z) (sym (expression.rolls-Scalar i)) ∙ fold-roll-Expr Bool expr_layer (Expr-F.Scalar i)

pub sized-Sender : expr_sized Sender ≡ true
unfolding expr_sized
sized-Sender = ap (λ (z : Expr). fold-Expr Bool expr_layer z) (sym expression.rolls-Sender) ∙ fold-roll-Expr Bool expr_layer Expr-F.Sender

pub sized-MapAt : (m : ℕ) (es : List Expr) → expr_sized (MapAt m es) ≡ false
unfolding expr_sized
sized-MapAt m es = ap (λ (z : Expr). fold-Expr Bool expr_layer z) (sym (expression.rolls-MapAt m es)) ∙ fold-roll-Expr Bool expr_layer (Expr-F.MapAt m es)

pub sized-ElemAt : (a : ℕ) (e : Expr) (site : ℕ) → expr_sized (ElemAt a e site) ≡ expr_sized e
unfolding expr_sized
sized-ElemAt a e site = ap (λ (z : Expr). fold-Expr Bool expr_layer z) (sym (expression.rolls-ElemAt a e site)) ∙ fold-roll-Expr Bool expr_layer (Expr-F.ElemAt a e site)

pub sized-Len : (a : ℕ) → expr_sized (Len a) ≡ true
unfolding expr_sized
sized-Len a = ap (λ (z : Expr). fold-Expr Bool expr_layer z) (sym (expression.rolls-Len a)) ∙ fold-roll-Expr Bool expr_layer (Expr-F.Len a)

pub sized-Arith : (o : Op) (t : Ty) (c : Bool) (a b : Expr) (m : PanicSites) → expr_sized (Arith o t c a b m) ≡ (type_sized t && (expr_sized a && expr_sized b))
unfolding expr_sized
sized-Arith o t c a b m = ap (λ (z : Expr). fold-Expr Bool expr_layer z) (sym (expression.rolls-Arith o t c a b m)) ∙ fold-roll-Expr Bool expr_layer (Expr-F.Arith o t c a b m)

pub sized-Compare : (c : Cmp) (a b : Expr) → expr_sized (Compare c a b) ≡ (expr_sized a && expr_sized b)
unfolding expr_sized
sized-Compare c a b = ap (λ (z : Expr). fold-Expr Bool expr_layer z) (sym (expression.rolls-Compare c a b)) ∙ fold-roll-Expr Bool expr_layer (Expr-F.Compare c a b)

pub sized-Not : (a : Expr) → expr_sized (Not a) ≡ expr_sized a
unfolding expr_sized
sized-Not a = ap (λ (z : Expr). fold-Expr Bool expr_layer z) (sym (expression.rolls-Not a)) ∙ fold-roll-Expr Bool expr_layer (Expr-F.Not a)

pub sized-Both : (a b : Expr) → expr_sized (Both a b) ≡ (expr_sized a && expr_sized b)
unfolding expr_sized
sized-Both a b = ap (λ (z : Expr). fold-Expr Bool expr_layer z) (sym (expression.rolls-Both a b)) ∙ fold-roll-Expr Bool expr_layer (Expr-F.Both a b)

pub sized-Either : (a b : Expr) → expr_sized (Either a b) ≡ (expr_sized a && expr_sized b)
unfolding expr_sized
sized-Either a b = ap (λ (z : Expr). fold-Expr Bool expr_layer z) (sym (expression.rolls-Either a b)) ∙ fold-roll-Expr Bool expr_layer (Expr-F.Either a b)

pub sized-Pick : (a b c : Expr) → expr_sized (Pick a b c) ≡ (expr_sized a && (expr_sized b && expr_sized c))
unfolding expr_sized
sized-Pick a b c = ap (λ (z : Expr). fold-Expr Bool expr_layer z) (sym (expression.rolls-Pick a b c)) ∙ fold-roll-Expr Bool expr_layer (Expr-F.Pick a b c)

pub sized-Cast : (s t : Ty) (a : Expr) → expr_sized (Cast s t a) ≡ (type_sized t && expr_sized a)
unfolding expr_sized
sized-Cast s t a = ap (λ (z : Expr). fold-Expr Bool expr_layer z) (sym (expression.rolls-Cast s t a)) ∙ fold-roll-Expr Bool expr_layer (Expr-F.Cast s t a)

pub sized-Call : (g : ℕ) (es : List Expr) → expr_sized (Call g es) ≡ list_all expr_sized es
unfolding expr_sized
sized-Call g es = ap (λ (z : Expr). fold-Expr Bool expr_layer z) (sym (expression.rolls-Call g es)) ∙ fold-roll-Expr Bool expr_layer (Expr-F.Call g es) ∙ each-part expr_sized es

pub sized-Set : (p : Place) (e : Expr) → stmt_sized (Set p e) ≡ (place_sized p && expr_sized e)
unfolding stmt_sized
sized-Set p e = ap (λ (z : Stmt). fold-Stmt Bool stmt_layer z) (sym (statement.rolls-Set p e)) ∙ fold-roll-Stmt Bool stmt_layer (Stmt-F.Set p e)

pub sized-Step : (p : Place) (o : Op) (t : Ty) (c : Bool) (e : Expr) (m : PanicSites) → stmt_sized (Step p o t c e m) ≡ (place_sized p && (type_sized t && expr_sized e))
unfolding stmt_sized
sized-Step p o t c e m = ap (λ (z : Stmt). fold-Stmt Bool stmt_layer z) (sym (statement.rolls-Step p o t c e m)) ∙ fold-roll-Stmt Bool stmt_layer (Stmt-F.Step p o t c e m)

pub sized-Push : (a : ℕ) (e : Expr) → stmt_sized (Push a e) ≡ expr_sized e
unfolding stmt_sized
sized-Push a e = ap (λ (z : Stmt). fold-Stmt Bool stmt_layer z) (sym (statement.rolls-Push a e)) ∙ fold-roll-Stmt Bool stmt_layer (Stmt-F.Push a e)

pub sized-Pop : (a : ℕ) (site : ℕ) → stmt_sized (Pop a site) ≡ true
unfolding stmt_sized
sized-Pop a site = ap (λ (z : Stmt). fold-Stmt Bool stmt_layer z) (sym (statement.rolls-Pop a site)) ∙ fold-roll-Stmt Bool stmt_layer (Stmt-F.Pop a site)

pub sized-Clear : (a : ℕ) → stmt_sized (Clear a) ≡ true
unfolding stmt_sized
sized-Clear a = ap (λ (z : Stmt). fold-Stmt Bool stmt_layer z) (sym (statement.rolls-Clear a)) ∙ fold-roll-Stmt Bool stmt_layer (Stmt-F.Clear a)

pub sized-StmtCall : (p : Option Place) (g : ℕ) (es : List Expr) → stmt_sized (statement_of.Call p g es) ≡ (place_sized_if p && list_all expr_sized es)
unfolding stmt_sized
sized-StmtCall p g es = ap (λ (z : Stmt). fold-Stmt Bool stmt_layer z) (sym (statement.rolls-Call p g es)) ∙ fold-roll-Stmt Bool stmt_layer (Stmt-F.Call p g es)

pub sized-Out : (p : Option Place) (g : ℕ) (e : Expr) (es : List Expr) → stmt_sized (Out p g e es) ≡ (place_sized_if p && (expr_sized e && list_all expr_sized es))
unfolding stmt_sized
sized-Out p g e es = ap (λ (z : Stmt). fold-Stmt Bool stmt_layer z) (sym (statement.rolls-Out p g e es)) ∙ fold-roll-Stmt Bool stmt_layer (Stmt-F.Out p g e es)

pub sized-If : (e : Expr) (a b : List Stmt) → stmt_sized (If e a b) ≡ (expr_sized e && (list_all stmt_sized a && list_all stmt_sized b))
unfolding stmt_sized
sized-If e a b = ap (λ (z : Stmt). fold-Stmt Bool stmt_layer z) (sym (statement.rolls-If e a b)) ∙ fold-roll-Stmt Bool stmt_layer (Stmt-F.If e a b) ∙ ap (λ (y : Bool). expr_sized e && (y && each (map stmt_sized b))) (each-part stmt_sized a) ∙ ap (λ (y : Bool). expr_sized e && (list_all stmt_sized a && y)) (each-part stmt_sized b)

pub sized-While : (e : Expr) (a b : List Stmt) → stmt_sized (While e a b) ≡ (expr_sized e && (list_all stmt_sized a && list_all stmt_sized b))
unfolding stmt_sized
sized-While e a b = ap (λ (z : Stmt). fold-Stmt Bool stmt_layer z) (sym (statement.rolls-While e a b)) ∙ fold-roll-Stmt Bool stmt_layer (Stmt-F.While e a b) ∙ ap (λ (y : Bool). expr_sized e && (y && each (map stmt_sized b))) (each-part stmt_sized a) ∙ ap (λ (y : Bool). expr_sized e && (list_all stmt_sized a && y)) (each-part stmt_sized b)

pub sized-DoWhile : (a : List Stmt) (e : Expr) → stmt_sized (DoWhile a e) ≡ (list_all stmt_sized a && expr_sized e)
unfolding stmt_sized
sized-DoWhile a e = ap (λ (z : Stmt). fold-Stmt Bool stmt_layer z) (sym (statement.rolls-DoWhile a e)) ∙ fold-roll-Stmt Bool stmt_layer (Stmt-F.DoWhile a e) ∙ ap (λ (y : Bool). y && expr_sized e) (each-part stmt_sized a)

pub sized-Break : stmt_sized Break ≡ true
unfolding stmt_sized
sized-Break = ap (λ (z : Stmt). fold-Stmt Bool stmt_layer z) (sym statement.rolls-Break) ∙ fold-roll-Stmt Bool stmt_layer Stmt-F.Break

pub sized-Continue : stmt_sized Continue ≡ true
unfolding stmt_sized
sized-Continue = ap (λ (z : Stmt). fold-Stmt Bool stmt_layer z) (sym statement.rolls-Continue) ∙ fold-roll-Stmt Bool stmt_layer Stmt-F.Continue

pub sized-Leave : stmt_sized Leave ≡ true
unfolding stmt_sized
sized-Leave = ap (λ (z : Stmt). fold-Stmt Bool stmt_layer z) (sym statement.rolls-Leave) ∙ fold-roll-Stmt Bool stmt_layer Stmt-F.Leave

pub sized-Scope : (a : List Stmt) → stmt_sized (Scope a) ≡ list_all stmt_sized a
unfolding stmt_sized
sized-Scope a = ap (λ (z : Stmt). fold-Stmt Bool stmt_layer z) (sym (statement.rolls-Scope a)) ∙ fold-roll-Stmt Bool stmt_layer (Stmt-F.Scope a) ∙ each-part stmt_sized a

pub sized-Require : (e : Expr) → stmt_sized (Require e) ≡ expr_sized e
unfolding stmt_sized
sized-Require e = ap (λ (z : Stmt). fold-Stmt Bool stmt_layer z) (sym (statement.rolls-Require e)) ∙ fold-roll-Stmt Bool stmt_layer (Stmt-F.Require e)

pub sized-Assert : (e : Expr) (site : ℕ) → stmt_sized (Assert e site) ≡ expr_sized e
unfolding stmt_sized
sized-Assert e site = ap (λ (z : Stmt). fold-Stmt Bool stmt_layer z) (sym (statement.rolls-Assert e site)) ∙ fold-roll-Stmt Bool stmt_layer (Stmt-F.Assert e site)

pub sized-Revert : (es : List Expr) → stmt_sized (Revert es) ≡ list_all expr_sized es
unfolding stmt_sized
sized-Revert es = ap (λ (z : Stmt). fold-Stmt Bool stmt_layer z) (sym (statement.rolls-Revert es)) ∙ fold-roll-Stmt Bool stmt_layer (Stmt-F.Revert es)

pub sized-Emit : (es : List Expr) → stmt_sized (Emit es) ≡ list_all expr_sized es
unfolding stmt_sized
sized-Emit es = ap (λ (z : Stmt). fold-Stmt Bool stmt_layer z) (sym (statement.rolls-Emit es)) ∙ fold-roll-Stmt Bool stmt_layer (Stmt-F.Emit es)

-- an entry of a list of sized forms
pub entry-sized : {A : Type 0} (test : A → Bool) (xs : List A) (i : ℕ) (x : A) → list_all test xs ≡ true → slice_get xs i ≡ Some x → test x ≡ true
entry-sized test [] i x h e = absurd (cc)
entry-sized test (y ∷ ys) zero x h e = let p : y ≡ x = cc in let q = and_parts (test y) (list_all test ys) h in rw (← p) q.0
entry-sized test (y ∷ ys) (suc i) x h e = entry-sized test ys i x (and_parts (test y) (list_all test ys) h).1 e

pub first-sized : {A : Type 0} (test : A → Bool) (x : A) (xs : List A) → list_all test (x ∷ xs) ≡ true → test x ≡ true
first-sized test x xs h = (and_parts (test x) (list_all test xs) h).0

pub rest-sized : {A : Type 0} (test : A → Bool) (x : A) (xs : List A) → list_all test (x ∷ xs) ≡ true → list_all test xs ≡ true
rest-sized test x xs h = (and_parts (test x) (list_all test xs) h).1

pub bodies-sized : (p : Program) → is_sized p ≡ true → list_all fun_sized p.funs ≡ true
bodies-sized p h = (and_parts (list_all fun_sized p.funs) (list_all build_sized p.builds) h).0

pub initialisers-sized : (p : Program) → is_sized p ≡ true → list_all build_sized p.builds ≡ true
initialisers-sized p h = (and_parts (list_all fun_sized p.funs) (list_all build_sized p.builds) h).1

pub body_sized : (fs : List Fun) (i : ℕ) (f : Fun) → list_all fun_sized fs ≡ true → slice_get fs i ≡ Some f → fun_sized f ≡ true
body_sized fs i f h e = entry-sized fun_sized fs i f h e

pub ruleset programs = (bodies-sized, initialisers-sized)

-- when each form is sized
pub ruleset sized_expressions = (sized-Num, sized-Local, sized-Scalar, sized-Sender, sized-MapAt, sized-ElemAt, sized-Len, sized-Arith, sized-Compare, sized-Not, sized-Both, sized-Either, sized-Pick, sized-Cast, sized-Call)

pub ruleset sized_statements = (sized-Set, sized-Step, sized-Push, sized-Pop, sized-Clear, sized-StmtCall, sized-Out, sized-If, sized-While, sized-DoWhile, sized-Break, sized-Continue, sized-Leave, sized-Scope, sized-Require, sized-Assert, sized-Revert, sized-Emit)

pub ruleset sized = (sized_expressions, sized_statements)
