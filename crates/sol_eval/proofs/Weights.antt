-- How large expressions and statements are: what calls of an evaluator's parts go down by.
use Rattle.std.proofs.Common.{◌≡◌, ◌∙◌, sym, ap, refl, ℕ, zero, suc, ◌+◌, ◌<◌, ◌≤◌, Bool, List, [], ◌∷◌, map, length, get_or, arith}
use Rattle.chc_nums.specs.declared.Ty.{Ty}
use Rattle.chc_nums.specs.declared.Op.{Op}
use Rattle.sol_core.specs.declared.Cmp.{Cmp}
use Rattle.sol_core.specs.declared.PanicSites.{PanicSites}
use Rattle.sol_core.specs.declared.Expr.{Expr, MapAt, ElemAt, Arith, Compare, Not, Both, Either, Pick, Cast, Call}
use Rattle.sol_core.specs.declared.Expr.TheVariants as expression
use Rattle.sol_core.specs.declared.Expr.TheOpen.{Expr-F}
use Rattle.sol_core.specs.declared.Expr.TheFolds.{fold-Expr, fold-roll-Expr}
use Rattle.sol_core.specs.declared.Stmt.{Stmt, If, While, DoWhile, Scope}
use Rattle.sol_core.specs.declared.Stmt.TheVariants as statement
use Rattle.sol_core.specs.declared.Stmt.TheOpen.{Stmt-F}
use Rattle.sol_core.specs.declared.Stmt.TheFolds.{fold-Stmt, fold-roll-Stmt}

abbrev pub total : List ℕ → ℕ
total [] = 0
total (n ∷ ns) = n + total ns

abbrev pub weigh : Expr-F ℕ → ℕ
weigh (Expr-F.Num n t) = 1
weigh (Expr-F.Local i) = 1
weigh (Expr-F.Scalar i) = 1
weigh Expr-F.Sender = 1
weigh (Expr-F.MapAt m es) = total es + 1
weigh (Expr-F.ElemAt a e site) = e + 1
weigh (Expr-F.Len a) = 1
weigh (Expr-F.Arith o t c a b m) = a + b + 1
weigh (Expr-F.Compare c a b) = a + b + 1
weigh (Expr-F.Not a) = a + 1
weigh (Expr-F.Both a b) = a + b + 1
weigh (Expr-F.Either a b) = a + b + 1
weigh (Expr-F.Pick a b c) = a + b + c + 1
weigh (Expr-F.Cast s t a) = a + 1
weigh (Expr-F.Call g es) = total es + 1

unfoldable pub weight : Expr → ℕ
weight e = fold-Expr ℕ weigh e

abbrev pub weights : List Expr → ℕ
weights es = total (map weight es)

abbrev pub weigh_statement : Stmt-F ℕ → ℕ
weigh_statement (Stmt-F.Set p e) = 1
weigh_statement (Stmt-F.Step p o t c e m) = 1
weigh_statement (Stmt-F.Push a e) = 1
weigh_statement (Stmt-F.Pop a site) = 1
weigh_statement (Stmt-F.Clear a) = 1
weigh_statement (Stmt-F.Call p g es) = 1
weigh_statement (Stmt-F.Out p g e es) = 1
weigh_statement (Stmt-F.If e a b) = total a + total b + 1
weigh_statement (Stmt-F.While e a b) = total a + total b + 1
weigh_statement (Stmt-F.DoWhile a e) = total a + 1
weigh_statement Stmt-F.Break = 1
weigh_statement Stmt-F.Continue = 1
weigh_statement Stmt-F.Leave = 1
weigh_statement (Stmt-F.Scope a) = total a + 1
weigh_statement (Stmt-F.Require e) = 1
weigh_statement (Stmt-F.Assert e site) = 1
weigh_statement (Stmt-F.Revert es) = 1
weigh_statement (Stmt-F.Emit es) = 1

unfoldable pub size : Stmt → ℕ
size s = fold-Stmt ℕ weigh_statement s

abbrev pub sizes : List Stmt → ℕ
sizes ss = total (map size ss)

pub weight-MapAt : (m : ℕ) (es : List Expr) → weight (MapAt m es) ≡ total (map weight es) + 1
unfolding weight
weight-MapAt m es = ap (λ (z : Expr). fold-Expr ℕ weigh z) (sym (expression.rolls-MapAt m es)) ∙ fold-roll-Expr ℕ weigh (Expr-F.MapAt m es)

pub weight-ElemAt : (a : ℕ) (e : Expr) (site : ℕ) → weight (ElemAt a e site) ≡ weight e + 1
unfolding weight
weight-ElemAt a e site = ap (λ (z : Expr). fold-Expr ℕ weigh z) (sym (expression.rolls-ElemAt a e site)) ∙ fold-roll-Expr ℕ weigh (Expr-F.ElemAt a e site)

pub weight-Arith : (o : Op) (t : Ty) (c : Bool) (a b : Expr) (m : PanicSites) → weight (Arith o t c a b m) ≡ weight a + weight b + 1
unfolding weight
weight-Arith o t c a b m = ap (λ (z : Expr). fold-Expr ℕ weigh z) (sym (expression.rolls-Arith o t c a b m)) ∙ fold-roll-Expr ℕ weigh (Expr-F.Arith o t c a b m)

pub weight-Compare : (c : Cmp) (a b : Expr) → weight (Compare c a b) ≡ weight a + weight b + 1
unfolding weight
weight-Compare c a b = ap (λ (z : Expr). fold-Expr ℕ weigh z) (sym (expression.rolls-Compare c a b)) ∙ fold-roll-Expr ℕ weigh (Expr-F.Compare c a b)

pub weight-Not : (a : Expr) → weight (Not a) ≡ weight a + 1
unfolding weight
weight-Not a = ap (λ (z : Expr). fold-Expr ℕ weigh z) (sym (expression.rolls-Not a)) ∙ fold-roll-Expr ℕ weigh (Expr-F.Not a)

pub weight-Both : (a b : Expr) → weight (Both a b) ≡ weight a + weight b + 1
unfolding weight
weight-Both a b = ap (λ (z : Expr). fold-Expr ℕ weigh z) (sym (expression.rolls-Both a b)) ∙ fold-roll-Expr ℕ weigh (Expr-F.Both a b)

pub weight-Either : (a b : Expr) → weight (Either a b) ≡ weight a + weight b + 1
unfolding weight
weight-Either a b = ap (λ (z : Expr). fold-Expr ℕ weigh z) (sym (expression.rolls-Either a b)) ∙ fold-roll-Expr ℕ weigh (Expr-F.Either a b)

pub weight-Pick : (a b c : Expr) → weight (Pick a b c) ≡ weight a + weight b + weight c + 1
unfolding weight
weight-Pick a b c = ap (λ (z : Expr). fold-Expr ℕ weigh z) (sym (expression.rolls-Pick a b c)) ∙ fold-roll-Expr ℕ weigh (Expr-F.Pick a b c)

pub weight-Cast : (s t : Ty) (a : Expr) → weight (Cast s t a) ≡ weight a + 1
unfolding weight
weight-Cast s t a = ap (λ (z : Expr). fold-Expr ℕ weigh z) (sym (expression.rolls-Cast s t a)) ∙ fold-roll-Expr ℕ weigh (Expr-F.Cast s t a)

pub weight-Call : (g : ℕ) (es : List Expr) → weight (Call g es) ≡ total (map weight es) + 1
unfolding weight
weight-Call g es = ap (λ (z : Expr). fold-Expr ℕ weigh z) (sym (expression.rolls-Call g es)) ∙ fold-roll-Expr ℕ weigh (Expr-F.Call g es)

pub size-If : (e : Expr) (a b : List Stmt) → size (If e a b) ≡ total (map size a) + total (map size b) + 1
unfolding size
size-If e a b = ap (λ (z : Stmt). fold-Stmt ℕ weigh_statement z) (sym (statement.rolls-If e a b)) ∙ fold-roll-Stmt ℕ weigh_statement (Stmt-F.If e a b)

pub size-While : (e : Expr) (a b : List Stmt) → size (While e a b) ≡ total (map size a) + total (map size b) + 1
unfolding size
size-While e a b = ap (λ (z : Stmt). fold-Stmt ℕ weigh_statement z) (sym (statement.rolls-While e a b)) ∙ fold-roll-Stmt ℕ weigh_statement (Stmt-F.While e a b)

pub size-DoWhile : (a : List Stmt) (e : Expr) → size (DoWhile a e) ≡ total (map size a) + 1
unfolding size
size-DoWhile a e = ap (λ (z : Stmt). fold-Stmt ℕ weigh_statement z) (sym (statement.rolls-DoWhile a e)) ∙ fold-roll-Stmt ℕ weigh_statement (Stmt-F.DoWhile a e)

pub size-Scope : (a : List Stmt) → size (Scope a) ≡ total (map size a) + 1
unfolding size
size-Scope a = ap (λ (z : Stmt). fold-Stmt ℕ weigh_statement z) (sym (statement.rolls-Scope a)) ∙ fold-roll-Stmt ℕ weigh_statement (Stmt-F.Scope a)

-- an item is no larger than its list
pub item-within : {A : Type 0} (of : A → ℕ) (xs : List A) (i : ℕ) (x : A) → i < length xs → x ≡ get_or xs i x → of x ≤ total (map of xs)
item-within of [] i x h e = absurd (omega arith)
item-within of (y ∷ ys) zero x h e =
    let same : of x ≡ of y = ap of e in
    let all : total (map of (y ∷ ys)) ≡ of y + total (map of ys) = refl in
    omega arith
item-within of (y ∷ ys) (suc i) x h e =
    let p : i < length ys = omega arith in
    let q : of x ≤ total (map of ys) = item-within of ys i x p e in
    let all : total (map of (y ∷ ys)) ≡ of y + total (map of ys) = refl in
    omega arith

pub ruleset expressions = (weight-MapAt, weight-ElemAt, weight-Arith, weight-Compare, weight-Not, weight-Both, weight-Either, weight-Pick, weight-Cast, weight-Call)

pub ruleset statements = (size-If, size-While, size-DoWhile, size-Scope)
