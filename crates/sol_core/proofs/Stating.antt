-- When each kind of statement is formed.
use Rattle.std.proofs.Common.{◌≡◌, ◌∙◌, sym, ap, refl, ℕ, List, [], ◌∷◌, map, Bool, true, false, not, ◌&&◌, Option, Some, slice_get}
use Rattle.std.specs.List.{list_all}
use Rattle.chc_nums.specs.declared.Ty.{Ty}
use Rattle.chc_nums.specs.declared.Ty.TheVariants as ty
use Rattle.chc_nums.specs.declared.Op.{Op}
use Rattle.sol_core.specs.declared.program.PanicSites.{PanicSites}
use Rattle.sol_core.specs.declared.program.Place.{Place}
use Rattle.sol_core.specs.declared.program.Program.{Program}
use Rattle.sol_core.specs.declared.program.Expr.{Expr}
use Rattle.sol_core.specs.declared.program.Stmt.{Stmt, Set, Step, Push, Pop, Clear, Call, Out, If, While, DoWhile, Break, Continue, Leave, Scope, Require, Assert, Revert, Emit}
use Rattle.sol_core.specs.declared.program.Stmt.TheVariants as rolls
use Rattle.sol_core.specs.declared.program.Stmt.TheOpen.{Stmt-F}
use Rattle.sol_core.specs.declared.program.Stmt.TheFolds.{fold-Stmt, fold-roll-Stmt}
use Rattle.sol_core.specs.Values.{is_integer}
use Rattle.sol_core.specs.TypesOf.{is_place, are_sites, has, alike, has_some, type_of}
use Rattle.sol_core.specs.Statements.{types_of, place_type, may_write, is_call, is_out, all_formed, stmt_step, is_stmt, are_stmts}

-- statements, each by its own result
all-formed : (p : Program) (ls : List Ty) (v : Bool) (ss : List Stmt) (l : Bool) → all_formed (map (is_stmt p ls v) ss) l ≡ are_stmts p ls v ss l
all-formed p ls v [] l = refl
all-formed p ls v (s ∷ ss) l = ap (λ b. is_stmt p ls v s l && b) (all-formed p ls v ss l)

both : {a b c d : Bool} → a ≡ b → c ≡ d → (a && c) ≡ (b && d)
both {a} {b} {c} {d} e f = ap (λ x. x && c) e ∙ ap (λ x. b && x) f

pub stmt-Set : (p : Program) (ls : List Ty) (v : Bool) (q : Place) (e : Expr) (l : Bool) → is_stmt p ls v (Set q e) l ≡ (may_write v q && alike (place_type p ls q) (type_of p ls e))
unfolding is_stmt stmt_step
stmt-Set p ls v q e l = ap (λ (s : Stmt). fold-Stmt (Bool → Bool) (stmt_step p ls v) s l) (sym (rolls.rolls-Set q e)) ∙ ap (λ (f : Bool → Bool). f l) (fold-roll-Stmt (Bool → Bool) (stmt_step p ls v) (Stmt-F.Set q e))

pub stmt-Step : (p : Program) (ls : List Ty) (v : Bool) (q : Place) (o : Op) (t : Ty) (c : Bool) (e : Expr) (m : PanicSites) (l : Bool) → is_stmt p ls v (Step q o t c e m) l ≡ (may_write v q && (is_integer t && (has t (place_type p ls q) && (has t (type_of p ls e) && are_sites p m))))
unfolding is_stmt stmt_step
stmt-Step p ls v q o t c e m l = ap (λ (s : Stmt). fold-Stmt (Bool → Bool) (stmt_step p ls v) s l) (sym (rolls.rolls-Step q o t c e m)) ∙ ap (λ (f : Bool → Bool). f l) (fold-roll-Stmt (Bool → Bool) (stmt_step p ls v) (Stmt-F.Step q o t c e m))

pub stmt-Push : (p : Program) (ls : List Ty) (v : Bool) (a : ℕ) (e : Expr) (l : Bool) → is_stmt p ls v (Push a e) l ≡ (not v && alike (slice_get p.arrays a) (type_of p ls e))
unfolding is_stmt stmt_step
stmt-Push p ls v a e l = ap (λ (s : Stmt). fold-Stmt (Bool → Bool) (stmt_step p ls v) s l) (sym (rolls.rolls-Push a e)) ∙ ap (λ (f : Bool → Bool). f l) (fold-roll-Stmt (Bool → Bool) (stmt_step p ls v) (Stmt-F.Push a e))

pub stmt-Pop : (p : Program) (ls : List Ty) (v : Bool) (a : ℕ) (site : ℕ) (l : Bool) → is_stmt p ls v (Pop a site) l ≡ (not v && (is_place p.arrays a && is_place p.sites site))
unfolding is_stmt stmt_step
stmt-Pop p ls v a site l = ap (λ (s : Stmt). fold-Stmt (Bool → Bool) (stmt_step p ls v) s l) (sym (rolls.rolls-Pop a site)) ∙ ap (λ (f : Bool → Bool). f l) (fold-roll-Stmt (Bool → Bool) (stmt_step p ls v) (Stmt-F.Pop a site))

pub stmt-Clear : (p : Program) (ls : List Ty) (v : Bool) (a : ℕ) (l : Bool) → is_stmt p ls v (Clear a) l ≡ (not v && is_place p.arrays a)
unfolding is_stmt stmt_step
stmt-Clear p ls v a l = ap (λ (s : Stmt). fold-Stmt (Bool → Bool) (stmt_step p ls v) s l) (sym (rolls.rolls-Clear a)) ∙ ap (λ (f : Bool → Bool). f l) (fold-roll-Stmt (Bool → Bool) (stmt_step p ls v) (Stmt-F.Clear a))

pub stmt-Call : (p : Program) (ls : List Ty) (v : Bool) (q : Option Place) (f : ℕ) (es : List Expr) (l : Bool) → is_stmt p ls v (Call q f es) l ≡ (is_call p ls v q (slice_get p.funs f) es)
unfolding is_stmt stmt_step
stmt-Call p ls v q f es l = ap (λ (s : Stmt). fold-Stmt (Bool → Bool) (stmt_step p ls v) s l) (sym (rolls.rolls-Call q f es)) ∙ ap (λ (f : Bool → Bool). f l) (fold-roll-Stmt (Bool → Bool) (stmt_step p ls v) (Stmt-F.Call q f es))

pub stmt-Out : (p : Program) (ls : List Ty) (v : Bool) (q : Option Place) (f : ℕ) (e : Expr) (es : List Expr) (l : Bool) → is_stmt p ls v (Out q f e es) l ≡ (is_out p ls v q (slice_get p.outs f) e es)
unfolding is_stmt stmt_step
stmt-Out p ls v q f e es l = ap (λ (s : Stmt). fold-Stmt (Bool → Bool) (stmt_step p ls v) s l) (sym (rolls.rolls-Out q f e es)) ∙ ap (λ (f : Bool → Bool). f l) (fold-roll-Stmt (Bool → Bool) (stmt_step p ls v) (Stmt-F.Out q f e es))

pub stmt-If : (p : Program) (ls : List Ty) (v : Bool) (c : Expr) (a b : List Stmt) (l : Bool) → is_stmt p ls v (If c a b) l ≡ (has ty.Bool (type_of p ls c) && (are_stmts p ls v a l && are_stmts p ls v b l))
unfolding is_stmt stmt_step
stmt-If p ls v c a b l = ap (λ (s : Stmt). fold-Stmt (Bool → Bool) (stmt_step p ls v) s l) (sym (rolls.rolls-If c a b)) ∙ ap (λ (f : Bool → Bool). f l) (fold-roll-Stmt (Bool → Bool) (stmt_step p ls v) (Stmt-F.If c a b)) ∙ ap (λ b. has ty.Bool (type_of p ls c) && b) (both (all-formed p ls v a l) (all-formed p ls v b l))

pub stmt-While : (p : Program) (ls : List Ty) (v : Bool) (c : Expr) (a b : List Stmt) (l : Bool) → is_stmt p ls v (While c a b) l ≡ (has ty.Bool (type_of p ls c) && (are_stmts p ls v a true && are_stmts p ls v b true))
unfolding is_stmt stmt_step
stmt-While p ls v c a b l = ap (λ (s : Stmt). fold-Stmt (Bool → Bool) (stmt_step p ls v) s l) (sym (rolls.rolls-While c a b)) ∙ ap (λ (f : Bool → Bool). f l) (fold-roll-Stmt (Bool → Bool) (stmt_step p ls v) (Stmt-F.While c a b)) ∙ ap (λ b. has ty.Bool (type_of p ls c) && b) (both (all-formed p ls v a true) (all-formed p ls v b true))

pub stmt-DoWhile : (p : Program) (ls : List Ty) (v : Bool) (a : List Stmt) (c : Expr) (l : Bool) → is_stmt p ls v (DoWhile a c) l ≡ (are_stmts p ls v a true && has ty.Bool (type_of p ls c))
unfolding is_stmt stmt_step
stmt-DoWhile p ls v a c l = ap (λ (s : Stmt). fold-Stmt (Bool → Bool) (stmt_step p ls v) s l) (sym (rolls.rolls-DoWhile a c)) ∙ ap (λ (f : Bool → Bool). f l) (fold-roll-Stmt (Bool → Bool) (stmt_step p ls v) (Stmt-F.DoWhile a c)) ∙ ap (λ b. b && has ty.Bool (type_of p ls c)) (all-formed p ls v a true)

pub stmt-Break : (p : Program) (ls : List Ty) (v : Bool) (l : Bool) → is_stmt p ls v Break l ≡ (l)
unfolding is_stmt stmt_step
stmt-Break p ls v l = ap (λ (s : Stmt). fold-Stmt (Bool → Bool) (stmt_step p ls v) s l) (sym rolls.rolls-Break) ∙ ap (λ (f : Bool → Bool). f l) (fold-roll-Stmt (Bool → Bool) (stmt_step p ls v) Stmt-F.Break)

pub stmt-Continue : (p : Program) (ls : List Ty) (v : Bool) (l : Bool) → is_stmt p ls v Continue l ≡ (l)
unfolding is_stmt stmt_step
stmt-Continue p ls v l = ap (λ (s : Stmt). fold-Stmt (Bool → Bool) (stmt_step p ls v) s l) (sym rolls.rolls-Continue) ∙ ap (λ (f : Bool → Bool). f l) (fold-roll-Stmt (Bool → Bool) (stmt_step p ls v) Stmt-F.Continue)

pub stmt-Leave : (p : Program) (ls : List Ty) (v : Bool) (l : Bool) → is_stmt p ls v Leave l ≡ (true)
unfolding is_stmt stmt_step
stmt-Leave p ls v l = ap (λ (s : Stmt). fold-Stmt (Bool → Bool) (stmt_step p ls v) s l) (sym rolls.rolls-Leave) ∙ ap (λ (f : Bool → Bool). f l) (fold-roll-Stmt (Bool → Bool) (stmt_step p ls v) Stmt-F.Leave)

pub stmt-Scope : (p : Program) (ls : List Ty) (v : Bool) (a : List Stmt) (l : Bool) → is_stmt p ls v (Scope a) l ≡ (are_stmts p ls v a l)
unfolding is_stmt stmt_step
stmt-Scope p ls v a l = ap (λ (s : Stmt). fold-Stmt (Bool → Bool) (stmt_step p ls v) s l) (sym (rolls.rolls-Scope a)) ∙ ap (λ (f : Bool → Bool). f l) (fold-roll-Stmt (Bool → Bool) (stmt_step p ls v) (Stmt-F.Scope a)) ∙ all-formed p ls v a l

pub stmt-Require : (p : Program) (ls : List Ty) (v : Bool) (e : Expr) (l : Bool) → is_stmt p ls v (Require e) l ≡ (has ty.Bool (type_of p ls e))
unfolding is_stmt stmt_step
stmt-Require p ls v e l = ap (λ (s : Stmt). fold-Stmt (Bool → Bool) (stmt_step p ls v) s l) (sym (rolls.rolls-Require e)) ∙ ap (λ (f : Bool → Bool). f l) (fold-roll-Stmt (Bool → Bool) (stmt_step p ls v) (Stmt-F.Require e))

pub stmt-Assert : (p : Program) (ls : List Ty) (v : Bool) (e : Expr) (site : ℕ) (l : Bool) → is_stmt p ls v (Assert e site) l ≡ (has ty.Bool (type_of p ls e) && is_place p.sites site)
unfolding is_stmt stmt_step
stmt-Assert p ls v e site l = ap (λ (s : Stmt). fold-Stmt (Bool → Bool) (stmt_step p ls v) s l) (sym (rolls.rolls-Assert e site)) ∙ ap (λ (f : Bool → Bool). f l) (fold-roll-Stmt (Bool → Bool) (stmt_step p ls v) (Stmt-F.Assert e site))

pub stmt-Revert : (p : Program) (ls : List Ty) (v : Bool) (es : List Expr) (l : Bool) → is_stmt p ls v (Revert es) l ≡ (list_all has_some (types_of p ls es))
unfolding is_stmt stmt_step
stmt-Revert p ls v es l = ap (λ (s : Stmt). fold-Stmt (Bool → Bool) (stmt_step p ls v) s l) (sym (rolls.rolls-Revert es)) ∙ ap (λ (f : Bool → Bool). f l) (fold-roll-Stmt (Bool → Bool) (stmt_step p ls v) (Stmt-F.Revert es))

pub stmt-Emit : (p : Program) (ls : List Ty) (v : Bool) (es : List Expr) (l : Bool) → is_stmt p ls v (Emit es) l ≡ (not v && list_all has_some (types_of p ls es))
unfolding is_stmt stmt_step
stmt-Emit p ls v es l = ap (λ (s : Stmt). fold-Stmt (Bool → Bool) (stmt_step p ls v) s l) (sym (rolls.rolls-Emit es)) ∙ ap (λ (f : Bool → Bool). f l) (fold-roll-Stmt (Bool → Bool) (stmt_step p ls v) (Stmt-F.Emit es))

pub ruleset stating = (stmt-Set, stmt-Step, stmt-Push, stmt-Pop, stmt-Clear, stmt-Call, stmt-Out, stmt-If, stmt-While, stmt-DoWhile, stmt-Break, stmt-Continue, stmt-Leave, stmt-Scope, stmt-Require, stmt-Assert, stmt-Revert, stmt-Emit)
