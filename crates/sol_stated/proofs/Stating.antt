-- What each kind of statement does.
use Rattle.std.proofs.Common.{◌≡◌, ◌∙◌, sym, ap, ℕ, suc, ◌<◌, List, ◌∷◌, ◌++◌, map, drop, length, get_or, drop-cons, Option, Some, None}
use Rattle.std.specs.Option.{option_map}
use Rattle.sol_tree.specs.declared.expr.ExprTree.{ExprTree}
use Rattle.sol_tree.specs.declared.expr.Arguments.{Arguments}
use Rattle.sol_tree.specs.declared.types.Identifier.{Identifier}
use Rattle.sol_tree.specs.declared.stmt.Simple.{Simple}
use Rattle.sol_tree.specs.declared.stmt.Text.{Text}
use Rattle.sol_tree.specs.declared.stmt.Stmt.{Stmt}
use Rattle.sol_tree.specs.declared.stmt.Stmt as stmt
use Rattle.sol_tree.specs.declared.stmt.Stmt.TheVariants.{rolls-Block, rolls-Unchecked, rolls-Simple, rolls-If, rolls-While, rolls-DoWhile, rolls-For, rolls-Break, rolls-Continue, rolls-Return, rolls-Placeholder, rolls-Emit, rolls-RevertWith, rolls-Revert, rolls-Require, rolls-Assert}
use Rattle.sol_tree.specs.declared.stmt.Stmt.TheOpen.{Stmt-F}
use Rattle.sol_tree.specs.declared.stmt.Stmt.TheFolds.{fold-Stmt, fold-roll-Stmt}
use Rattle.sol_judged.specs.declared.rules.Rule.{Rule}
use Rattle.sol_judged.specs.declared.fault.TypeFault.{TypeFault}
use Rattle.sol_judged.specs.Judged.{Judged, sound, ◌>>=◌, IsFault}
use Rattle.sol_judged.proofs.Faults.{IsFault-front}
use Rattle.sol_stated.specs.declared.scope.Scope.{Scope}
use Rattle.sol_stated.specs.Contexts.{Context, setting_in, unchecked, looping}
use Rattle.sol_stated.specs.Scopes.{opened, closed}
use Rattle.sol_stated.specs.Raising.{emitted, reverted}
use Rattle.sol_stated.specs.Returns.{returned_type, returned, jump, placeholder}
use Rattle.sol_stated.specs.Simples.{staying, judge_simple}
use Rattle.sol_stated.specs.Statements.{Stated, in_order, or_nothing, tested, for_head, statement_step, statement, judge_block}

pub statement-Block : (at : ℕ) (statements : List Stmt) (c : Context) (w : Scope) → statement (stmt.Block at statements) c w ≡ (judge_block statements c w)
unfolding statement statement_step
statement-Block at statements c w = ap (λ (s : Stmt). fold-Stmt Stated statement_step s c w) (sym (rolls-Block at statements)) ∙ ap (λ (f : Stated). f c w) (fold-roll-Stmt Stated statement_step (Stmt-F.Block at statements))

pub statement-Unchecked : (at : ℕ) (statements : List Stmt) (c : Context) (w : Scope) → statement (stmt.Unchecked at statements) c w ≡ (judge_block statements (unchecked c) w)
unfolding statement statement_step
statement-Unchecked at statements c w = ap (λ (s : Stmt). fold-Stmt Stated statement_step s c w) (sym (rolls-Unchecked at statements)) ∙ ap (λ (f : Stated). f c w) (fold-roll-Stmt Stated statement_step (Stmt-F.Unchecked at statements))

pub statement-Simple : (at : ℕ) (simple : Simple) (c : Context) (w : Scope) → statement (stmt.Simple at simple) c w ≡ (judge_simple c simple w)
unfolding statement statement_step
statement-Simple at simple c w = ap (λ (s : Stmt). fold-Stmt Stated statement_step s c w) (sym (rolls-Simple at simple)) ∙ ap (λ (f : Stated). f c w) (fold-roll-Stmt Stated statement_step (Stmt-F.Simple at simple))

pub statement-If : (at : ℕ) (condition : ExprTree) (chosen : Stmt) (otherwise : Option Stmt) (c : Context) (w : Scope) → statement (stmt.If at condition chosen otherwise) c w ≡ (tested condition c w >>= λ u. statement chosen c u >>= λ v. or_nothing (option_map statement otherwise) c v)
unfolding statement statement_step
statement-If at condition chosen None c w = ap (λ (s : Stmt). fold-Stmt Stated statement_step s c w) (sym (rolls-If at condition chosen None)) ∙ ap (λ (f : Stated). f c w) (fold-roll-Stmt Stated statement_step (Stmt-F.If at condition chosen None))
statement-If at condition chosen (Some other) c w = ap (λ (s : Stmt). fold-Stmt Stated statement_step s c w) (sym (rolls-If at condition chosen (Some other))) ∙ ap (λ (f : Stated). f c w) (fold-roll-Stmt Stated statement_step (Stmt-F.If at condition chosen (Some other)))

pub statement-While : (at : ℕ) (condition : ExprTree) (body : Stmt) (c : Context) (w : Scope) → statement (stmt.While at condition body) c w ≡ (tested condition c w >>= λ u. statement body (looping c) u)
unfolding statement statement_step
statement-While at condition body c w = ap (λ (s : Stmt). fold-Stmt Stated statement_step s c w) (sym (rolls-While at condition body)) ∙ ap (λ (f : Stated). f c w) (fold-roll-Stmt Stated statement_step (Stmt-F.While at condition body))

pub statement-DoWhile : (at : ℕ) (body : Stmt) (condition : ExprTree) (c : Context) (w : Scope) → statement (stmt.DoWhile at body condition) c w ≡ (statement body (looping c) w >>= λ u. tested condition c u)
unfolding statement statement_step
statement-DoWhile at body condition c w = ap (λ (s : Stmt). fold-Stmt Stated statement_step s c w) (sym (rolls-DoWhile at body condition)) ∙ ap (λ (f : Stated). f c w) (fold-roll-Stmt Stated statement_step (Stmt-F.DoWhile at body condition))

pub statement-For : (at : ℕ) (start : Option Simple) (condition : Option ExprTree) (step : Option Simple) (body : Stmt) (c : Context) (w : Scope) → statement (stmt.For at start condition step body) c w ≡ (for_head start condition step c (opened w) >>= λ u. statement body (looping c) u >>= λ v. sound (closed w v))
unfolding statement statement_step
statement-For at start condition step body c w = ap (λ (s : Stmt). fold-Stmt Stated statement_step s c w) (sym (rolls-For at start condition step body)) ∙ ap (λ (f : Stated). f c w) (fold-roll-Stmt Stated statement_step (Stmt-F.For at start condition step body))

pub statement-Break : (at : ℕ) (c : Context) (w : Scope) → statement (stmt.Break at) c w ≡ (staying w (jump at c.in_loop))
unfolding statement statement_step
statement-Break at c w = ap (λ (s : Stmt). fold-Stmt Stated statement_step s c w) (sym (rolls-Break at)) ∙ ap (λ (f : Stated). f c w) (fold-roll-Stmt Stated statement_step (Stmt-F.Break at))

pub statement-Continue : (at : ℕ) (c : Context) (w : Scope) → statement (stmt.Continue at) c w ≡ (staying w (jump at c.in_loop))
unfolding statement statement_step
statement-Continue at c w = ap (λ (s : Stmt). fold-Stmt Stated statement_step s c w) (sym (rolls-Continue at)) ∙ ap (λ (f : Stated). f c w) (fold-roll-Stmt Stated statement_step (Stmt-F.Continue at))

pub statement-Return : (at : ℕ) (value : Option ExprTree) (c : Context) (w : Scope) → statement (stmt.Return at value) c w ≡ (staying w (returned (setting_in c w) at (returned_type c.kind) value))
unfolding statement statement_step
statement-Return at value c w = ap (λ (s : Stmt). fold-Stmt Stated statement_step s c w) (sym (rolls-Return at value)) ∙ ap (λ (f : Stated). f c w) (fold-roll-Stmt Stated statement_step (Stmt-F.Return at value))

pub statement-Placeholder : (at : ℕ) (c : Context) (w : Scope) → statement (stmt.Placeholder at) c w ≡ (staying w (placeholder at c.kind))
unfolding statement statement_step
statement-Placeholder at c w = ap (λ (s : Stmt). fold-Stmt Stated statement_step s c w) (sym (rolls-Placeholder at)) ∙ ap (λ (f : Stated). f c w) (fold-roll-Stmt Stated statement_step (Stmt-F.Placeholder at))

pub statement-Emit : (at : ℕ) (event : Identifier) (arguments : Arguments) (c : Context) (w : Scope) → statement (stmt.Emit at event arguments) c w ≡ (staying w (emitted (setting_in c w) event arguments))
unfolding statement statement_step
statement-Emit at event arguments c w = ap (λ (s : Stmt). fold-Stmt Stated statement_step s c w) (sym (rolls-Emit at event arguments)) ∙ ap (λ (f : Stated). f c w) (fold-roll-Stmt Stated statement_step (Stmt-F.Emit at event arguments))

pub statement-RevertWith : (at : ℕ) (error : Identifier) (arguments : Arguments) (c : Context) (w : Scope) → statement (stmt.RevertWith at error arguments) c w ≡ (staying w (reverted (setting_in c w) error arguments))
unfolding statement statement_step
statement-RevertWith at error arguments c w = ap (λ (s : Stmt). fold-Stmt Stated statement_step s c w) (sym (rolls-RevertWith at error arguments)) ∙ ap (λ (f : Stated). f c w) (fold-roll-Stmt Stated statement_step (Stmt-F.RevertWith at error arguments))

pub statement-Revert : (at : ℕ) (text : Option Text) (c : Context) (w : Scope) → statement (stmt.Revert at text) c w ≡ (sound w)
unfolding statement statement_step
statement-Revert at text c w = ap (λ (s : Stmt). fold-Stmt Stated statement_step s c w) (sym (rolls-Revert at text)) ∙ ap (λ (f : Stated). f c w) (fold-roll-Stmt Stated statement_step (Stmt-F.Revert at text))

pub statement-Require : (at : ℕ) (condition : ExprTree) (text : Option Text) (c : Context) (w : Scope) → statement (stmt.Require at condition text) c w ≡ (tested condition c w)
unfolding statement statement_step
statement-Require at condition text c w = ap (λ (s : Stmt). fold-Stmt Stated statement_step s c w) (sym (rolls-Require at condition text)) ∙ ap (λ (f : Stated). f c w) (fold-roll-Stmt Stated statement_step (Stmt-F.Require at condition text))

pub statement-Assert : (at : ℕ) (condition : ExprTree) (c : Context) (w : Scope) → statement (stmt.Assert at condition) c w ≡ (tested condition c w)
unfolding statement statement_step
statement-Assert at condition c w = ap (λ (s : Stmt). fold-Stmt Stated statement_step s c w) (sym (rolls-Assert at condition)) ∙ ap (λ (f : Stated). f c w) (fold-roll-Stmt Stated statement_step (Stmt-F.Assert at condition))

pub ruleset stating = (statement-Block, statement-Unchecked, statement-Simple, statement-If, statement-While, statement-DoWhile, statement-For, statement-Break, statement-Continue, statement-Return, statement-Placeholder, statement-Emit, statement-RevertWith, statement-Revert, statement-Require, statement-Assert)

-- a statement that a loop has come to has a fault of all, and of what follows them
pub stopped : (all : Judged Scope) (more : List (Rule × ℕ)) (f : Stmt → Stated) (i : ℕ) (ss : List Stmt) (s : Stmt) (c : Context) (w : Scope) (e : TypeFault) → all ≡ in_order (map f (drop i ss)) c w → i < length ss → s ≡ get_or ss i s → IsFault (f s c w).faults e → IsFault (all.faults ++ more) e
stopped all more f i ss s c w e h k q p =
    let d = ap (map f) (drop-cons ss i s k) ∙ ap (λ (x : Stmt). f x ∷ map f (drop (suc i) ss)) (sym q) in
    IsFault-front e _ more (rw (h, d) (IsFault-front e _ _ p))

pub ruleset stops = (stopped)
