-- What a statement does to the scope, and which faults it has: one line for each kind of statement. A declaration that is a whole
-- branch or body is in scope after it; a block and a `for` are scopes of their own, and a declaration that is a `for`'s step is
-- in scope in its body.
use Rattle.std.specs.Prelude.{List, [], ◌∷◌, map, Option, Some, None}
use Rattle.sol_tree.specs.declared.expr.ExprTree.{ExprTree}
use Rattle.sol_tree.specs.declared.stmt.Simple.{Simple}
use Rattle.sol_tree.specs.declared.stmt.Stmt.{Stmt}
use Rattle.sol_tree.specs.declared.stmt.Stmt.TheOpen.{Stmt-F}
use Rattle.sol_tree.specs.declared.stmt.Stmt.TheFolds.{fold-Stmt}
use Rattle.sol_judged.specs.Judged.{Judged, sound, ◌>>=◌}
use Rattle.sol_stated.specs.declared.scope.Scope.{Scope}
use Rattle.sol_stated.specs.Contexts.{Context, setting_in, unchecked, looping}
use Rattle.sol_stated.specs.Scopes.{opened, closed}
use Rattle.sol_stated.specs.Values.{condition}
use Rattle.sol_stated.specs.Raising.{emitted, reverted}
use Rattle.sol_stated.specs.Returns.{returned_type, returned, jump, placeholder}
use Rattle.sol_stated.specs.Simples.{staying, judge_simple}

abbrev pub Stated : Type 0
Stated = Context → Scope → Judged Scope

-- ---- parts

-- statements in order
abbrev pub in_order : List Stated → Stated
in_order [] c w = sound w
in_order (s ∷ ss) c w = s c w >>= λ v. in_order ss c v

-- a block is a scope of its own
unfoldable pub block : List Stated → Stated
block ss c w = in_order ss c (opened w) >>= λ v. sound (closed w v)

abbrev pub or_nothing : Option Stated → Stated
or_nothing None c w = sound w
or_nothing (Some s) c w = s c w

-- a condition before which the scope is as after it
unfoldable pub tested : ExprTree → Stated
tested e c w = condition (setting_in c w) e >>= λ x. sound w

abbrev pub simple_or_nothing : Option Simple → Stated
simple_or_nothing None c w = sound w
simple_or_nothing (Some s) c w = judge_simple c s w

abbrev pub tested_or_nothing : Option ExprTree → Stated
tested_or_nothing None c w = sound w
tested_or_nothing (Some e) c w = tested e c w

-- the head of a `for`: its start, its condition and its step
unfoldable pub for_head : Option Simple → Option ExprTree → Option Simple → Stated
for_head start condition step c w = do
  u ← simple_or_nothing start c w
  v ← tested_or_nothing condition c u
  simple_or_nothing step c v

-- ---- a statement

unfoldable pub statement_step : Stmt-F Stated → Stated
statement_step (Stmt-F.Block at statements) c w = block statements c w
statement_step (Stmt-F.Unchecked at statements) c w = block statements (unchecked c) w
statement_step (Stmt-F.Simple at simple) c w = judge_simple c simple w
statement_step (Stmt-F.If at condition chosen otherwise) c w = do
  u ← tested condition c w
  v ← chosen c u
  or_nothing otherwise c v
statement_step (Stmt-F.While at condition body) c w = do
  u ← tested condition c w
  body (looping c) u
statement_step (Stmt-F.DoWhile at body condition) c w = do
  u ← body (looping c) w
  tested condition c u
statement_step (Stmt-F.For at start condition step body) c w = do
  u ← for_head start condition step c (opened w)
  v ← body (looping c) u
  sound (closed w v)
statement_step (Stmt-F.Break at) c w = staying w (jump at c.in_loop)
statement_step (Stmt-F.Continue at) c w = staying w (jump at c.in_loop)
statement_step (Stmt-F.Return at value) c w = staying w (returned (setting_in c w) at (returned_type c.kind) value)
statement_step (Stmt-F.Placeholder at) c w = staying w (placeholder at c.kind)
statement_step (Stmt-F.Emit at event arguments) c w = staying w (emitted (setting_in c w) event arguments)
statement_step (Stmt-F.RevertWith at error arguments) c w = staying w (reverted (setting_in c w) error arguments)
statement_step (Stmt-F.Revert at text) c w = sound w
statement_step (Stmt-F.Require at condition text) c w = tested condition c w
statement_step (Stmt-F.Assert at condition) c w = tested condition c w

unfoldable pub statement : Stmt → Stated
statement s = fold-Stmt Stated statement_step s

-- the statements of a block
abbrev pub judge_block : List Stmt → Stated
judge_block ss = block (map statement ss)
