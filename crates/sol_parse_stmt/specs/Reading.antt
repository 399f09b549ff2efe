-- Reading statements, as functions on lists of tokens: what stands in front, how many levels it has, and the tokens after it.
use Rattle.std.specs.Prelude.{◌≡◌, ℕ, zero, suc, ◌+◌, max, List, [], ◌∷◌, ◌++◌, length, Bool, true, false, Option, Some, None, if◌then◌else◌, codes}
use Rattle.sol_tree.specs.declared.token.Token.{Token}
use Rattle.sol_tree.specs.declared.token.TokenKind.{TokenKind}
use Rattle.sol_tree.specs.declared.token.TokenKind.TheVariants as kind
use Rattle.sol_tree.specs.declared.types.Identifier.{Identifier}
use Rattle.sol_tree.specs.declared.types.Type as type_tree
use Rattle.sol_tree.specs.declared.expr.ExprTree as tree
use Rattle.sol_tree.specs.declared.expr.Arguments.{Arguments}
use Rattle.sol_tree.specs.declared.expr.Initial.{Initial}
use Rattle.sol_tree.specs.declared.stmt.AssignOp.{AssignOp}
use Rattle.sol_tree.specs.declared.stmt.AssignOp.TheVariants as assign
use Rattle.sol_tree.specs.declared.stmt.StepOp.{StepOp}
use Rattle.sol_tree.specs.declared.stmt.StepOp.TheVariants as step
use Rattle.sol_tree.specs.declared.stmt.Text.{Text}
use Rattle.sol_tree.specs.declared.stmt.Simple.{Simple}
use Rattle.sol_tree.specs.declared.stmt.Simple.TheVariants as simple
use Rattle.sol_tree.specs.declared.stmt.Block.{Block}
use Rattle.sol_tree.specs.declared.stmt.Stmt as stmt
use Rattle.sol_tree.specs.Places.{place_of, type_place_of}
use Rattle.sol_parse_expr.specs.Reading.{Reader, Measured, if_value, then_value, if_tree, then_tree, or_tree, mark_at, word_at, name_at, type_at, expr_at, all_at}
use Rattle.sol_parse_stmt.specs.declared.parts.Head.{Head}
use Rattle.sol_parse_stmt.specs.declared.parts.Sent.{Sent}
use Rattle.sol_parse_stmt.specs.Grammar.{simple_place}

-- ---- one token, or two

abbrev pub is_text : TokenKind → Bool
is_text (kind.Word w) = false
is_text (kind.Number z h) = false
is_text kind.Text = true
is_text (kind.Mark n) = false

unfoldable pub text_at : Reader Text
text_at [] = None
text_at (t ∷ ts) = if is_text t.kind then Some (record { at = t.at }, ts) else None

-- `[TEXT]`
unfoldable pub may_text_at : Reader (Option Text)
may_text_at ts = if_value (text_at ts) (λ t us. Some (Some t, us)) (Some (None, ts))

-- `, TEXT`
unfoldable pub reason_at : Reader Text
reason_at ts = then_value (mark_at (codes ",") ts) (λ p us. text_at us)

-- `[, TEXT]`
unfoldable pub may_reason_at : Reader (Option Text)
may_reason_at ts = if_value (reason_at ts) (λ t us. Some (Some t, us)) (Some (None, ts))

unfoldable pub assign_at : Reader (ℕ × AssignOp)
assign_at ts =
    if_value (mark_at (codes "=") ts) (λ at us. Some ((at, assign.Assign), us)) (
    if_value (mark_at (codes "+=") ts) (λ at us. Some ((at, assign.Add), us)) (
    if_value (mark_at (codes "-=") ts) (λ at us. Some ((at, assign.Subtract), us)) (
    if_value (mark_at (codes "*=") ts) (λ at us. Some ((at, assign.Multiply), us)) (
    if_value (mark_at (codes "/=") ts) (λ at us. Some ((at, assign.Divide), us)) (
    if_value (mark_at (codes "%=") ts) (λ at us. Some ((at, assign.Remainder), us)) None)))))

unfoldable pub step_at : Reader (ℕ × StepOp)
step_at ts =
    if_value (mark_at (codes "++") ts) (λ at us. Some ((at, step.Increment), us)) (
    if_value (mark_at (codes "--") ts) (λ at us. Some ((at, step.Decrement), us)) None)

-- ---- parts of statements; what stands inside has at most d levels

-- `= expr`
unfoldable pub initial_at : ℕ → Measured Initial
initial_at d ts =
    then_value (mark_at (codes "=") ts) (λ at us.
    then_tree (expr_at d 10 us) (λ e h rest.
    Some (record { at = at; value = e }, h, rest)))

-- `[= expr]`
unfoldable pub may_initial_at : ℕ → Measured (Option Initial)
may_initial_at d ts = if_tree (initial_at d ts) (λ i h rest. Some (Some i, h, rest)) (Some (None, 0, ts))

-- `[= expr]` after a type and a name
unfoldable pub initialised_at : ℕ → type_tree.Type → Identifier → ℕ → Measured Simple
initialised_at d t i h ts =
    then_tree (may_initial_at d ts) (λ v n rest.
    Some (simple.Declaration (type_place_of t) t i v, max h n, rest))

-- `ID [= expr]` after a type
unfoldable pub declared_at : ℕ → type_tree.Type → ℕ → Measured Simple
declared_at d t h ts = then_value (name_at ts) (λ i us. initialised_at d t i h us)

-- `type ID [= expr]`
unfoldable pub declaration_at : ℕ → Measured Simple
declaration_at d ts = then_tree (type_at d ts) (λ t h us. declared_at d t h us)

-- `expr` after an operator that assigns
unfoldable pub assigned_at : ℕ → tree.ExprTree → ℕ → ℕ → AssignOp → Measured Simple
assigned_at d e h at o ts =
    then_tree (expr_at d 10 ts) (λ v n rest.
    Some (simple.Assignment (place_of e) e at o v, max h n, rest))

-- how an expression goes on: `aop expr`, `++`, `--` or not at all
unfoldable pub after_at : ℕ → tree.ExprTree → ℕ → Measured Simple
after_at d e h ts =
    if_value (assign_at ts) (λ o us. assigned_at d e h o.0 o.1 us) (
    if_value (step_at ts) (λ o rest. Some (simple.StepAfter (place_of e) e o.0 o.1, h, rest)) (
    Some (simple.Expression (place_of e) e, h, ts)))

unfoldable pub led_at : ℕ → Measured Simple
led_at d ts = then_tree (expr_at d 10 ts) (λ e h rest. after_at d e h rest)

-- `++ expr`, `-- expr`
unfoldable pub step_before_at : ℕ → Measured Simple
step_before_at d ts =
    then_value (step_at ts) (λ o us.
    then_tree (expr_at d 10 us) (λ e h rest.
    Some (simple.StepBefore o.0 o.1 e, h, rest)))

-- `delete expr`
unfoldable pub delete_at : ℕ → Measured Simple
delete_at d ts =
    then_value (word_at (codes "delete") ts) (λ at us.
    then_tree (expr_at d 10 us) (λ e h rest.
    Some (simple.Delete at e, h, rest)))

unfoldable pub simple_at : ℕ → Measured Simple
simple_at d ts =
    or_tree (declaration_at d ts) (
    or_tree (step_before_at d ts) (
    or_tree (delete_at d ts) (
    led_at d ts)))

-- `[simple]`
unfoldable pub may_simple_at : ℕ → Measured (Option Simple)
may_simple_at d ts = if_tree (simple_at d ts) (λ s h rest. Some (Some s, h, rest)) (Some (None, 0, ts))

-- `[expr]`
unfoldable pub may_expr_at : ℕ → Measured (Option tree.ExprTree)
may_expr_at d ts = if_tree (expr_at d 10 ts) (λ e h rest. Some (Some e, h, rest)) (Some (None, 0, ts))

-- `( expr )`
unfoldable pub condition_at : ℕ → Measured tree.ExprTree
condition_at d ts =
    then_value (mark_at (codes "(") ts) (λ p t1.
    then_tree (expr_at d 10 t1) (λ e h t2.
    then_value (mark_at (codes ")") t2) (λ q rest.
    Some (e, h, rest))))

-- `( [args] )`
unfoldable pub arguments_at : ℕ → Measured Arguments
arguments_at d ts =
    then_value (mark_at (codes "(") ts) (λ at t1.
    then_tree (all_at (expr_at d) t1) (λ es h t2.
    then_value (mark_at (codes ")") t2) (λ p rest.
    Some (record { at = at; values = es }, h, rest))))

-- `ID ( [args] ) ;`
unfoldable pub sent_at : ℕ → Measured Sent
sent_at d ts =
    then_value (name_at ts) (λ i t1.
    then_tree (arguments_at d t1) (λ a h t2.
    then_value (mark_at (codes ";") t2) (λ p rest.
    Some (record { name = i; arguments = a }, h, rest))))

-- `[simple] )`, the last part of the head of a `for`
unfoldable pub head_step_at : ℕ → Option Simple → Option tree.ExprTree → ℕ → ℕ → Measured Head
head_step_at d a e h1 h2 ts =
    then_tree (may_simple_at d ts) (λ b h3 us.
    then_value (mark_at (codes ")") us) (λ p rest.
    Some (record { start = a; condition = e; step = b }, max h1 (max h2 h3), rest)))

-- `[expr] ; [simple] )`
unfoldable pub head_condition_at : ℕ → Option Simple → ℕ → Measured Head
head_condition_at d a h1 ts =
    then_tree (may_expr_at d ts) (λ e h2 us.
    then_value (mark_at (codes ";") us) (λ p vs.
    head_step_at d a e h1 h2 vs))

-- `( [simple] ; [expr] ; [simple] )`
unfoldable pub head_at : ℕ → Measured Head
head_at d ts =
    then_value (mark_at (codes "(") ts) (λ p t1.
    then_tree (may_simple_at d t1) (λ a h t2.
    then_value (mark_at (codes ";") t2) (λ q t3.
    head_condition_at d a h t3)))

-- ---- statements without statements inside

-- `simple ;`
unfoldable pub plain_at : ℕ → Measured stmt.Stmt
plain_at d ts =
    then_tree (simple_at d ts) (λ s h us.
    then_value (mark_at (codes ";") us) (λ p rest.
    Some (stmt.Simple (simple_place s) s, h + 1, rest)))

-- `w ;`
unfoldable pub alone_at : List ℕ → Reader ℕ
alone_at w ts =
    then_value (word_at w ts) (λ at us.
    then_value (mark_at (codes ";") us) (λ p rest.
    Some (at, rest)))

-- `break ;`, `continue ;` and `_ ;`
unfoldable pub jump_at : Measured stmt.Stmt
jump_at ts =
    if_value (alone_at (codes "break") ts) (λ at rest. Some (stmt.Break at, 1, rest)) (
    if_value (alone_at (codes "continue") ts) (λ at rest. Some (stmt.Continue at, 1, rest)) (
    if_value (alone_at (codes "_") ts) (λ at rest. Some (stmt.Placeholder at, 1, rest)) None))

-- `return [expr] ;`
unfoldable pub return_at : ℕ → Measured stmt.Stmt
return_at d ts =
    then_value (word_at (codes "return") ts) (λ at t1.
    then_tree (may_expr_at d t1) (λ e h t2.
    then_value (mark_at (codes ";") t2) (λ p rest.
    Some (stmt.Return at e, h + 1, rest))))

-- `emit ID ( [args] ) ;`
unfoldable pub emit_at : ℕ → Measured stmt.Stmt
emit_at d ts =
    then_value (word_at (codes "emit") ts) (λ at us.
    then_tree (sent_at d us) (λ s h rest.
    Some (stmt.Emit at s.name s.arguments, h + 1, rest)))

-- `revert ID ( [args] ) ;`
unfoldable pub revert_with_at : ℕ → Measured stmt.Stmt
revert_with_at d ts =
    then_value (word_at (codes "revert") ts) (λ at us.
    then_tree (sent_at d us) (λ s h rest.
    Some (stmt.RevertWith at s.name s.arguments, h + 1, rest)))

-- `revert ( [TEXT] ) ;`
unfoldable pub revert_at : Measured stmt.Stmt
revert_at ts =
    then_value (word_at (codes "revert") ts) (λ at t1.
    then_value (mark_at (codes "(") t1) (λ p t2.
    then_value (may_text_at t2) (λ t t3.
    then_value (mark_at (codes ")") t3) (λ q t4.
    then_value (mark_at (codes ";") t4) (λ r rest.
    Some (stmt.Revert at t, 1, rest))))))

-- `require ( expr [, TEXT] ) ;`
unfoldable pub require_at : ℕ → Measured stmt.Stmt
require_at d ts =
    then_value (word_at (codes "require") ts) (λ at t1.
    then_value (mark_at (codes "(") t1) (λ p t2.
    then_tree (expr_at d 10 t2) (λ e h t3.
    then_value (may_reason_at t3) (λ t t4.
    then_value (mark_at (codes ")") t4) (λ q t5.
    then_value (mark_at (codes ";") t5) (λ r rest.
    Some (stmt.Require at e t, h + 1, rest)))))))

-- `assert ( expr ) ;`
unfoldable pub assert_at : ℕ → Measured stmt.Stmt
assert_at d ts =
    then_value (word_at (codes "assert") ts) (λ at t1.
    then_tree (condition_at d t1) (λ e h t2.
    then_value (mark_at (codes ";") t2) (λ p rest.
    Some (stmt.Assert at e, h + 1, rest))))

unfoldable pub leaf_at : ℕ → Measured stmt.Stmt
leaf_at d ts =
    or_tree (jump_at ts) (
    or_tree (return_at d ts) (
    or_tree (emit_at d ts) (
    or_tree (revert_with_at d ts) (
    or_tree (revert_at ts) (
    or_tree (require_at d ts) (
    or_tree (assert_at d ts) (
    plain_at d ts)))))))

-- ---- statements with statements inside, which `inner` reads

-- `{stmt}`, k at most, after those of ss
unfoldable pub statements_at : Measured stmt.Stmt → ℕ → List stmt.Stmt → ℕ → Measured (List stmt.Stmt)
statements_at inner zero ss h ts = Some (ss, h, ts)
statements_at inner (suc k) ss h ts = if_tree (inner ts) (λ s n rest. statements_at inner k (ss ++ (s ∷ [])) (max h n) rest) (Some (ss, h, ts))

-- `{ {stmt} }`
unfoldable pub braces_at : Measured stmt.Stmt → Measured Block
braces_at inner ts =
    then_value (mark_at (codes "{") ts) (λ at t1.
    then_tree (statements_at inner (length t1) [] 0 t1) (λ ss h t2.
    then_value (mark_at (codes "}") t2) (λ p rest.
    Some (record { at = at; statements = ss }, h, rest))))

unfoldable pub braced_at : Measured stmt.Stmt → Measured stmt.Stmt
braced_at inner ts = then_tree (braces_at inner ts) (λ b h rest. Some (stmt.Block b.at b.statements, h + 1, rest))

-- `unchecked { {stmt} }`
unfoldable pub unchecked_at : Measured stmt.Stmt → Measured stmt.Stmt
unchecked_at inner ts =
    then_value (word_at (codes "unchecked") ts) (λ at us.
    then_tree (braces_at inner us) (λ b h rest.
    Some (stmt.Unchecked at b.statements, h + 1, rest)))

-- `[else stmt]`
unfoldable pub may_else_at : Measured stmt.Stmt → Measured (Option stmt.Stmt)
may_else_at inner ts =
    if_value (word_at (codes "else") ts) (λ p us. then_tree (inner us) (λ s h rest. Some (Some s, h, rest))) (
    Some (None, 0, ts))

-- `[else stmt]` of an `if`
unfoldable pub otherwise_at : Measured stmt.Stmt → ℕ → tree.ExprTree → stmt.Stmt → ℕ → ℕ → Measured stmt.Stmt
otherwise_at inner at e s h1 h2 ts =
    then_tree (may_else_at inner ts) (λ r h3 rest.
    Some (stmt.If at e s r, max h1 (max h2 h3) + 1, rest))

-- `stmt [else stmt]` of an `if`
unfoldable pub chosen_at : Measured stmt.Stmt → ℕ → tree.ExprTree → ℕ → Measured stmt.Stmt
chosen_at inner at e h1 ts = then_tree (inner ts) (λ s h2 us. otherwise_at inner at e s h1 h2 us)

-- `if ( expr ) stmt [else stmt]`
unfoldable pub if_at : ℕ → Measured stmt.Stmt → Measured stmt.Stmt
if_at d inner ts =
    then_value (word_at (codes "if") ts) (λ at t1.
    then_tree (condition_at d t1) (λ e h t2.
    chosen_at inner at e h t2))

-- the body of a `while`
unfoldable pub repeated_at : Measured stmt.Stmt → ℕ → tree.ExprTree → ℕ → Measured stmt.Stmt
repeated_at inner at e h1 ts =
    then_tree (inner ts) (λ s h2 rest.
    Some (stmt.While at e s, max h1 h2 + 1, rest))

-- `while ( expr ) stmt`
unfoldable pub while_at : ℕ → Measured stmt.Stmt → Measured stmt.Stmt
while_at d inner ts =
    then_value (word_at (codes "while") ts) (λ at t1.
    then_tree (condition_at d t1) (λ e h t2.
    repeated_at inner at e h t2))

-- `while ( expr ) ;` of a `do`
unfoldable pub until_at : ℕ → ℕ → stmt.Stmt → ℕ → Measured stmt.Stmt
until_at d at s h1 ts =
    then_value (word_at (codes "while") ts) (λ p t1.
    then_tree (condition_at d t1) (λ e h2 t2.
    then_value (mark_at (codes ";") t2) (λ q rest.
    Some (stmt.DoWhile at s e, max h1 h2 + 1, rest))))

-- `do stmt while ( expr ) ;`
unfoldable pub do_at : ℕ → Measured stmt.Stmt → Measured stmt.Stmt
do_at d inner ts =
    then_value (word_at (codes "do") ts) (λ at t1.
    then_tree (inner t1) (λ s h t2.
    until_at d at s h t2))

-- the body of a `for`
unfoldable pub headed_at : Measured stmt.Stmt → ℕ → Head → ℕ → Measured stmt.Stmt
headed_at inner at p h1 ts =
    then_tree (inner ts) (λ s h2 rest.
    Some (stmt.For at p.start p.condition p.step s, max h1 h2 + 1, rest))

-- `for ( [simple] ; [expr] ; [simple] ) stmt`
unfoldable pub for_at : ℕ → Measured stmt.Stmt → Measured stmt.Stmt
for_at d inner ts =
    then_value (word_at (codes "for") ts) (λ at t1.
    then_tree (head_at d t1) (λ p h t2.
    headed_at inner at p h t2))

unfoldable pub compound_at : ℕ → Measured stmt.Stmt → Measured stmt.Stmt
compound_at d inner ts =
    or_tree (braced_at inner ts) (
    or_tree (unchecked_at inner ts) (
    or_tree (if_at d inner ts) (
    or_tree (while_at d inner ts) (
    or_tree (do_at d inner ts) (
    for_at d inner ts)))))

-- a statement of at most so many levels
unfoldable pub stmt_at : ℕ → Measured stmt.Stmt
stmt_at zero ts = None
stmt_at (suc d) ts = or_tree (compound_at d (stmt_at d) ts) (leaf_at d ts)

-- a body's block, its statements of at most so many levels
unfoldable pub block_at : ℕ → Measured Block
block_at d ts = braces_at (stmt_at d) ts
