-- Which tokens spell which statements.
use Rattle.std.specs.Prelude.{◌≡◌, ℕ, Bool, true, false, List, [], ◌∷◌, ◌++◌, Option, Some, None, codes}
use Rattle.sol_tree.specs.declared.token.Token.{Token}
use Rattle.sol_tree.specs.declared.token.TokenKind.TheVariants as kind
use Rattle.sol_tree.specs.declared.types.Type as types
use Rattle.sol_tree.specs.declared.expr.ExprTree as tree
use Rattle.sol_tree.specs.declared.expr.Arguments.{Arguments}
use Rattle.sol_tree.specs.declared.expr.Initial.{Initial}
use Rattle.sol_tree.specs.declared.stmt.AssignOp.{AssignOp}
use Rattle.sol_tree.specs.declared.stmt.AssignOp.TheVariants as assign
use Rattle.sol_tree.specs.declared.stmt.StepOp.{StepOp}
use Rattle.sol_tree.specs.declared.stmt.StepOp.TheVariants as step
use Rattle.sol_tree.specs.declared.stmt.Text.{Text}
use Rattle.sol_tree.specs.declared.stmt.Simple.{Simple}
use Rattle.sol_tree.specs.declared.stmt.Simple.TheVariants as simple
use Rattle.sol_tree.specs.declared.stmt.Block.{Block}
use Rattle.sol_tree.specs.declared.stmt.Stmt as stmt
use Rattle.sol_tree.specs.declared.stmt.Stmt.TheOpen.{Stmt-F}
use Rattle.sol_tree.specs.declared.stmt.Stmt.TheFolds.{fold-Stmt}
use Rattle.sol_tree.specs.Places.{place_of, type_place_of}
use Rattle.sol_parse_expr.specs.Grammar.{IsMark, IsWord, IsName, named_by, SpellsType, Spells, SpellsAll}

abbrev pub assign_mark : AssignOp → List ℕ
assign_mark assign.Assign = codes "="
assign_mark assign.Add = codes "+="
assign_mark assign.Subtract = codes "-="
assign_mark assign.Multiply = codes "*="
assign_mark assign.Divide = codes "/="
assign_mark assign.Remainder = codes "%="

abbrev pub step_mark : StepOp → List ℕ
step_mark step.Increment = codes "++"
step_mark step.Decrement = codes "--"

-- `[= expr]`
pub data MayInitial : Option Initial → List Token → Type 0 where
  without : MayInitial None []
  initial : {e : tree.ExprTree} (t : Token) {ts : List Token} → IsMark (codes "=") t → Spells 10 e ts → MayInitial (Some (record { at = t.at; value = e })) (t ∷ ts)

-- what may stand before a `;` and in the head of a `for`
pub data SpellsSimple : Simple → List Token → Type 0 where
  -- `type ID [= expr]`
  declaration : {ty : types.Type} {n : List ℕ} {i : Option Initial} (m : Token) {ts us : List Token} → SpellsType ty ts → IsName n m → MayInitial i us → SpellsSimple (simple.Declaration (type_place_of ty) ty (named_by n m) i) (ts ++ (m ∷ us))
  -- `expr aop expr`
  assignment : {a b : tree.ExprTree} {o : AssignOp} (t : Token) {ts us : List Token} → Spells 10 a ts → IsMark (assign_mark o) t → Spells 10 b us → SpellsSimple (simple.Assignment (place_of a) a t.at o b) (ts ++ (t ∷ us))
  -- `expr ++`, `expr --`
  step_after : {a : tree.ExprTree} {o : StepOp} (t : Token) {ts : List Token} → Spells 10 a ts → IsMark (step_mark o) t → SpellsSimple (simple.StepAfter (place_of a) a t.at o) (ts ++ (t ∷ []))
  -- `++ expr`, `-- expr`
  step_before : {a : tree.ExprTree} {o : StepOp} (t : Token) {ts : List Token} → IsMark (step_mark o) t → Spells 10 a ts → SpellsSimple (simple.StepBefore t.at o a) (t ∷ ts)
  -- `delete expr`
  deletion : {a : tree.ExprTree} (w : Token) {ts : List Token} → IsWord (codes "delete") w → Spells 10 a ts → SpellsSimple (simple.Delete w.at a) (w ∷ ts)
  -- `expr`
  expression : {a : tree.ExprTree} {ts : List Token} → Spells 10 a ts → SpellsSimple (simple.Expression (place_of a) a) ts

-- the place of its first token
abbrev pub simple_place : Simple → ℕ
simple_place (simple.Declaration at ty name given_value) = at
simple_place (simple.Assignment at target operator_at operator value) = at
simple_place (simple.StepAfter at target operator_at operator) = at
simple_place (simple.StepBefore at operator target) = at
simple_place (simple.Delete at target) = at
simple_place (simple.Expression at expr) = at

-- `[simple]`
pub data MaySimple : Option Simple → List Token → Type 0 where
  without : MaySimple None []
  given : {s : Simple} {ts : List Token} → SpellsSimple s ts → MaySimple (Some s) ts

-- `[expr]`
pub data MayExpr : Option tree.ExprTree → List Token → Type 0 where
  without : MayExpr None []
  given : {e : tree.ExprTree} {ts : List Token} → Spells 10 e ts → MayExpr (Some e) ts

abbrev pub text_of : Token → Text
text_of t = record { at = t.at }

-- `[TEXT]`
pub data MayText : Option Text → List Token → Type 0 where
  without : MayText None []
  given : (t : Token) → t.kind ≡ kind.Text → MayText (Some (text_of t)) (t ∷ [])

-- `[, TEXT]`
pub data MayReason : Option Text → List Token → Type 0 where
  without : MayReason None []
  given : (c t : Token) → IsMark (codes ",") c → t.kind ≡ kind.Text → MayReason (Some (text_of t)) (c ∷ (t ∷ []))

-- `( [args] )`
pub data SpellsArguments : Arguments → List Token → Type 0 where
  listed : {es : List tree.ExprTree} (o c : Token) {ts : List Token} → IsMark (codes "(") o → SpellsAll es ts → IsMark (codes ")") c → SpellsArguments (record { at = o.at; values = es }) (o ∷ (ts ++ (c ∷ [])))

abbrev pub or_open : Option Bool → Bool
or_open None = true
or_open (Some b) = b

abbrev pub open_layer : Stmt-F Bool → Bool
open_layer (Stmt-F.Block at statements) = false
open_layer (Stmt-F.Unchecked at statements) = false
open_layer (Stmt-F.Simple at s) = false
open_layer (Stmt-F.If at condition chosen otherwise) = or_open otherwise
open_layer (Stmt-F.While at condition body) = body
open_layer (Stmt-F.DoWhile at body condition) = false
open_layer (Stmt-F.For at start condition next body) = body
open_layer (Stmt-F.Break at) = false
open_layer (Stmt-F.Continue at) = false
open_layer (Stmt-F.Return at value) = false
open_layer (Stmt-F.Placeholder at) = false
open_layer (Stmt-F.Emit at event arguments) = false
open_layer (Stmt-F.RevertWith at error arguments) = false
open_layer (Stmt-F.Revert at text) = false
open_layer (Stmt-F.Require at condition text) = false
open_layer (Stmt-F.Assert at condition) = false

-- whether a statement ends in an `if` without `else`, to which an `else` behind it would belong
abbrev pub ends_open : stmt.Stmt → Bool
ends_open s = fold-Stmt Bool open_layer s

mutual
  -- a statement; an `else` goes with the nearest `if`
  pub data SpellsStmt : stmt.Stmt → List Token → Type 0 where
    -- `{ {stmt} }`
    block : {ss : List stmt.Stmt} (o c : Token) {ts : List Token} → IsMark (codes "{") o → SpellsStmts ss ts → IsMark (codes "}") c → SpellsStmt (stmt.Block o.at ss) (o ∷ (ts ++ (c ∷ [])))
    -- `unchecked { {stmt} }`
    unchecked : {ss : List stmt.Stmt} (w o c : Token) {ts : List Token} → IsWord (codes "unchecked") w → IsMark (codes "{") o → SpellsStmts ss ts → IsMark (codes "}") c → SpellsStmt (stmt.Unchecked w.at ss) (w ∷ (o ∷ (ts ++ (c ∷ []))))
    -- `simple ;`
    plain : {s : Simple} (e : Token) {ts : List Token} → SpellsSimple s ts → IsMark (codes ";") e → SpellsStmt (stmt.Simple (simple_place s) s) (ts ++ (e ∷ []))
    -- `if ( expr ) stmt`
    if_alone : {e : tree.ExprTree} {s : stmt.Stmt} (w o c : Token) {ts us : List Token} → IsWord (codes "if") w → IsMark (codes "(") o → Spells 10 e ts → IsMark (codes ")") c → SpellsStmt s us → SpellsStmt (stmt.If w.at e s None) (w ∷ (o ∷ (ts ++ (c ∷ us))))
    -- `if ( expr ) stmt else stmt`
    if_else : {e : tree.ExprTree} {s r : stmt.Stmt} (w o c l : Token) {ts us vs : List Token} → IsWord (codes "if") w → IsMark (codes "(") o → Spells 10 e ts → IsMark (codes ")") c → SpellsStmt s us → ends_open s ≡ false → IsWord (codes "else") l → SpellsStmt r vs → SpellsStmt (stmt.If w.at e s (Some r)) (w ∷ (o ∷ (ts ++ (c ∷ (us ++ (l ∷ vs))))))
    -- `while ( expr ) stmt`
    while_loop : {e : tree.ExprTree} {s : stmt.Stmt} (w o c : Token) {ts us : List Token} → IsWord (codes "while") w → IsMark (codes "(") o → Spells 10 e ts → IsMark (codes ")") c → SpellsStmt s us → SpellsStmt (stmt.While w.at e s) (w ∷ (o ∷ (ts ++ (c ∷ us))))
    -- `do stmt while ( expr ) ;`
    do_loop : {e : tree.ExprTree} {s : stmt.Stmt} (d w o c n : Token) {ts us : List Token} → IsWord (codes "do") d → SpellsStmt s us → IsWord (codes "while") w → IsMark (codes "(") o → Spells 10 e ts → IsMark (codes ")") c → IsMark (codes ";") n → SpellsStmt (stmt.DoWhile d.at s e) (d ∷ (us ++ (w ∷ (o ∷ (ts ++ (c ∷ (n ∷ [])))))))
    -- `for ( [simple] ; [expr] ; [simple] ) stmt`
    for_loop : {a b : Option Simple} {e : Option tree.ExprTree} {s : stmt.Stmt} (w o m n c : Token) {fs es gs us : List Token} → IsWord (codes "for") w → IsMark (codes "(") o → MaySimple a fs → IsMark (codes ";") m → MayExpr e es → IsMark (codes ";") n → MaySimple b gs → IsMark (codes ")") c → SpellsStmt s us → SpellsStmt (stmt.For w.at a e b s) (w ∷ (o ∷ (fs ++ (m ∷ (es ++ (n ∷ (gs ++ (c ∷ us))))))))
    -- `break ;`
    break_off : (w n : Token) → IsWord (codes "break") w → IsMark (codes ";") n → SpellsStmt (stmt.Break w.at) (w ∷ (n ∷ []))
    -- `continue ;`
    go_on : (w n : Token) → IsWord (codes "continue") w → IsMark (codes ";") n → SpellsStmt (stmt.Continue w.at) (w ∷ (n ∷ []))
    -- `return [expr] ;`
    give_back : {e : Option tree.ExprTree} (w n : Token) {es : List Token} → IsWord (codes "return") w → MayExpr e es → IsMark (codes ";") n → SpellsStmt (stmt.Return w.at e) (w ∷ (es ++ (n ∷ [])))
    -- `_ ;`
    placeholder : (w n : Token) → IsWord (codes "_") w → IsMark (codes ";") n → SpellsStmt (stmt.Placeholder w.at) (w ∷ (n ∷ []))
    -- `emit ID ( [args] ) ;`
    emission : {i : List ℕ} {a : Arguments} (w m n : Token) {ts : List Token} → IsWord (codes "emit") w → IsName i m → SpellsArguments a ts → IsMark (codes ";") n → SpellsStmt (stmt.Emit w.at (named_by i m) a) (w ∷ (m ∷ (ts ++ (n ∷ []))))
    -- `revert ID ( [args] ) ;`
    revert_with : {i : List ℕ} {a : Arguments} (w m n : Token) {ts : List Token} → IsWord (codes "revert") w → IsName i m → SpellsArguments a ts → IsMark (codes ";") n → SpellsStmt (stmt.RevertWith w.at (named_by i m) a) (w ∷ (m ∷ (ts ++ (n ∷ []))))
    -- `revert ( [TEXT] ) ;`
    revert_alone : {t : Option Text} (w o c n : Token) {ts : List Token} → IsWord (codes "revert") w → IsMark (codes "(") o → MayText t ts → IsMark (codes ")") c → IsMark (codes ";") n → SpellsStmt (stmt.Revert w.at t) (w ∷ (o ∷ (ts ++ (c ∷ (n ∷ [])))))
    -- `require ( expr [, TEXT] ) ;`
    requirement : {e : tree.ExprTree} {t : Option Text} (w o c n : Token) {ts us : List Token} → IsWord (codes "require") w → IsMark (codes "(") o → Spells 10 e ts → MayReason t us → IsMark (codes ")") c → IsMark (codes ";") n → SpellsStmt (stmt.Require w.at e t) (w ∷ (o ∷ (ts ++ (us ++ (c ∷ (n ∷ []))))))
    -- `assert ( expr ) ;`
    assertion : {e : tree.ExprTree} (w o c n : Token) {ts : List Token} → IsWord (codes "assert") w → IsMark (codes "(") o → Spells 10 e ts → IsMark (codes ")") c → IsMark (codes ";") n → SpellsStmt (stmt.Assert w.at e) (w ∷ (o ∷ (ts ++ (c ∷ (n ∷ [])))))

  -- `{stmt}`
  pub data SpellsStmts : List stmt.Stmt → List Token → Type 0 where
    ended : SpellsStmts [] []
    another : {s : stmt.Stmt} {ss : List stmt.Stmt} {ts us : List Token} → SpellsStmt s ts → SpellsStmts ss us → SpellsStmts (s ∷ ss) (ts ++ us)

-- the block of a body, `{ {stmt} }`
pub data SpellsBlock : Block → List Token → Type 0 where
  body : {ss : List stmt.Stmt} (o c : Token) {ts : List Token} → IsMark (codes "{") o → SpellsStmts ss ts → IsMark (codes "}") c → SpellsBlock (record { at = o.at; statements = ss }) (o ∷ (ts ++ (c ∷ [])))
