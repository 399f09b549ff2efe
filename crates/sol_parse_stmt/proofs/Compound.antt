-- A statement with statements inside is read whole where its parts are.
use Rattle.std.proofs.Common.{◌≡◌, ◌∙◌, sym, ap, subst, refl, ℕ, zero, suc, ◌+◌, ◌-◌, ◌<◌, ◌≤◌, max, List, [], ◌∷◌, ◌++◌, length, length-append, append_assoc, append-nil, map, Bool, true, false, ◌||◌, Option, Some, None, codes, arith}
use Rattle.sol_tree.specs.declared.token.Token.{Token}
use Rattle.sol_tree.specs.declared.token.TokenKind.TheVariants as kind
use Rattle.sol_tree.specs.declared.expr.ExprTree as tree
use Rattle.sol_tree.specs.declared.stmt.Block.{Block}
use Rattle.sol_tree.specs.declared.stmt.Stmt as stmt
use Rattle.sol_parse_expr.specs.Grammar.{IsMark, IsWord}
use Rattle.sol_parse_expr.specs.Reading.{Measured, mark_at, word_at}
use Rattle.sol_parse_expr.proofs.Tokens.{mark-here, word-here, mark-not, word-not}
use Rattle.sol_parse_stmt.specs.declared.parts.Head.{Head}
use Rattle.sol_parse_stmt.specs.Reading.{condition_at, head_at, statements_at, braces_at, braced_at, unchecked_at, may_else_at, if_at, while_at, do_at, for_at, compound_at, leaf_at, stmt_at, block_at, chosen_at, headed_at, otherwise_at, repeated_at, until_at}

pub from-compound : (d : ℕ) (ts : List Token) (x : stmt.Stmt × ℕ × List Token) → compound_at d (stmt_at d) ts ≡ Some x → stmt_at (suc d) ts ≡ Some x
unfolding stmt_at
from-compound d ts x e = rw e refl

module _ (d : ℕ) (inner : Measured stmt.Stmt) where
  pub braces-here : (o c : Token) (ss : List stmt.Stmt) (h : ℕ) (ts rest : List Token) → IsMark (codes "{") o → statements_at inner (length ts) [] 0 ts ≡ Some (ss, h, c ∷ rest) → IsMark (codes "}") c → braces_at inner (o ∷ ts) ≡ Some (record { at = o.at; statements = ss }, h, rest)
  unfolding braces_at
  braces-here o c ss h ts rest i e j = rw (mark-here (codes "{") o ts i, e, mark-here (codes "}") c rest j) refl

  pub block-here : (ts : List Token) (b : Block) (h : ℕ) (rest : List Token) → braces_at inner ts ≡ Some (b, h, rest) → compound_at d inner ts ≡ Some (stmt.Block b.at b.statements, h + 1, rest)
  unfolding compound_at braced_at
  block-here ts b h rest e = rw e refl

  pub unchecked-here : (w : Token) (ts : List Token) (b : Block) (h : ℕ) (rest : List Token) → IsWord (codes "unchecked") w → braces_at inner ts ≡ Some (b, h, rest) → compound_at d inner (w ∷ ts) ≡ Some (stmt.Unchecked w.at b.statements, h + 1, rest)
  unfolding compound_at braced_at braces_at unchecked_at
  unchecked-here w ts b h rest i e = rw (mark-not (codes "{") (kind.Word (codes "unchecked")) w ts i refl, word-here (codes "unchecked") w ts i, e) refl

  pub if-alone-here : (w : Token) (t1 t2 rest : List Token) (e : tree.ExprTree) (s : stmt.Stmt) (h1 h2 : ℕ) → IsWord (codes "if") w → condition_at d t1 ≡ Some (e, h1, t2) → inner t2 ≡ Some (s, h2, rest) → word_at (codes "else") rest ≡ None → compound_at d inner (w ∷ t1) ≡ Some (stmt.If w.at e s None, max h1 (max h2 0) + 1, rest)
  unfolding compound_at braced_at braces_at unchecked_at if_at chosen_at otherwise_at may_else_at
  if-alone-here w t1 t2 rest e s h1 h2 i c b q = rw (mark-not (codes "{") (kind.Word (codes "if")) w t1 i refl, word-not (codes "unchecked") (kind.Word (codes "if")) w t1 i refl, word-here (codes "if") w t1 i, c, b, q) refl

  pub if-else-here : (w l : Token) (t1 t2 t3 rest : List Token) (e : tree.ExprTree) (s r : stmt.Stmt) (h1 h2 h3 : ℕ) → IsWord (codes "if") w → condition_at d t1 ≡ Some (e, h1, t2) → inner t2 ≡ Some (s, h2, l ∷ t3) → IsWord (codes "else") l → inner t3 ≡ Some (r, h3, rest) → compound_at d inner (w ∷ t1) ≡ Some (stmt.If w.at e s (Some r), max h1 (max h2 h3) + 1, rest)
  unfolding compound_at braced_at braces_at unchecked_at if_at chosen_at otherwise_at may_else_at
  if-else-here w l t1 t2 t3 rest e s r h1 h2 h3 i c b j q = rw (mark-not (codes "{") (kind.Word (codes "if")) w t1 i refl, word-not (codes "unchecked") (kind.Word (codes "if")) w t1 i refl, word-here (codes "if") w t1 i, c, b, word-here (codes "else") l t3 j, q) refl

  pub while-here : (w : Token) (t1 t2 rest : List Token) (e : tree.ExprTree) (s : stmt.Stmt) (h1 h2 : ℕ) → IsWord (codes "while") w → condition_at d t1 ≡ Some (e, h1, t2) → inner t2 ≡ Some (s, h2, rest) → compound_at d inner (w ∷ t1) ≡ Some (stmt.While w.at e s, max h1 h2 + 1, rest)
  unfolding compound_at braced_at braces_at unchecked_at if_at chosen_at otherwise_at while_at repeated_at
  while-here w t1 t2 rest e s h1 h2 i c b = rw (mark-not (codes "{") (kind.Word (codes "while")) w t1 i refl, word-not (codes "unchecked") (kind.Word (codes "while")) w t1 i refl, word-not (codes "if") (kind.Word (codes "while")) w t1 i refl, word-here (codes "while") w t1 i, c, b) refl

  pub do-here : (w v n : Token) (t1 t2 rest : List Token) (e : tree.ExprTree) (s : stmt.Stmt) (h1 h2 : ℕ) → IsWord (codes "do") w → inner t1 ≡ Some (s, h1, v ∷ t2) → IsWord (codes "while") v → condition_at d t2 ≡ Some (e, h2, n ∷ rest) → IsMark (codes ";") n → compound_at d inner (w ∷ t1) ≡ Some (stmt.DoWhile w.at s e, max h1 h2 + 1, rest)
  unfolding compound_at braced_at braces_at unchecked_at if_at chosen_at otherwise_at while_at repeated_at do_at until_at
  do-here w v n t1 t2 rest e s h1 h2 i b j c k = rw (mark-not (codes "{") (kind.Word (codes "do")) w t1 i refl, word-not (codes "unchecked") (kind.Word (codes "do")) w t1 i refl, word-not (codes "if") (kind.Word (codes "do")) w t1 i refl, word-not (codes "while") (kind.Word (codes "do")) w t1 i refl, word-here (codes "do") w t1 i, b, word-here (codes "while") v t2 j, c, mark-here (codes ";") n rest k) refl

  pub for-here : (w : Token) (t1 t2 rest : List Token) (p : Head) (s : stmt.Stmt) (h1 h2 : ℕ) → IsWord (codes "for") w → head_at d t1 ≡ Some (p, h1, t2) → inner t2 ≡ Some (s, h2, rest) → compound_at d inner (w ∷ t1) ≡ Some (stmt.For w.at p.start p.condition p.step s, max h1 h2 + 1, rest)
  unfolding compound_at braced_at braces_at unchecked_at if_at chosen_at otherwise_at while_at repeated_at do_at until_at for_at headed_at
  for-here w t1 t2 rest p s h1 h2 i c b = rw (mark-not (codes "{") (kind.Word (codes "for")) w t1 i refl, word-not (codes "unchecked") (kind.Word (codes "for")) w t1 i refl, word-not (codes "if") (kind.Word (codes "for")) w t1 i refl, word-not (codes "while") (kind.Word (codes "for")) w t1 i refl, word-not (codes "do") (kind.Word (codes "for")) w t1 i refl, word-here (codes "for") w t1 i, c, b) refl
