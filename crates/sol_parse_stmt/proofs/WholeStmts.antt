-- A statement is read whole, in front of an `else` too that belongs to another one.
use Rattle.std.proofs.Common.{◌≡◌, ◌∙◌, sym, ap, subst, refl, ℕ, zero, suc, ◌+◌, ◌-◌, ◌<◌, ◌≤◌, max, List, [], ◌∷◌, ◌++◌, length, append_assoc, append-nil, map, Bool, true, false, Option, Some, None, codes, arith}
use Rattle.sol_tree.specs.declared.token.Token.{Token}
use Rattle.sol_tree.specs.declared.token.TokenKind.TheVariants as kind
use Rattle.sol_tree.specs.declared.expr.ExprTree as tree
use Rattle.sol_tree.specs.declared.stmt.Block.{Block}
use Rattle.sol_tree.specs.declared.stmt.Stmt as stmt
use Rattle.sol_tree.specs.Words.{operator_of}
use Rattle.sol_parse_expr.specs.Grammar.{IsMark, IsWord, named_by, Spells}
use Rattle.sol_parse_expr.specs.Heights.{greatest, height}
use Rattle.sol_parse_expr.specs.Ends.{goes_on}
use Rattle.sol_parse_expr.specs.Reading.{mark_at, word_at}
use Rattle.sol_parse_expr.proofs.Tokens.{word-not}
use Rattle.sol_parse_stmt.specs.Grammar.{simple_place, ends_open, SpellsStmt, block, unchecked, plain, if_alone, if_else, while_loop, do_loop, for_loop, break_off, go_on, give_back, placeholder, emission, revert_with, revert_alone, requirement, assertion, SpellsStmts, ended, another, SpellsBlock, body}
use Rattle.sol_parse_stmt.specs.Heights.{stmt_height, block_height, may_simple_height, may_height}
use Rattle.sol_parse_stmt.specs.Reading.{statements_at, braces_at, stmt_at, block_at}
use Rattle.sol_parse_stmt.proofs.Heights.{height-block, height-unchecked, height-simple, height-if_alone, height-if_else, height-while, height-do, height-for, height-break, height-continue, height-return, height-placeholder, height-emit, height-revert_with, height-revert, height-require, height-assert}
use Rattle.sol_parse_stmt.proofs.Open.{open-if_alone, open-if_else, open-while, open-for}
use Rattle.sol_parse_expr.proofs.First.{first-here}
use Rattle.sol_parse_stmt.proofs.Heads.{leads}
use Rattle.sol_parse_stmt.proofs.Loops.{statements-stop}
use Rattle.sol_parse_stmt.proofs.SoundStmts.{Settled}
use Rattle.sol_parse_stmt.proofs.Compound.{from-compound, braces-here, block-here, unchecked-here, if-alone-here, if-else-here, while-here, do-here, for-here}
use Rattle.sol_parse_stmt.proofs.WholeLists.{no-stmt, no-else, some-token, one-read, close_leads}
use Rattle.sol_parse_stmt.proofs.WholeParts.{condition-all, head-all}
use Rattle.sol_parse_stmt.proofs.WholeLeaves.{plain-all, break-all, continue-all, return-all, placeholder-all, emit-all, revert_with-all, revert-all, require-all, assert-all}

-- each statement is a level
positive : {s : stmt.Stmt} {us : List Token} → SpellsStmt s us → 0 < stmt_height s
positive (block {ss} o c i x j) = omega (arith, height-block o.at ss)
positive (unchecked {ss} w o c i j x k) = omega (arith, height-unchecked w.at ss)
positive (plain {s} e x i) = omega (arith, height-simple (simple_place s) s)
positive (if_alone {e} {s} w o c i j x k r) = omega (arith, height-if_alone w.at e s)
positive (if_else {e} {s} {r} w o c l i j x k y n m z) = omega (arith, height-if_else w.at e s r)
positive (while_loop {e} {s} w o c i j x k r) = omega (arith, height-while w.at e s)
positive (do_loop {e} {s} v w o c n i r j k x m p) = omega (arith, height-do v.at s e)
positive (for_loop {a} {b} {e} {s} w o m n c i j x k y l z p r) = omega (arith, height-for w.at a e b s)
positive (break_off w n i j) = omega (arith, height-break w.at)
positive (go_on w n i j) = omega (arith, height-continue w.at)
positive (give_back {e} w n i x j) = omega (arith, height-return w.at e)
positive (placeholder w n i j) = omega (arith, height-placeholder w.at)
positive (emission {i} {a} w m n j k x l) = omega (arith, height-emit w.at (named_by i m) a)
positive (revert_with {i} {a} w m n j k x l) = omega (arith, height-revert_with w.at (named_by i m) a)
positive (revert_alone {t} w o c n i j x k l) = omega (arith, height-revert w.at t)
positive (requirement {e} {t} w o c n i j x y k l) = omega (arith, height-require w.at e t)
positive (assertion {e} w o c n i j x k l) = omega (arith, height-assert w.at e)

zero-top : (g : ℕ) → max 0 g ≡ g
zero-top g = omega arith

flat-top : (h : ℕ) → max h 0 ≡ h
flat-top h = omega arith

for-top : (a e b s : ℕ) → max a (max e (max b s)) + 1 ≡ max (max a (max e b)) s + 1
for-top a e b s = omega arith

braces-all : (d : ℕ) (o c : Token) (ss : List stmt.Stmt) (ts rest : List Token) → IsMark (codes "{") o → statements_at (stmt_at d) (length (ts ++ (c ∷ rest))) [] 0 (ts ++ (c ∷ rest)) ≡ Some (ss, max 0 (greatest (map stmt_height ss)), c ∷ rest) → IsMark (codes "}") c → braces_at (stmt_at d) (o ∷ (ts ++ (c ∷ rest))) ≡ Some (record { at = o.at; statements = ss }, greatest (map stmt_height ss), rest)
braces-all d o c ss ts rest i e j = braces-here d (stmt_at d) o c ss (greatest (map stmt_height ss)) (ts ++ (c ∷ rest)) rest i (subst (λ (n : ℕ). statements_at (stmt_at d) (length (ts ++ (c ∷ rest))) [] 0 (ts ++ (c ∷ rest)) ≡ Some (ss, n, c ∷ rest)) (zero-top (greatest (map stmt_height ss))) e) j

mutual
  pub stmt-all : {s : stmt.Stmt} {us : List Token} → SpellsStmt s us → (d : ℕ) → stmt_height s ≤ d → (rest : List Token) → Settled s rest → stmt_at d (us ++ rest) ≡ Some (s, stmt_height s, rest)
  stmt-all r zero low rest q = let p = positive r in absurd (omega (arith, p))
  stmt-all (block {ss} o c {ts} i x j) (suc d) low rest q =
      let h : stmt_height (stmt.Block o.at ss) ≡ greatest (map stmt_height ss) + 1 = height-block o.at ss in
      let inside : greatest (map stmt_height ss) ≤ d = omega (arith, h, low) in
      rw (append_assoc ts (c ∷ []) rest, h) (from-compound d _ _ (block-here d (stmt_at d) _ (record { at = o.at; statements = ss }) (greatest (map stmt_height ss)) rest (braces-all d o c ss ts rest i (stmts-all x d inside c rest j _ (omega arith) [] 0) j)))
  stmt-all (unchecked {ss} w o c {ts} i j x k) (suc d) low rest q =
      let h : stmt_height (stmt.Unchecked w.at ss) ≡ greatest (map stmt_height ss) + 1 = height-unchecked w.at ss in
      let inside : greatest (map stmt_height ss) ≤ d = omega (arith, h, low) in
      rw (append_assoc ts (c ∷ []) rest, h) (from-compound d _ _ (unchecked-here d (stmt_at d) w _ (record { at = o.at; statements = ss }) (greatest (map stmt_height ss)) rest i (braces-all d o c ss ts rest j (stmts-all x d inside c rest k _ (omega arith) [] 0) k)))
  stmt-all (plain e x i) (suc d) low rest q = plain-all e x i d low rest
  stmt-all (if_alone {e} {s} w o c {ts} {us} i j x k r) (suc d) low rest q =
      let h : stmt_height (stmt.If w.at e s None) ≡ max (height e) (max (stmt_height s) 0) + 1 = height-if_alone w.at e s in
      let miss : word_at (codes "else") rest ≡ None = q (open-if_alone w.at e s) in
      rw (append_assoc ts (c ∷ us) rest, h) (from-compound d _ _ (if-alone-here d (stmt_at d) w _ _ rest e s _ _ i (condition-all o c j x k d (omega (arith, h, low)) (us ++ rest)) (stmt-all r d (omega (arith, h, low)) rest (λ opens. miss)) miss))
  stmt-all (if_else {e} {s} {r} w o c l {ts} {us} {vs} i j x k y n m z) (suc d) low rest q =
      let h : stmt_height (stmt.If w.at e s (Some r)) ≡ max (height e) (max (stmt_height s) (stmt_height r)) + 1 = height-if_else w.at e s r in
      rw (append_assoc ts (c ∷ (us ++ (l ∷ vs))) rest, append_assoc us (l ∷ vs) rest, h) (from-compound d _ _ (if-else-here d (stmt_at d) w l _ _ (vs ++ rest) rest e s r _ _ _ i (condition-all o c j x k d (omega (arith, h, low)) (us ++ (l ∷ (vs ++ rest)))) (stmt-all y d (omega (arith, h, low)) (l ∷ (vs ++ rest)) (λ opens. absurd (cc (opens, n)))) m (stmt-all z d (omega (arith, h, low)) rest (λ opens. q (open-if_else w.at e s r ∙ opens)))))
  stmt-all (while_loop {e} {s} w o c {ts} {us} i j x k r) (suc d) low rest q =
      let h : stmt_height (stmt.While w.at e s) ≡ max (height e) (stmt_height s) + 1 = height-while w.at e s in
      rw (append_assoc ts (c ∷ us) rest, h) (from-compound d _ _ (while-here d (stmt_at d) w _ _ rest e s _ _ i (condition-all o c j x k d (omega (arith, h, low)) (us ++ rest)) (stmt-all r d (omega (arith, h, low)) rest (λ opens. q (open-while w.at e s ∙ opens)))))
  stmt-all (do_loop {e} {s} v w o c n {ts} {us} i r j k x m p) (suc d) low rest q =
      let h : stmt_height (stmt.DoWhile v.at s e) ≡ max (stmt_height s) (height e) + 1 = height-do v.at s e in
      rw (append_assoc us (w ∷ (o ∷ (ts ++ (c ∷ (n ∷ []))))) rest, append_assoc ts (c ∷ (n ∷ [])) rest, h) (from-compound d _ _ (do-here d (stmt_at d) v w n _ _ rest e s _ _ i (stmt-all r d (omega (arith, h, low)) (w ∷ (o ∷ (ts ++ (c ∷ (n ∷ rest))))) (λ opens. word-not (codes "else") (kind.Word (codes "while")) w _ j refl)) j (condition-all o c k x m d (omega (arith, h, low)) (n ∷ rest)) p))
  stmt-all (for_loop {a} {b} {e} {s} w o m n c {fs} {es} {gs} {us} i j x k y l z p r) (suc d) low rest q =
      let h : stmt_height (stmt.For w.at a e b s) ≡ max (may_simple_height a) (max (may_height e) (max (may_simple_height b) (stmt_height s))) + 1 = height-for w.at a e b s in
      rw (append_assoc fs (m ∷ (es ++ (n ∷ (gs ++ (c ∷ us))))) rest, append_assoc es (n ∷ (gs ++ (c ∷ us))) rest, append_assoc gs (c ∷ us) rest, h, for-top (may_simple_height a) (may_height e) (may_simple_height b) (stmt_height s)) (from-compound d _ _ (for-here d (stmt_at d) w _ _ rest (record { start = a; condition = e; step = b }) s _ _ i (head-all o m n c j x k y l z p d (omega (arith, h, low)) (omega (arith, h, low)) (omega (arith, h, low)) (us ++ rest)) (stmt-all r d (omega (arith, h, low)) rest (λ opens. q (open-for w.at a e b s ∙ opens)))))
  stmt-all (break_off w n i j) (suc d) low rest q = break-all w n i j d low rest
  stmt-all (go_on w n i j) (suc d) low rest q = continue-all w n i j d low rest
  stmt-all (give_back w n i x j) (suc d) low rest q = return-all w n i x j d low rest
  stmt-all (placeholder w n i j) (suc d) low rest q = placeholder-all w n i j d low rest
  stmt-all (emission w m n i j x k) (suc d) low rest q = emit-all w m n i j x k d low rest
  stmt-all (revert_with w m n i j x k) (suc d) low rest q = revert_with-all w m n i j x k d low rest
  stmt-all (revert_alone w o c n i j x k l) (suc d) low rest q = revert-all w o c n i j x k l d low rest
  stmt-all (requirement w o c n i j x y k l) (suc d) low rest q = require-all w o c n i j x y k l d low rest
  stmt-all (assertion w o c n i j x k l) (suc d) low rest q = assert-all w o c n i j x k l d low rest

  pub stmts-all : {ss : List stmt.Stmt} {us : List Token} → SpellsStmts ss us → (d : ℕ) → greatest (map stmt_height ss) ≤ d → (c : Token) (rest : List Token) → IsMark (codes "}") c → (k : ℕ) → length (us ++ (c ∷ rest)) ≤ k → (acc : List stmt.Stmt) (h : ℕ) → statements_at (stmt_at d) k acc h (us ++ (c ∷ rest)) ≡ Some (acc ++ ss, max h (greatest (map stmt_height ss)), c ∷ rest)
  stmts-all ended d low c rest j k long acc h = rw (append-nil acc, flat-top h) (statements-stop (stmt_at d) k acc h (c ∷ rest) (no-stmt d (c ∷ rest) (first-here leads (kind.Mark (codes "}")) c rest false j close_leads)))
  stmts-all (another {s} {ss} {ts} {us} x xs) d low c rest j k long acc h =
      let both : max (stmt_height s) (greatest (map stmt_height ss)) ≤ d = low in
      let far : length (ts ++ (us ++ (c ∷ rest))) ≤ k = rw (append_assoc ts us (c ∷ rest)) at long in
      rw (append_assoc ts us (c ∷ rest)) (one-read d k acc ss s h (greatest (map stmt_height ss)) ts (us ++ (c ∷ rest)) (c ∷ rest) (some-token x) far (stmt-all x d (omega (arith, both)) (us ++ (c ∷ rest)) (λ opens. no-else xs c rest j)) (λ l. stmts-all xs d (omega (arith, both)) c rest j (k - 1) l (acc ++ (s ∷ [])) (max h (stmt_height s))))

pub block-all : {b : Block} {us : List Token} → SpellsBlock b us → (d : ℕ) → block_height b ≤ d → (rest : List Token) → block_at d (us ++ rest) ≡ Some (b, block_height b, rest)
unfolding block_at
block-all (body {ss} o c {ts} i x j) d low rest = rw (append_assoc ts (c ∷ []) rest) (braces-all d o c ss ts rest i (stmts-all x d low c rest j _ (omega arith) [] 0) j)
