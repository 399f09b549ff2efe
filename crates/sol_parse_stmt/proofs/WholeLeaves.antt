-- Each statement without statements inside is read from the tokens that spell it.
use Rattle.std.proofs.Common.{◌≡◌, ◌∙◌, sym, ap, refl, ℕ, zero, suc, ◌+◌, ◌<◌, ◌≤◌, max, List, [], ◌∷◌, ◌++◌, append_assoc, Bool, true, false, Option, Some, None, inl, inr, codes, arith}
use Rattle.std.specs.Str.{bytes_eq}
use Rattle.sol_tree.specs.declared.token.Token.{Token}
use Rattle.sol_tree.specs.declared.expr.ExprTree as tree
use Rattle.sol_tree.specs.declared.expr.Arguments.{Arguments}
use Rattle.sol_tree.specs.declared.stmt.Text.{Text}
use Rattle.sol_tree.specs.declared.stmt.Simple.{Simple}
use Rattle.sol_tree.specs.declared.stmt.Stmt as stmt
use Rattle.sol_parse_expr.specs.Grammar.{IsMark, IsWord, IsName, named_by, Spells}
use Rattle.sol_parse_expr.specs.Heights.{height}
use Rattle.sol_parse_expr.specs.Reading.{Measured, mark_at, word_at, name_at}
use Rattle.sol_parse_expr.proofs.Tokens.{mark-here, word-here, name-here}
use Rattle.sol_parse_expr.proofs.Laws.{expr-all}
use Rattle.sol_parse_stmt.specs.Grammar.{simple_place, SpellsSimple, MayExpr, MayText, MayReason, SpellsArguments}
use Rattle.sol_parse_stmt.specs.Heights.{may_height, arguments_height, simple_height, stmt_height}
use Rattle.sol_parse_stmt.specs.Reading.{sent_at, plain_at, alone_at, jump_at, return_at, emit_at, revert_with_at, revert_at, require_at, assert_at, leaf_at, braces_at, braced_at, unchecked_at, if_at, while_at, do_at, for_at, compound_at, stmt_at}
use Rattle.sol_parse_stmt.proofs.Heights.{height-simple, height-break, height-continue, height-return, height-placeholder, height-emit, height-revert_with, height-revert, height-require, height-assert}
use Rattle.sol_parse_expr.proofs.First.{WordFirst, MarkFirst, word-word, mark-word, name-mark}
use Rattle.sol_parse_stmt.proofs.Heads.{simple-word, simple-no_brace}
use Rattle.sol_parse_stmt.proofs.WholeParts.{whole-simple, may_expr-all, condition-all, may_text-all, may_reason-all, reason-ends, sent-all}

-- ---- what begins no such statement

pub braced-none : (inner : Measured stmt.Stmt) (ts : List Token) → mark_at (codes "{") ts ≡ None → braced_at inner ts ≡ None
unfolding braced_at braces_at
braced-none inner ts e = rw e refl

pub unchecked-none : (inner : Measured stmt.Stmt) (ts : List Token) → word_at (codes "unchecked") ts ≡ None → unchecked_at inner ts ≡ None
unfolding unchecked_at
unchecked-none inner ts e = rw e refl

pub if-none : (d : ℕ) (inner : Measured stmt.Stmt) (ts : List Token) → word_at (codes "if") ts ≡ None → if_at d inner ts ≡ None
unfolding if_at
if-none d inner ts e = rw e refl

pub while-none : (d : ℕ) (inner : Measured stmt.Stmt) (ts : List Token) → word_at (codes "while") ts ≡ None → while_at d inner ts ≡ None
unfolding while_at
while-none d inner ts e = rw e refl

pub do-none : (d : ℕ) (inner : Measured stmt.Stmt) (ts : List Token) → word_at (codes "do") ts ≡ None → do_at d inner ts ≡ None
unfolding do_at
do-none d inner ts e = rw e refl

pub for-none : (d : ℕ) (inner : Measured stmt.Stmt) (ts : List Token) → word_at (codes "for") ts ≡ None → for_at d inner ts ≡ None
unfolding for_at
for-none d inner ts e = rw e refl

return-none : (d : ℕ) (ts : List Token) → word_at (codes "return") ts ≡ None → return_at d ts ≡ None
unfolding return_at
return-none d ts e = rw e refl

emit-none : (d : ℕ) (ts : List Token) → word_at (codes "emit") ts ≡ None → emit_at d ts ≡ None
unfolding emit_at
emit-none d ts e = rw e refl

revert_with-none : (d : ℕ) (ts : List Token) → word_at (codes "revert") ts ≡ None → revert_with_at d ts ≡ None
unfolding revert_with_at
revert_with-none d ts e = rw e refl

require-none : (d : ℕ) (ts : List Token) → word_at (codes "require") ts ≡ None → require_at d ts ≡ None
unfolding require_at
require-none d ts e = rw e refl

assert-none : (d : ℕ) (ts : List Token) → word_at (codes "assert") ts ≡ None → assert_at d ts ≡ None
unfolding assert_at
assert-none d ts e = rw e refl

revert-none : (ts : List Token) → word_at (codes "revert") ts ≡ None → revert_at ts ≡ None
unfolding revert_at
revert-none ts e = rw e refl

alone-none : (w : List ℕ) (ts : List Token) → word_at w ts ≡ None → alone_at w ts ≡ None
unfolding alone_at
alone-none w ts e = rw e refl

alone-here : (v : List ℕ) (w n : Token) (rest : List Token) → IsWord v w → IsMark (codes ";") n → alone_at v (w ∷ (n ∷ rest)) ≡ Some (w.at, rest)
unfolding alone_at
alone-here v w n rest iw in_ = rw (word-here v w (n ∷ rest) iw, mark-here (codes ";") n rest in_) refl

jump-none : (ts : List Token) → word_at (codes "break") ts ≡ None → word_at (codes "continue") ts ≡ None → word_at (codes "_") ts ≡ None → jump_at ts ≡ None
unfolding jump_at
jump-none ts e f g = rw (alone-none (codes "break") ts e, alone-none (codes "continue") ts f, alone-none (codes "_") ts g) refl

pub compound-none : (d : ℕ) (inner : Measured stmt.Stmt) (ts : List Token) → mark_at (codes "{") ts ≡ None → word_at (codes "unchecked") ts ≡ None → word_at (codes "if") ts ≡ None → word_at (codes "while") ts ≡ None → word_at (codes "do") ts ≡ None → word_at (codes "for") ts ≡ None → compound_at d inner ts ≡ None
unfolding compound_at
compound-none d inner ts a b c e f g = rw (braced-none inner ts a, unchecked-none inner ts b, if-none d inner ts c, while-none d inner ts e, do-none d inner ts f, for-none d inner ts g) refl

-- where a statement begins with a word that begins none with statements inside
leaf-word : (v : List ℕ) → bytes_eq v (codes "unchecked") ≡ false → bytes_eq v (codes "if") ≡ false → bytes_eq v (codes "while") ≡ false → bytes_eq v (codes "do") ≡ false → bytes_eq v (codes "for") ≡ false → (d : ℕ) (ts : List Token) → WordFirst v ts → stmt_at (suc d) ts ≡ leaf_at d ts
unfolding stmt_at
leaf-word v a b c e g d ts f = rw (compound-none d (stmt_at d) ts (mark-word (codes "{") v ts f) (word-word (codes "unchecked") v ts a f) (word-word (codes "if") v ts b f) (word-word (codes "while") v ts c f) (word-word (codes "do") v ts e f) (word-word (codes "for") v ts g f)) refl

no-jump : (v : List ℕ) → bytes_eq v (codes "break") ≡ false → bytes_eq v (codes "continue") ≡ false → bytes_eq v (codes "_") ≡ false → (ts : List Token) → WordFirst v ts → jump_at ts ≡ None
no-jump v a b c ts f = jump-none ts (word-word (codes "break") v ts a f) (word-word (codes "continue") v ts b f) (word-word (codes "_") v ts c f)

-- ---- `break ;`, `continue ;` and `_ ;`

break-stands : (d : ℕ) (w n : Token) → IsWord (codes "break") w → IsMark (codes ";") n → (rest : List Token) → stmt_at (suc d) (w ∷ (n ∷ rest)) ≡ Some (stmt.Break w.at, stmt_height (stmt.Break w.at), rest)
unfolding leaf_at jump_at
break-stands d w n iw in_ rest =
    let ts : List Token = w ∷ (n ∷ rest) in
    let f : WordFirst (codes "break") ts = (w, n ∷ rest, iw, refl) in
    rw (height-break) (leaf-word (codes "break") refl refl refl refl refl d ts f ∙ rw (alone-here (codes "break") w n rest iw in_) refl)

continue-stands : (d : ℕ) (w n : Token) → IsWord (codes "continue") w → IsMark (codes ";") n → (rest : List Token) → stmt_at (suc d) (w ∷ (n ∷ rest)) ≡ Some (stmt.Continue w.at, stmt_height (stmt.Continue w.at), rest)
unfolding leaf_at jump_at
continue-stands d w n iw in_ rest =
    let ts : List Token = w ∷ (n ∷ rest) in
    let f : WordFirst (codes "continue") ts = (w, n ∷ rest, iw, refl) in
    rw (height-continue) (leaf-word (codes "continue") refl refl refl refl refl d ts f ∙ rw (alone-none (codes "break") ts (word-word (codes "break") (codes "continue") ts refl f), alone-here (codes "continue") w n rest iw in_) refl)

placeholder-stands : (d : ℕ) (w n : Token) → IsWord (codes "_") w → IsMark (codes ";") n → (rest : List Token) → stmt_at (suc d) (w ∷ (n ∷ rest)) ≡ Some (stmt.Placeholder w.at, stmt_height (stmt.Placeholder w.at), rest)
unfolding leaf_at jump_at
placeholder-stands d w n iw in_ rest =
    let ts : List Token = w ∷ (n ∷ rest) in
    let f : WordFirst (codes "_") ts = (w, n ∷ rest, iw, refl) in
    rw (height-placeholder) (leaf-word (codes "_") refl refl refl refl refl d ts f ∙ rw (alone-none (codes "break") ts (word-word (codes "break") (codes "_") ts refl f), alone-none (codes "continue") ts (word-word (codes "continue") (codes "_") ts refl f), alone-here (codes "_") w n rest iw in_) refl)

-- ---- statements with a word in front

return-stands : (d : ℕ) (x : Option tree.ExprTree) (us : List Token) → MayExpr x us → may_height x ≤ d → (w n : Token) → IsWord (codes "return") w → IsMark (codes ";") n → (rest : List Token) → stmt_at (suc d) (w ∷ (us ++ (n ∷ rest))) ≡ Some (stmt.Return w.at x, stmt_height (stmt.Return w.at x), rest)
unfolding leaf_at return_at
return-stands d x us p low w n iw in_ rest =
    let t1 : List Token = us ++ (n ∷ rest) in
    let ts : List Token = w ∷ t1 in
    let f : WordFirst (codes "return") ts = (w, t1, iw, refl) in
    rw (height-return) (leaf-word (codes "return") refl refl refl refl refl d ts f ∙ rw (no-jump (codes "return") refl refl refl ts f, word-here (codes "return") w t1 iw, may_expr-all d x us p low (n ∷ rest) (inl (n, rest, in_, refl)), mark-here (codes ";") n rest in_) refl)

emit-stands : (d : ℕ) (i : List ℕ) (a : Arguments) (us : List Token) (w m n : Token) → IsWord (codes "emit") w → IsName i m → SpellsArguments a us → IsMark (codes ";") n → arguments_height a ≤ d → (rest : List Token) → stmt_at (suc d) (w ∷ (m ∷ (us ++ (n ∷ rest)))) ≡ Some (stmt.Emit w.at (named_by i m) a, stmt_height (stmt.Emit w.at (named_by i m) a), rest)
unfolding leaf_at emit_at
emit-stands d i a us w m n iw im p in_ low rest =
    let t1 : List Token = m ∷ (us ++ (n ∷ rest)) in
    let ts : List Token = w ∷ t1 in
    let f : WordFirst (codes "emit") ts = (w, t1, iw, refl) in
    rw (height-emit) (leaf-word (codes "emit") refl refl refl refl refl d ts f ∙ rw (no-jump (codes "emit") refl refl refl ts f, return-none d ts (word-word (codes "return") (codes "emit") ts refl f), word-here (codes "emit") w t1 iw, sent-all d i a m n us im p in_ low rest) refl)

revert_with-stands : (d : ℕ) (i : List ℕ) (a : Arguments) (us : List Token) (w m n : Token) → IsWord (codes "revert") w → IsName i m → SpellsArguments a us → IsMark (codes ";") n → arguments_height a ≤ d → (rest : List Token) → stmt_at (suc d) (w ∷ (m ∷ (us ++ (n ∷ rest)))) ≡ Some (stmt.RevertWith w.at (named_by i m) a, stmt_height (stmt.RevertWith w.at (named_by i m) a), rest)
unfolding leaf_at revert_with_at
revert_with-stands d i a us w m n iw im p in_ low rest =
    let t1 : List Token = m ∷ (us ++ (n ∷ rest)) in
    let ts : List Token = w ∷ t1 in
    let f : WordFirst (codes "revert") ts = (w, t1, iw, refl) in
    rw (height-revert_with) (leaf-word (codes "revert") refl refl refl refl refl d ts f ∙ rw (no-jump (codes "revert") refl refl refl ts f, return-none d ts (word-word (codes "return") (codes "revert") ts refl f), emit-none d ts (word-word (codes "emit") (codes "revert") ts refl f), word-here (codes "revert") w t1 iw, sent-all d i a m n us im p in_ low rest) refl)

no-sent : (d : ℕ) (o : Token) (ts : List Token) → IsMark (codes "(") o → sent_at d (o ∷ ts) ≡ None
unfolding sent_at
no-sent d o ts io = rw (name-mark (codes "(") (o ∷ ts) (o, ts, io, refl)) refl

no-revert_with : (d : ℕ) (w o : Token) (ts : List Token) → IsWord (codes "revert") w → IsMark (codes "(") o → revert_with_at d (w ∷ (o ∷ ts)) ≡ None
unfolding revert_with_at
no-revert_with d w o ts iw io = rw (word-here (codes "revert") w (o ∷ ts) iw, no-sent d o ts io) refl

revert-stands : (d : ℕ) (x : Option Text) (us : List Token) → MayText x us → (w o c n : Token) → IsWord (codes "revert") w → IsMark (codes "(") o → IsMark (codes ")") c → IsMark (codes ";") n → (rest : List Token) → stmt_at (suc d) (w ∷ (o ∷ (us ++ (c ∷ (n ∷ rest))))) ≡ Some (stmt.Revert w.at x, stmt_height (stmt.Revert w.at x), rest)
unfolding leaf_at revert_at
revert-stands d x us p w o c n iw io ic in_ rest =
    let t2 : List Token = us ++ (c ∷ (n ∷ rest)) in
    let t1 : List Token = o ∷ t2 in
    let ts : List Token = w ∷ t1 in
    let f : WordFirst (codes "revert") ts = (w, t1, iw, refl) in
    rw (height-revert) (leaf-word (codes "revert") refl refl refl refl refl d ts f ∙ rw (no-jump (codes "revert") refl refl refl ts f, return-none d ts (word-word (codes "return") (codes "revert") ts refl f), emit-none d ts (word-word (codes "emit") (codes "revert") ts refl f), no-revert_with d w o t2 iw io, word-here (codes "revert") w t1 iw, mark-here (codes "(") o t2 io, may_text-all x us p c (n ∷ rest) ic, mark-here (codes ")") c (n ∷ rest) ic, mark-here (codes ";") n rest in_) refl)

require-stands : (d : ℕ) (e : tree.ExprTree) (x : Option Text) (ts us : List Token) → Spells 10 e ts → MayReason x us → height e ≤ d → (w o c n : Token) → IsWord (codes "require") w → IsMark (codes "(") o → IsMark (codes ")") c → IsMark (codes ";") n → (rest : List Token) → stmt_at (suc d) (w ∷ (o ∷ (ts ++ (us ++ (c ∷ (n ∷ rest)))))) ≡ Some (stmt.Require w.at e x, stmt_height (stmt.Require w.at e x), rest)
unfolding leaf_at require_at
require-stands d e x es us p q low w o c n iw io ic in_ rest =
    let t3 : List Token = us ++ (c ∷ (n ∷ rest)) in
    let t2 : List Token = es ++ t3 in
    let t1 : List Token = o ∷ t2 in
    let ts : List Token = w ∷ t1 in
    let f : WordFirst (codes "require") ts = (w, t1, iw, refl) in
    rw (height-require) (leaf-word (codes "require") refl refl refl refl refl d ts f ∙ rw (no-jump (codes "require") refl refl refl ts f, return-none d ts (word-word (codes "return") (codes "require") ts refl f), emit-none d ts (word-word (codes "emit") (codes "require") ts refl f), revert_with-none d ts (word-word (codes "revert") (codes "require") ts refl f), revert-none ts (word-word (codes "revert") (codes "require") ts refl f), word-here (codes "require") w t1 iw, mark-here (codes "(") o t2 io, expr-all p d low t3 (reason-ends x us q c (n ∷ rest) ic), may_reason-all x us q c (n ∷ rest) ic, mark-here (codes ")") c (n ∷ rest) ic, mark-here (codes ";") n rest in_) refl)

assert-stands : (d : ℕ) (e : tree.ExprTree) (ts : List Token) → Spells 10 e ts → height e ≤ d → (w o c n : Token) → IsWord (codes "assert") w → IsMark (codes "(") o → IsMark (codes ")") c → IsMark (codes ";") n → (rest : List Token) → stmt_at (suc d) (w ∷ (o ∷ (ts ++ (c ∷ (n ∷ rest))))) ≡ Some (stmt.Assert w.at e, stmt_height (stmt.Assert w.at e), rest)
unfolding leaf_at assert_at
assert-stands d e es p low w o c n iw io ic in_ rest =
    let t1 : List Token = o ∷ (es ++ (c ∷ (n ∷ rest))) in
    let ts : List Token = w ∷ t1 in
    let f : WordFirst (codes "assert") ts = (w, t1, iw, refl) in
    rw (height-assert) (leaf-word (codes "assert") refl refl refl refl refl d ts f ∙ rw (no-jump (codes "assert") refl refl refl ts f, return-none d ts (word-word (codes "return") (codes "assert") ts refl f), emit-none d ts (word-word (codes "emit") (codes "assert") ts refl f), revert_with-none d ts (word-word (codes "revert") (codes "assert") ts refl f), revert-none ts (word-word (codes "revert") (codes "assert") ts refl f), require-none d ts (word-word (codes "require") (codes "assert") ts refl f), word-here (codes "assert") w t1 iw, condition-all o c io p ic d low (n ∷ rest), mark-here (codes ";") n rest in_) refl)

-- ---- simple statements

plain-stands : (d : ℕ) (x : Simple) (us : List Token) → SpellsSimple x us → simple_height x ≤ d → (n : Token) → IsMark (codes ";") n → (rest : List Token) → stmt_at (suc d) (us ++ (n ∷ rest)) ≡ Some (stmt.Simple (simple_place x) x, stmt_height (stmt.Simple (simple_place x) x), rest)
unfolding stmt_at leaf_at plain_at
plain-stands d x us p low n in_ rest =
    let t1 : List Token = n ∷ rest in
    let ts : List Token = us ++ t1 in
    let compound = compound-none d (stmt_at d) ts (simple-no_brace x us p t1) (simple-word (codes "unchecked") refl x us p t1) (simple-word (codes "if") refl x us p t1) (simple-word (codes "while") refl x us p t1) (simple-word (codes "do") refl x us p t1) (simple-word (codes "for") refl x us p t1) in
    let jump = jump-none ts (simple-word (codes "break") refl x us p t1) (simple-word (codes "continue") refl x us p t1) (simple-word (codes "_") refl x us p t1) in
    rw (height-simple) (rw (compound, jump, return-none d ts (simple-word (codes "return") refl x us p t1), emit-none d ts (simple-word (codes "emit") refl x us p t1), revert_with-none d ts (simple-word (codes "revert") refl x us p t1), revert-none ts (simple-word (codes "revert") refl x us p t1), require-none d ts (simple-word (codes "require") refl x us p t1), assert-none d ts (simple-word (codes "assert") refl x us p t1), whole-simple d x us p low t1 (inl (n, rest, in_, refl)), mark-here (codes ";") n rest in_) refl)

-- ---- each of them as the grammar has it

pub plain-all : {s : Simple} (n : Token) {ts : List Token} → SpellsSimple s ts → IsMark (codes ";") n → (d : ℕ) → stmt_height (stmt.Simple (simple_place s) s) ≤ suc d → (rest : List Token) → stmt_at (suc d) ((ts ++ (n ∷ [])) ++ rest) ≡ Some (stmt.Simple (simple_place s) s, stmt_height (stmt.Simple (simple_place s) s), rest)
plain-all {s} n {ts} p in_ d low rest = rw append_assoc (plain-stands d s ts p (omega (arith, low, height-simple (simple_place s) s)) n in_ rest)

pub break-all : (w n : Token) → IsWord (codes "break") w → IsMark (codes ";") n → (d : ℕ) → stmt_height (stmt.Break w.at) ≤ suc d → (rest : List Token) → stmt_at (suc d) ((w ∷ (n ∷ [])) ++ rest) ≡ Some (stmt.Break w.at, stmt_height (stmt.Break w.at), rest)
break-all w n iw in_ d low rest = break-stands d w n iw in_ rest

pub continue-all : (w n : Token) → IsWord (codes "continue") w → IsMark (codes ";") n → (d : ℕ) → stmt_height (stmt.Continue w.at) ≤ suc d → (rest : List Token) → stmt_at (suc d) ((w ∷ (n ∷ [])) ++ rest) ≡ Some (stmt.Continue w.at, stmt_height (stmt.Continue w.at), rest)
continue-all w n iw in_ d low rest = continue-stands d w n iw in_ rest

pub placeholder-all : (w n : Token) → IsWord (codes "_") w → IsMark (codes ";") n → (d : ℕ) → stmt_height (stmt.Placeholder w.at) ≤ suc d → (rest : List Token) → stmt_at (suc d) ((w ∷ (n ∷ [])) ++ rest) ≡ Some (stmt.Placeholder w.at, stmt_height (stmt.Placeholder w.at), rest)
placeholder-all w n iw in_ d low rest = placeholder-stands d w n iw in_ rest

pub return-all : {e : Option tree.ExprTree} (w n : Token) {es : List Token} → IsWord (codes "return") w → MayExpr e es → IsMark (codes ";") n → (d : ℕ) → stmt_height (stmt.Return w.at e) ≤ suc d → (rest : List Token) → stmt_at (suc d) ((w ∷ (es ++ (n ∷ []))) ++ rest) ≡ Some (stmt.Return w.at e, stmt_height (stmt.Return w.at e), rest)
return-all {e} w n {es} iw p in_ d low rest = rw append_assoc (return-stands d e es p (omega (arith, low, height-return w.at e)) w n iw in_ rest)

pub emit-all : {i : List ℕ} {a : Arguments} (w m n : Token) {ts : List Token} → IsWord (codes "emit") w → IsName i m → SpellsArguments a ts → IsMark (codes ";") n → (d : ℕ) → stmt_height (stmt.Emit w.at (named_by i m) a) ≤ suc d → (rest : List Token) → stmt_at (suc d) ((w ∷ (m ∷ (ts ++ (n ∷ [])))) ++ rest) ≡ Some (stmt.Emit w.at (named_by i m) a, stmt_height (stmt.Emit w.at (named_by i m) a), rest)
emit-all {i} {a} w m n {ts} iw im p in_ d low rest = rw append_assoc (emit-stands d i a ts w m n iw im p in_ (omega (arith, low, height-emit w.at (named_by i m) a)) rest)

pub revert_with-all : {i : List ℕ} {a : Arguments} (w m n : Token) {ts : List Token} → IsWord (codes "revert") w → IsName i m → SpellsArguments a ts → IsMark (codes ";") n → (d : ℕ) → stmt_height (stmt.RevertWith w.at (named_by i m) a) ≤ suc d → (rest : List Token) → stmt_at (suc d) ((w ∷ (m ∷ (ts ++ (n ∷ [])))) ++ rest) ≡ Some (stmt.RevertWith w.at (named_by i m) a, stmt_height (stmt.RevertWith w.at (named_by i m) a), rest)
revert_with-all {i} {a} w m n {ts} iw im p in_ d low rest = rw append_assoc (revert_with-stands d i a ts w m n iw im p in_ (omega (arith, low, height-revert_with w.at (named_by i m) a)) rest)

pub revert-all : {t : Option Text} (w o c n : Token) {ts : List Token} → IsWord (codes "revert") w → IsMark (codes "(") o → MayText t ts → IsMark (codes ")") c → IsMark (codes ";") n → (d : ℕ) → stmt_height (stmt.Revert w.at t) ≤ suc d → (rest : List Token) → stmt_at (suc d) ((w ∷ (o ∷ (ts ++ (c ∷ (n ∷ []))))) ++ rest) ≡ Some (stmt.Revert w.at t, stmt_height (stmt.Revert w.at t), rest)
revert-all {t} w o c n {ts} iw io p ic in_ d low rest = rw append_assoc (revert-stands d t ts p w o c n iw io ic in_ rest)

pub require-all : {e : tree.ExprTree} {t : Option Text} (w o c n : Token) {ts us : List Token} → IsWord (codes "require") w → IsMark (codes "(") o → Spells 10 e ts → MayReason t us → IsMark (codes ")") c → IsMark (codes ";") n → (d : ℕ) → stmt_height (stmt.Require w.at e t) ≤ suc d → (rest : List Token) → stmt_at (suc d) ((w ∷ (o ∷ (ts ++ (us ++ (c ∷ (n ∷ [])))))) ++ rest) ≡ Some (stmt.Require w.at e t, stmt_height (stmt.Require w.at e t), rest)
require-all {e} {t} w o c n {ts} {us} iw io p q ic in_ d low rest = simp append_assoc (require-stands d e t ts us p q (omega (arith, low, height-require w.at e t)) w o c n iw io ic in_ rest)

pub assert-all : {e : tree.ExprTree} (w o c n : Token) {ts : List Token} → IsWord (codes "assert") w → IsMark (codes "(") o → Spells 10 e ts → IsMark (codes ")") c → IsMark (codes ";") n → (d : ℕ) → stmt_height (stmt.Assert w.at e) ≤ suc d → (rest : List Token) → stmt_at (suc d) ((w ∷ (o ∷ (ts ++ (c ∷ (n ∷ []))))) ++ rest) ≡ Some (stmt.Assert w.at e, stmt_height (stmt.Assert w.at e), rest)
assert-all {e} w o c n {ts} iw io p ic in_ d low rest = rw append_assoc (assert-stands d e ts p (omega (arith, low, height-assert w.at e)) w o c n iw io ic in_ rest)
