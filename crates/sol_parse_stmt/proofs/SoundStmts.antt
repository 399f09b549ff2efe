-- What is read as a statement is spelled so, and an `else` behind it belongs to another one.
use Rattle.std.proofs.Common.{◌≡◌, ◌∙◌, sym, ap, subst, refl, ℕ, zero, suc, ◌+◌, ◌≤◌, max, List, [], ◌∷◌, ◌++◌, length, append_assoc, append-nil, map, Bool, true, false, Option, Some, None, inl, inr, codes, arith}
use Rattle.sol_tree.specs.declared.token.Token.{Token}
use Rattle.sol_tree.specs.declared.expr.ExprTree as tree
use Rattle.sol_tree.specs.declared.stmt.Block.{Block}
use Rattle.sol_tree.specs.declared.stmt.Stmt as stmt
use Rattle.sol_parse_expr.specs.Grammar.{IsMark, IsWord, IsName, named_by, Spells}
use Rattle.sol_parse_expr.specs.Heights.{greatest}
use Rattle.sol_parse_expr.specs.Reading.{Measured, if_value, then_value, then_tree, if_tree, mark_at, word_at, expr_at}
use Rattle.sol_parse_expr.proofs.After.{Holds, Front, Read, after-tree, either-tree, only, after-mark, after-word}
use Rattle.sol_parse_expr.proofs.Tokens.{word-or}
use Rattle.sol_parse_stmt.specs.Grammar.{ends_open, SpellsStmt, block, unchecked, if_alone, if_else, while_loop, do_loop, for_loop, SpellsStmts, ended, another, SpellsBlock, body}
use Rattle.sol_parse_stmt.specs.Heights.{stmt_height, block_height, may_simple_height, may_height}
use Rattle.sol_parse_stmt.specs.Reading.{condition_at, head_at, statements_at, braces_at, braced_at, unchecked_at, may_else_at, if_at, while_at, do_at, for_at, compound_at, leaf_at, stmt_at, block_at, chosen_at, headed_at, otherwise_at, repeated_at, until_at}
use Rattle.sol_parse_stmt.proofs.Heights.{height-block, height-unchecked, height-if_alone, height-if_else, height-while, height-do, height-for}
use Rattle.sol_parse_stmt.proofs.Open.{open-block, open-unchecked, open-if_else, open-while, open-do, open-for}
use Rattle.sol_parse_stmt.proofs.Sound.{ReadCondition, ReadHead, sound-condition, sound-head}
use Rattle.sol_parse_stmt.proofs.SoundLeaves.{ReadStmt, ReadLeaf, sound-leaf}

-- no `else` stands behind a statement that it would belong to
abbrev pub Settled : stmt.Stmt → List Token → Type 0
Settled s rest = ends_open s ≡ true → word_at (codes "else") rest ≡ None

-- read as a statement, and settled
abbrev pub Whole : ℕ → List Token → stmt.Stmt → ℕ → List Token → Type 0
Whole d ts s h rest = (us : List Token) × ReadStmt d s us h × (ts ≡ us ++ rest) × Settled s rest

abbrev pub StmtsSound : ℕ → Measured stmt.Stmt → Type 0
StmtsSound d inner = (ts : List Token) → Holds (Whole d) ts (inner ts)

shut : (s : stmt.Stmt) (rest : List Token) → ends_open s ≡ false → Settled s rest
shut s rest e = λ o. absurd (cc (e, o))

after-stmt : {B : Type 0} (d : ℕ) (r : Option (stmt.Stmt × ℕ × List Token)) (go : stmt.Stmt → ℕ → List Token → Option (B × ℕ × List Token)) (P : List Token → B → ℕ → List Token → Type 0) (ts : List Token) → Holds (Whole d) ts r → ((s : stmt.Stmt) (h : ℕ) (us rest : List Token) → ReadStmt d s us h → Settled s rest → Holds P (us ++ rest) (go s h rest)) → Holds P ts (then_tree r go)
after-stmt d None go P ts g k = tt
after-stmt d (Some x) go P ts g k = subst (λ (w : List Token). Holds P w (go x.0 x.1 x.2)) (sym g.2) (k x.0 x.1 g.0 x.2 g.1 g.3)

if-stmt : {B : Type 0} (d : ℕ) (r : Option (stmt.Stmt × ℕ × List Token)) (go : stmt.Stmt → ℕ → List Token → Option (B × ℕ × List Token)) (other : Option (B × ℕ × List Token)) (P : List Token → B → ℕ → List Token → Type 0) (ts : List Token) → Holds (Whole d) ts r → ((s : stmt.Stmt) (h : ℕ) (us rest : List Token) → ReadStmt d s us h → Holds P (us ++ rest) (go s h rest)) → Holds P ts other → Holds P ts (if_tree r go other)
if-stmt d None go other P ts g k o = o
if-stmt d (Some x) go other P ts g k o = subst (λ (w : List Token). Holds P w (go x.0 x.1 x.2)) (sym g.2) (k x.0 x.1 g.0 x.2 g.1)

-- ---- lists

abbrev pub ReadStmts : ℕ → List stmt.Stmt → List Token → ℕ → Type 0
ReadStmts d = Read (λ ss. greatest (map stmt_height ss)) SpellsStmts d

one-more : {ss : List stmt.Stmt} {s : stmt.Stmt} {us vs : List Token} → SpellsStmts ss us → SpellsStmt s vs → SpellsStmts (ss ++ (s ∷ [])) (us ++ vs)
one-more {ss} {s} {us} {vs} ended r = subst (λ (w : List Token). SpellsStmts (s ∷ []) w) (append-nil vs) (another r ended)
one-more (another {s} {ss} {ts} {us} x xs) r = rw append_assoc (another x (one-more xs r))

highest : (ss : List stmt.Stmt) (s : stmt.Stmt) → greatest (map stmt_height (ss ++ (s ∷ []))) ≡ max (greatest (map stmt_height ss)) (stmt_height s)
highest [] s = omega arith
highest (x ∷ ss) s = rw (highest ss s) (omega arith)

sound-statements : (d : ℕ) (inner : Measured stmt.Stmt) → StmtsSound d inner → (k : ℕ) (ss : List stmt.Stmt) (h : ℕ) (us ts : List Token) → ReadStmts d ss us h → Holds (Front (ReadStmts d)) (us ++ ts) (statements_at inner k ss h ts)
unfolding statements_at
sound-statements d inner s zero ss h us ts r = (us, r, refl)
sound-statements d inner s (suc k) ss h us ts r =
    if-stmt d (inner ts) _ _ (λ w. Front (ReadStmts d) (us ++ w)) ts (s ts) (λ x n vs rest q.
    let more : ReadStmts d (ss ++ (x ∷ [])) (us ++ vs) (max h n) = record {
      spells = one-more r.spells q.spells;
      height = rw (highest ss x) (rw (r.height, q.height) refl);
      low = omega (arith, r.low, q.low);
    } in
    subst (λ (w : List Token). Holds (Front (ReadStmts d)) w (statements_at inner k (ss ++ (x ∷ [])) (max h n) rest)) (append_assoc us vs rest) (sound-statements d inner s k (ss ++ (x ∷ [])) (max h n) (us ++ vs) rest more))
    (us, r, refl)

abbrev pub ReadBlock : ℕ → Block → List Token → ℕ → Type 0
ReadBlock d = Read block_height SpellsBlock d

-- `{ {stmt} }`
pub record ReadBraces (d : ℕ) (b : Block) (us : List Token) (h : ℕ) : Type 0 where
  pub opening : Token
  pub closing : Token
  pub middle : List Token
  pub opens : IsMark (codes "{") opening
  pub closes : IsMark (codes "}") closing
  pub at : b.at ≡ opening.at
  pub read : ReadStmts d b.statements middle h
  pub all : us ≡ opening ∷ (middle ++ (closing ∷ []))

sound-braces : (d : ℕ) (inner : Measured stmt.Stmt) → StmtsSound d inner → (ts : List Token) → Holds (Front (ReadBraces d)) ts (braces_at inner ts)
unfolding braces_at
sound-braces d inner s ts =
    after-mark (codes "{") ts _ (Front (ReadBraces d)) (λ o t1 io.
    after-tree (statements_at inner (length t1) [] 0 t1) _ (λ x. Front (ReadBraces d) (o ∷ x)) (ReadStmts d) t1 (sound-statements d inner s (length t1) [] 0 [] t1 (record { spells = ended; height = refl; low = omega arith })) (λ ss h us t2 r.
    after-mark (codes "}") t2 _ (λ x. Front (ReadBraces d) (o ∷ (us ++ x))) (λ c rest ic. (
      o ∷ (us ++ (c ∷ [])),
      record { opening = o; closing = c; middle = us; opens = io; closes = ic; at = refl; read = r; all = refl },
      simp append_assoc refl,
    ))))

-- ---- statements

sound-braced : (d : ℕ) (inner : Measured stmt.Stmt) → StmtsSound d inner → (ts : List Token) → Holds (Whole (suc d)) ts (braced_at inner ts)
unfolding braced_at
sound-braced d inner s ts =
    after-tree (braces_at inner ts) _ (Whole (suc d)) (ReadBraces d) ts (sound-braces d inner s ts) (λ b h us rest r. (
      r.opening ∷ (r.middle ++ (r.closing ∷ [])),
      record { spells = rw (r.at) (block r.opening r.closing r.opens r.read.spells r.closes); height = rw height-block (rw (r.read.height) refl); low = omega (arith, r.read.low) },
      rw (r.all) refl,
      shut (stmt.Block b.at b.statements) rest (open-block b.at b.statements),
    ))

sound-unchecked : (d : ℕ) (inner : Measured stmt.Stmt) → StmtsSound d inner → (ts : List Token) → Holds (Whole (suc d)) ts (unchecked_at inner ts)
unfolding unchecked_at
sound-unchecked d inner s ts =
    after-word (codes "unchecked") ts _ (Whole (suc d)) (λ w t1 iw.
    after-tree (braces_at inner t1) _ (λ x. Whole (suc d) (w ∷ x)) (ReadBraces d) t1 (sound-braces d inner s t1) (λ b h us rest r. (
      w ∷ (r.opening ∷ (r.middle ++ (r.closing ∷ []))),
      record { spells = unchecked w r.opening r.closing iw r.opens r.read.spells r.closes; height = rw height-unchecked (rw (r.read.height) refl); low = omega (arith, r.read.low) },
      rw (r.all) refl,
      shut (stmt.Unchecked w.at b.statements) rest (open-unchecked w.at b.statements),
    )))

tree-tree : {A B C : Type 0} (r : Option (A × ℕ × List Token)) (f : A → ℕ → List Token → Option (B × ℕ × List Token)) (go : B → ℕ → List Token → Option (C × ℕ × List Token)) → then_tree (then_tree r f) go ≡ then_tree r (λ a h us. then_tree (f a h us) go)
tree-tree None f go = refl
tree-tree (Some x) f go = refl

closed-before : (s : stmt.Stmt) (b : Bool) (rest : List Token) (x : ℕ × List Token) → ends_open s ≡ b → Settled s rest → word_at (codes "else") rest ≡ Some x → ends_open s ≡ false
closed-before s false rest x e q h = e
closed-before s true rest x e q h = absurd (cc (q e, h))

sound-if : (d : ℕ) (inner : Measured stmt.Stmt) → StmtsSound d inner → (ts : List Token) → Holds (Whole (suc d)) ts (if_at d inner ts)
unfolding if_at chosen_at otherwise_at may_else_at
sound-if d inner s ts =
    after-word (codes "if") ts _ (Whole (suc d)) (λ w t1 iw.
    after-tree (condition_at d t1) _ (λ x. Whole (suc d) (w ∷ x)) (ReadCondition d) t1 (sound-condition d t1) (λ e h1 us t2 r1.
    after-stmt d (inner t2) _ (λ x. Whole (suc d) (w ∷ (us ++ x))) t2 (s t2) (λ c h2 vs t3 r2 q2.
    elim (word-or (codes "else") t3) [
      | inl miss ↦
          rw miss (
            w ∷ (r1.opening ∷ (r1.middle ++ (r1.closing ∷ vs))),
            record {
              spells = if_alone w r1.opening r1.closing iw r1.opens r1.read.spells r1.closes r2.spells;
              height = rw height-if_alone (rw (r1.read.height, r2.height) refl);
              low = omega (arith, r1.read.low, r2.low);
            },
            rw (r1.all) (simp append_assoc refl),
            λ o. miss,
          )
      | inr l ↦
          rw (l.4) (
          rw (tree-tree (inner l.1) (λ (x : stmt.Stmt) (n : ℕ) (us : List Token). Some (Some x, n, us)) (λ (r : Option stmt.Stmt) (h3 : ℕ) (rest : List Token). Some (stmt.If w.at e c r, max h1 (max h2 h3) + 1, rest))) (
          rw (l.3) (
          after-stmt d (inner l.1) _ (λ x. Whole (suc d) (w ∷ (us ++ (vs ++ (l.0 ∷ x))))) l.1 (s l.1) (λ o h3 ws rest r3 q3. (
            w ∷ (r1.opening ∷ (r1.middle ++ (r1.closing ∷ (vs ++ (l.0 ∷ ws))))),
            record {
              spells = if_else w r1.opening r1.closing l.0 iw r1.opens r1.read.spells r1.closes r2.spells (closed-before c (ends_open c) t3 (l.0.at, l.1) refl q2 l.4) l.2 r3.spells;
              height = rw height-if_else (rw (r1.read.height, r2.height, r3.height) refl);
              low = omega (arith, r1.read.low, r2.low, r3.low);
            },
            rw (r1.all) (simp append_assoc refl),
            λ opens. q3 (sym (open-if_else w.at e c o) ∙ opens),
          )))))
    ])))

sound-while : (d : ℕ) (inner : Measured stmt.Stmt) → StmtsSound d inner → (ts : List Token) → Holds (Whole (suc d)) ts (while_at d inner ts)
unfolding while_at repeated_at
sound-while d inner s ts =
    after-word (codes "while") ts _ (Whole (suc d)) (λ w t1 iw.
    after-tree (condition_at d t1) _ (λ x. Whole (suc d) (w ∷ x)) (ReadCondition d) t1 (sound-condition d t1) (λ e h1 us t2 r1.
    after-stmt d (inner t2) _ (λ x. Whole (suc d) (w ∷ (us ++ x))) t2 (s t2) (λ c h2 vs rest r2 q2. (
      w ∷ (r1.opening ∷ (r1.middle ++ (r1.closing ∷ vs))),
      record {
        spells = while_loop w r1.opening r1.closing iw r1.opens r1.read.spells r1.closes r2.spells;
        height = rw height-while (rw (r1.read.height, r2.height) refl);
        low = omega (arith, r1.read.low, r2.low);
      },
      rw (r1.all) (simp append_assoc refl),
      λ opens. q2 (sym (open-while w.at e c) ∙ opens),
    ))))

sound-do : (d : ℕ) (inner : Measured stmt.Stmt) → StmtsSound d inner → (ts : List Token) → Holds (Whole (suc d)) ts (do_at d inner ts)
unfolding do_at until_at
sound-do d inner s ts =
    after-word (codes "do") ts _ (Whole (suc d)) (λ w t1 iw.
    after-stmt d (inner t1) _ (λ x. Whole (suc d) (w ∷ x)) t1 (s t1) (λ c h1 us t2 r1 q1.
    after-word (codes "while") t2 _ (λ x. Whole (suc d) (w ∷ (us ++ x))) (λ v t3 iv.
    after-tree (condition_at d t3) _ (λ x. Whole (suc d) (w ∷ (us ++ (v ∷ x)))) (ReadCondition d) t3 (sound-condition d t3) (λ e h2 vs t4 r2.
    after-mark (codes ";") t4 _ (λ x. Whole (suc d) (w ∷ (us ++ (v ∷ (vs ++ x))))) (λ n rest jn. (
      w ∷ (us ++ (v ∷ (r2.opening ∷ (r2.middle ++ (r2.closing ∷ (n ∷ [])))))),
      record {
        spells = do_loop w v r2.opening r2.closing n iw r1.spells iv r2.opens r2.read.spells r2.closes jn;
        height = rw height-do (rw (r1.height, r2.read.height) refl);
        low = omega (arith, r1.low, r2.read.low);
      },
      rw (r2.all) (simp append_assoc refl),
      shut (stmt.DoWhile w.at c e) rest (open-do w.at c e),
    ))))))

for-height : (a b c x h n : ℕ) → max a (max b c) ≡ h → x ≡ n → max a (max b (max c x)) + 1 ≡ max h n + 1
for-height a b c x h n e f = omega arith

sound-for : (d : ℕ) (inner : Measured stmt.Stmt) → StmtsSound d inner → (ts : List Token) → Holds (Whole (suc d)) ts (for_at d inner ts)
unfolding for_at headed_at
sound-for d inner s ts =
    after-word (codes "for") ts _ (Whole (suc d)) (λ w t1 iw.
    after-tree (head_at d t1) _ (λ x. Whole (suc d) (w ∷ x)) (ReadHead d) t1 (sound-head d t1) (λ p h1 us t2 r1.
    after-stmt d (inner t2) _ (λ x. Whole (suc d) (w ∷ (us ++ x))) t2 (s t2) (λ c h2 vs rest r2 q2. (
      w ∷ (r1.opening ∷ (r1.starts ++ (r1.first ∷ (r1.conditions ++ (r1.second ∷ (r1.steps ++ (r1.closing ∷ vs))))))),
      record {
        spells = for_loop w r1.opening r1.first r1.second r1.closing iw r1.opens r1.start r1.firsts r1.condition r1.seconds r1.next r1.closes r2.spells;
        height = height-for w.at p.start p.condition p.step c ∙ for-height (may_simple_height p.start) (may_height p.condition) (may_simple_height p.step) (stmt_height c) h1 h2 r1.height r2.height;
        low = omega (arith, r1.low, r2.low);
      },
      rw (r1.all) (simp append_assoc refl),
      λ opens. q2 (sym (open-for w.at p.start p.condition p.step c) ∙ opens),
    ))))

sound-compound : (d : ℕ) (inner : Measured stmt.Stmt) → StmtsSound d inner → (ts : List Token) → Holds (Whole (suc d)) ts (compound_at d inner ts)
unfolding compound_at
sound-compound d inner s ts =
    either-tree (braced_at inner ts) _ (Whole (suc d)) ts (sound-braced d inner s ts) (
    either-tree (unchecked_at inner ts) _ (Whole (suc d)) ts (sound-unchecked d inner s ts) (
    either-tree (if_at d inner ts) _ (Whole (suc d)) ts (sound-if d inner s ts) (
    either-tree (while_at d inner ts) _ (Whole (suc d)) ts (sound-while d inner s ts) (
    either-tree (do_at d inner ts) _ (Whole (suc d)) ts (sound-do d inner s ts) (
    sound-for d inner s ts)))))

pub sound-stmt : (d : ℕ) → StmtsSound d (stmt_at d)
unfolding stmt_at
sound-stmt zero ts = tt
sound-stmt (suc d) ts =
    either-tree (compound_at d (stmt_at d) ts) _ (Whole (suc d)) ts (sound-compound d (stmt_at d) (sound-stmt d) ts) (
    only (leaf_at d ts) (Whole (suc d)) (ReadLeaf (suc d)) ts (sound-leaf d ts) (λ s h us rest r. (us, r.read, refl, shut s rest r.shut)))

body-of : (b : Block) (o c : Token) → IsMark (codes "{") o → IsMark (codes "}") c → (us : List Token) → SpellsStmts b.statements us → b.at ≡ o.at → SpellsBlock b (o ∷ (us ++ (c ∷ [])))
body-of b o c io ic us r e = subst (λ (n : ℕ). SpellsBlock (record { at = n; statements = b.statements }) (o ∷ (us ++ (c ∷ [])))) (sym e) (body o c io r ic)

pub sound-block : (d : ℕ) (ts : List Token) → Holds (Front (ReadBlock d)) ts (block_at d ts)
unfolding block_at
sound-block d ts = only (braces_at (stmt_at d) ts) (Front (ReadBlock d)) (ReadBraces d) ts (sound-braces d (stmt_at d) (sound-stmt d) ts) (λ b h us rest r. (
  r.opening ∷ (r.middle ++ (r.closing ∷ [])),
  record { spells = body-of b r.opening r.closing r.opens r.closes r.middle r.read.spells r.at; height = r.read.height; low = r.read.low },
  rw (r.all) refl,
))
