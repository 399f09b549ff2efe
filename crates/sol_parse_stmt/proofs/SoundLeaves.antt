-- What is read as a statement without statements inside is spelled so.
use Rattle.std.proofs.Common.{◌≡◌, refl, ℕ, zero, suc, ◌+◌, ◌≤◌, max, List, [], ◌∷◌, ◌++◌, append_assoc, map, Bool, true, false, Option, Some, None, inl, inr, codes, arith}
use Rattle.sol_tree.specs.declared.token.Token.{Token}
use Rattle.sol_tree.specs.declared.expr.ExprTree as tree
use Rattle.sol_tree.specs.declared.stmt.Stmt as stmt
use Rattle.sol_parse_expr.specs.Grammar.{IsMark, IsWord, IsName, named_by, Spells}
use Rattle.sol_parse_expr.specs.Reading.{if_value, then_value, mark_at, word_at, expr_at}
use Rattle.sol_parse_expr.proofs.After.{Holds, Front, Read, after-tree, either-tree, after-mark, after-word}
use Rattle.sol_parse_expr.proofs.Tokens.{mark-or, word-or}
use Rattle.sol_parse_stmt.specs.Grammar.{simple_place, ends_open, SpellsStmt, plain, break_off, go_on, give_back, placeholder, emission, revert_with, revert_alone, requirement, assertion}
use Rattle.sol_parse_stmt.specs.Heights.{stmt_height}
use Rattle.sol_parse_stmt.specs.Reading.{simple_at, may_expr_at, condition_at, sent_at, plain_at, alone_at, jump_at, return_at, emit_at, revert_with_at, revert_at, require_at, assert_at, leaf_at}
use Rattle.sol_parse_stmt.proofs.Heights.{height-simple, height-break, height-continue, height-return, height-placeholder, height-emit, height-revert_with, height-revert, height-require, height-assert}
use Rattle.sol_parse_stmt.proofs.Open.{open-simple, open-break, open-continue, open-return, open-placeholder, open-emit, open-revert_with, open-revert, open-require, open-assert}
use Rattle.sol_parse_stmt.proofs.Sound.{ReadExpr, ReadSimple, ReadMayExpr, ReadCondition, ReadSent, sound-one, sound-simple, sound-may_expr, sound-condition, sound-sent, after-may_text, after-may_reason}

abbrev pub ReadStmt : ℕ → stmt.Stmt → List Token → ℕ → Type 0
ReadStmt d = Read stmt_height SpellsStmt d

-- a statement to which no `else` behind it belongs
pub record ReadLeaf (d : ℕ) (s : stmt.Stmt) (us : List Token) (h : ℕ) : Type 0 where
  pub read : ReadStmt d s us h
  pub shut : ends_open s ≡ false

sound-plain : (d : ℕ) (ts : List Token) → Holds (Front (ReadLeaf (suc d))) ts (plain_at d ts)
unfolding plain_at
sound-plain d ts =
    after-tree (simple_at d ts) _ (Front (ReadLeaf (suc d))) (ReadSimple d) ts (sound-simple d ts) (λ s h us t1 r.
    after-mark (codes ";") t1 _ (λ x. Front (ReadLeaf (suc d)) (us ++ x)) (λ c rest ic. (
      us ++ (c ∷ []),
      record {
        read = record { spells = plain c r.spells ic; height = rw height-simple (rw (r.height) refl); low = omega (arith, r.low) };
        shut = open-simple (simple_place s) s;
      },
      simp append_assoc refl,
    )))

if-alone : {B : Type 0} (w : List ℕ) (ts : List Token) (go : ℕ → List Token → Option (B × ℕ × List Token)) (other : Option (B × ℕ × List Token)) (P : List Token → B → ℕ → List Token → Type 0) → ((t c : Token) (us : List Token) → IsWord w t → IsMark (codes ";") c → Holds P (t ∷ (c ∷ us)) (go t.at us)) → Holds P ts other → Holds P ts (if_value (alone_at w ts) go other)
unfolding alone_at
if-alone w ts go other P k o = elim (word-or w ts) [
  | inl miss ↦ rw miss o
  | inr x ↦
      elim (mark-or (codes ";") x.1) [
        | inl miss ↦ rw (x.4, miss) o
        | inr c ↦ rw (x.4, c.4) (rw (x.3, c.3) (k x.0 c.0 c.1 x.2 c.2))
      ]
]

sound-jump : (d : ℕ) (ts : List Token) → Holds (Front (ReadLeaf (suc d))) ts (jump_at ts)
unfolding jump_at
sound-jump d ts =
    if-alone (codes "break") ts _ _ (Front (ReadLeaf (suc d))) (λ w c us iw ic. (w ∷ (c ∷ []), record { read = record { spells = break_off w c iw ic; height = height-break w.at; low = omega arith }; shut = open-break w.at }, refl)) (
    if-alone (codes "continue") ts _ _ (Front (ReadLeaf (suc d))) (λ w c us iw ic. (w ∷ (c ∷ []), record { read = record { spells = go_on w c iw ic; height = height-continue w.at; low = omega arith }; shut = open-continue w.at }, refl)) (
    if-alone (codes "_") ts _ _ (Front (ReadLeaf (suc d))) (λ w c us iw ic. (w ∷ (c ∷ []), record { read = record { spells = placeholder w c iw ic; height = height-placeholder w.at; low = omega arith }; shut = open-placeholder w.at }, refl)) tt))

sound-return : (d : ℕ) (ts : List Token) → Holds (Front (ReadLeaf (suc d))) ts (return_at d ts)
unfolding return_at
sound-return d ts =
    after-word (codes "return") ts _ (Front (ReadLeaf (suc d))) (λ w t1 iw.
    after-tree (may_expr_at d t1) _ (λ x. Front (ReadLeaf (suc d)) (w ∷ x)) (ReadMayExpr d) t1 (sound-may_expr d t1) (λ e h us t2 r.
    after-mark (codes ";") t2 _ (λ x. Front (ReadLeaf (suc d)) (w ∷ (us ++ x))) (λ c rest ic. (
      w ∷ (us ++ (c ∷ [])),
      record {
        read = record { spells = give_back w c iw r.spells ic; height = rw height-return (rw (r.height) refl); low = omega (arith, r.low) };
        shut = open-return w.at e;
      },
      simp append_assoc refl,
    ))))

sound-emit : (d : ℕ) (ts : List Token) → Holds (Front (ReadLeaf (suc d))) ts (emit_at d ts)
unfolding emit_at
sound-emit d ts =
    after-word (codes "emit") ts _ (Front (ReadLeaf (suc d))) (λ w t1 iw.
    after-tree (sent_at d t1) _ (λ x. Front (ReadLeaf (suc d)) (w ∷ x)) (ReadSent d) t1 (sound-sent d t1) (λ s h us rest r. (
      w ∷ (r.word ∷ (r.middle ++ (r.end ∷ []))),
      record {
        read = record { spells = rw (r.name) (emission w r.word r.end iw r.named r.read.spells r.ends); height = rw height-emit (rw (r.read.height) refl); low = omega (arith, r.read.low) };
        shut = open-emit w.at s.name s.arguments;
      },
      rw (r.all) refl,
    )))

sound-revert_with : (d : ℕ) (ts : List Token) → Holds (Front (ReadLeaf (suc d))) ts (revert_with_at d ts)
unfolding revert_with_at
sound-revert_with d ts =
    after-word (codes "revert") ts _ (Front (ReadLeaf (suc d))) (λ w t1 iw.
    after-tree (sent_at d t1) _ (λ x. Front (ReadLeaf (suc d)) (w ∷ x)) (ReadSent d) t1 (sound-sent d t1) (λ s h us rest r. (
      w ∷ (r.word ∷ (r.middle ++ (r.end ∷ []))),
      record {
        read = record { spells = rw (r.name) (revert_with w r.word r.end iw r.named r.read.spells r.ends); height = rw height-revert_with (rw (r.read.height) refl); low = omega (arith, r.read.low) };
        shut = open-revert_with w.at s.name s.arguments;
      },
      rw (r.all) refl,
    )))

sound-revert : (d : ℕ) (ts : List Token) → Holds (Front (ReadLeaf (suc d))) ts (revert_at ts)
unfolding revert_at
sound-revert d ts =
    after-word (codes "revert") ts _ (Front (ReadLeaf (suc d))) (λ w t1 iw.
    after-mark (codes "(") t1 _ (λ x. Front (ReadLeaf (suc d)) (w ∷ x)) (λ o t2 io.
    after-may_text t2 _ (λ x. Front (ReadLeaf (suc d)) (w ∷ (o ∷ x))) (λ t us t3 it.
    after-mark (codes ")") t3 _ (λ x. Front (ReadLeaf (suc d)) (w ∷ (o ∷ (us ++ x)))) (λ c t4 ic.
    after-mark (codes ";") t4 _ (λ x. Front (ReadLeaf (suc d)) (w ∷ (o ∷ (us ++ (c ∷ x))))) (λ n rest jn. (
      w ∷ (o ∷ (us ++ (c ∷ (n ∷ [])))),
      record {
        read = record { spells = revert_alone w o c n iw io it ic jn; height = height-revert w.at t; low = omega arith };
        shut = open-revert w.at t;
      },
      simp append_assoc refl,
    ))))))

sound-require : (d : ℕ) (ts : List Token) → Holds (Front (ReadLeaf (suc d))) ts (require_at d ts)
unfolding require_at
sound-require d ts =
    after-word (codes "require") ts _ (Front (ReadLeaf (suc d))) (λ w t1 iw.
    after-mark (codes "(") t1 _ (λ x. Front (ReadLeaf (suc d)) (w ∷ x)) (λ o t2 io.
    after-tree (expr_at d 10 t2) _ (λ x. Front (ReadLeaf (suc d)) (w ∷ (o ∷ x))) (ReadExpr d) t2 (sound-one d t2) (λ e h us t3 r.
    after-may_reason t3 _ (λ x. Front (ReadLeaf (suc d)) (w ∷ (o ∷ (us ++ x)))) (λ t vs t4 it.
    after-mark (codes ")") t4 _ (λ x. Front (ReadLeaf (suc d)) (w ∷ (o ∷ (us ++ (vs ++ x))))) (λ c t5 ic.
    after-mark (codes ";") t5 _ (λ x. Front (ReadLeaf (suc d)) (w ∷ (o ∷ (us ++ (vs ++ (c ∷ x)))))) (λ n rest jn. (
      w ∷ (o ∷ (us ++ (vs ++ (c ∷ (n ∷ []))))),
      record {
        read = record { spells = requirement w o c n iw io r.spells it ic jn; height = rw height-require (rw (r.height) refl); low = omega (arith, r.low) };
        shut = open-require w.at e t;
      },
      simp append_assoc refl,
    )))))))

sound-assert : (d : ℕ) (ts : List Token) → Holds (Front (ReadLeaf (suc d))) ts (assert_at d ts)
unfolding assert_at
sound-assert d ts =
    after-word (codes "assert") ts _ (Front (ReadLeaf (suc d))) (λ w t1 iw.
    after-tree (condition_at d t1) _ (λ x. Front (ReadLeaf (suc d)) (w ∷ x)) (ReadCondition d) t1 (sound-condition d t1) (λ e h us t2 r.
    after-mark (codes ";") t2 _ (λ x. Front (ReadLeaf (suc d)) (w ∷ (us ++ x))) (λ c rest ic. (
      w ∷ (r.opening ∷ (r.middle ++ (r.closing ∷ (c ∷ [])))),
      record {
        read = record { spells = assertion w r.opening r.closing c iw r.opens r.read.spells r.closes ic; height = rw height-assert (rw (r.read.height) refl); low = omega (arith, r.read.low) };
        shut = open-assert w.at e;
      },
      rw (r.all) (simp append_assoc refl),
    ))))

pub sound-leaf : (d : ℕ) (ts : List Token) → Holds (Front (ReadLeaf (suc d))) ts (leaf_at d ts)
unfolding leaf_at
sound-leaf d ts =
    either-tree (jump_at ts) _ (Front (ReadLeaf (suc d))) ts (sound-jump d ts) (
    either-tree (return_at d ts) _ (Front (ReadLeaf (suc d))) ts (sound-return d ts) (
    either-tree (emit_at d ts) _ (Front (ReadLeaf (suc d))) ts (sound-emit d ts) (
    either-tree (revert_with_at d ts) _ (Front (ReadLeaf (suc d))) ts (sound-revert_with d ts) (
    either-tree (revert_at ts) _ (Front (ReadLeaf (suc d))) ts (sound-revert d ts) (
    either-tree (require_at d ts) _ (Front (ReadLeaf (suc d))) ts (sound-require d ts) (
    either-tree (assert_at d ts) _ (Front (ReadLeaf (suc d))) ts (sound-assert d ts) (
    sound-plain d ts)))))))
