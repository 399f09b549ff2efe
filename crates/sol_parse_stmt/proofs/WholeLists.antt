-- A list of statements is read whole where each of them is.
use Rattle.std.proofs.Common.{◌≡◌, ◌∙◌, sym, ap, subst, refl, ℕ, zero, suc, ◌+◌, ◌-◌, ◌<◌, ◌≤◌, max, List, [], ◌∷◌, ◌++◌, length, length-append, append_assoc, append-nil, map, Bool, true, false, Option, Some, None, ◌⊎◌, inl, inr, codes, arith}
use Rattle.sol_tree.specs.declared.token.Token.{Token}
use Rattle.sol_tree.specs.declared.token.TokenKind.TheVariants as kind
use Rattle.sol_tree.specs.declared.stmt.Stmt as stmt
use Rattle.sol_parse_expr.specs.Grammar.{IsMark, IsWord}
use Rattle.sol_parse_expr.specs.Heights.{greatest}
use Rattle.sol_parse_expr.specs.Reading.{Measured, mark_at, word_at}
use Rattle.sol_parse_expr.proofs.Tokens.{word-not}
use Rattle.sol_parse_expr.proofs.Read.{read}
use Rattle.sol_parse_stmt.specs.Grammar.{SpellsStmt, SpellsStmts, ended, another}
use Rattle.sol_parse_stmt.specs.Heights.{stmt_height}
use Rattle.sol_parse_stmt.specs.Reading.{statements_at, stmt_at}
use Rattle.sol_parse_expr.proofs.First.{first, first-some, first-no_word}
use Rattle.sol_parse_stmt.proofs.Heads.{leads, stmt-leads}
use Rattle.sol_parse_stmt.proofs.Loops.{statements-stop, statements-turn}
use Rattle.sol_parse_stmt.proofs.SoundStmts.{Whole, sound-stmt}

pub close_leads : leads (kind.Mark (codes "}")) ≡ false
close_leads = refl

else_leads : leads (kind.Word (codes "else")) ≡ false
unfolding Rattle.sol_tree.specs.Words.is_name Rattle.sol_tree.specs.Words.elementary_type Rattle.sol_tree.specs.Words.grammar_words
else_leads = refl

optional : {A : Type 0} (o : Option A) → (o ≡ None) ⊎ ((x : A) × (o ≡ Some x))
optional None = inl refl
optional (Some x) = inr (x, refl)

-- no statement stands where no statement begins
pub no-stmt : (d : ℕ) (ts : List Token) → first leads ts ≡ false → stmt_at d ts ≡ None
no-stmt d ts q = elim (optional (stmt_at d ts)) [
  | inl e ↦ e
  | inr x ↦
      let f = read (Whole d) ts (stmt_at d ts) x.0.0 x.0.1 x.0.2 x.1 (sound-stmt d ts) in
      let same : first leads ts ≡ true = ap (first leads) f.2 ∙ stmt-leads f.1.spells x.0.2 in
      absurd (cc (same, q))
]

pub no-else : {ss : List stmt.Stmt} {us : List Token} → SpellsStmts ss us → (c : Token) (rest : List Token) → IsMark (codes "}") c → word_at (codes "else") (us ++ (c ∷ rest)) ≡ None
no-else ended c rest i = word-not (codes "else") (kind.Mark (codes "}")) c rest i refl
no-else (another {s} {ss} {ts} {us} x xs) c rest i = rw (append_assoc ts) (first-no_word leads (codes "else") _ else_leads (stmt-leads x _))

pub some-token : {s : stmt.Stmt} {us : List Token} → SpellsStmt s us → 0 < length us
some-token {s} {us} x = first-some leads us (subst (λ (w : List Token). first leads w ≡ true) (append-nil us) (stmt-leads x []))

-- one statement, and those after it
pub one-read : (d k : ℕ) (acc ss : List stmt.Stmt) (s : stmt.Stmt) (h m : ℕ) (ts us end : List Token) → 0 < length ts → length (ts ++ us) ≤ k → stmt_at d (ts ++ us) ≡ Some (s, stmt_height s, us) → (length us ≤ k - 1 → statements_at (stmt_at d) (k - 1) (acc ++ (s ∷ [])) (max h (stmt_height s)) us ≡ Some ((acc ++ (s ∷ [])) ++ ss, max (max h (stmt_height s)) m, end)) → statements_at (stmt_at d) k acc h (ts ++ us) ≡ Some (acc ++ (s ∷ ss), max h (max (stmt_height s) m), end)
one-read d k acc ss s h m ts us end some_here long e go =
    let total : length (ts ++ us) ≡ length ts + length us = length-append ts us in
    let turn : 0 < k = omega arith in
    let left : length us ≤ k - 1 = omega arith in
    let list : (acc ++ (s ∷ [])) ++ ss ≡ acc ++ (s ∷ ss) = append_assoc acc (s ∷ []) ss in
    let top : max (max h (stmt_height s)) m ≡ max h (max (stmt_height s) m) = omega arith in
    statements-turn (stmt_at d) k acc h (ts ++ us) s (stmt_height s) us turn e ∙ rw (← list, ← top) (go left)
