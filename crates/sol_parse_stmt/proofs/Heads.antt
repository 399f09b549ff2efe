-- With what a statement begins.
use Rattle.std.proofs.Common.{◌≡◌, refl, ℕ, List, [], ◌∷◌, ◌++◌, append_assoc, Bool, true, false, ◌||◌, not, None, codes}
use Rattle.std.specs.Str.{bytes_eq}
use Rattle.sol_tree.specs.declared.token.Token.{Token}
use Rattle.sol_tree.specs.declared.token.TokenKind.{TokenKind}
use Rattle.sol_tree.specs.declared.token.TokenKind.TheVariants as kind
use Rattle.sol_tree.specs.declared.expr.ExprTree as tree
use Rattle.sol_tree.specs.declared.stmt.StepOp.{StepOp}
use Rattle.sol_tree.specs.declared.stmt.StepOp.TheVariants as step
use Rattle.sol_tree.specs.declared.stmt.Simple.{Simple}
use Rattle.sol_tree.specs.declared.stmt.Stmt as stmt
use Rattle.sol_tree.specs.Refused.{is_one_of}
use Rattle.sol_tree.specs.Words.{elementary_type, number_unit, is_name, grammar_words}
use Rattle.sol_parse_expr.specs.Grammar.{IsMark, IsWord, Spells}
use Rattle.sol_parse_expr.specs.Reading.{mark_at, word_at}
use Rattle.sol_parse_expr.proofs.First.{begins, begins_type, or-left, or-right, first, first-here, first-weaker, first-no_mark, first-no_word, expr-begins, type-begins}
use Rattle.sol_parse_expr.proofs.Keywords.{every, listed, not-true}
use Rattle.sol_parse_stmt.specs.Grammar.{step_mark, SpellsSimple, declaration, assignment, step_after, step_before, deletion, expression, SpellsStmt, block, unchecked, plain, if_alone, if_else, while_loop, do_loop, for_loop, break_off, go_on, give_back, placeholder, emission, revert_with, revert_alone, requirement, assertion}

-- only what stands before a `;` begins with such a token
abbrev pub steps : TokenKind → Bool
steps (kind.Word w) = bytes_eq w (codes "delete")
steps (kind.Number z h) = false
steps kind.Text = false
steps (kind.Mark m) = is_one_of m (codes "++" ∷ codes "--" ∷ [])

-- what stands before a `;` begins with such a token
abbrev pub starts : TokenKind → Bool
starts k = steps k || (begins_type k || begins k)

-- words with which other statements begin
abbrev pub other_words : List (List ℕ)
other_words = codes "unchecked" ∷ codes "if" ∷ codes "while" ∷ codes "do" ∷ codes "for" ∷ codes "break" ∷ codes "continue" ∷ codes "return" ∷ codes "_" ∷ codes "emit" ∷ codes "revert" ∷ codes "require" ∷ codes "assert" ∷ []

-- other statements begin with such a token
abbrev pub announces : TokenKind → Bool
announces (kind.Word w) = is_one_of w other_words
announces (kind.Number z h) = false
announces kind.Text = false
announces (kind.Mark m) = bytes_eq m (codes "{")

-- a statement begins with such a token
abbrev pub leads : TokenKind → Bool
leads k = announces k || starts k

begins-starts : (k : TokenKind) → begins k ≡ true → starts k ≡ true
begins-starts k h = or-right _ _ (or-right _ _ h)

begins_type-starts : (k : TokenKind) → begins_type k ≡ true → starts k ≡ true
begins_type-starts k h = or-right _ _ (or-left _ _ h)

steps-starts : (k : TokenKind) → steps k ≡ true → starts k ≡ true
steps-starts k h = or-left _ _ h

expr-starts : {l : ℕ} {e : tree.ExprTree} {us : List Token} → Spells l e us → (rest : List Token) → first starts (us ++ rest) ≡ true
expr-starts {l} {e} {us} s rest = first-weaker begins starts begins-starts (us ++ rest) (expr-begins s rest)

step-starts : (o : StepOp) (t : Token) (ts : List Token) → IsMark (step_mark o) t → first starts (t ∷ ts) ≡ true
step-starts step.Increment t ts h = first-here starts (kind.Mark (codes "++")) t ts true h refl
step-starts step.Decrement t ts h = first-here starts (kind.Mark (codes "--")) t ts true h refl

pub simple-starts : {s : Simple} {us : List Token} → SpellsSimple s us → (rest : List Token) → first starts (us ++ rest) ≡ true
simple-starts (declaration {ty} {n} {i} m {ts} {us} s j k) rest = rw (append_assoc ts) (first-weaker begins_type starts begins_type-starts _ (type-begins s _))
simple-starts (assignment {a} {b} {o} t {ts} {us} s i r) rest = rw (append_assoc ts) (expr-starts s _)
simple-starts (step_after {a} {o} t {ts} s i) rest = rw (append_assoc ts) (expr-starts s _)
simple-starts (step_before {a} {o} t {ts} i s) rest = step-starts o t _ i
simple-starts (deletion w i s) rest = first-here starts (kind.Word (codes "delete")) w _ true i refl
simple-starts (expression s) rest = expr-starts s rest

-- no word of another statement and no block stands there
every-other : every (λ w. not (starts (kind.Word w))) other_words ≡ true
unfolding is_name grammar_words elementary_type number_unit
every-other = refl

pub simple-word : (w : List ℕ) → is_one_of w other_words ≡ true → (x : Simple) (us : List Token) → SpellsSimple x us → (rest : List Token) → word_at w (us ++ rest) ≡ None
simple-word w h x us p rest = first-no_word starts w (us ++ rest) (not-true (starts (kind.Word w)) (listed (λ v. not (starts (kind.Word v))) w other_words every-other h)) (simple-starts p rest)

pub simple-no_brace : (x : Simple) (us : List Token) → SpellsSimple x us → (rest : List Token) → mark_at (codes "{") (us ++ rest) ≡ None
simple-no_brace x us p rest = first-no_mark starts (codes "{") (us ++ rest) refl (simple-starts p rest)

starts-leads : (k : TokenKind) → starts k ≡ true → leads k ≡ true
starts-leads k h = or-right _ _ h

leads-word : (w : List ℕ) (t : Token) (ts : List Token) → announces (kind.Word w) ≡ true → IsWord w t → first leads (t ∷ ts) ≡ true
leads-word w t ts h i = first-here leads (kind.Word w) t ts true i (or-left _ _ h)

pub stmt-leads : {s : stmt.Stmt} {us : List Token} → SpellsStmt s us → (rest : List Token) → first leads (us ++ rest) ≡ true
stmt-leads (block o c i s j) rest = first-here leads (kind.Mark (codes "{")) o _ true i refl
stmt-leads (unchecked w o c i j s k) rest = leads-word (codes "unchecked") w _ refl i
stmt-leads (plain {s} e {ts} r i) rest = rw (append_assoc ts) (first-weaker starts leads starts-leads _ (simple-starts r _))
stmt-leads (if_alone w o c i j s k r) rest = leads-word (codes "if") w _ refl i
stmt-leads (if_else w o c l i j s k r q m v) rest = leads-word (codes "if") w _ refl i
stmt-leads (while_loop w o c i j s k r) rest = leads-word (codes "while") w _ refl i
stmt-leads (do_loop d w o c n i r j k s p q) rest = leads-word (codes "do") d _ refl i
stmt-leads (for_loop w o m n c i j a k e p b q r) rest = leads-word (codes "for") w _ refl i
stmt-leads (break_off w n i j) rest = leads-word (codes "break") w _ refl i
stmt-leads (go_on w n i j) rest = leads-word (codes "continue") w _ refl i
stmt-leads (give_back w n i e j) rest = leads-word (codes "return") w _ refl i
stmt-leads (placeholder w n i j) rest = leads-word (codes "_") w _ refl i
stmt-leads (emission w m n i j a k) rest = leads-word (codes "emit") w _ refl i
stmt-leads (revert_with w m n i j a k) rest = leads-word (codes "revert") w _ refl i
stmt-leads (revert_alone w o c n i j t k p) rest = leads-word (codes "revert") w _ refl i
stmt-leads (requirement w o c n i j s t k p) rest = leads-word (codes "require") w _ refl i
stmt-leads (assertion w o c n i j s k p) rest = leads-word (codes "assert") w _ refl i
