-- Each part of a statement is read from the tokens that spell it.
use Rattle.std.proofs.Common.{◌≡◌, ◌∙◌, sym, ap, refl, ℕ, zero, suc, ◌+◌, ◌<◌, ◌≤◌, max, List, [], ◌∷◌, ◌++◌, length, append_assoc, append-nil, map, Bool, true, false, Option, Some, None, ◌⊎◌, inl, inr, codes, arith}
use Rattle.std.specs.Str.{bytes_eq}
use Rattle.sol_tree.specs.declared.token.Token.{Token}
use Rattle.sol_tree.specs.declared.token.TokenKind.TheVariants as kind
use Rattle.sol_tree.specs.declared.types.Type as types
use Rattle.sol_tree.specs.declared.expr.ExprTree as tree
use Rattle.sol_tree.specs.declared.expr.Arguments.{Arguments}
use Rattle.sol_tree.specs.declared.expr.Initial.{Initial}
use Rattle.sol_tree.specs.declared.stmt.AssignOp.{AssignOp}
use Rattle.sol_tree.specs.declared.stmt.AssignOp.TheVariants as assign
use Rattle.sol_tree.specs.declared.stmt.StepOp.{StepOp}
use Rattle.sol_tree.specs.declared.stmt.StepOp.TheVariants as step
use Rattle.sol_tree.specs.declared.stmt.Text.{Text}
use Rattle.sol_tree.specs.declared.stmt.Simple.{Simple}
use Rattle.sol_tree.specs.Refused.{is_one_of}
use Rattle.sol_tree.specs.Words.{operator_of}
use Rattle.sol_parse_expr.specs.Ends.{goes_on, Ends}
use Rattle.sol_parse_expr.specs.Grammar.{IsMark, IsWord, IsName, named_by, SpellsType, Spells, SpellsAll}
use Rattle.sol_parse_expr.specs.Heights.{type_height, height, greatest}
use Rattle.sol_parse_expr.specs.Reading.{then_tree, mark_at, word_at, name_at, type_at, expr_at, all_at}
use Rattle.sol_parse_expr.proofs.Tokens.{mark-here, word-here, name-here, name-not}
use Rattle.sol_parse_expr.proofs.Binding.{ends-mark, no_more-semicolon, no_more-call_end, no_more-comma}
use Rattle.sol_parse_expr.proofs.Laws.{type-all, expr-read, expr-all, args-all}
use Rattle.sol_parse_expr.proofs.First.{WordFirst, NameFirst, MarkFirst, word-mark, mark-word, mark-name, mark-mark, name-mark, brackets-none, begins, begins_mark, begins-not, first-no_mark, first-no_word, expr-begins, no-declaration as expression-no_declaration, type-mark, type-keyword}
use Rattle.sol_parse_expr.proofs.Keywords.{keyword}
use Rattle.sol_parse_stmt.specs.declared.parts.Head.{Head}
use Rattle.sol_parse_stmt.specs.declared.parts.Sent.{Sent}
use Rattle.sol_parse_stmt.specs.Grammar.{assign_mark, step_mark, MayInitial, SpellsSimple, MaySimple, MayExpr, text_of, MayText, MayReason, SpellsArguments}
use Rattle.sol_parse_stmt.specs.Heights.{may_height, initial_height, arguments_height, simple_height, may_simple_height}
use Rattle.sol_parse_stmt.specs.Reading.{text_at, may_text_at, reason_at, may_reason_at, assign_at, step_at, initial_at, may_initial_at, declaration_at, assigned_at, after_at, led_at, step_before_at, delete_at, simple_at, may_simple_at, may_expr_at, condition_at, arguments_at, sent_at, head_at, declared_at, head_condition_at, head_step_at, initialised_at}

head-mark : (m : List ℕ) → begins_mark m ≡ false → (e : tree.ExprTree) (us : List Token) → Spells 10 e us → (rest : List Token) → mark_at m (us ++ rest) ≡ None
head-mark m q e us p rest = first-no_mark begins m (us ++ rest) q (expr-begins p rest)

-- `;` or `)` follows
abbrev pub Closed : List Token → Type 0
Closed ts = MarkFirst (codes ";") ts ⊎ MarkFirst (codes ")") ts

pub first-ends : (m : List ℕ) (ts : List Token) → goes_on (kind.Mark m) ≡ false → MarkFirst m ts → Ends ts
first-ends m ts q f = rw (f.3) (ends-mark m f.0 f.1 q f.2)

pub closed-ends : (ts : List Token) → Closed ts → Ends ts
closed-ends ts c = elim c [ inl f ↦ first-ends (codes ";") ts no_more-semicolon f | inr f ↦ first-ends (codes ")") ts no_more-call_end f ]

pub closed-mark : (m : List ℕ) (ts : List Token) → bytes_eq (codes ";") m ≡ false → bytes_eq (codes ")") m ≡ false → Closed ts → mark_at m ts ≡ None
closed-mark m ts p q c = elim c [ inl f ↦ mark-mark m (codes ";") ts p f | inr f ↦ mark-mark m (codes ")") ts q f ]

pub closed-name : (ts : List Token) → Closed ts → name_at ts ≡ None
closed-name ts c = elim c [ inl f ↦ name-mark (codes ";") ts f | inr f ↦ name-mark (codes ")") ts f ]

-- ---- initial values and arguments

initial-none : (d : ℕ) (ts : List Token) → mark_at (codes "=") ts ≡ None → initial_at d ts ≡ None
unfolding initial_at
initial-none d ts e = rw e refl

pub whole-initial : (d : ℕ) (i : Option Initial) (us : List Token) → MayInitial i us → initial_height i ≤ d → (rest : List Token) → Ends rest → mark_at (codes "=") rest ≡ None → may_initial_at d (us ++ rest) ≡ Some (i, initial_height i, rest)
unfolding may_initial_at initial_at
whole-initial d i us MayInitial.without low rest s q = rw (initial-none d rest q) refl
whole-initial d i us (MayInitial.initial t {ts} m p) low rest s q = rw (mark-here (codes "=") t (ts ++ rest) m, expr-all p d low rest s) refl

pub whole-arguments : (d : ℕ) (a : Arguments) (us : List Token) → SpellsArguments a us → arguments_height a ≤ d → (rest : List Token) → arguments_at d (us ++ rest) ≡ Some (a, arguments_height a, rest)
unfolding arguments_at
whole-arguments d a us (SpellsArguments.listed o c {ts} io p ic) low rest = rw append_assoc (rw (mark-here (codes "(") o (ts ++ (c ∷ rest)) io, args-all p d low c rest ic, mark-here (codes ")") c rest ic) refl)

-- ---- operators

assign-ends : (o : AssignOp) → goes_on (kind.Mark (assign_mark o)) ≡ false
unfolding operator_of
assign-ends assign.Assign = refl
assign-ends assign.Add = refl
assign-ends assign.Subtract = refl
assign-ends assign.Multiply = refl
assign-ends assign.Divide = refl
assign-ends assign.Remainder = refl

step-ends : (o : StepOp) → goes_on (kind.Mark (step_mark o)) ≡ false
unfolding operator_of
step-ends step.Increment = refl
step-ends step.Decrement = refl

assign-here : (o : AssignOp) (t : Token) (ts : List Token) → IsMark (assign_mark o) t → assign_at (t ∷ ts) ≡ Some ((t.at, o), ts)
unfolding assign_at
assign-here assign.Assign t ts i = rw (mark-here (codes "=") t ts i) refl
assign-here assign.Add t ts i = rw (mark-mark (codes "=") (codes "+=") (t ∷ ts) refl (t, ts, i, refl), mark-here (codes "+=") t ts i) refl
assign-here assign.Subtract t ts i = rw (mark-mark (codes "=") (codes "-=") (t ∷ ts) refl (t, ts, i, refl), mark-mark (codes "+=") (codes "-=") (t ∷ ts) refl (t, ts, i, refl), mark-here (codes "-=") t ts i) refl
assign-here assign.Multiply t ts i = rw (mark-mark (codes "=") (codes "*=") (t ∷ ts) refl (t, ts, i, refl), mark-mark (codes "+=") (codes "*=") (t ∷ ts) refl (t, ts, i, refl), mark-mark (codes "-=") (codes "*=") (t ∷ ts) refl (t, ts, i, refl), mark-here (codes "*=") t ts i) refl
assign-here assign.Divide t ts i = rw (mark-mark (codes "=") (codes "/=") (t ∷ ts) refl (t, ts, i, refl), mark-mark (codes "+=") (codes "/=") (t ∷ ts) refl (t, ts, i, refl), mark-mark (codes "-=") (codes "/=") (t ∷ ts) refl (t, ts, i, refl), mark-mark (codes "*=") (codes "/=") (t ∷ ts) refl (t, ts, i, refl), mark-here (codes "/=") t ts i) refl
assign-here assign.Remainder t ts i = rw (mark-mark (codes "=") (codes "%=") (t ∷ ts) refl (t, ts, i, refl), mark-mark (codes "+=") (codes "%=") (t ∷ ts) refl (t, ts, i, refl), mark-mark (codes "-=") (codes "%=") (t ∷ ts) refl (t, ts, i, refl), mark-mark (codes "*=") (codes "%=") (t ∷ ts) refl (t, ts, i, refl), mark-mark (codes "/=") (codes "%=") (t ∷ ts) refl (t, ts, i, refl), mark-here (codes "%=") t ts i) refl

assign-none : (ts : List Token) → ((o : AssignOp) → mark_at (assign_mark o) ts ≡ None) → assign_at ts ≡ None
unfolding assign_at
assign-none ts f = rw (f assign.Assign, f assign.Add, f assign.Subtract, f assign.Multiply, f assign.Divide, f assign.Remainder) refl

closed-assign : (ts : List Token) → Closed ts → assign_at ts ≡ None
unfolding assign_at
closed-assign ts c = rw (closed-mark (codes "=") ts refl refl c, closed-mark (codes "+=") ts refl refl c, closed-mark (codes "-=") ts refl refl c, closed-mark (codes "*=") ts refl refl c, closed-mark (codes "/=") ts refl refl c, closed-mark (codes "%=") ts refl refl c) refl

step-here : (o : StepOp) (t : Token) (ts : List Token) → IsMark (step_mark o) t → step_at (t ∷ ts) ≡ Some ((t.at, o), ts)
unfolding step_at
step-here step.Increment t ts i = rw (mark-here (codes "++") t ts i) refl
step-here step.Decrement t ts i = rw (mark-mark (codes "++") (codes "--") (t ∷ ts) refl (t, ts, i, refl), mark-here (codes "--") t ts i) refl

step-none : (ts : List Token) → mark_at (codes "++") ts ≡ None → mark_at (codes "--") ts ≡ None → step_at ts ≡ None
unfolding step_at
step-none ts e f = rw (e, f) refl

closed-step : (ts : List Token) → Closed ts → step_at ts ≡ None
closed-step ts c = step-none ts (closed-mark (codes "++") ts refl refl c) (closed-mark (codes "--") ts refl refl c)

step-assign : (o : StepOp) (t : Token) (ts : List Token) → IsMark (step_mark o) t → assign_at (t ∷ ts) ≡ None
unfolding assign_at
step-assign step.Increment t ts i = rw (mark-mark (codes "=") (codes "++") (t ∷ ts) refl (t, ts, i, refl), mark-mark (codes "+=") (codes "++") (t ∷ ts) refl (t, ts, i, refl), mark-mark (codes "-=") (codes "++") (t ∷ ts) refl (t, ts, i, refl), mark-mark (codes "*=") (codes "++") (t ∷ ts) refl (t, ts, i, refl), mark-mark (codes "/=") (codes "++") (t ∷ ts) refl (t, ts, i, refl), mark-mark (codes "%=") (codes "++") (t ∷ ts) refl (t, ts, i, refl)) refl
step-assign step.Decrement t ts i = rw (mark-mark (codes "=") (codes "--") (t ∷ ts) refl (t, ts, i, refl), mark-mark (codes "+=") (codes "--") (t ∷ ts) refl (t, ts, i, refl), mark-mark (codes "-=") (codes "--") (t ∷ ts) refl (t, ts, i, refl), mark-mark (codes "*=") (codes "--") (t ∷ ts) refl (t, ts, i, refl), mark-mark (codes "/=") (codes "--") (t ∷ ts) refl (t, ts, i, refl), mark-mark (codes "%=") (codes "--") (t ∷ ts) refl (t, ts, i, refl)) refl

-- ---- simple statements

then-none : {A B : Type 0} (r : Option (A × ℕ × List Token)) (go : A → ℕ → List Token → Option B) → ((a : A) (h : ℕ) (rest : List Token) → ◌≡◌ {A = Option (A × ℕ × List Token)} r (Some (a, h, rest)) → go a h rest ≡ None) → then_tree r go ≡ None
then-none None go f = refl
then-none (Some x) go f = f x.0 x.1 x.2 refl

no-declaration : (d : ℕ) (e : tree.ExprTree) (us : List Token) → Spells 10 e us → (rest : List Token) → Ends rest → name_at rest ≡ None → declaration_at d (us ++ rest) ≡ None
unfolding declaration_at declared_at
no-declaration d e us p rest s n = then-none (type_at d (us ++ rest)) _ (λ t h more q. rw (expression-no_declaration p d rest s n t h more q) refl)

no-type : (d : ℕ) (ts : List Token) → type_at d ts ≡ None → declaration_at d ts ≡ None
unfolding declaration_at
no-type d ts e = rw e refl

no-step : (d : ℕ) (ts : List Token) → step_at ts ≡ None → step_before_at d ts ≡ None
unfolding step_before_at
no-step d ts e = rw e refl

no-delete : (d : ℕ) (ts : List Token) → word_at (codes "delete") ts ≡ None → delete_at d ts ≡ None
unfolding delete_at
no-delete d ts e = rw e refl

-- where an expression stands, its own reading is what counts
led : (d : ℕ) (e : tree.ExprTree) (us : List Token) → Spells 10 e us → height e ≤ d → (rest : List Token) → Ends rest → name_at rest ≡ None → simple_at d (us ++ rest) ≡ after_at d e (height e) rest
unfolding simple_at led_at
led d e us p low rest s n =
    let steps = no-step d (us ++ rest) (step-none (us ++ rest) (head-mark (codes "++") refl e us p rest) (head-mark (codes "--") refl e us p rest)) in
    let deletes = no-delete d (us ++ rest) (first-no_word begins (codes "delete") (us ++ rest) (begins-not (codes "delete") refl (keyword (codes "delete") refl)) (expr-begins p rest)) in
    rw (no-declaration d e us p rest s n, steps, deletes, expr-all p d low rest s) refl

pub whole-simple : (d : ℕ) (x : Simple) (us : List Token) → SpellsSimple x us → simple_height x ≤ d → (rest : List Token) → Closed rest → simple_at d (us ++ rest) ≡ Some (x, simple_height x, rest)
unfolding simple_at declaration_at declared_at initialised_at step_before_at delete_at after_at assigned_at
whole-simple d x us (SpellsSimple.declaration {ty} {n} {i} m {ts} {us = ws} p im q) low rest c =
    let t2 : List Token = ws ++ rest in
    let named : NameFirst (m ∷ t2) = (m, n, t2, im, refl) in
    let ty_read = type-all p d (omega (arith, low)) (m ∷ t2) (brackets-none (m ∷ t2) (mark-name (codes "[") (m ∷ t2) named)) in
    let initial_read = whole-initial d i ws q (omega (arith, low)) rest (closed-ends rest c) (closed-mark (codes "=") rest refl refl c) in
    rw append_assoc (rw (ty_read, name-here n m t2 im, initial_read) refl)
whole-simple d x us (SpellsSimple.assignment {a} {b = e} {o} t {ts} {us = ws} p io q) low rest c =
    let first : MarkFirst (assign_mark o) (t ∷ (ws ++ rest)) = (t, ws ++ rest, io, refl) in
    let start = led d a ts p (omega (arith, low)) (t ∷ (ws ++ rest)) (first-ends (assign_mark o) (t ∷ (ws ++ rest)) (assign-ends o) first) (name-mark (assign_mark o) (t ∷ (ws ++ rest)) first) in
    rw append_assoc (start ∙ rw (assign-here o t (ws ++ rest) io, expr-all q d (omega (arith, low)) rest (closed-ends rest c)) refl)
whole-simple d x us (SpellsSimple.step_after {a} {o} t {ts} p io) low rest c =
    let first : MarkFirst (step_mark o) (t ∷ rest) = (t, rest, io, refl) in
    let start = led d a ts p low (t ∷ rest) (first-ends (step_mark o) (t ∷ rest) (step-ends o) first) (name-mark (step_mark o) (t ∷ rest) first) in
    rw append_assoc (start ∙ rw (step-assign o t rest io, step-here o t rest io) refl)
whole-simple d x us (SpellsSimple.step_before {a} {o} t {ts} io p) low rest c =
    let first : MarkFirst (step_mark o) (t ∷ (ts ++ rest)) = (t, ts ++ rest, io, refl) in
    rw (type-mark d (step_mark o) (t ∷ (ts ++ rest)) first, step-here o t (ts ++ rest) io, expr-all p d low rest (closed-ends rest c)) refl
whole-simple d x us (SpellsSimple.deletion {a} w {ts} iw p) low rest c =
    let t1 : List Token = ts ++ rest in
    let first : WordFirst (codes "delete") (w ∷ t1) = (w, t1, iw, refl) in
    rw (type-keyword d (codes "delete") (w ∷ t1) refl (keyword (codes "delete") refl) first, step-none (w ∷ t1) (mark-word (codes "++") (codes "delete") (w ∷ t1) first) (mark-word (codes "--") (codes "delete") (w ∷ t1) first), word-here (codes "delete") w t1 iw, expr-all p d low rest (closed-ends rest c)) refl
whole-simple d x us (SpellsSimple.expression {a} {ts} p) low rest c =
    let start = led d a us p low rest (closed-ends rest c) (closed-name rest c) in
    start ∙ rw (closed-assign rest c, closed-step rest c) refl

-- ---- what may be left out

not-some : {A : Type 0} (r : Option (A × ℕ × List Token)) → ((a : A) (h : ℕ) (rest : List Token) → ◌≡◌ {A = Option (A × ℕ × List Token)} r (Some (a, h, rest)) → ⊥) → r ≡ None
not-some None f = refl
not-some (Some x) f = absurd (f x.0 x.1 x.2 refl)

-- no expression begins with another mark
pub expr-mark : (d : ℕ) (m : List ℕ) (ts : List Token) → begins_mark m ≡ false → MarkFirst m ts → expr_at d 10 ts ≡ None
expr-mark d m ts q f = not-some (expr_at d 10 ts) (λ e h rest r.
    let g = expr-read d 10 (omega arith) ts e h rest r in
    let away : mark_at m ts ≡ None = rw (g.2) (head-mark m q e g.0 g.1 rest) in
    let here : mark_at m ts ≡ Some (f.0.at, f.1) = ap (λ (w : List Token). mark_at m w) f.3 ∙ mark-here m f.0 f.1 f.2 in
    absurd (cc (away, here)))

pub closed-expr : (d : ℕ) (ts : List Token) → Closed ts → expr_at d 10 ts ≡ None
closed-expr d ts c = elim c [ inl f ↦ expr-mark d (codes ";") ts refl f | inr f ↦ expr-mark d (codes ")") ts refl f ]

closed-type : (d : ℕ) (ts : List Token) → Closed ts → type_at d ts ≡ None
closed-type d ts c = elim c [ inl f ↦ type-mark d (codes ";") ts f | inr f ↦ type-mark d (codes ")") ts f ]

closed-word : (w : List ℕ) (ts : List Token) → Closed ts → word_at w ts ≡ None
closed-word w ts c = elim c [ inl f ↦ word-mark w (codes ";") ts f | inr f ↦ word-mark w (codes ")") ts f ]

closed-simple : (d : ℕ) (ts : List Token) → Closed ts → simple_at d ts ≡ None
unfolding simple_at led_at
closed-simple d ts c = rw (no-type d ts (closed-type d ts c), no-step d ts (closed-step ts c), no-delete d ts (closed-word (codes "delete") ts c), closed-expr d ts c) refl

pub may_simple-all : (d : ℕ) (x : Option Simple) (us : List Token) → MaySimple x us → may_simple_height x ≤ d → (rest : List Token) → Closed rest → may_simple_at d (us ++ rest) ≡ Some (x, may_simple_height x, rest)
unfolding may_simple_at
may_simple-all d x us MaySimple.without low rest c = rw (closed-simple d rest c) refl
may_simple-all d x us (MaySimple.given {s} p) low rest c = rw (whole-simple d s us p low rest c) refl

pub may_expr-all : (d : ℕ) (x : Option tree.ExprTree) (us : List Token) → MayExpr x us → may_height x ≤ d → (rest : List Token) → Closed rest → may_expr_at d (us ++ rest) ≡ Some (x, may_height x, rest)
unfolding may_expr_at
may_expr-all d x us MayExpr.without low rest c = rw (closed-expr d rest c) refl
may_expr-all d x us (MayExpr.given {e} p) low rest c = rw (expr-all p d low rest (closed-ends rest c)) refl

-- ---- conditions, and the head of a `for`

pub condition-all : {e : tree.ExprTree} (o c : Token) {ts : List Token} → IsMark (codes "(") o → Spells 10 e ts → IsMark (codes ")") c → (d : ℕ) → height e ≤ d → (rest : List Token) → condition_at d (o ∷ (ts ++ (c ∷ rest))) ≡ Some (e, height e, rest)
unfolding condition_at
condition-all o c {ts} io p ic d low rest = rw (mark-here (codes "(") o (ts ++ (c ∷ rest)) io, expr-all p d low (c ∷ rest) (first-ends (codes ")") (c ∷ rest) no_more-call_end (c, rest, ic, refl)), mark-here (codes ")") c rest ic) refl

pub head-all : {a b : Option Simple} {e : Option tree.ExprTree} (o m n c : Token) {fs es gs : List Token} → IsMark (codes "(") o → MaySimple a fs → IsMark (codes ";") m → MayExpr e es → IsMark (codes ";") n → MaySimple b gs → IsMark (codes ")") c → (d : ℕ) → may_simple_height a ≤ d → may_height e ≤ d → may_simple_height b ≤ d → (rest : List Token) → head_at d (o ∷ (fs ++ (m ∷ (es ++ (n ∷ (gs ++ (c ∷ rest))))))) ≡ Some (record { start = a; condition = e; step = b }, max (may_simple_height a) (max (may_height e) (may_simple_height b)), rest)
unfolding head_at head_condition_at head_step_at
head-all {a} {b} {e} o m n c {fs} {es} {gs} io pa im pe in_ pb ic d la le lb rest =
    let t6 : List Token = c ∷ rest in
    let t4 : List Token = n ∷ (gs ++ t6) in
    let t2 : List Token = m ∷ (es ++ t4) in
    let start = may_simple-all d a fs pa la t2 (inl (m, es ++ t4, im, refl)) in
    let middle = may_expr-all d e es pe le t4 (inl (n, gs ++ t6, in_, refl)) in
    let last = may_simple-all d b gs pb lb t6 (inr (c, rest, ic, refl)) in
    rw (mark-here (codes "(") o (fs ++ t2) io, start, mark-here (codes ";") m (es ++ t4) im, middle, mark-here (codes ";") n (gs ++ t6) in_, last, mark-here (codes ")") c rest ic) refl

-- ---- texts, and events and errors with what they are given

text-here : (t : Token) (ts : List Token) → t.kind ≡ kind.Text → text_at (t ∷ ts) ≡ Some (text_of t, ts)
unfolding text_at
text-here t ts h = rw h refl

text-mark : (m : List ℕ) (ts : List Token) → MarkFirst m ts → text_at ts ≡ None
unfolding text_at
text-mark m ts f = rw (f.3) (let q : f.0.kind ≡ kind.Mark m = f.2 in rw q refl)

pub may_text-all : (x : Option Text) (us : List Token) → MayText x us → (c : Token) (rest : List Token) → IsMark (codes ")") c → may_text_at (us ++ (c ∷ rest)) ≡ Some (x, c ∷ rest)
unfolding may_text_at
may_text-all x us MayText.without c rest ic = rw (text-mark (codes ")") (c ∷ rest) (c, rest, ic, refl)) refl
may_text-all x us (MayText.given t h) c rest ic = rw (text-here t (c ∷ rest) h) refl

pub may_reason-all : (x : Option Text) (us : List Token) → MayReason x us → (c : Token) (rest : List Token) → IsMark (codes ")") c → may_reason_at (us ++ (c ∷ rest)) ≡ Some (x, c ∷ rest)
unfolding may_reason_at reason_at
may_reason-all x us MayReason.without c rest ic = rw (mark-mark (codes ",") (codes ")") (c ∷ rest) refl (c, rest, ic, refl)) refl
may_reason-all x us (MayReason.given m t im h) c rest ic = rw (mark-here (codes ",") m (t ∷ (c ∷ rest)) im, text-here t (c ∷ rest) h) refl

-- what follows the expression of a `require`
pub reason-ends : (x : Option Text) (us : List Token) → MayReason x us → (c : Token) (rest : List Token) → IsMark (codes ")") c → Ends (us ++ (c ∷ rest))
reason-ends x us MayReason.without c rest ic = first-ends (codes ")") (c ∷ rest) no_more-call_end (c, rest, ic, refl)
reason-ends x us (MayReason.given m t im h) c rest ic = first-ends (codes ",") (m ∷ (t ∷ (c ∷ rest))) no_more-comma (m, _, im, refl)

pub sent-all : (d : ℕ) (i : List ℕ) (a : Arguments) (m n : Token) (us : List Token) → IsName i m → SpellsArguments a us → IsMark (codes ";") n → arguments_height a ≤ d → (rest : List Token) → sent_at d (m ∷ (us ++ (n ∷ rest))) ≡ Some (record { name = named_by i m; arguments = a }, arguments_height a, rest)
unfolding sent_at
sent-all d i a m n us im p in_ low rest = rw (name-here i m (us ++ (n ∷ rest)) im, whole-arguments d a us p low (n ∷ rest), mark-here (codes ";") n rest in_) refl
