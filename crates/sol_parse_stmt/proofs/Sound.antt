-- What is read as a part of a statement is spelled so.
use Rattle.std.proofs.Common.{◌≡◌, ◌∙◌, sym, ap, refl, ℕ, zero, suc, ◌+◌, ◌≤◌, max, List, [], ◌∷◌, ◌++◌, append_assoc, map, Bool, true, false, Option, Some, None, ◌⊎◌, inl, inr, codes, arith}
use Rattle.sol_tree.specs.declared.token.Token.{Token}
use Rattle.sol_tree.specs.declared.token.TokenKind.{TokenKind}
use Rattle.sol_tree.specs.declared.token.TokenKind.TheVariants as kind
use Rattle.sol_tree.specs.declared.types.Type as types
use Rattle.sol_tree.specs.declared.expr.ExprTree as tree
use Rattle.sol_tree.specs.declared.expr.Arguments.{Arguments}
use Rattle.sol_tree.specs.declared.expr.Initial.{Initial}
use Rattle.sol_tree.specs.declared.stmt.AssignOp.{AssignOp}
use Rattle.sol_tree.specs.declared.stmt.AssignOp.TheVariants as assign
use Rattle.sol_tree.specs.declared.stmt.StepOp.{StepOp}
use Rattle.sol_tree.specs.declared.stmt.StepOp.TheVariants as step
use Rattle.sol_tree.specs.declared.stmt.Text.{Text}
use Rattle.sol_tree.specs.declared.stmt.Simple.{Simple}
use Rattle.sol_tree.specs.declared.stmt.Simple.TheVariants as simple_variant
use Rattle.sol_tree.specs.Places.{place_of, type_place_of}
use Rattle.sol_parse_expr.specs.Grammar.{IsMark, IsWord, IsName, named_by, SpellsType, Spells, SpellsAll}
use Rattle.sol_parse_expr.specs.Heights.{type_height, height, greatest}
use Rattle.sol_parse_expr.specs.Reading.{if_value, then_value, mark_at, word_at, name_at, type_at, expr_at, all_at}
use Rattle.sol_parse_expr.proofs.After.{Holds, Front, Read, after-tree, if-tree, either-tree, only, after-mark, after-word, after-name}
use Rattle.sol_parse_expr.proofs.Tokens.{mark-or}
use Rattle.sol_parse_expr.proofs.SoundTypes.{sound-type}
use Rattle.sol_parse_expr.proofs.SoundExprs.{Reads, ReadAll, sound-expr, sound-all}
use Rattle.sol_parse_stmt.specs.Grammar.{assign_mark, step_mark, MayInitial, without, initial, SpellsSimple, declaration, assignment, step_after, step_before, deletion, expression, MaySimple, MayExpr, text_of, MayText, given, MayReason, SpellsArguments, listed}
use Rattle.sol_parse_stmt.specs.Grammar as grammar
use Rattle.sol_parse_stmt.specs.Heights.{may_height, initial_height, arguments_height, simple_height, may_simple_height}
use Rattle.sol_parse_stmt.specs.Reading.{is_text, text_at, may_text_at, reason_at, may_reason_at, assign_at, step_at, initial_at, may_initial_at, declaration_at, assigned_at, after_at, led_at, step_before_at, delete_at, simple_at, may_simple_at, may_expr_at, condition_at, arguments_at, sent_at, head_at, declared_at, head_condition_at, head_step_at, initialised_at}
use Rattle.sol_parse_stmt.specs.declared.parts.Head.{Head}
use Rattle.sol_parse_stmt.specs.declared.parts.Sent.{Sent}

-- ---- one token

abbrev pub ReadExpr : ℕ → tree.ExprTree → List Token → ℕ → Type 0
ReadExpr d = Read height (Spells 10) d

pub sound-one : (d : ℕ) (ts : List Token) → Holds (Front (ReadExpr d)) ts (expr_at d 10 ts)
sound-one d ts = sound-expr d 10 (omega arith) ts

abbrev pub AssignOr : List Token → Type 0
AssignOr ts = (assign_at ts ≡ None) ⊎ ((t : Token) × (o : AssignOp) × (rest : List Token) × IsMark (assign_mark o) t × (ts ≡ t ∷ rest) × (assign_at ts ≡ Some ((t.at, o), rest)))

pub assign-or : (ts : List Token) → AssignOr ts
unfolding assign_at
assign-or ts = elim (mark-or (codes "=") ts) [
  | inr x ↦ inr (x.0, assign.Assign, x.1, x.2, x.3, rw (x.4) refl)
  | inl m1 ↦
      elim (mark-or (codes "+=") ts) [
        | inr x ↦ inr (x.0, assign.Add, x.1, x.2, x.3, rw (m1, x.4) refl)
        | inl m2 ↦
            elim (mark-or (codes "-=") ts) [
              | inr x ↦ inr (x.0, assign.Subtract, x.1, x.2, x.3, rw (m1, m2, x.4) refl)
              | inl m3 ↦
                  elim (mark-or (codes "*=") ts) [
                    | inr x ↦ inr (x.0, assign.Multiply, x.1, x.2, x.3, rw (m1, m2, m3, x.4) refl)
                    | inl m4 ↦
                        elim (mark-or (codes "/=") ts) [
                          | inr x ↦ inr (x.0, assign.Divide, x.1, x.2, x.3, rw (m1, m2, m3, m4, x.4) refl)
                          | inl m5 ↦
                              elim (mark-or (codes "%=") ts) [
                                | inr x ↦ inr (x.0, assign.Remainder, x.1, x.2, x.3, rw (m1, m2, m3, m4, m5, x.4) refl)
                                | inl m6 ↦ inl (rw (m1, m2, m3, m4, m5, m6) refl)
                              ]
                        ]
                  ]
            ]
      ]
]

abbrev pub StepOr : List Token → Type 0
StepOr ts = (step_at ts ≡ None) ⊎ ((t : Token) × (o : StepOp) × (rest : List Token) × IsMark (step_mark o) t × (ts ≡ t ∷ rest) × (step_at ts ≡ Some ((t.at, o), rest)))

pub step-or : (ts : List Token) → StepOr ts
unfolding step_at
step-or ts = elim (mark-or (codes "++") ts) [
  | inr x ↦ inr (x.0, step.Increment, x.1, x.2, x.3, rw (x.4) refl)
  | inl m1 ↦
      elim (mark-or (codes "--") ts) [
        | inr x ↦ inr (x.0, step.Decrement, x.1, x.2, x.3, rw (m1, x.4) refl)
        | inl m2 ↦ inl (rw (m1, m2) refl)
      ]
]

either : (b : Bool) → (b ≡ true) ⊎ (b ≡ false)
either true = inl refl
either false = inr refl

is-text : (k : TokenKind) → is_text k ≡ true → k ≡ kind.Text
is-text (kind.Word w) h = absurd (cc)
is-text (kind.Number z x) h = absurd (cc)
is-text kind.Text h = refl
is-text (kind.Mark n) h = absurd (cc)

abbrev pub TextOr : List Token → Type 0
TextOr ts = (text_at ts ≡ None) ⊎ ((t : Token) × (rest : List Token) × (t.kind ≡ kind.Text) × (ts ≡ t ∷ rest) × (text_at ts ≡ Some (text_of t, rest)))

pub text-or : (ts : List Token) → TextOr ts
unfolding text_at
text-or [] = inl refl
text-or (t ∷ ts) = elim (either (is_text t.kind)) [ inl a ↦ inr (t, ts, is-text t.kind a, refl, rw a refl) | inr b ↦ inl (rw b refl) ]

pub after-may_text : {B : Type 0} (ts : List Token) (go : Option Text → List Token → Option (B × ℕ × List Token)) (P : List Token → B → ℕ → List Token → Type 0) → ((i : Option Text) (us rest : List Token) → MayText i us → Holds P (us ++ rest) (go i rest)) → Holds P ts (then_value (may_text_at ts) go)
unfolding may_text_at
after-may_text ts go P k = elim (text-or ts) [ inl miss ↦ rw miss (k None [] ts without) | inr x ↦ rw (x.4) (rw (x.3) (k (Some (text_of x.0)) (x.0 ∷ []) x.1 (given x.0 x.2))) ]

pub after-may_reason : {B : Type 0} (ts : List Token) (go : Option Text → List Token → Option (B × ℕ × List Token)) (P : List Token → B → ℕ → List Token → Type 0) → ((i : Option Text) (us rest : List Token) → MayReason i us → Holds P (us ++ rest) (go i rest)) → Holds P ts (then_value (may_reason_at ts) go)
unfolding may_reason_at reason_at
after-may_reason ts go P k = elim (mark-or (codes ",") ts) [
  | inl miss ↦ rw miss (k None [] ts without)
  | inr c ↦
      elim (text-or c.1) [
        | inl miss ↦ rw (c.4, miss) (k None [] ts without)
        | inr x ↦
            let all : ts ≡ c.0 ∷ (x.0 ∷ x.1) = c.3 ∙ ap (λ (w : List Token). c.0 ∷ w) x.3 in
            rw (c.4, x.4) (rw all (k (Some (text_of x.0)) (c.0 ∷ (x.0 ∷ [])) x.1 (given c.0 x.0 c.2 x.2)))
      ]
]

-- ---- what stands before a `;`

abbrev pub ReadInitial : ℕ → Option Initial → List Token → ℕ → Type 0
ReadInitial d = Read initial_height MayInitial d

sound-initial : (d : ℕ) (ts : List Token) → Holds (Front (λ i. ReadInitial d (Some i))) ts (initial_at d ts)
unfolding initial_at
sound-initial d ts =
    after-mark (codes "=") ts _ (Front (λ i. ReadInitial d (Some i))) (λ t us it.
    after-tree (expr_at d 10 us) _ (λ x. Front (λ i. ReadInitial d (Some i)) (t ∷ x)) (ReadExpr d) us (sound-one d us) (λ e h xs rest r.
    (t ∷ xs, record { spells = initial t it r.spells; height = r.height; low = r.low }, refl)))

pub sound-may_initial : (d : ℕ) (ts : List Token) → Holds (Front (ReadInitial d)) ts (may_initial_at d ts)
unfolding may_initial_at
sound-may_initial d ts =
    if-tree (initial_at d ts) _ _ (Front (ReadInitial d)) (λ i. ReadInitial d (Some i)) ts (sound-initial d ts) (λ i h us rest r. (us, r, refl))
    ([], record { spells = without; height = refl; low = omega arith }, refl)

if-assign : {B : Type 0} (ts : List Token) (go : ℕ × AssignOp → List Token → Option (B × ℕ × List Token)) (other : Option (B × ℕ × List Token)) (P : List Token → B → ℕ → List Token → Type 0) → ((t : Token) (o : AssignOp) (us : List Token) → IsMark (assign_mark o) t → Holds P (t ∷ us) (go (t.at, o) us)) → Holds P ts other → Holds P ts (if_value (assign_at ts) go other)
if-assign ts go other P k o = elim (assign-or ts) [ inl miss ↦ rw miss o | inr x ↦ rw (x.5) (rw (x.4) (k x.0 x.1 x.2 x.3)) ]

if-step : {B : Type 0} (ts : List Token) (go : ℕ × StepOp → List Token → Option (B × ℕ × List Token)) (other : Option (B × ℕ × List Token)) (P : List Token → B → ℕ → List Token → Type 0) → ((t : Token) (o : StepOp) (us : List Token) → IsMark (step_mark o) t → Holds P (t ∷ us) (go (t.at, o) us)) → Holds P ts other → Holds P ts (if_value (step_at ts) go other)
if-step ts go other P k o = elim (step-or ts) [ inl miss ↦ rw miss o | inr x ↦ rw (x.5) (rw (x.4) (k x.0 x.1 x.2 x.3)) ]

after-step : {B : Type 0} (ts : List Token) (go : ℕ × StepOp → List Token → Option (B × ℕ × List Token)) (P : List Token → B → ℕ → List Token → Type 0) → ((t : Token) (o : StepOp) (us : List Token) → IsMark (step_mark o) t → Holds P (t ∷ us) (go (t.at, o) us)) → Holds P ts (then_value (step_at ts) go)
after-step ts go P k = elim (step-or ts) [ inl miss ↦ rw miss tt | inr x ↦ rw (x.5) (rw (x.4) (k x.0 x.1 x.2 x.3)) ]

abbrev pub ReadSimple : ℕ → Simple → List Token → ℕ → Type 0
ReadSimple d = Read simple_height SpellsSimple d

sound-declaration : (d : ℕ) (ts : List Token) → Holds (Front (ReadSimple d)) ts (declaration_at d ts)
unfolding declaration_at declared_at initialised_at
sound-declaration d ts =
    after-tree (type_at d ts) _ (Front (ReadSimple d)) (Read type_height SpellsType d) ts (sound-type d ts) (λ t h us t1 r.
    after-name t1 _ (λ x. Front (ReadSimple d) (us ++ x)) (λ m n t2 im.
    after-tree (may_initial_at d t2) _ (λ x. Front (ReadSimple d) (us ++ (m ∷ x))) (ReadInitial d) t2 (sound-may_initial d t2) (λ v k vs rest q. (
      us ++ (m ∷ vs),
      record {
        spells = declaration m r.spells im q.spells;
        height = rw (r.height, q.height) refl;
        low = omega (arith, r.low, q.low);
      },
      sym (append_assoc us (m ∷ vs) rest),
    ))))

sound-after : (d : ℕ) (e : tree.ExprTree) (h : ℕ) (us : List Token) → ReadExpr d e us h → (ts : List Token) → Holds (λ x. Front (ReadSimple d) (us ++ x)) ts (after_at d e h ts)
unfolding after_at assigned_at
sound-after d e h us r ts =
    if-assign ts _ _ (λ x. Front (ReadSimple d) (us ++ x)) (λ t o t1 it.
    after-tree (expr_at d 10 t1) _ (λ x. Front (ReadSimple d) (us ++ (t ∷ x))) (ReadExpr d) t1 (sound-one d t1) (λ v n vs rest q. (
      us ++ (t ∷ vs),
      record {
        spells = assignment t r.spells it q.spells;
        height = rw (r.height, q.height) refl;
        low = omega (arith, r.low, q.low);
      },
      sym (append_assoc us (t ∷ vs) rest),
    ))) (
    if-step ts _ _ (λ x. Front (ReadSimple d) (us ++ x)) (λ t o rest it. (
      us ++ (t ∷ []),
      record { spells = step_after t r.spells it; height = r.height; low = r.low },
      sym (append_assoc us (t ∷ []) rest),
    ))
    (us, record { spells = expression r.spells; height = r.height; low = r.low }, refl))

sound-led : (d : ℕ) (ts : List Token) → Holds (Front (ReadSimple d)) ts (led_at d ts)
unfolding led_at
sound-led d ts = after-tree (expr_at d 10 ts) _ (Front (ReadSimple d)) (ReadExpr d) ts (sound-one d ts) (λ e h us rest r. sound-after d e h us r rest)

sound-step_before : (d : ℕ) (ts : List Token) → Holds (Front (ReadSimple d)) ts (step_before_at d ts)
unfolding step_before_at
sound-step_before d ts =
    after-step ts _ (Front (ReadSimple d)) (λ t o us it.
    after-tree (expr_at d 10 us) _ (λ x. Front (ReadSimple d) (t ∷ x)) (ReadExpr d) us (sound-one d us) (λ e h xs rest r.
    (t ∷ xs, record { spells = step_before t it r.spells; height = r.height; low = r.low }, refl)))

sound-delete : (d : ℕ) (ts : List Token) → Holds (Front (ReadSimple d)) ts (delete_at d ts)
unfolding delete_at
sound-delete d ts =
    after-word (codes "delete") ts _ (Front (ReadSimple d)) (λ t us it.
    after-tree (expr_at d 10 us) _ (λ x. Front (ReadSimple d) (t ∷ x)) (ReadExpr d) us (sound-one d us) (λ e h xs rest r.
    (t ∷ xs, record { spells = deletion t it r.spells; height = r.height; low = r.low }, refl)))

pub sound-simple : (d : ℕ) (ts : List Token) → Holds (Front (ReadSimple d)) ts (simple_at d ts)
unfolding simple_at
sound-simple d ts =
    either-tree (declaration_at d ts) _ (Front (ReadSimple d)) ts (sound-declaration d ts) (
    either-tree (step_before_at d ts) _ (Front (ReadSimple d)) ts (sound-step_before d ts) (
    either-tree (delete_at d ts) _ (Front (ReadSimple d)) ts (sound-delete d ts) (
    sound-led d ts)))

-- ---- parts

abbrev pub ReadMaySimple : ℕ → Option Simple → List Token → ℕ → Type 0
ReadMaySimple d = Read may_simple_height MaySimple d

pub sound-may_simple : (d : ℕ) (ts : List Token) → Holds (Front (ReadMaySimple d)) ts (may_simple_at d ts)
unfolding may_simple_at
sound-may_simple d ts =
    if-tree (simple_at d ts) _ _ (Front (ReadMaySimple d)) (ReadSimple d) ts (sound-simple d ts) (λ s h us rest r. (us, record { spells = given r.spells; height = r.height; low = r.low }, refl))
    ([], record { spells = without; height = refl; low = omega arith }, refl)

abbrev pub ReadMayExpr : ℕ → Option tree.ExprTree → List Token → ℕ → Type 0
ReadMayExpr d = Read may_height MayExpr d

pub sound-may_expr : (d : ℕ) (ts : List Token) → Holds (Front (ReadMayExpr d)) ts (may_expr_at d ts)
unfolding may_expr_at
sound-may_expr d ts =
    if-tree (expr_at d 10 ts) _ _ (Front (ReadMayExpr d)) (ReadExpr d) ts (sound-one d ts) (λ s h us rest r. (us, record { spells = given r.spells; height = r.height; low = r.low }, refl))
    ([], record { spells = without; height = refl; low = omega arith }, refl)

-- `( expr )`
pub record ReadCondition (d : ℕ) (e : tree.ExprTree) (us : List Token) (h : ℕ) : Type 0 where
  pub opening : Token
  pub closing : Token
  pub middle : List Token
  pub opens : IsMark (codes "(") opening
  pub closes : IsMark (codes ")") closing
  pub read : ReadExpr d e middle h
  pub all : us ≡ opening ∷ (middle ++ (closing ∷ []))

pub sound-condition : (d : ℕ) (ts : List Token) → Holds (Front (ReadCondition d)) ts (condition_at d ts)
unfolding condition_at
sound-condition d ts =
    after-mark (codes "(") ts _ (Front (ReadCondition d)) (λ o t1 io.
    after-tree (expr_at d 10 t1) _ (λ x. Front (ReadCondition d) (o ∷ x)) (ReadExpr d) t1 (sound-one d t1) (λ e h us t2 r.
    after-mark (codes ")") t2 _ (λ x. Front (ReadCondition d) (o ∷ (us ++ x))) (λ c rest ic. (
      o ∷ (us ++ (c ∷ [])),
      record { opening = o; closing = c; middle = us; opens = io; closes = ic; read = r; all = refl },
      simp append_assoc refl,
    ))))

abbrev pub ReadArguments : ℕ → Arguments → List Token → ℕ → Type 0
ReadArguments d = Read arguments_height SpellsArguments d

pub sound-arguments : (d : ℕ) (ts : List Token) → Holds (Front (ReadArguments d)) ts (arguments_at d ts)
unfolding arguments_at
sound-arguments d ts =
    after-mark (codes "(") ts _ (Front (ReadArguments d)) (λ o t1 io.
    after-tree (all_at (expr_at d) t1) _ (λ x. Front (ReadArguments d) (o ∷ x)) (ReadAll d) t1 (sound-all d (expr_at d) (sound-expr d) t1) (λ es h us t2 r.
    after-mark (codes ")") t2 _ (λ x. Front (ReadArguments d) (o ∷ (us ++ x))) (λ c rest ic. (
      o ∷ (us ++ (c ∷ [])),
      record { spells = listed o c io r.spells ic; height = r.height; low = r.low },
      simp append_assoc refl,
    ))))

-- `ID ( [args] ) ;`
pub record ReadSent (d : ℕ) (s : Sent) (us : List Token) (h : ℕ) : Type 0 where
  pub word : Token
  pub text : List ℕ
  pub end : Token
  pub middle : List Token
  pub named : IsName text word
  pub name : s.name ≡ named_by text word
  pub ends : IsMark (codes ";") end
  pub read : ReadArguments d s.arguments middle h
  pub all : us ≡ word ∷ (middle ++ (end ∷ []))

pub sound-sent : (d : ℕ) (ts : List Token) → Holds (Front (ReadSent d)) ts (sent_at d ts)
unfolding sent_at
sound-sent d ts =
    after-name ts _ (Front (ReadSent d)) (λ m n t1 im.
    after-tree (arguments_at d t1) _ (λ x. Front (ReadSent d) (m ∷ x)) (ReadArguments d) t1 (sound-arguments d t1) (λ a h us t2 r.
    after-mark (codes ";") t2 _ (λ x. Front (ReadSent d) (m ∷ (us ++ x))) (λ c rest ic. (
      m ∷ (us ++ (c ∷ [])),
      record { word = m; text = n; end = c; middle = us; named = im; name = refl; ends = ic; read = r; all = refl },
      simp append_assoc refl,
    ))))

-- `( [simple] ; [expr] ; [simple] )`
pub record ReadHead (d : ℕ) (p : Head) (us : List Token) (h : ℕ) : Type 0 where
  pub opening : Token
  pub first : Token
  pub second : Token
  pub closing : Token
  pub starts : List Token
  pub conditions : List Token
  pub steps : List Token
  pub opens : IsMark (codes "(") opening
  pub firsts : IsMark (codes ";") first
  pub seconds : IsMark (codes ";") second
  pub closes : IsMark (codes ")") closing
  pub start : MaySimple p.start starts
  pub condition : MayExpr p.condition conditions
  pub next : MaySimple p.step steps
  pub height : max (may_simple_height p.start) (max (may_height p.condition) (may_simple_height p.step)) ≡ h
  pub low : h ≤ d
  pub all : us ≡ opening ∷ (starts ++ (first ∷ (conditions ++ (second ∷ (steps ++ (closing ∷ []))))))

pub sound-head : (d : ℕ) (ts : List Token) → Holds (Front (ReadHead d)) ts (head_at d ts)
unfolding head_at head_condition_at head_step_at
sound-head d ts =
    after-mark (codes "(") ts _ (Front (ReadHead d)) (λ o t1 io.
    after-tree (may_simple_at d t1) _ (λ x. Front (ReadHead d) (o ∷ x)) (ReadMaySimple d) t1 (sound-may_simple d t1) (λ a h1 us t2 r1.
    after-mark (codes ";") t2 _ (λ x. Front (ReadHead d) (o ∷ (us ++ x))) (λ m t3 jm.
    after-tree (may_expr_at d t3) _ (λ x. Front (ReadHead d) (o ∷ (us ++ (m ∷ x)))) (ReadMayExpr d) t3 (sound-may_expr d t3) (λ e h2 vs t4 r2.
    after-mark (codes ";") t4 _ (λ x. Front (ReadHead d) (o ∷ (us ++ (m ∷ (vs ++ x))))) (λ n t5 jn.
    after-tree (may_simple_at d t5) _ (λ x. Front (ReadHead d) (o ∷ (us ++ (m ∷ (vs ++ (n ∷ x)))))) (ReadMaySimple d) t5 (sound-may_simple d t5) (λ b h3 ws t6 r3.
    after-mark (codes ")") t6 _ (λ x. Front (ReadHead d) (o ∷ (us ++ (m ∷ (vs ++ (n ∷ (ws ++ x))))))) (λ c rest ic. (
      o ∷ (us ++ (m ∷ (vs ++ (n ∷ (ws ++ (c ∷ [])))))),
      record {
        opening = o;
        first = m;
        second = n;
        closing = c;
        starts = us;
        conditions = vs;
        steps = ws;
        opens = io;
        firsts = jm;
        seconds = jn;
        closes = ic;
        start = r1.spells;
        condition = r2.spells;
        next = r3.spells;
        height = rw (r1.height, r2.height, r3.height) refl;
        low = omega (arith, r1.low, r2.low, r3.low);
        all = refl;
      },
      simp append_assoc refl,
    ))))))))
