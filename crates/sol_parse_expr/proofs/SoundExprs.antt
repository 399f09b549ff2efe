-- What is read as an expression is spelled so.
use Rattle.std.proofs.Common.{◌≡◌, ◌∙◌, sym, ap, subst, refl, ℕ, zero, suc, ◌+◌, ◌-◌, ◌≤◌, ◌<◌, max, List, [], ◌∷◌, ◌++◌, length, append_assoc, append-nil, false, nat_eq, codes, map, arith}
use Rattle.std.proofs.lemmas.Bool.Decides.{nat_tests}
use Rattle.sol_tree.specs.declared.token.Token.{Token}
use Rattle.sol_tree.specs.declared.types.Identifier.{Identifier}
use Rattle.sol_tree.specs.declared.expr.BinaryOp.{BinaryOp}
use Rattle.sol_tree.specs.declared.expr.BinaryOp.TheVariants as operator
use Rattle.sol_tree.specs.declared.expr.ExprTree as tree
use Rattle.sol_tree.specs.Places.{place_of}
use Rattle.sol_tree.specs.Precedence.{precedence}
use Rattle.sol_parse_expr.specs.declared.nodes.Operand.{Operand}
use Rattle.sol_parse_expr.specs.declared.nodes.Branches.{Branches}
use Rattle.sol_parse_expr.specs.declared.nodes.Suffix.{Suffix}
use Rattle.sol_parse_expr.specs.Grammar.{IsMark, IsWord, IsName, IsElementary, IsUnit, IsOperator, named_by, MayName, SpellsType, MayUnit, Spells, SpellsAll, SpellsMore, unnamed, elementary, array, mapping, plain, scaled, tighter, number, truth, falsehood, parenthesised, conversion, of_type, of_message, of_super, index, member, call, opposite, negation, power, grouped, choice, nothing, some, ended, another}
use Rattle.sol_parse_expr.specs.Grammar as grammar
use Rattle.sol_parse_expr.specs.Heights.{type_height, height, greatest}
use Rattle.sol_parse_expr.specs.Reading.{Measured, grow, type_at, ByPrecedence, message_of, super_of, scaled_at, member_of_word_at, word_tree_at, atom_at, closed_at, parenthesised_at, conversion_at, type_member_at, primary_at, argument_at, arguments_at, all_at, index_at, member_suffix_at, call_at, suffix_at, suffixed, postfix_at, prefix_at, operand_at, joined, branches_at, chosen, more_at, ladder, expr_at}
use Rattle.sol_parse_expr.proofs.Heights.{height-number, height-true, height-false, height-named, height-parenthesised, height-conversion, height-of_type, height-of_message, height-of_super, height-index, height-member, height-call, height-not, height-negation, height-binary, height-choice}
use Rattle.sol_parse_expr.proofs.After.{Holds, Front, Read, after-tree, if-tree, either-tree, only, on-test, after-mark, after-word, if-mark, if-word, after-elementary, if-name, after-number, after-operator, after-may_unit, after-member, grown, grown_once}
use Rattle.sol_parse_expr.proofs.SoundTypes.{sound-type}

abbrev pub Reads : ℕ → ℕ → tree.ExprTree → List Token → ℕ → Type 0
Reads l d = Read height (Spells l) d

-- an expression of level l of binding and of d levels at most
abbrev pub Sound : ℕ → ℕ → Measured tree.ExprTree → Type 0
Sound l d read = (ts : List Token) → Holds (Front (Reads l d)) ts (read ts)

-- the same of all ten precedences
abbrev pub AllSound : ℕ → ByPrecedence → Type 0
AllSound d inner = (l : ℕ) → l ≤ 10 → Sound l d (inner l)

sound-scaled : (d : ℕ) → Sound 1 (suc d) scaled_at
unfolding scaled_at
sound-scaled d ts =
    after-number ts _ (Front (Reads 1 (suc d))) (λ t n us i.
    after-may_unit us _ (λ x. Front (Reads 1 (suc d)) (t ∷ x)) (λ u vs rest m.
    (t ∷ vs, record { spells = number t i m; height = height-number t.at n.0 n.1 u; low = omega arith }, refl)))

sound-member_of_word : (d : ℕ) (w : List ℕ) (made : ℕ → Identifier → tree.ExprTree) → ((t p m : Token) (n : List ℕ) → IsWord w t → IsMark (codes ".") p → IsName n m → Spells 1 (made t.at (named_by n m)) (t ∷ (p ∷ (m ∷ [])))) → ((at : ℕ) (i : Identifier) → height (made at i) ≡ 1) → Sound 1 (suc d) (member_of_word_at w made)
unfolding member_of_word_at
sound-member_of_word d w made spelled one ts =
    after-word w ts _ (Front (Reads 1 (suc d))) (λ t us i.
    after-member us _ (λ x. Front (Reads 1 (suc d)) (t ∷ x)) (λ p m n rest ip im.
    (t ∷ (p ∷ (m ∷ [])), record { spells = spelled t p m n i ip im; height = one t.at (named_by n m); low = omega arith }, refl)))

sound-word_tree : (d : ℕ) → Sound 1 (suc d) word_tree_at
unfolding word_tree_at
sound-word_tree d ts =
    if-word (codes "true") ts _ _ (Front (Reads 1 (suc d))) (λ t us i. (t ∷ [], record { spells = truth t i; height = height-true t.at; low = omega arith }, refl)) (
    if-word (codes "false") ts _ _ (Front (Reads 1 (suc d))) (λ t us i. (t ∷ [], record { spells = falsehood t i; height = height-false t.at; low = omega arith }, refl)) (
    if-name ts _ _ (Front (Reads 1 (suc d))) (λ t n us i. (t ∷ [], record { spells = grammar.Spells.named t i; height = height-named t.at n; low = omega arith }, refl)) tt))

sound-atom : (d : ℕ) → Sound 1 (suc d) atom_at
unfolding atom_at
sound-atom d ts =
    either-tree (scaled_at ts) _ (Front (Reads 1 (suc d))) ts (sound-scaled d ts) (
    either-tree (word_tree_at ts) _ (Front (Reads 1 (suc d))) ts (sound-word_tree d ts) (
    either-tree (member_of_word_at (codes "msg") message_of ts) _ (Front (Reads 1 (suc d))) ts (sound-member_of_word d (codes "msg") message_of (λ t p m n i ip im. of_message t p m i ip im) height-of_message ts) (
    sound-member_of_word d (codes "super") super_of (λ t p m n i ip im. of_super t p m i ip im) height-of_super ts)))

-- an expression of the loosest level, and then a mark
pub record ReadClosed (d : ℕ) (m : List ℕ) (e : tree.ExprTree) (us : List Token) (h : ℕ) : Type 0 where
  pub inside : List Token
  pub closing : Token
  pub read : Reads 10 d e inside h
  pub closes : IsMark m closing
  pub all : us ≡ inside ++ (closing ∷ [])

sound-closed : (d : ℕ) (inner : ByPrecedence) → AllSound d inner → (m : List ℕ) (ts : List Token) → Holds (Front (ReadClosed d m)) ts (closed_at m inner ts)
unfolding closed_at
sound-closed d inner s m ts =
    after-tree (inner 10 ts) _ (Front (ReadClosed d m)) (Reads 10 d) ts (s 10 (omega arith) ts) (λ e h us rest r.
    after-mark m rest _ (λ x. Front (ReadClosed d m) (us ++ x)) (λ c end i.
    (us ++ (c ∷ []), record { inside = us; closing = c; read = r; closes = i; all = refl }, sym (append_assoc us (c ∷ []) end))))

sound-parenthesised : (d : ℕ) (inner : ByPrecedence) → AllSound d inner → Sound 1 (suc d) (parenthesised_at inner)
unfolding parenthesised_at
sound-parenthesised d inner s ts =
    after-mark (codes "(") ts _ (Front (Reads 1 (suc d))) (λ o us io.
    after-tree (closed_at (codes ")") inner us) _ (λ x. Front (Reads 1 (suc d)) (o ∷ x)) (ReadClosed d (codes ")")) us (sound-closed d inner s (codes ")") us) (λ e h xs rest r. (
      o ∷ xs,
      record {
        spells = rw (r.all) (parenthesised o r.closing io r.read.spells r.closes);
        height = height-parenthesised o.at e ∙ ap (λ (k : ℕ). k + 1) r.read.height;
        low = omega (arith, r.read.low);
      },
      refl,
    )))

sound-conversion : (d : ℕ) (inner : ByPrecedence) → AllSound d inner → Sound 1 (suc d) (conversion_at inner)
unfolding conversion_at
sound-conversion d inner s ts =
    after-elementary ts _ (Front (Reads 1 (suc d))) (λ t ty us it.
    after-mark (codes "(") us _ (λ x. Front (Reads 1 (suc d)) (t ∷ x)) (λ o vs io.
    after-tree (closed_at (codes ")") inner vs) _ (λ x. Front (Reads 1 (suc d)) (t ∷ (o ∷ x))) (ReadClosed d (codes ")")) vs (sound-closed d inner s (codes ")") vs) (λ e h xs rest r. (
      t ∷ (o ∷ xs),
      record {
        spells = rw (r.all) (conversion t o r.closing it io r.read.spells r.closes);
        height = height-conversion t.at ty o.at e ∙ ap (λ (k : ℕ). k + 1) r.read.height;
        low = omega (arith, r.read.low);
      },
      refl,
    ))))

sound-type_member : (d : ℕ) → Sound 1 (suc d) (type_member_at d)
unfolding type_member_at
sound-type_member d ts =
    after-word (codes "type") ts _ (Front (Reads 1 (suc d))) (λ w t1 iw.
    after-mark (codes "(") t1 _ (λ x. Front (Reads 1 (suc d)) (w ∷ x)) (λ o t2 io.
    after-tree (type_at d t2) _ (λ x. Front (Reads 1 (suc d)) (w ∷ (o ∷ x))) (Read type_height SpellsType d) t2 (sound-type d t2) (λ t h us t3 r.
    after-mark (codes ")") t3 _ (λ x. Front (Reads 1 (suc d)) (w ∷ (o ∷ (us ++ x)))) (λ c t4 ic.
    after-member t4 _ (λ x. Front (Reads 1 (suc d)) (w ∷ (o ∷ (us ++ (c ∷ x))))) (λ p m n rest ip im. (
      w ∷ (o ∷ (us ++ (c ∷ (p ∷ (m ∷ []))))),
      record {
        spells = of_type w o c p m iw io r.spells ic ip im;
        height = height-of_type w.at t (named_by n m) ∙ ap (λ (k : ℕ). k + 1) r.height;
        low = omega (arith, r.low);
      },
      simp append_assoc refl,
    ))))))

sound-primary : (d : ℕ) (inner : ByPrecedence) → AllSound d inner → Sound 1 (suc d) (primary_at d inner)
unfolding primary_at
sound-primary d inner s ts =
    either-tree (atom_at ts) _ (Front (Reads 1 (suc d))) ts (sound-atom d ts) (
    either-tree (parenthesised_at inner ts) _ (Front (Reads 1 (suc d))) ts (sound-parenthesised d inner s ts) (
    either-tree (conversion_at inner ts) _ (Front (Reads 1 (suc d))) ts (sound-conversion d inner s ts) (
    sound-type_member d ts)))

-- ---- arguments

pub record ReadMore (d : ℕ) (es : List tree.ExprTree) (us : List Token) (h : ℕ) : Type 0 where
  pub spells : SpellsMore es us
  pub height : greatest (map height es) ≡ h
  pub low : h ≤ d

pub record ReadAll (d : ℕ) (es : List tree.ExprTree) (us : List Token) (h : ℕ) : Type 0 where
  pub spells : SpellsAll es us
  pub height : greatest (map height es) ≡ h
  pub low : h ≤ d

-- a comma and an expression
pub record ReadArgument (d : ℕ) (e : tree.ExprTree) (us : List Token) (h : ℕ) : Type 0 where
  pub comma : Token
  pub inside : List Token
  pub separates : IsMark (codes ",") comma
  pub read : Reads 10 d e inside h
  pub all : us ≡ comma ∷ inside

sound-argument : (d : ℕ) (inner : ByPrecedence) → AllSound d inner → (ts : List Token) → Holds (Front (ReadArgument d)) ts (argument_at inner ts)
unfolding argument_at
sound-argument d inner s ts =
    after-mark (codes ",") ts _ (Front (ReadArgument d)) (λ c us ic.
    only (inner 10 us) (λ x. Front (ReadArgument d) (c ∷ x)) (Reads 10 d) us (s 10 (omega arith) us) (λ e h xs rest r.
    (c ∷ xs, record { comma = c; inside = xs; separates = ic; read = r; all = refl }, refl)))

-- the arguments after those of es
pub record ReadOn (d : ℕ) (es : List tree.ExprTree) (h : ℕ) (all : List tree.ExprTree) (us : List Token) (n : ℕ) : Type 0 where
  pub more : List tree.ExprTree
  pub joined : all ≡ es ++ more
  pub spells : SpellsMore more us
  pub height : max h (greatest (map height more)) ≡ n
  pub low : n ≤ d

sound-arguments : (d : ℕ) (inner : ByPrecedence) → AllSound d inner → (k : ℕ) (es : List tree.ExprTree) (h : ℕ) → h ≤ d → (ts : List Token) → Holds (Front (ReadOn d es h)) ts (arguments_at inner k es h ts)
unfolding arguments_at
sound-arguments d inner s zero es h low ts = ([], record { more = []; joined = sym (append-nil es); spells = ended; height = omega arith; low = low }, refl)
sound-arguments d inner s (suc k) es h low ts =
    if-tree (argument_at inner ts) _ _ (Front (ReadOn d es h)) (ReadArgument d) ts (sound-argument d inner s ts) (λ e n us rest r.
    let top : max h n ≤ d = omega (arith, low, r.read.low) in
    only (arguments_at inner k (es ++ (e ∷ [])) (max h n) rest) (λ w. Front (ReadOn d es h) (us ++ w)) (ReadOn d (es ++ (e ∷ [])) (max h n)) rest (sound-arguments d inner s k (es ++ (e ∷ [])) (max h n) top rest) (λ all m xs end q.
    let one : height e ≡ n = r.read.height in
    let others : max (max h n) (greatest (map height q.more)) ≡ m = q.height in
    let high : max h (max (height e) (greatest (map height q.more))) ≡ m = omega (arith, one, others) in (
      us ++ xs,
      record {
        more = e ∷ q.more;
        joined = q.joined ∙ append_assoc es (e ∷ []) q.more;
        spells = rw (r.all) (another r.comma r.separates r.read.spells q.spells);
        height = high;
        low = q.low;
      },
      sym (append_assoc us xs end),
    )))
    ([], record { more = []; joined = sym (append-nil es); spells = ended; height = omega arith; low = low }, refl)

pub sound-all : (d : ℕ) (inner : ByPrecedence) → AllSound d inner → (ts : List Token) → Holds (Front (ReadAll d)) ts (all_at inner ts)
unfolding all_at
sound-all d inner s ts =
    if-tree (inner 10 ts) _ _ (Front (ReadAll d)) (Reads 10 d) ts (s 10 (omega arith) ts) (λ e h us rest r.
    only (arguments_at inner (length rest) (e ∷ []) h rest) (λ w. Front (ReadAll d) (us ++ w)) (ReadOn d (e ∷ []) h) rest (sound-arguments d inner s (length rest) (e ∷ []) h r.low rest) (λ all m xs end q.
    let one : height e ≡ h = r.height in
    let others : max h (greatest (map height q.more)) ≡ m = q.height in
    let high : max (height e) (greatest (map height q.more)) ≡ m = omega (arith, one, others) in
    (us ++ xs, rw (q.joined) (record { spells = some r.spells q.spells; height = high; low = q.low }), sym (append_assoc us xs end))))
    ([], record { spells = nothing; height = refl; low = omega arith }, refl)

-- ---- level 1

-- what makes of an expression of level 1 another one
pub record ReadSuffix (d : ℕ) (p : Suffix) (us : List Token) (h : ℕ) : Type 0 where
  pub made : (a : tree.ExprTree) (ts : List Token) → Spells 1 a ts → Spells 1 (suffixed a p) (ts ++ us)
  pub height : (a : tree.ExprTree) → height (suffixed a p) ≡ max (height a) h + 1
  pub low : h ≤ d

sound-index : (d : ℕ) (inner : ByPrecedence) → AllSound d inner → (ts : List Token) → Holds (Front (ReadSuffix d)) ts (index_at inner ts)
unfolding index_at
sound-index d inner s ts =
    after-mark (codes "[") ts _ (Front (ReadSuffix d)) (λ o us io.
    after-tree (closed_at (codes "]") inner us) _ (λ x. Front (ReadSuffix d) (o ∷ x)) (ReadClosed d (codes "]")) us (sound-closed d inner s (codes "]") us) (λ e h xs rest r. (
      o ∷ xs,
      record {
        made = λ a xs spelled. rw (r.all) (index o r.closing spelled io r.read.spells r.closes);
        height = λ a. height-index (place_of a) a o.at e ∙ ap (λ (k : ℕ). max (height a) k + 1) r.read.height;
        low = r.read.low;
      },
      refl,
    )))

flat-top : (h : ℕ) → h + 1 ≡ max h 0 + 1
flat-top h = omega arith

sound-member_suffix : (d : ℕ) (ts : List Token) → Holds (Front (ReadSuffix d)) ts (member_suffix_at ts)
unfolding member_suffix_at
sound-member_suffix d ts =
    after-member ts _ (Front (ReadSuffix d)) (λ p m n rest ip im. (
      p ∷ (m ∷ []),
      record {
        made = λ a xs spelled. member p m spelled ip im;
        height = λ a. height-member (place_of a) a (named_by n m) ∙ flat-top (height a);
        low = omega arith;
      },
      refl,
    ))

sound-call : (d : ℕ) (inner : ByPrecedence) → AllSound d inner → (ts : List Token) → Holds (Front (ReadSuffix d)) ts (call_at inner ts)
unfolding call_at
sound-call d inner s ts =
    after-mark (codes "(") ts _ (Front (ReadSuffix d)) (λ o us io.
    after-tree (all_at inner us) _ (λ x. Front (ReadSuffix d) (o ∷ x)) (ReadAll d) us (sound-all d inner s us) (λ es h xs vs r.
    after-mark (codes ")") vs _ (λ x. Front (ReadSuffix d) (o ∷ (xs ++ x))) (λ c rest ic. (
      o ∷ (xs ++ (c ∷ [])),
      record {
        made = λ a xs spelled. call o c spelled io r.spells ic;
        height = λ a. height-call (place_of a) a o.at es ∙ ap (λ (k : ℕ). max (height a) k + 1) r.height;
        low = r.low;
      },
      simp append_assoc refl,
    ))))

pub sound-suffix : (d : ℕ) (inner : ByPrecedence) → AllSound d inner → (ts : List Token) → Holds (Front (ReadSuffix d)) ts (suffix_at inner ts)
unfolding suffix_at
sound-suffix d inner s ts =
    either-tree (index_at inner ts) _ (Front (ReadSuffix d)) ts (sound-index d inner s ts) (
    either-tree (member_suffix_at ts) _ (Front (ReadSuffix d)) ts (sound-member_suffix d ts) (
    sound-call d inner s ts))

suffix-joins : (d : ℕ) (a : tree.ExprTree) (p : Suffix) (us vs : List Token) (h n : ℕ) → Reads 1 d a us h → ReadSuffix d p vs n → Reads 1 (suc d) (suffixed a p) (us ++ vs) (max h n + 1)
suffix-joins d a p us vs h n r q = record {
  spells = q.made a us r.spells;
  height = q.height a ∙ ap (λ (k : ℕ). max k n + 1) r.height;
  low = omega (arith, r.low, q.low);
}

sound-postfix : (d : ℕ) (inner : ByPrecedence) → AllSound d inner → Sound 1 (suc d) (postfix_at d inner)
unfolding postfix_at
sound-postfix d inner s ts =
    after-tree (primary_at d inner ts) _ (Front (Reads 1 (suc d))) (Reads 1 (suc d)) ts (sound-primary d inner s ts) (λ e h us rest r.
    grown suffixed d (suffix_at inner) (Spells 1) height (ReadSuffix d) (sound-suffix d inner s) (suffix-joins d) (length rest) e h us rest r)

-- ---- level 2

sound-prefix : (d : ℕ) (inner : ByPrecedence) → AllSound d inner → Sound 2 (suc d) (prefix_at inner (postfix_at d inner))
unfolding prefix_at
sound-prefix d inner s ts =
    if-mark (codes "!") ts _ _ (Front (Reads 2 (suc d))) (λ t us i.
    after-tree (inner 2 us) _ (λ x. Front (Reads 2 (suc d)) (t ∷ x)) (Reads 2 d) us (s 2 (omega arith) us) (λ e h xs rest r.
    (t ∷ xs, record { spells = opposite t i r.spells; height = height-not t.at e ∙ ap (λ (k : ℕ). k + 1) r.height; low = omega (arith, r.low) }, refl))) (
    if-mark (codes "-") ts _ _ (Front (Reads 2 (suc d))) (λ t us i.
    after-tree (inner 2 us) _ (λ x. Front (Reads 2 (suc d)) (t ∷ x)) (Reads 2 d) us (s 2 (omega arith) us) (λ e h xs rest r.
    (t ∷ xs, record { spells = negation t i r.spells; height = height-negation t.at e ∙ ap (λ (k : ℕ). k + 1) r.height; low = omega (arith, r.low) }, refl))) (
    only (postfix_at d inner ts) (Front (Reads 2 (suc d))) (Reads 1 (suc d)) ts (sound-postfix d inner s ts) (λ e h us rest r.
    (us, record { spells = tighter (omega arith) (omega arith) r.spells; height = r.height; low = r.low }, refl))))

-- ---- levels 3 to 10

-- an operator of level l and its right operand of level r
pub record ReadOperand (l r d : ℕ) (o : Operand) (us : List Token) (h : ℕ) : Type 0 where
  pub sign : Token
  pub inside : List Token
  pub operator : IsOperator o.operator sign
  pub binds : precedence o.operator ≡ l
  pub place : o.at ≡ sign.at
  pub read : Reads r d o.right inside h
  pub all : us ≡ sign ∷ inside

pub sound-operand : (l r d : ℕ) (inner : ByPrecedence) → r ≤ 10 → AllSound d inner → (ts : List Token) → Holds (Front (ReadOperand l r d)) ts (operand_at l r inner ts)
unfolding operand_at
sound-operand l r d inner low s ts =
    after-operator l ts _ (Front (ReadOperand l r d)) (λ t o us i p.
    after-tree (inner r us) _ (λ x. Front (ReadOperand l r d) (t ∷ x)) (Reads r d) us (s r low us) (λ e h xs rest q.
    (t ∷ xs, record { sign = t; inside = xs; operator = i; binds = p; place = refl; read = q; all = refl }, refl)))

joined-height : (a : tree.ExprTree) (o : Operand) (h n : ℕ) → height a ≡ h → height o.right ≡ n → height (joined a o) ≡ max h n + 1
joined-height a o h n x y = height-binary (place_of a) a o.at o.operator o.right ∙ rw (x, y) refl

operand-joins : (l d : ℕ) → 3 ≤ l → (a : tree.ExprTree) (o : Operand) (us vs : List Token) (h n : ℕ) → Reads (suc l) d a us h → ReadOperand (suc l) l d o vs n → Reads (suc l) (suc d) (joined a o) (us ++ vs) (max h n + 1)
operand-joins l d deep a o us vs h n r q = record {
  spells = rw (q.place, q.all) (grouped q.sign deep q.binds r.spells q.operator q.read.spells);
  height = joined-height a o h n r.height q.read.height;
  low = omega (arith, r.low, q.read.low);
}

is-power : (o : BinaryOp) → precedence o ≡ 3 → o ≡ operator.Power
is-power operator.Power h = refl
is-power operator.Multiply h = absurd (omega (arith, h))
is-power operator.Divide h = absurd (omega (arith, h))
is-power operator.Remainder h = absurd (omega (arith, h))
is-power operator.Add h = absurd (omega (arith, h))
is-power operator.Subtract h = absurd (omega (arith, h))
is-power operator.Less h = absurd (omega (arith, h))
is-power operator.Greater h = absurd (omega (arith, h))
is-power operator.LessEqual h = absurd (omega (arith, h))
is-power operator.GreaterEqual h = absurd (omega (arith, h))
is-power operator.Equal h = absurd (omega (arith, h))
is-power operator.NotEqual h = absurd (omega (arith, h))
is-power operator.And h = absurd (omega (arith, h))
is-power operator.Or h = absurd (omega (arith, h))

power-joins : (d : ℕ) (a : tree.ExprTree) (o : Operand) (us vs : List Token) (h n : ℕ) → Reads 2 d a us h → ReadOperand 3 3 d o vs n → Reads 3 (suc d) (joined a o) (us ++ vs) (max h n + 1)
power-joins d a o us vs h n r q =
    let p : o.operator ≡ operator.Power = is-power o.operator q.binds in
    let i : IsOperator operator.Power q.sign = subst (λ (x : BinaryOp). IsOperator x q.sign) p q.operator in
    record {
      spells = rw (q.place, q.all, p) (power q.sign r.spells i q.read.spells);
      height = joined-height a o h n r.height q.read.height;
      low = omega (arith, r.low, q.read.low);
    }

-- what makes of a condition a choice
pub record ReadBranches (d : ℕ) (b : Branches) (us : List Token) (h : ℕ) : Type 0 where
  pub made : (c : tree.ExprTree) (ts : List Token) → Spells 9 c ts → Spells 10 (chosen c b) (ts ++ us)
  pub height : (c : tree.ExprTree) → height (chosen c b) ≡ max (height c) h + 1
  pub low : h ≤ d

pub sound-branches : (d : ℕ) (inner : ByPrecedence) → AllSound d inner → (ts : List Token) → Holds (Front (ReadBranches d)) ts (branches_at inner ts)
unfolding branches_at
sound-branches d inner s ts =
    after-mark (codes "?") ts _ (Front (ReadBranches d)) (λ q t1 iq.
    after-tree (closed_at (codes ":") inner t1) _ (λ x. Front (ReadBranches d) (q ∷ x)) (ReadClosed d (codes ":")) t1 (sound-closed d inner s (codes ":") t1) (λ a h xs t2 r.
    after-tree (inner 10 t2) _ (λ x. Front (ReadBranches d) (q ∷ (xs ++ x))) (Reads 10 d) t2 (s 10 (omega arith) t2) (λ b n ys rest w. (
      q ∷ (r.inside ++ (r.closing ∷ ys)),
      record {
        made = λ c cs spelled. choice q r.closing spelled iq r.read.spells r.closes w.spells;
        height = λ c. height-choice (place_of c) c q.at a b ∙ rw (r.read.height, w.height) refl;
        low = omega (arith, r.read.low, w.low);
      },
      rw (r.all) (simp append_assoc refl),
    ))))

choice-joins : (d : ℕ) (c : tree.ExprTree) (b : Branches) (us vs : List Token) (h n : ℕ) → Reads 9 d c us h → ReadBranches d b vs n → Reads 10 (suc d) (chosen c b) (us ++ vs) (max h n + 1)
choice-joins d c b us vs h n r q = record {
  spells = q.made c us r.spells;
  height = q.height c ∙ ap (λ (k : ℕ). max k n + 1) r.height;
  low = omega (arith, r.low, q.low);
}

weaker : (l : ℕ) → 1 ≤ l → l < 10 → (a : tree.ExprTree) (us : List Token) → Spells l a us → Spells (suc l) a us
weaker l deep few a us s = tighter deep few s

-- what goes on with an expression of level l, to one of the next level
sound-more : (l d : ℕ) (inner : ByPrecedence) → 2 ≤ l → l < 10 → AllSound d inner → (e : tree.ExprTree) (h : ℕ) (us ts : List Token) → Reads l (suc d) e us h → Holds (Front (Reads (suc l) (suc d))) (us ++ ts) (more_at (suc l) d inner e h ts)
unfolding more_at
sound-more l d inner deep few s e h us ts r =
    on-test (nat_eq (suc l) 3) _ _ (Front (Reads (suc l) (suc d))) (us ++ ts) (λ q.
    let two : 2 ≡ l = grind (arith, nat_tests) in
    subst (λ (x : ℕ). Reads x (suc d) e us h → Holds (Front (Reads (suc x) (suc d))) (us ++ ts) (grow joined d (operand_at 3 3 inner) 1 e h ts)) two (λ z.
    grown_once joined d (operand_at 3 3 inner) (Spells 2) (Spells 3) height (ReadOperand 3 3 d) (sound-operand 3 3 d inner (omega arith) s) (weaker 2 (omega arith) (omega arith)) (power-joins d) e h us ts z) r) (λ p.
    on-test (nat_eq (suc l) 10) _ _ (Front (Reads (suc l) (suc d))) (us ++ ts) (λ q.
    let nine : 9 ≡ l = grind (arith, nat_tests) in
    subst (λ (x : ℕ). Reads x (suc d) e us h → Holds (Front (Reads (suc x) (suc d))) (us ++ ts) (grow chosen d (branches_at inner) 1 e h ts)) nine (λ z.
    grown_once chosen d (branches_at inner) (Spells 9) (Spells 10) height (ReadBranches d) (sound-branches d inner s) (weaker 9 (omega arith) (omega arith)) (choice-joins d) e h us ts z) r) (λ q.
    let three : 3 ≤ l = grind (arith, nat_tests) in
    let same : suc l - 1 ≡ l = omega arith in
    rw same (grown joined d (operand_at (suc l) l inner) (Spells (suc l)) height (ReadOperand (suc l) l d) (sound-operand (suc l) l d inner (omega (arith, few)) s) (operand-joins l d three) (length ts) e h us ts (record { spells = tighter (omega (arith, deep)) few r.spells; height = r.height; low = r.low }))))

sound-ladder : (l d : ℕ) (inner : ByPrecedence) → l ≤ 10 → AllSound d inner → Sound l (suc d) (ladder d inner l)
unfolding ladder
sound-ladder zero d inner low s ts = tt
sound-ladder (suc zero) d inner low s ts = sound-postfix d inner s ts
sound-ladder (suc (suc zero)) d inner low s ts = sound-prefix d inner s ts
sound-ladder (suc (suc (suc l))) d inner low s ts =
    let p : nat_eq (suc (suc (suc l))) 1 ≡ false = grind (arith, nat_tests) in
    let q : nat_eq (suc (suc (suc l))) 2 ≡ false = grind (arith, nat_tests) in
    rw (p, q) (after-tree (ladder d inner (suc (suc l)) ts) _ (Front (Reads (suc (suc (suc l))) (suc d))) (Reads (suc (suc l)) (suc d)) ts (sound-ladder (suc (suc l)) d inner (omega (arith, low)) s ts) (λ e h us rest r.
    sound-more (suc (suc l)) d inner (omega arith) (omega (arith, low)) s e h us rest r))

pub sound-expr : (d : ℕ) → AllSound d (expr_at d)
unfolding expr_at
sound-expr zero l low ts = tt
sound-expr (suc d) l low ts = sound-ladder l d (expr_at d) low (sound-expr d) ts
