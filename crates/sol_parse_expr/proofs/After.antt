-- How facts of what is read go from one step of reading to the next.
use Rattle.std.proofs.Common.{◌≡◌, sym, subst, refl, ℕ, zero, suc, ◌+◌, ◌≤◌, max, List, [], ◌∷◌, ◌++◌, append_assoc, Option, Some, None, Bool, true, false, nat_lt, cond, codes, inl, inr, arith}
use Rattle.std.proofs.lemmas.Bool.Decides.{nat_tests}
use lib.IntN.{ℤ}
use Rattle.chc_nums.specs.declared.typed.Ty.{Ty}
use Rattle.sol_tree.specs.declared.token.Token.{Token}
use Rattle.sol_tree.specs.declared.token.TokenKind.TheVariants as kind
use Rattle.sol_tree.specs.declared.types.Identifier.{Identifier}
use Rattle.sol_tree.specs.declared.expr.NumberUnit.{NumberUnit}
use Rattle.sol_tree.specs.declared.expr.BinaryOp.{BinaryOp}
use Rattle.sol_tree.specs.Precedence.{precedence}
use Rattle.sol_parse_expr.specs.Grammar.{IsMark, IsWord, IsName, IsElementary, IsUnit, IsOperator, named_by, MayName, SpellsType, MayUnit, Spells, SpellsAll, SpellsMore, unnamed, elementary, array, mapping, plain, scaled, tighter, number, truth, falsehood, parenthesised, conversion, of_type, of_message, of_super, index, member, call, opposite, negation, power, grouped, choice, nothing, some, ended, another}
use Rattle.sol_parse_expr.specs.Grammar as grammar
use Rattle.sol_parse_expr.specs.Reading.{Measured, if_value, then_value, if_tree, then_tree, or_tree, grow, mark_at, word_at, elementary_at, operator_at, name_at, number_at, may_name_at, may_unit_at, member_at}
use Rattle.sol_parse_expr.proofs.Tokens.{mark-or, word-or, elementary-or, unit-or, operator-or, name-or, number-or}

-- a fact of the tokens before reading, what was read, its levels and the tokens after it, where something was read
abbrev pub Holds : {A : Type 0} → (List Token → A → ℕ → List Token → Type 0) → List Token → Option (A × ℕ × List Token) → Type 0
Holds P ts None = Unit {0}
Holds P ts (Some x) = P ts x.0 x.1 x.2

-- the tokens in front have this fact
abbrev pub Front : {A : Type 0} → (A → List Token → ℕ → Type 0) → List Token → A → ℕ → List Token → Type 0
Front Q ts a h rest = (us : List Token) × Q a us h × (ts ≡ us ++ rest)

-- spelled by these tokens, and of h levels, which are d at most
pub record Read {A : Type 0} (height_of : A → ℕ) (Spelled : A → List Token → Type 0) (d : ℕ) (a : A) (us : List Token) (h : ℕ) : Type 0 where
  pub spells : Spelled a us
  pub height : height_of a ≡ h
  pub low : h ≤ d

-- ---- one step after another

pub after-tree : {A B : Type 0} (r : Option (A × ℕ × List Token)) (go : A → ℕ → List Token → Option (B × ℕ × List Token)) (P : List Token → B → ℕ → List Token → Type 0) (Q : A → List Token → ℕ → Type 0) (ts : List Token) → Holds (Front Q) ts r → ((a : A) (h : ℕ) (us rest : List Token) → Q a us h → Holds P (us ++ rest) (go a h rest)) → Holds P ts (then_tree r go)
after-tree None go P Q ts g k = tt
after-tree (Some x) go P Q ts g k = subst (λ (w : List Token). Holds P w (go x.0 x.1 x.2)) (sym g.2) (k x.0 x.1 g.0 x.2 g.1)

pub if-tree : {A B : Type 0} (r : Option (A × ℕ × List Token)) (go : A → ℕ → List Token → Option (B × ℕ × List Token)) (other : Option (B × ℕ × List Token)) (P : List Token → B → ℕ → List Token → Type 0) (Q : A → List Token → ℕ → Type 0) (ts : List Token) → Holds (Front Q) ts r → ((a : A) (h : ℕ) (us rest : List Token) → Q a us h → Holds P (us ++ rest) (go a h rest)) → Holds P ts other → Holds P ts (if_tree r go other)
if-tree None go other P Q ts g k o = o
if-tree (Some x) go other P Q ts g k o = subst (λ (w : List Token). Holds P w (go x.0 x.1 x.2)) (sym g.2) (k x.0 x.1 g.0 x.2 g.1)

pub either-tree : {A : Type 0} (r other : Option (A × ℕ × List Token)) (P : List Token → A → ℕ → List Token → Type 0) (ts : List Token) → Holds P ts r → Holds P ts other → Holds P ts (or_tree r other)
either-tree None other P ts g o = o
either-tree (Some x) other P ts g o = g

pub only : {A : Type 0} (r : Option (A × ℕ × List Token)) (P : List Token → A → ℕ → List Token → Type 0) (Q : A → List Token → ℕ → Type 0) (ts : List Token) → Holds (Front Q) ts r → ((a : A) (h : ℕ) (us rest : List Token) → Q a us h → P (us ++ rest) a h rest) → Holds P ts r
only None P Q ts g k = tt
only (Some x) P Q ts g k = subst (λ (w : List Token). P w x.0 x.1 x.2) (sym g.2) (k x.0 x.1 g.0 x.2 g.1)

pub on-test : {A : Type 0} (b : Bool) (x y : Option (A × ℕ × List Token)) (P : List Token → A → ℕ → List Token → Type 0) (ts : List Token) → (b ≡ true → Holds P ts x) → (b ≡ false → Holds P ts y) → Holds P ts (cond b x y)
on-test true x y P ts hit miss = hit refl
on-test false x y P ts hit miss = miss refl

-- ---- after one token

pub after-mark : {B : Type 0} (m : List ℕ) (ts : List Token) (go : ℕ → List Token → Option (B × ℕ × List Token)) (P : List Token → B → ℕ → List Token → Type 0) → ((t : Token) (us : List Token) → IsMark m t → Holds P (t ∷ us) (go t.at us)) → Holds P ts (then_value (mark_at m ts) go)
after-mark m ts go P k = elim (mark-or m ts) [ inl miss ↦ rw miss tt | inr x ↦ rw (x.4) (rw (x.3) (k x.0 x.1 x.2)) ]

pub after-word : {B : Type 0} (w : List ℕ) (ts : List Token) (go : ℕ → List Token → Option (B × ℕ × List Token)) (P : List Token → B → ℕ → List Token → Type 0) → ((t : Token) (us : List Token) → IsWord w t → Holds P (t ∷ us) (go t.at us)) → Holds P ts (then_value (word_at w ts) go)
after-word w ts go P k = elim (word-or w ts) [ inl miss ↦ rw miss tt | inr x ↦ rw (x.4) (rw (x.3) (k x.0 x.1 x.2)) ]

pub if-mark : {B : Type 0} (m : List ℕ) (ts : List Token) (go : ℕ → List Token → Option (B × ℕ × List Token)) (other : Option (B × ℕ × List Token)) (P : List Token → B → ℕ → List Token → Type 0) → ((t : Token) (us : List Token) → IsMark m t → Holds P (t ∷ us) (go t.at us)) → Holds P ts other → Holds P ts (if_value (mark_at m ts) go other)
if-mark m ts go other P k o = elim (mark-or m ts) [ inl miss ↦ rw miss o | inr x ↦ rw (x.4) (rw (x.3) (k x.0 x.1 x.2)) ]

pub if-word : {B : Type 0} (w : List ℕ) (ts : List Token) (go : ℕ → List Token → Option (B × ℕ × List Token)) (other : Option (B × ℕ × List Token)) (P : List Token → B → ℕ → List Token → Type 0) → ((t : Token) (us : List Token) → IsWord w t → Holds P (t ∷ us) (go t.at us)) → Holds P ts other → Holds P ts (if_value (word_at w ts) go other)
if-word w ts go other P k o = elim (word-or w ts) [ inl miss ↦ rw miss o | inr x ↦ rw (x.4) (rw (x.3) (k x.0 x.1 x.2)) ]

pub after-elementary : {B : Type 0} (ts : List Token) (go : ℕ × Ty → List Token → Option (B × ℕ × List Token)) (P : List Token → B → ℕ → List Token → Type 0) → ((t : Token) (ty : Ty) (us : List Token) → IsElementary ty t → Holds P (t ∷ us) (go (t.at, ty) us)) → Holds P ts (then_value (elementary_at ts) go)
after-elementary ts go P k = elim (elementary-or ts) [ inl miss ↦ rw miss tt | inr x ↦ rw (x.5) (rw (x.4) (k x.0 x.1 x.2 x.3)) ]

pub if-elementary : {B : Type 0} (ts : List Token) (go : ℕ × Ty → List Token → Option (B × ℕ × List Token)) (other : Option (B × ℕ × List Token)) (P : List Token → B → ℕ → List Token → Type 0) → ((t : Token) (ty : Ty) (us : List Token) → IsElementary ty t → Holds P (t ∷ us) (go (t.at, ty) us)) → Holds P ts other → Holds P ts (if_value (elementary_at ts) go other)
if-elementary ts go other P k o = elim (elementary-or ts) [ inl miss ↦ rw miss o | inr x ↦ rw (x.5) (rw (x.4) (k x.0 x.1 x.2 x.3)) ]

pub after-name : {B : Type 0} (ts : List Token) (go : Identifier → List Token → Option (B × ℕ × List Token)) (P : List Token → B → ℕ → List Token → Type 0) → ((t : Token) (n : List ℕ) (us : List Token) → IsName n t → Holds P (t ∷ us) (go (named_by n t) us)) → Holds P ts (then_value (name_at ts) go)
after-name ts go P k = elim (name-or ts) [ inl miss ↦ rw miss tt | inr x ↦ rw (x.5) (rw (x.4) (k x.0 x.1 x.2 x.3)) ]

pub if-name : {B : Type 0} (ts : List Token) (go : Identifier → List Token → Option (B × ℕ × List Token)) (other : Option (B × ℕ × List Token)) (P : List Token → B → ℕ → List Token → Type 0) → ((t : Token) (n : List ℕ) (us : List Token) → IsName n t → Holds P (t ∷ us) (go (named_by n t) us)) → Holds P ts other → Holds P ts (if_value (name_at ts) go other)
if-name ts go other P k o = elim (name-or ts) [ inl miss ↦ rw miss o | inr x ↦ rw (x.5) (rw (x.4) (k x.0 x.1 x.2 x.3)) ]

pub after-number : {B : Type 0} (ts : List Token) (go : ℕ × (ℤ × Bool) → List Token → Option (B × ℕ × List Token)) (P : List Token → B → ℕ → List Token → Type 0) → ((t : Token) (n : ℤ × Bool) (us : List Token) → t.kind ≡ kind.Number n.0 n.1 → Holds P (t ∷ us) (go (t.at, n) us)) → Holds P ts (then_value (number_at ts) go)
after-number ts go P k = elim (number-or ts) [ inl miss ↦ rw miss tt | inr x ↦ rw (x.5) (rw (x.4) (k x.0 x.1 x.2 x.3)) ]

pub after-operator : {B : Type 0} (l : ℕ) (ts : List Token) (go : ℕ × BinaryOp → List Token → Option (B × ℕ × List Token)) (P : List Token → B → ℕ → List Token → Type 0) → ((t : Token) (o : BinaryOp) (us : List Token) → IsOperator o t → precedence o ≡ l → Holds P (t ∷ us) (go (t.at, o) us)) → Holds P ts (then_value (operator_at l ts) go)
after-operator l ts go P k = elim (operator-or l ts) [ inl miss ↦ rw miss tt | inr x ↦ rw (x.6) (rw (x.5) (k x.0 x.1 x.2 x.3 x.4)) ]

pub after-may_name : {B : Type 0} (ts : List Token) (go : Option Identifier → List Token → Option (B × ℕ × List Token)) (P : List Token → B → ℕ → List Token → Type 0) → ((i : Option Identifier) (us rest : List Token) → MayName i us → Holds P (us ++ rest) (go i rest)) → Holds P ts (then_value (may_name_at ts) go)
unfolding may_name_at
after-may_name ts go P k = elim (name-or ts) [ inl miss ↦ rw miss (k None [] ts unnamed) | inr x ↦ rw (x.5) (rw (x.4) (k (Some (named_by x.1 x.0)) (x.0 ∷ []) x.2 (grammar.named x.0 x.3))) ]

pub after-may_unit : {B : Type 0} (ts : List Token) (go : Option NumberUnit → List Token → Option (B × ℕ × List Token)) (P : List Token → B → ℕ → List Token → Type 0) → ((u : Option NumberUnit) (us rest : List Token) → MayUnit u us → Holds P (us ++ rest) (go u rest)) → Holds P ts (then_value (may_unit_at ts) go)
unfolding may_unit_at
after-may_unit ts go P k = elim (unit-or ts) [ inl miss ↦ rw miss (k None [] ts plain) | inr x ↦ rw (x.5) (rw (x.4) (k (Some x.1) (x.0 ∷ []) x.2 (scaled x.0 x.3))) ]

then-then : {A B C : Type 0} (r : Option (A × List Token)) (f : A → List Token → Option (B × List Token)) (go : B → List Token → Option C) → then_value (then_value r f) go ≡ then_value r (λ a us. then_value (f a us) go)
then-then None f go = refl
then-then (Some x) f go = refl

pub after-member : {B : Type 0} (ts : List Token) (go : Identifier → List Token → Option (B × ℕ × List Token)) (P : List Token → B → ℕ → List Token → Type 0) → ((d m : Token) (n : List ℕ) (us : List Token) → IsMark (codes ".") d → IsName n m → Holds P (d ∷ (m ∷ us)) (go (named_by n m) us)) → Holds P ts (then_value (member_at ts) go)
unfolding member_at
after-member ts go P k = rw (then-then (mark_at (codes ".") ts) (λ p us. name_at us) go) (after-mark (codes ".") ts _ P (λ d us p. after-name us _ (λ w. P (d ∷ w)) (λ m n rest q. k d m n rest p q)))

-- ---- loops

-- what is read in turns, each of which makes a node of what was read before
pub grown : {A B : Type 0} (join : A → B → A) (d : ℕ) (step : Measured B) (Spelled : A → List Token → Type 0) (height_of : A → ℕ) (Part : B → List Token → ℕ → Type 0) → ((ts : List Token) → Holds (Front Part) ts (step ts)) → ((a : A) (b : B) (us vs : List Token) (h n : ℕ) → Read height_of Spelled d a us h → Part b vs n → Read height_of Spelled (suc d) (join a b) (us ++ vs) (max h n + 1)) → (k : ℕ) (a : A) (h : ℕ) (us ts : List Token) → Read height_of Spelled (suc d) a us h → Holds (Front (Read height_of Spelled (suc d))) (us ++ ts) (grow join d step k a h ts)
unfolding grow
grown join d step Spelled height_of Part steps joins zero a h us ts r = (us, r, refl)
grown join d step Spelled height_of Part steps joins (suc k) a h us ts r =
    on-test (nat_lt d h) _ _ (Front (Read height_of Spelled (suc d))) (us ++ ts) (λ high. (us, r, refl)) (λ q.
    let small : h ≤ d = grind (arith, nat_tests) in
    if-tree (step ts) _ _ (λ w. Front (Read height_of Spelled (suc d)) (us ++ w)) Part ts (steps ts) (λ b n vs rest p.
    subst (λ (w : List Token). Holds (Front (Read height_of Spelled (suc d))) w (grow join d step k (join a b) (max h n + 1) rest)) (append_assoc us vs rest) (grown join d step Spelled height_of Part steps joins k (join a b) (max h n + 1) (us ++ vs) rest (joins a b us vs h n (record { spells = r.spells; height = r.height; low = small }) p)))
    (us, r, refl))

-- the same of one turn at most
pub grown_once : {A B : Type 0} (join : A → B → A) (d : ℕ) (step : Measured B) (Before After : A → List Token → Type 0) (height_of : A → ℕ) (Part : B → List Token → ℕ → Type 0) → ((ts : List Token) → Holds (Front Part) ts (step ts)) → ((a : A) (us : List Token) → Before a us → After a us) → ((a : A) (b : B) (us vs : List Token) (h n : ℕ) → Read height_of Before d a us h → Part b vs n → Read height_of After (suc d) (join a b) (us ++ vs) (max h n + 1)) → (a : A) (h : ℕ) (us ts : List Token) → Read height_of Before (suc d) a us h → Holds (Front (Read height_of After (suc d))) (us ++ ts) (grow join d step 1 a h ts)
unfolding grow
grown_once join d step Before After height_of Part steps weaken joins a h us ts r =
    let same : Read height_of After (suc d) a us h = record { spells = weaken a us r.spells; height = r.height; low = r.low } in
    on-test (nat_lt d h) _ _ (Front (Read height_of After (suc d))) (us ++ ts) (λ high. (us, same, refl)) (λ q.
    let small : h ≤ d = grind (arith, nat_tests) in
    if-tree (step ts) _ _ (λ w. Front (Read height_of After (suc d)) (us ++ w)) Part ts (steps ts) (λ b n vs rest p.
    (us ++ vs, joins a b us vs h n (record { spells = r.spells; height = r.height; low = small }) p, sym (append_assoc us vs rest)))
    (us, same, refl))
