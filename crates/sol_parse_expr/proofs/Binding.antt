-- How loosely a token binds that goes on with an expression.
use Rattle.std.proofs.Common.{◌≡◌, ◌∙◌, ap, refl, ℕ, ◌<◌, List, [], ◌∷◌, Bool, true, false, cond, ◌||◌, not, Option, Some, None, inl, inr, codes, arith}
use Rattle.std.specs.Prelude.{if◌then◌else◌, ◌&&◌}
use Rattle.chc_nums.specs.declared.typed.Ty.{Ty}
use Rattle.std.specs.Str.{bytes_eq}
use Rattle.std.proofs.lemmas.Slice.Eq.{bytes_eq-Decides}
use Rattle.sol_tree.specs.declared.token.Token.{Token}
use Rattle.sol_tree.specs.declared.token.TokenKind.{TokenKind}
use Rattle.sol_tree.specs.declared.token.TokenKind.TheVariants as kind
use Rattle.sol_tree.specs.declared.expr.NumberUnit.{NumberUnit}
use Rattle.sol_tree.specs.declared.expr.BinaryOp.{BinaryOp}
use Rattle.sol_tree.specs.Refused.{is_one_of}
use Rattle.sol_tree.specs.Words.{elementary_type, number_unit, operator_of, is_none, is_name, grammar_words}
use Rattle.sol_tree.specs.Precedence.{precedence}
use Rattle.sol_parse_expr.specs.Grammar.{IsMark, IsOperator}
use Rattle.sol_parse_expr.specs.Ends.{goes_on, Ends}
use Rattle.sol_parse_expr.specs.Reading.{mark_at, unit_at, operator_at}
use Rattle.sol_parse_expr.proofs.Tokens.{mark-or, unit-or, operator-or}

abbrev pub loosely : Option BinaryOp → List ℕ → ℕ
loosely (Some o) n = precedence o
loosely None n = if is_one_of n (codes "[" ∷ codes "." ∷ codes "(" ∷ []) then 1 else (if bytes_eq n (codes "?") then 10 else 11)

-- 0 for a unit, the level of a suffix, an operator or a choice, and 11 for what goes on with no expression
abbrev pub binds : TokenKind → ℕ
binds (kind.Word w) = if is_none (number_unit w) then 11 else 0
binds (kind.Number z h) = 11
binds kind.Text = 11
binds (kind.Mark n) = loosely (operator_of n) n

unfoldable pub binds_at : List Token → ℕ
binds_at [] = 11
binds_at (t ∷ ts) = binds t.kind

pub binds-mark : (m : List ℕ) (n : ℕ) (t : Token) (ts : List Token) → binds (kind.Mark m) ≡ n → IsMark m t → binds_at (t ∷ ts) ≡ n
unfolding binds_at
binds-mark m n t ts b h = rw h b

pub binds-operator : (o : BinaryOp) (t : Token) (ts : List Token) → IsOperator o t → binds_at (t ∷ ts) ≡ precedence o
unfolding binds_at
binds-operator o t ts h = rw (h.mark, h.named) refl

-- ---- marks

pub binds-index : binds (kind.Mark (codes "[")) ≡ 1
unfolding operator_of
binds-index = refl

pub binds-member : binds (kind.Mark (codes ".")) ≡ 1
unfolding operator_of
binds-member = refl

pub binds-call : binds (kind.Mark (codes "(")) ≡ 1
unfolding operator_of
binds-call = refl

pub binds-question : binds (kind.Mark (codes "?")) ≡ 10
unfolding operator_of
binds-question = refl

pub binds-colon : binds (kind.Mark (codes ":")) ≡ 11
unfolding operator_of
binds-colon = refl

pub binds-comma : binds (kind.Mark (codes ",")) ≡ 11
unfolding operator_of
binds-comma = refl

pub binds-index_end : binds (kind.Mark (codes "]")) ≡ 11
unfolding operator_of
binds-index_end = refl

pub binds-call_end : binds (kind.Mark (codes ")")) ≡ 11
unfolding operator_of
binds-call_end = refl

-- ---- what does not stand before a token that binds more loosely

pub quiet-mark : (m : List ℕ) (n : ℕ) (ts : List Token) → binds (kind.Mark m) ≡ n → n < binds_at ts → mark_at m ts ≡ None
quiet-mark m n ts b q = elim (mark-or m ts) [
  | inl e ↦ e
  | inr p ↦
      let same : binds_at ts ≡ n = ap binds_at p.3 ∙ binds-mark m n p.0 p.1 b p.2 in
      absurd (omega arith)
]

pub quiet-unit : (ts : List Token) → 0 < binds_at ts → unit_at ts ≡ None
unfolding binds_at
quiet-unit ts q = elim (unit-or ts) [
  | inl e ↦ e
  | inr p ↦
      let none : binds_at (p.0 ∷ p.2) ≡ 0 = rw (p.3.word, p.3.named) refl in
      let same : binds_at ts ≡ 0 = ap binds_at p.4 ∙ none in
      absurd (omega arith)
]

pub quiet-operator : (l : ℕ) (ts : List Token) → l < binds_at ts → operator_at l ts ≡ None
quiet-operator l ts q = elim (operator-or l ts) [
  | inl e ↦ e
  | inr p ↦
      let same : binds_at ts ≡ precedence p.1 = ap binds_at p.5 ∙ binds-operator p.1 p.0 p.2 p.3 in
      let level : precedence p.1 ≡ l = p.4 in
      absurd (omega arith)
]

-- ---- the end of an expression

unit-test : (u : Option NumberUnit) → not (is_none u) ≡ false → 10 < cond (is_none u) 11 0
unit-test None h = omega arith
unit-test (Some u) h = absurd (cc)

mark-test : (a b c d : Bool) → (a || (b || (c || (d || false)))) ≡ false → 10 < cond (a || (b || (c || false))) 1 (cond d 10 11)
mark-test true b c d h = absurd (cc)
mark-test false true c d h = absurd (cc)
mark-test false false true d h = absurd (cc)
mark-test false false false true h = absurd (cc)
mark-test false false false false h = omega arith

operator-test : (n : List ℕ) (o : Option BinaryOp) → (not (is_none o) || is_one_of n (codes "[" ∷ codes "." ∷ codes "(" ∷ codes "?" ∷ [])) ≡ false → 10 < loosely o n
operator-test n None h = mark-test (bytes_eq n (codes "[")) (bytes_eq n (codes ".")) (bytes_eq n (codes "(")) (bytes_eq n (codes "?")) h
operator-test n (Some o) h = absurd (cc)

kind-ends : (k : TokenKind) → goes_on k ≡ false → 10 < binds k
kind-ends (kind.Word w) h = unit-test (number_unit w) h
kind-ends (kind.Number z x) h = omega arith
kind-ends kind.Text h = omega arith
kind-ends (kind.Mark n) h = operator-test n (operator_of n) h

pub ends-binds : (ts : List Token) → Ends ts → 10 < binds_at ts
unfolding binds_at
ends-binds [] h = omega arith
ends-binds (t ∷ ts) h = kind-ends t.kind h

pub ends-mark : (m : List ℕ) (t : Token) (ts : List Token) → goes_on (kind.Mark m) ≡ false → IsMark m t → Ends (t ∷ ts)
ends-mark m t ts b h = rw h b

-- ---- marks that end an expression

pub no_more-call_end : goes_on (kind.Mark (codes ")")) ≡ false
unfolding operator_of
no_more-call_end = refl

pub no_more-index_end : goes_on (kind.Mark (codes "]")) ≡ false
unfolding operator_of
no_more-index_end = refl

pub no_more-comma : goes_on (kind.Mark (codes ",")) ≡ false
unfolding operator_of
no_more-comma = refl

pub no_more-colon : goes_on (kind.Mark (codes ":")) ≡ false
unfolding operator_of
no_more-colon = refl

pub no_more-semicolon : goes_on (kind.Mark (codes ";")) ≡ false
unfolding operator_of
no_more-semicolon = refl

pub no_more-assigned : goes_on (kind.Mark (codes "=")) ≡ false
unfolding operator_of
no_more-assigned = refl

pub no_more-body : goes_on (kind.Mark (codes "{")) ≡ false
unfolding operator_of
no_more-body = refl

pub no_more-body_end : goes_on (kind.Mark (codes "}")) ≡ false
unfolding operator_of
no_more-body_end = refl

-- ---- words

name-test : (g e u : Bool) → (not g && (e && u)) ≡ true → (g ≡ false) × (e ≡ true)
name-test true e u h = absurd (cc)
name-test false false u h = absurd (cc)
name-test false true u h = (refl, refl)

no-type : (o : Option Ty) → is_none o ≡ true → o ≡ None
no-type None h = refl
no-type (Some x) h = absurd (cc)

-- a name names no elementary type
pub name-no_type : (n : List ℕ) → is_name n ≡ true → elementary_type n ≡ None
unfolding is_name
name-no_type n h = no-type (elementary_type n) (name-test (is_one_of n grammar_words) (is_none (elementary_type n)) (is_none (number_unit n)) h).1

type-test : (g u : Bool) → (not g && (false && u)) ≡ false
type-test true u = refl
type-test false u = refl

-- and an elementary type is no name
pub type-no_name : (n : List ℕ) (ty : Ty) → elementary_type n ≡ Some ty → is_name n ≡ false
unfolding is_name
type-no_name n ty h = rw h (type-test (is_one_of n grammar_words) (is_none (number_unit n)))

differ-test : (n w : List ℕ) (b : Bool) → bytes_eq n w ≡ b → (n ≡ w → ⊥) → b ≡ false
differ-test n w false e h = refl
differ-test n w true e h = absurd (h ((bytes_eq-Decides n w).0 e))

pub differ : (n w : List ℕ) → (n ≡ w → ⊥) → bytes_eq n w ≡ false
differ n w h = differ-test n w (bytes_eq n w) refl h

-- a name is none of the words that are no names
pub name-differs : (n w : List ℕ) → is_name n ≡ true → is_name w ≡ false → bytes_eq n w ≡ false
name-differs n w h k = differ n w (λ e. let s : is_name w ≡ true = rw (← e) h in absurd (cc))

-- and so is an elementary type
pub type-differs : (n w : List ℕ) (ty : Ty) → elementary_type n ≡ Some ty → elementary_type w ≡ None → bytes_eq n w ≡ false
type-differs n w ty h k = differ n w (λ e. let s : elementary_type w ≡ Some ty = rw (← e) h in absurd (cc))
