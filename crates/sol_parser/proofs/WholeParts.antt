-- Each part of a member is read from the tokens that spell it.
use Rattle.std.proofs.Common.{◌≡◌, ◌∙◌, sym, ap, refl, ℕ, zero, suc, ◌+◌, ◌<◌, ◌≤◌, max, List, [], ◌∷◌, ◌++◌, length, append_assoc, append-nil, Bool, true, false, Option, Some, None, codes, arith}
use Rattle.std.specs.Str.{bytes_eq}
use Rattle.sol_tree.specs.declared.token.Token.{Token}
use Rattle.sol_tree.specs.declared.types.Identifier.{Identifier}
use Rattle.sol_tree.specs.declared.stmt.Block.{Block}
use Rattle.sol_tree.specs.declared.file.Param.{Param}
use Rattle.sol_tree.specs.declared.file.EventParam.{EventParam}
use Rattle.sol_parse_expr.specs.Grammar.{IsMark, IsWord, IsName, MayName}
use Rattle.sol_parse_expr.specs.Heights.{type_height}
use Rattle.sol_parse_expr.specs.Reading.{mark_at, word_at, name_at, may_name_at, brackets_at, type_at}
use Rattle.sol_parse_expr.proofs.Tokens.{mark-here, word-here, name-here}
use Rattle.sol_parse_expr.proofs.Laws.{type-all}
use Rattle.sol_parse_stmt.specs.Grammar.{SpellsBlock}
use Rattle.sol_parse_stmt.specs.Heights.{block_height}
use Rattle.sol_parse_stmt.specs.Reading.{block_at}
use Rattle.sol_parse_stmt.proofs.Laws.{block-all}
use Rattle.sol_parser.specs.Grammar.{Enclosed, SpellsParam, MayIndexed, SpellsEventParam, MayReturns, SpellsBody, MayParams}
use Rattle.sol_parser.specs.Heights.{greatest_by, may_by, param_height, event_param_height}
use Rattle.sol_parser.specs.Reading.{enclosed_at, may_word_at, param_at, event_param_at, may_returns_at, body_at, may_params_at}
use Rattle.sol_parser.proofs.WholeLists.{Whole, AtComma, AtClose, NoneAtClose, whole-enclosed}
use Rattle.sol_parse_expr.proofs.First.{WordFirst, NameFirst, MarkFirst, word-word, word-name, word-mark, mark-word, mark-name, mark-mark, name-word, name-mark, brackets-none, type-mark}
use Rattle.sol_parser.proofs.WholeSpecifiers.{Anything, NoOpen}

-- ---- parameters

-- what follows goes on with no parameter
abbrev pub AfterParam : List Token → Type 0
AfterParam ts = (brackets_at ts ≡ None) × (name_at ts ≡ None)

abbrev pub AfterEventParam : List Token → Type 0
AfterEventParam ts = (brackets_at ts ≡ None) × (name_at ts ≡ None) × (word_at (codes "indexed") ts ≡ None)

name-all : (i : Option Identifier) (is : List Token) → MayName i is → (rest : List Token) → name_at rest ≡ None → may_name_at (is ++ rest) ≡ Some (i, rest)
unfolding may_name_at
name-all i is MayName.unnamed rest e = rw e refl
name-all i is (MayName.named {n} t g) rest e = rw (name-here n t rest g) refl

name-brackets : (i : Option Identifier) (is : List Token) → MayName i is → (rest : List Token) → brackets_at rest ≡ None → brackets_at (is ++ rest) ≡ None
name-brackets i is MayName.unnamed rest e = e
name-brackets i is (MayName.named {n} t g) rest e = brackets-none (t ∷ rest) (mark-name (codes "[") (t ∷ rest) (t, n, rest, g, refl))

name-indexed : (i : Option Identifier) (is : List Token) → MayName i is → (rest : List Token) → word_at (codes "indexed") rest ≡ None → word_at (codes "indexed") (is ++ rest) ≡ None
name-indexed i is MayName.unnamed rest e = e
name-indexed i is (MayName.named {n} t g) rest e = word-name (codes "indexed") (t ∷ rest) refl (t, n, rest, g, refl)

pub word-absent : (w : List ℕ) (ts : List Token) → word_at w ts ≡ None → may_word_at w ts ≡ Some (false, ts)
unfolding may_word_at
word-absent w ts e = rw e refl

pub word-present : (w : List ℕ) (t : Token) (ts : List Token) → IsWord w t → may_word_at w (t ∷ ts) ≡ Some (true, ts)
unfolding may_word_at
word-present w t ts i = rw (word-here w t ts i) refl

whole-param : (d : ℕ) → Whole param_height SpellsParam d (param_at d) AfterParam
unfolding param_at
whole-param d x us (SpellsParam.param {i = i} {ts} {is} p m) low rest s = rw append_assoc (rw (type-all p d low (is ++ rest) (name-brackets i is m rest (s.0)), name-all i is m rest (s.1)) refl)

whole-event_param : (d : ℕ) → Whole event_param_height SpellsEventParam d (event_param_at d) AfterEventParam
unfolding event_param_at
whole-event_param d x us (SpellsEventParam.param {i = i} {ts} {is = is} p MayIndexed.plain m) low rest s =
    rw append_assoc (rw (type-all p d low (is ++ rest) (name-brackets i is m rest (s.0)), word-absent (codes "indexed") (is ++ rest) (name-indexed i is m rest (s.2)), name-all i is m rest (s.1)) refl)
whole-event_param d x us (SpellsEventParam.param {i = i} {ts} {is = is} p (MayIndexed.indexed w iw) m) low rest s =
    let quiet : brackets_at (w ∷ (is ++ rest)) ≡ None = brackets-none (w ∷ (is ++ rest)) (mark-word (codes "[") (codes "indexed") (w ∷ (is ++ rest)) (w, is ++ rest, iw, refl)) in
    rw append_assoc (rw (type-all p d low (w ∷ (is ++ rest)) quiet, word-present (codes "indexed") w (is ++ rest) iw, name-all i is m rest (s.1)) refl)

param-mark : (m : List ℕ) (ts : List Token) → bytes_eq m (codes "[") ≡ false → MarkFirst m ts → AfterParam ts
param-mark m ts q f = (brackets-none ts (mark-mark (codes "[") m ts q f), name-mark m ts f)

event_param-mark : (m : List ℕ) (ts : List Token) → bytes_eq m (codes "[") ≡ false → MarkFirst m ts → AfterEventParam ts
event_param-mark m ts q f = (brackets-none ts (mark-mark (codes "[") m ts q f), name-mark m ts f, word-mark (codes "indexed") m ts f)

param-none : (d : ℕ) (ts : List Token) → type_at d ts ≡ None → param_at d ts ≡ None
unfolding param_at
param-none d ts e = rw e refl

event_param-none : (d : ℕ) (ts : List Token) → type_at d ts ≡ None → event_param_at d ts ≡ None
unfolding event_param_at
event_param-none d ts e = rw e refl

pub whole-params : (d : ℕ) (ps : List Param) (us : List Token) → Enclosed SpellsParam ps us → greatest_by param_height ps ≤ d → (rest : List Token) → enclosed_at (param_at d) (us ++ rest) ≡ Some (ps, greatest_by param_height ps, rest)
whole-params d ps us p low rest =
    whole-enclosed param_height SpellsParam d (param_at d) AfterParam (whole-param d)
    (λ c ts i. param-mark (codes ",") (c ∷ ts) refl (c, ts, i, refl))
    (λ c ts i. param-mark (codes ")") (c ∷ ts) refl (c, ts, i, refl))
    (λ c ts i. param-none d (c ∷ ts) (type-mark d (codes ")") (c ∷ ts) (c, ts, i, refl)))
    ps us p low rest

pub whole-event_params : (d : ℕ) (ps : List EventParam) (us : List Token) → Enclosed SpellsEventParam ps us → greatest_by event_param_height ps ≤ d → (rest : List Token) → enclosed_at (event_param_at d) (us ++ rest) ≡ Some (ps, greatest_by event_param_height ps, rest)
whole-event_params d ps us p low rest =
    whole-enclosed event_param_height SpellsEventParam d (event_param_at d) AfterEventParam (whole-event_param d)
    (λ c ts i. event_param-mark (codes ",") (c ∷ ts) refl (c, ts, i, refl))
    (λ c ts i. event_param-mark (codes ")") (c ∷ ts) refl (c, ts, i, refl))
    (λ c ts i. event_param-none d (c ∷ ts) (type-mark d (codes ")") (c ∷ ts) (c, ts, i, refl)))
    ps us p low rest

-- ---- what a function returns

pub whole-may_returns : (d : ℕ) → Whole (may_by param_height) MayReturns d (may_returns_at d) (λ ts. word_at (codes "returns") ts ≡ None)
unfolding may_returns_at
whole-may_returns d x us MayReturns.nothing low rest s = rw s refl
whole-may_returns d x us (MayReturns.returns {p} w o c {ts} iw io q ic) low rest s =
    let read = whole-param d p ts q low (c ∷ rest) (param-mark (codes ")") (c ∷ rest) refl (c, rest, ic, refl)) in
    rw append_assoc (rw (word-here (codes "returns") w (o ∷ (ts ++ (c ∷ rest))) iw, mark-here (codes "(") o (ts ++ (c ∷ rest)) io, read, mark-here (codes ")") c rest ic) refl)

-- ---- bodies

pub block-first : (x : Block) (us : List Token) → SpellsBlock x us → (rest : List Token) → MarkFirst (codes "{") (us ++ rest)
block-first x us (SpellsBlock.body o c io ss ic) rest = (o, _, io, refl)

pub whole-body : (d : ℕ) → Whole (may_by block_height) SpellsBody d (body_at d) Anything
unfolding body_at
whole-body d x us (SpellsBody.missing n i) low rest s = rw (mark-here (codes ";") n rest i) refl
whole-body d x us (SpellsBody.body {b = y} p) low rest s = rw (mark-mark (codes ";") (codes "{") (us ++ rest) refl (block-first y us p rest), block-all p d low rest) refl

-- the mark that a body begins with, and it is no `(`
pub body-first : (x : Option Block) (us : List Token) → SpellsBody x us → (rest : List Token) → (m : List ℕ) × MarkFirst m (us ++ rest) × (bytes_eq m (codes "(") ≡ false)
body-first x us (SpellsBody.missing n i) rest = (codes ";", (n, _, i, refl), refl)
body-first x us (SpellsBody.body {b = y} p) rest = (codes "{", block-first y us p rest, refl)

-- ---- parameters that may be left out

pub enclosed-none : (d : ℕ) (ts : List Token) → mark_at (codes "(") ts ≡ None → enclosed_at (param_at d) ts ≡ None
unfolding enclosed_at
enclosed-none d ts e = rw e refl

pub whole-may_params : (d : ℕ) → Whole (greatest_by param_height) MayParams d (may_params_at d) NoOpen
unfolding may_params_at
whole-may_params d x us MayParams.without low rest s = rw (enclosed-none d rest s) refl
whole-may_params d x us (MayParams.listed p) low rest s = rw (whole-params d x us p low rest) refl
