-- Each base and each mark is read from the tokens that spell it.
use Rattle.std.proofs.Common.{◌≡◌, ◌∙◌, sym, ap, refl, ℕ, zero, suc, ◌+◌, ◌<◌, ◌≤◌, max, List, [], ◌∷◌, ◌++◌, length, append_assoc, append-nil, Bool, true, false, Option, Some, None, codes, arith}
use Rattle.std.specs.Str.{bytes_eq}
use Rattle.sol_tree.specs.declared.token.Token.{Token}
use Rattle.sol_tree.specs.declared.types.Identifier.{Identifier}
use Rattle.sol_tree.specs.declared.expr.Arguments.{Arguments}
use Rattle.sol_tree.specs.declared.file.Base.{Base}
use Rattle.sol_tree.specs.declared.file.Override.{Override}
use Rattle.sol_tree.specs.declared.file.VarSpecifier.{VarSpecifier}
use Rattle.sol_tree.specs.declared.file.FunSpecifier.{FunSpecifier}
use Rattle.sol_tree.specs.declared.file.ConstructorSpecifier.{ConstructorSpecifier}
use Rattle.sol_tree.specs.declared.file.ModifierSpecifier.{ModifierSpecifier}
use Rattle.sol_tree.specs.Words.{is_name}
use Rattle.sol_parse_expr.specs.Grammar.{IsMark, IsWord, IsName}
use Rattle.sol_parse_expr.specs.Reading.{mark_at, word_at, name_at}
use Rattle.sol_parse_expr.proofs.Tokens.{mark-here, word-here, name-here}
use Rattle.sol_parse_stmt.specs.Grammar.{SpellsArguments}
use Rattle.sol_parse_stmt.specs.Reading.{arguments_at}
use Rattle.sol_parse_stmt.proofs.Laws.{arguments-read, arguments-all}
use Rattle.sol_parser.specs.Grammar.{Separated, SpellsName, SpellsBase, SpellsOverride, SpellsVarSpecifier, SpellsFunSpecifier, SpellsConstructorSpecifier, SpellsModifierSpecifier}
use Rattle.sol_parser.specs.Heights.{greatest_by, base_height, fun_specifier_height, constructor_specifier_height}
use Rattle.sol_parser.specs.Reading.{named_at, base_at, names_at, override_at, var_specifier_at, plain_specifier_at, fun_specifier_at, constructor_specifier_at, modifier_specifier_at}
use Rattle.sol_parser.proofs.WholeLists.{Whole, Begins, Filled, whole-separated}
use Rattle.sol_parser.proofs.SoundParts.{flat}
use Rattle.sol_parse_expr.proofs.First.{WordFirst, NameFirst, MarkFirst, word-word, word-name, word-mark, mark-word, mark-name, mark-mark, name-word, name-mark}

-- whatever follows
abbrev pub Anything : List Token → Type 0
Anything ts = Unit {0}

-- no `(` follows
abbrev pub NoOpen : List Token → Type 0
NoOpen ts = mark_at (codes "(") ts ≡ None

-- ---- bases

whole-named : (d : ℕ) → Whole flat SpellsName d named_at Anything
unfolding named_at
whole-named d x us (SpellsName.name {n} t i) low rest s = rw (name-here n t rest i) refl

arguments-first : (a : Arguments) (us : List Token) → SpellsArguments a us → (rest : List Token) → MarkFirst (codes "(") (us ++ rest)
arguments-first a us (SpellsArguments.listed o c {ts} io ss ic) rest = (o, _, io, refl)

none-or : (d : ℕ) (ts : List Token) (r : Option (Arguments × ℕ × List Token)) → arguments_at d ts ≡ r → mark_at (codes "(") ts ≡ None → r ≡ None
none-or d ts None e s = refl
none-or d ts (Some x) e s =
    let g = arguments-read d ts x.0 x.1 x.2 e in
    let f = arguments-first x.0 g.0 g.1 x.2 in
    let opened : mark_at (codes "(") ts ≡ Some (f.0.at, f.1) = ap (λ (w : List Token). mark_at (codes "(") w) (g.2 ∙ f.3) ∙ mark-here (codes "(") f.0 f.1 f.2 in
    absurd (cc (s, opened))

arguments-none : (d : ℕ) (ts : List Token) → mark_at (codes "(") ts ≡ None → arguments_at d ts ≡ None
arguments-none d ts s = none-or d ts (arguments_at d ts) refl s

pub whole-base : (d : ℕ) → Whole base_height SpellsBase d (base_at d) NoOpen
unfolding base_at
whole-base d x us (SpellsBase.alone {n} t i) low rest s = rw (name-here n t rest i, arguments-none d rest s) refl
whole-base d x us (SpellsBase.applied {n} {a} t {us = ps} i p) low rest s = rw (name-here n t (ps ++ rest) i, arguments-all p d low rest) refl

pub base-first : (x : Base) (us : List Token) → SpellsBase x us → (rest : List Token) → NameFirst (us ++ rest)
base-first x us (SpellsBase.alone {n} t i) rest = (t, n, _, i, refl)
base-first x us (SpellsBase.applied {n} {a} t {us = ps} i p) rest = (t, n, _, i, refl)

pub filled-base : Filled SpellsBase
filled-base x us (SpellsBase.alone {n} t i) = omega arith
filled-base x us (SpellsBase.applied {n} {a} t {us = ps} i p) = omega arith

-- ---- overrides

whole-names : (is : List Identifier) (us : List Token) → Separated SpellsName is us → (c : Token) (rest : List Token) → IsMark (codes ")") c → names_at (us ++ (c ∷ rest)) ≡ Some (is, greatest_by flat is, rest)
unfolding names_at
whole-names is us p c rest ic =
    let low : greatest_by flat is ≤ greatest_by flat is = omega arith in
    let far : mark_at (codes ",") (c ∷ rest) ≡ None = mark-mark (codes ",") (codes ")") (c ∷ rest) refl (c, rest, ic, refl) in
    let read = whole-separated flat SpellsName (greatest_by flat is) named_at Anything (whole-named (greatest_by flat is)) (λ t ts i. tt) is us p low (c ∷ rest) tt far in
    rw (read, mark-here (codes ")") c rest ic) refl

pub whole-override : (d : ℕ) → Whole flat SpellsOverride d override_at NoOpen
unfolding override_at
whole-override d x us (SpellsOverride.alone w iw) low rest s = rw (word-here (codes "override") w rest iw, s) refl
whole-override d x us (SpellsOverride.listed {is} w o c {ts} iw io p ic) low rest s = rw append_assoc (rw (word-here (codes "override") w (o ∷ (ts ++ (c ∷ rest))) iw, mark-here (codes "(") o (ts ++ (c ∷ rest)) io, whole-names is ts p c rest ic) refl)

override-first : (x : Override) (us : List Token) → SpellsOverride x us → (rest : List Token) → WordFirst (codes "override") (us ++ rest)
override-first x us (SpellsOverride.alone w iw) rest = (w, _, iw, refl)
override-first x us (SpellsOverride.listed w o c iw io p ic) rest = (w, _, iw, refl)

filled-override : Filled SpellsOverride
filled-override x us (SpellsOverride.alone w iw) = omega arith
filled-override x us (SpellsOverride.listed w o c iw io p ic) = omega arith

override-none : (ts : List Token) → word_at (codes "override") ts ≡ None → override_at ts ≡ None
unfolding override_at
override-none ts e = rw e refl

base-none : (d : ℕ) (ts : List Token) → name_at ts ≡ None → base_at d ts ≡ None
unfolding base_at
base-none d ts e = rw e refl

-- ---- specifiers

pub whole-var_specifier : (d : ℕ) → Whole flat SpellsVarSpecifier d (var_specifier_at) NoOpen
unfolding var_specifier_at
whole-var_specifier d x us (SpellsVarSpecifier.is_public w i) low rest s = rw (word-here (codes "public") w rest i) refl
whole-var_specifier d x us (SpellsVarSpecifier.is_internal w i) low rest s = rw (word-word (codes "public") (codes "internal") (w ∷ rest) refl (w, rest, i, refl), word-here (codes "internal") w rest i) refl
whole-var_specifier d x us (SpellsVarSpecifier.is_private w i) low rest s = rw (word-word (codes "public") (codes "private") (w ∷ rest) refl (w, rest, i, refl), word-word (codes "internal") (codes "private") (w ∷ rest) refl (w, rest, i, refl), word-here (codes "private") w rest i) refl
whole-var_specifier d x us (SpellsVarSpecifier.is_constant w i) low rest s = rw (word-word (codes "public") (codes "constant") (w ∷ rest) refl (w, rest, i, refl), word-word (codes "internal") (codes "constant") (w ∷ rest) refl (w, rest, i, refl), word-word (codes "private") (codes "constant") (w ∷ rest) refl (w, rest, i, refl), word-here (codes "constant") w rest i) refl
whole-var_specifier d x us (SpellsVarSpecifier.is_immutable w i) low rest s = rw (word-word (codes "public") (codes "immutable") (w ∷ rest) refl (w, rest, i, refl), word-word (codes "internal") (codes "immutable") (w ∷ rest) refl (w, rest, i, refl), word-word (codes "private") (codes "immutable") (w ∷ rest) refl (w, rest, i, refl), word-word (codes "constant") (codes "immutable") (w ∷ rest) refl (w, rest, i, refl), word-here (codes "immutable") w rest i) refl
whole-var_specifier d x us (SpellsVarSpecifier.overrides {o} p) low rest s =
    let f = override-first o us p rest in
    rw (word-word (codes "public") (codes "override") (us ++ rest) refl f, word-word (codes "internal") (codes "override") (us ++ rest) refl f, word-word (codes "private") (codes "override") (us ++ rest) refl f, word-word (codes "constant") (codes "override") (us ++ rest) refl f, word-word (codes "immutable") (codes "override") (us ++ rest) refl f, whole-override d o us p (omega arith) rest s) refl

-- no mark of the grammar begins one
pub begins-var_specifier : (m : List ℕ) → Begins SpellsVarSpecifier (λ ts. mark_at m ts ≡ None)
begins-var_specifier m x us (SpellsVarSpecifier.is_public w i) rest = mark-word m (codes "public") (w ∷ rest) (w, rest, i, refl)
begins-var_specifier m x us (SpellsVarSpecifier.is_internal w i) rest = mark-word m (codes "internal") (w ∷ rest) (w, rest, i, refl)
begins-var_specifier m x us (SpellsVarSpecifier.is_private w i) rest = mark-word m (codes "private") (w ∷ rest) (w, rest, i, refl)
begins-var_specifier m x us (SpellsVarSpecifier.is_constant w i) rest = mark-word m (codes "constant") (w ∷ rest) (w, rest, i, refl)
begins-var_specifier m x us (SpellsVarSpecifier.is_immutable w i) rest = mark-word m (codes "immutable") (w ∷ rest) (w, rest, i, refl)
begins-var_specifier m x us (SpellsVarSpecifier.overrides {o} p) rest = mark-word m (codes "override") (us ++ rest) (override-first o us p rest)

pub filled-var_specifier : Filled SpellsVarSpecifier
filled-var_specifier x us (SpellsVarSpecifier.is_public w i) = omega arith
filled-var_specifier x us (SpellsVarSpecifier.is_internal w i) = omega arith
filled-var_specifier x us (SpellsVarSpecifier.is_private w i) = omega arith
filled-var_specifier x us (SpellsVarSpecifier.is_constant w i) = omega arith
filled-var_specifier x us (SpellsVarSpecifier.is_immutable w i) = omega arith
filled-var_specifier x us (SpellsVarSpecifier.overrides {o} p) = filled-override o us p

-- no mark begins with a specifier of the grammar
pub var_specifier-mark : (m : List ℕ) (ts : List Token) → MarkFirst m ts → var_specifier_at ts ≡ None
unfolding var_specifier_at
var_specifier-mark m ts f = rw (word-mark (codes "public") m ts f, word-mark (codes "internal") m ts f, word-mark (codes "private") m ts f, word-mark (codes "constant") m ts f, word-mark (codes "immutable") m ts f, override-none ts (word-mark (codes "override") m ts f)) refl

-- and its first token is no name
pub var_specifier-no_name : (x : VarSpecifier) (us : List Token) → SpellsVarSpecifier x us → (rest : List Token) → name_at (us ++ rest) ≡ None
var_specifier-no_name x us (SpellsVarSpecifier.is_public w i) rest = name-word (codes "public") (w ∷ rest) refl (w, rest, i, refl)
var_specifier-no_name x us (SpellsVarSpecifier.is_internal w i) rest = name-word (codes "internal") (w ∷ rest) refl (w, rest, i, refl)
var_specifier-no_name x us (SpellsVarSpecifier.is_private w i) rest = name-word (codes "private") (w ∷ rest) refl (w, rest, i, refl)
var_specifier-no_name x us (SpellsVarSpecifier.is_constant w i) rest = name-word (codes "constant") (w ∷ rest) refl (w, rest, i, refl)
var_specifier-no_name x us (SpellsVarSpecifier.is_immutable w i) rest = name-word (codes "immutable") (w ∷ rest) refl (w, rest, i, refl)
var_specifier-no_name x us (SpellsVarSpecifier.overrides {o} p) rest = name-word (codes "override") (us ++ rest) refl (override-first o us p rest)

-- nor with a name
pub var_specifier-name : (ts : List Token) → NameFirst ts → var_specifier_at ts ≡ None
unfolding var_specifier_at
var_specifier-name ts f = rw (word-name (codes "public") ts refl f, word-name (codes "internal") ts refl f, word-name (codes "private") ts refl f, word-name (codes "constant") ts refl f, word-name (codes "immutable") ts refl f, override-none ts (word-name (codes "override") ts refl f)) refl

pub whole-fun_specifier : (d : ℕ) → Whole fun_specifier_height SpellsFunSpecifier d (fun_specifier_at d) NoOpen
unfolding fun_specifier_at plain_specifier_at
whole-fun_specifier d x us (SpellsFunSpecifier.is_public w i) low rest s = rw (word-here (codes "public") w rest i) refl
whole-fun_specifier d x us (SpellsFunSpecifier.is_external w i) low rest s = rw (word-word (codes "public") (codes "external") (w ∷ rest) refl (w, rest, i, refl), word-here (codes "external") w rest i) refl
whole-fun_specifier d x us (SpellsFunSpecifier.is_internal w i) low rest s = rw (word-word (codes "public") (codes "internal") (w ∷ rest) refl (w, rest, i, refl), word-word (codes "external") (codes "internal") (w ∷ rest) refl (w, rest, i, refl), word-here (codes "internal") w rest i) refl
whole-fun_specifier d x us (SpellsFunSpecifier.is_private w i) low rest s = rw (word-word (codes "public") (codes "private") (w ∷ rest) refl (w, rest, i, refl), word-word (codes "external") (codes "private") (w ∷ rest) refl (w, rest, i, refl), word-word (codes "internal") (codes "private") (w ∷ rest) refl (w, rest, i, refl), word-here (codes "private") w rest i) refl
whole-fun_specifier d x us (SpellsFunSpecifier.is_view w i) low rest s = rw (word-word (codes "public") (codes "view") (w ∷ rest) refl (w, rest, i, refl), word-word (codes "external") (codes "view") (w ∷ rest) refl (w, rest, i, refl), word-word (codes "internal") (codes "view") (w ∷ rest) refl (w, rest, i, refl), word-word (codes "private") (codes "view") (w ∷ rest) refl (w, rest, i, refl), word-here (codes "view") w rest i) refl
whole-fun_specifier d x us (SpellsFunSpecifier.is_pure w i) low rest s = rw (word-word (codes "public") (codes "pure") (w ∷ rest) refl (w, rest, i, refl), word-word (codes "external") (codes "pure") (w ∷ rest) refl (w, rest, i, refl), word-word (codes "internal") (codes "pure") (w ∷ rest) refl (w, rest, i, refl), word-word (codes "private") (codes "pure") (w ∷ rest) refl (w, rest, i, refl), word-word (codes "view") (codes "pure") (w ∷ rest) refl (w, rest, i, refl), word-here (codes "pure") w rest i) refl
whole-fun_specifier d x us (SpellsFunSpecifier.is_virtual w i) low rest s = rw (word-word (codes "public") (codes "virtual") (w ∷ rest) refl (w, rest, i, refl), word-word (codes "external") (codes "virtual") (w ∷ rest) refl (w, rest, i, refl), word-word (codes "internal") (codes "virtual") (w ∷ rest) refl (w, rest, i, refl), word-word (codes "private") (codes "virtual") (w ∷ rest) refl (w, rest, i, refl), word-word (codes "view") (codes "virtual") (w ∷ rest) refl (w, rest, i, refl), word-word (codes "pure") (codes "virtual") (w ∷ rest) refl (w, rest, i, refl), word-here (codes "virtual") w rest i) refl
whole-fun_specifier d x us (SpellsFunSpecifier.overrides {o} p) low rest s =
    let f = override-first o us p rest in
    rw (word-word (codes "public") (codes "override") (us ++ rest) refl f, word-word (codes "external") (codes "override") (us ++ rest) refl f, word-word (codes "internal") (codes "override") (us ++ rest) refl f, word-word (codes "private") (codes "override") (us ++ rest) refl f, word-word (codes "view") (codes "override") (us ++ rest) refl f, word-word (codes "pure") (codes "override") (us ++ rest) refl f, word-word (codes "virtual") (codes "override") (us ++ rest) refl f, whole-override d o us p (omega arith) rest s) refl
whole-fun_specifier d x us (SpellsFunSpecifier.uses {b = y} p) low rest s =
    let f = base-first y us p rest in
    rw (word-name (codes "public") (us ++ rest) refl f, word-name (codes "external") (us ++ rest) refl f, word-name (codes "internal") (us ++ rest) refl f, word-name (codes "private") (us ++ rest) refl f, word-name (codes "view") (us ++ rest) refl f, word-name (codes "pure") (us ++ rest) refl f, word-name (codes "virtual") (us ++ rest) refl f, override-none (us ++ rest) (word-name (codes "override") (us ++ rest) refl f), whole-base d y us p low rest s) refl

-- no mark of the grammar begins one
pub begins-fun_specifier : (m : List ℕ) → Begins SpellsFunSpecifier (λ ts. mark_at m ts ≡ None)
begins-fun_specifier m x us (SpellsFunSpecifier.is_public w i) rest = mark-word m (codes "public") (w ∷ rest) (w, rest, i, refl)
begins-fun_specifier m x us (SpellsFunSpecifier.is_external w i) rest = mark-word m (codes "external") (w ∷ rest) (w, rest, i, refl)
begins-fun_specifier m x us (SpellsFunSpecifier.is_internal w i) rest = mark-word m (codes "internal") (w ∷ rest) (w, rest, i, refl)
begins-fun_specifier m x us (SpellsFunSpecifier.is_private w i) rest = mark-word m (codes "private") (w ∷ rest) (w, rest, i, refl)
begins-fun_specifier m x us (SpellsFunSpecifier.is_view w i) rest = mark-word m (codes "view") (w ∷ rest) (w, rest, i, refl)
begins-fun_specifier m x us (SpellsFunSpecifier.is_pure w i) rest = mark-word m (codes "pure") (w ∷ rest) (w, rest, i, refl)
begins-fun_specifier m x us (SpellsFunSpecifier.is_virtual w i) rest = mark-word m (codes "virtual") (w ∷ rest) (w, rest, i, refl)
begins-fun_specifier m x us (SpellsFunSpecifier.overrides {o} p) rest = mark-word m (codes "override") (us ++ rest) (override-first o us p rest)
begins-fun_specifier m x us (SpellsFunSpecifier.uses {b = y} p) rest = mark-name m (us ++ rest) (base-first y us p rest)

pub filled-fun_specifier : Filled SpellsFunSpecifier
filled-fun_specifier x us (SpellsFunSpecifier.is_public w i) = omega arith
filled-fun_specifier x us (SpellsFunSpecifier.is_external w i) = omega arith
filled-fun_specifier x us (SpellsFunSpecifier.is_internal w i) = omega arith
filled-fun_specifier x us (SpellsFunSpecifier.is_private w i) = omega arith
filled-fun_specifier x us (SpellsFunSpecifier.is_view w i) = omega arith
filled-fun_specifier x us (SpellsFunSpecifier.is_pure w i) = omega arith
filled-fun_specifier x us (SpellsFunSpecifier.is_virtual w i) = omega arith
filled-fun_specifier x us (SpellsFunSpecifier.overrides {o} p) = filled-override o us p
filled-fun_specifier x us (SpellsFunSpecifier.uses {b = y} p) = filled-base y us p

-- no mark begins with a specifier of the grammar
pub fun_specifier-mark : (d : ℕ) (m : List ℕ) (ts : List Token) → MarkFirst m ts → fun_specifier_at d ts ≡ None
unfolding fun_specifier_at plain_specifier_at
fun_specifier-mark d m ts f = rw (word-mark (codes "public") m ts f, word-mark (codes "external") m ts f, word-mark (codes "internal") m ts f, word-mark (codes "private") m ts f, word-mark (codes "view") m ts f, word-mark (codes "pure") m ts f, word-mark (codes "virtual") m ts f, override-none ts (word-mark (codes "override") m ts f), base-none d ts (name-mark m ts f)) refl

-- nor with a word that is none of theirs
pub fun_specifier-returns : (d : ℕ) (ts : List Token) → WordFirst (codes "returns") ts → fun_specifier_at d ts ≡ None
unfolding fun_specifier_at plain_specifier_at
fun_specifier-returns d ts f = rw (word-word (codes "public") (codes "returns") ts refl f, word-word (codes "external") (codes "returns") ts refl f, word-word (codes "internal") (codes "returns") ts refl f, word-word (codes "private") (codes "returns") ts refl f, word-word (codes "view") (codes "returns") ts refl f, word-word (codes "pure") (codes "returns") ts refl f, word-word (codes "virtual") (codes "returns") ts refl f, override-none ts (word-word (codes "override") (codes "returns") ts refl f), base-none d ts (name-word (codes "returns") ts refl f)) refl

pub whole-constructor_specifier : (d : ℕ) → Whole constructor_specifier_height SpellsConstructorSpecifier d (constructor_specifier_at d) NoOpen
unfolding constructor_specifier_at
whole-constructor_specifier d x us (SpellsConstructorSpecifier.is_public w i) low rest s = rw (word-here (codes "public") w rest i) refl
whole-constructor_specifier d x us (SpellsConstructorSpecifier.is_internal w i) low rest s = rw (word-word (codes "public") (codes "internal") (w ∷ rest) refl (w, rest, i, refl), word-here (codes "internal") w rest i) refl
whole-constructor_specifier d x us (SpellsConstructorSpecifier.uses {b = y} p) low rest s =
    let f = base-first y us p rest in
    rw (word-name (codes "public") (us ++ rest) refl f, word-name (codes "internal") (us ++ rest) refl f, whole-base d y us p low rest s) refl

-- no mark of the grammar begins one
pub begins-constructor_specifier : (m : List ℕ) → Begins SpellsConstructorSpecifier (λ ts. mark_at m ts ≡ None)
begins-constructor_specifier m x us (SpellsConstructorSpecifier.is_public w i) rest = mark-word m (codes "public") (w ∷ rest) (w, rest, i, refl)
begins-constructor_specifier m x us (SpellsConstructorSpecifier.is_internal w i) rest = mark-word m (codes "internal") (w ∷ rest) (w, rest, i, refl)
begins-constructor_specifier m x us (SpellsConstructorSpecifier.uses {b = y} p) rest = mark-name m (us ++ rest) (base-first y us p rest)

pub filled-constructor_specifier : Filled SpellsConstructorSpecifier
filled-constructor_specifier x us (SpellsConstructorSpecifier.is_public w i) = omega arith
filled-constructor_specifier x us (SpellsConstructorSpecifier.is_internal w i) = omega arith
filled-constructor_specifier x us (SpellsConstructorSpecifier.uses {b = y} p) = filled-base y us p

-- no mark begins with a specifier of the grammar
pub constructor_specifier-mark : (d : ℕ) (m : List ℕ) (ts : List Token) → MarkFirst m ts → constructor_specifier_at d ts ≡ None
unfolding constructor_specifier_at
constructor_specifier-mark d m ts f = rw (word-mark (codes "public") m ts f, word-mark (codes "internal") m ts f, base-none d ts (name-mark m ts f)) refl

pub whole-modifier_specifier : (d : ℕ) → Whole flat SpellsModifierSpecifier d (modifier_specifier_at) NoOpen
unfolding modifier_specifier_at
whole-modifier_specifier d x us (SpellsModifierSpecifier.is_virtual w i) low rest s = rw (word-here (codes "virtual") w rest i) refl
whole-modifier_specifier d x us (SpellsModifierSpecifier.overrides {o} p) low rest s =
    let f = override-first o us p rest in
    rw (word-word (codes "virtual") (codes "override") (us ++ rest) refl f, whole-override d o us p (omega arith) rest s) refl

-- no mark of the grammar begins one
pub begins-modifier_specifier : (m : List ℕ) → Begins SpellsModifierSpecifier (λ ts. mark_at m ts ≡ None)
begins-modifier_specifier m x us (SpellsModifierSpecifier.is_virtual w i) rest = mark-word m (codes "virtual") (w ∷ rest) (w, rest, i, refl)
begins-modifier_specifier m x us (SpellsModifierSpecifier.overrides {o} p) rest = mark-word m (codes "override") (us ++ rest) (override-first o us p rest)

pub filled-modifier_specifier : Filled SpellsModifierSpecifier
filled-modifier_specifier x us (SpellsModifierSpecifier.is_virtual w i) = omega arith
filled-modifier_specifier x us (SpellsModifierSpecifier.overrides {o} p) = filled-override o us p

-- no mark begins with a specifier of the grammar
pub modifier_specifier-mark : (m : List ℕ) (ts : List Token) → MarkFirst m ts → modifier_specifier_at ts ≡ None
unfolding modifier_specifier_at
modifier_specifier-mark m ts f = rw (word-mark (codes "virtual") m ts f, override-none ts (word-mark (codes "override") m ts f)) refl
