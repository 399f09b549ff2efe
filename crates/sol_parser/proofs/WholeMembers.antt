-- Each member is read from the tokens that spell it.
use Rattle.std.proofs.Common.{◌≡◌, ◌∙◌, sym, ap, refl, ℕ, zero, suc, ◌+◌, ◌<◌, ◌≤◌, max, List, [], ◌∷◌, ◌++◌, length, append_assoc, append-nil, length-append, ◌⊎◌, inl, inr, Bool, true, false, Option, Some, None, codes, arith}
use Rattle.std.specs.Str.{bytes_eq}
use Rattle.sol_tree.specs.declared.token.Token.{Token}
use Rattle.sol_tree.specs.declared.token.TokenKind.TheVariants as kind
use Rattle.sol_tree.specs.declared.types.Identifier.{Identifier}
use Rattle.sol_tree.specs.declared.types.Type as types
use Rattle.sol_tree.specs.declared.expr.Initial.{Initial}
use Rattle.sol_tree.specs.declared.stmt.Block.{Block}
use Rattle.sol_tree.specs.declared.file.VarSpecifier.{VarSpecifier}
use Rattle.sol_tree.specs.declared.file.ModifierSpecifier.{ModifierSpecifier}
use Rattle.sol_tree.specs.declared.file.Param.{Param}
use Rattle.sol_tree.specs.declared.file.Var.{Var}
use Rattle.sol_tree.specs.declared.file.Fun.{Fun}
use Rattle.sol_tree.specs.declared.file.Constructor.{Constructor}
use Rattle.sol_tree.specs.declared.file.Modifier.{Modifier}
use Rattle.sol_tree.specs.declared.file.Event.{Event}
use Rattle.sol_tree.specs.declared.file.Error.{Error}
use Rattle.sol_tree.specs.Words.{elementary_type, is_name}
use Rattle.sol_parse_expr.specs.Grammar.{IsMark, IsWord, IsName, named_by, SpellsType}
use Rattle.sol_parse_expr.specs.Heights.{type_height}
use Rattle.sol_parse_expr.specs.Reading.{mark_at, word_at, name_at, is_word, brackets_at, type_at}
use Rattle.sol_parse_expr.proofs.Tokens.{mark-here, word-here, name-here, word-not}
use Rattle.sol_parse_expr.proofs.Binding.{type-differs}
use Rattle.sol_parse_expr.proofs.Laws.{type-all}
use Rattle.sol_parse_stmt.specs.Grammar.{MayInitial, SpellsBlock}
use Rattle.sol_parse_stmt.specs.Heights.{initial_height, block_height}
use Rattle.sol_parse_stmt.specs.Reading.{block_at, may_initial_at}
use Rattle.sol_parse_stmt.proofs.Laws.{block-all}
use Rattle.sol_parser.specs.Grammar.{Repeated, Enclosed, SpellsVarSpecifier, SpellsFunSpecifier, SpellsConstructorSpecifier, SpellsModifierSpecifier, SpellsParam, MayReturns, SpellsBody, MayParams, MayAnonymous, SpellsVar, SpellsFun, SpellsConstructor, SpellsModifier, SpellsEvent, SpellsError, SpellsMember}
use Rattle.sol_parser.specs.Heights.{greatest_by, may_by, param_height, fun_specifier_height, constructor_specifier_height, var_height, fun_height, constructor_height, modifier_height, event_height, error_height, member_height}
use Rattle.sol_parser.specs.Reading.{many_at, enclosed_at, may_word_at, var_specifier_at, fun_specifier_at, constructor_specifier_at, modifier_specifier_at, param_at, may_returns_at, body_at, may_params_at, var_at, fun_at, constructor_at, modifier_at, event_at, error_at, member_at}
use Rattle.sol_parser.proofs.WholeLists.{Whole, Filled, follows, whole-many}
use Rattle.sol_parser.proofs.Statements.{initial-closed}
use Rattle.sol_parser.proofs.SoundParts.{flat}
use Rattle.sol_parse_expr.proofs.First.{WordFirst, NameFirst, MarkFirst, word-word, word-name, word-mark, mark-word, mark-name, mark-mark, name-word, name-mark, brackets-none, type-mark, type-no_word}
use Rattle.sol_parse_expr.proofs.Keywords.{Keyword, keyword}
use Rattle.sol_parser.proofs.WholeSpecifiers.{Anything, NoOpen, whole-var_specifier, begins-var_specifier, filled-var_specifier, var_specifier-no_name, var_specifier-name, whole-fun_specifier, begins-fun_specifier, filled-fun_specifier, fun_specifier-mark, fun_specifier-returns, whole-constructor_specifier, begins-constructor_specifier, filled-constructor_specifier, constructor_specifier-mark, whole-modifier_specifier, begins-modifier_specifier, filled-modifier_specifier, modifier_specifier-mark}
use Rattle.sol_parser.proofs.WholeParts.{enclosed-none, whole-params, whole-event_params, whole-may_returns, whole-may_params, whole-body, body-first, block-first, word-absent, word-present}

-- ---- variables

whole-var : (d : ℕ) → Whole var_height SpellsVar (suc d) (var_at d) Anything
unfolding var_at
whole-var d x us (SpellsVar.var {ty} {vs} {n} {i} m e {ts} {us = ms} {is} p r im ip ie) low rest s =
    let t4 : List Token = e ∷ rest in
    let t2 : List Token = m ∷ (is ++ t4) in
    let name : NameFirst t2 = (m, n, is ++ t4, im, refl) in
    let all : (ts ++ (ms ++ (m ∷ (is ++ (e ∷ []))))) ++ rest ≡ ts ++ (ms ++ t2) = simp append_assoc refl in
    let small : greatest_by flat vs ≤ greatest_by flat vs = omega arith in
    let quiet = follows SpellsVarSpecifier (λ w. mark_at (codes "[") w ≡ None) (begins-var_specifier (codes "[")) vs ms r t2 (mark-name (codes "[") t2 name) in
    let ty_read = type-all p d (omega (arith, low)) (ms ++ t2) (brackets-none (ms ++ t2) quiet) in
    let specifiers_read = whole-many flat SpellsVarSpecifier (greatest_by flat vs) var_specifier_at NoOpen (whole-var_specifier (greatest_by flat vs)) (begins-var_specifier (codes "(")) filled-var_specifier vs ms r small t2 (mark-name (codes "(") t2 name) (var_specifier-name t2 name) in
    let initial_read = initial-closed i is ip d (omega (arith, low)) e rest ie in
    rw all (rw (ty_read, specifiers_read, name-here n m (is ++ t4) im, initial_read, mark-here (codes ";") e rest ie) refl)

-- ---- functions

-- what stands after the specifiers of a function
specifiers-end : (d : ℕ) (r : Option Param) (rts : List Token) → MayReturns r rts → (x : Option Block) (bts : List Token) → SpellsBody x bts → (rest : List Token) → NoOpen (rts ++ (bts ++ rest)) × (fun_specifier_at d (rts ++ (bts ++ rest)) ≡ None)
specifiers-end d r rts MayReturns.nothing x bts p rest =
    let f = body-first x bts p rest in
    (mark-mark (codes "(") f.0 (bts ++ rest) f.2 f.1, fun_specifier-mark d f.0 (bts ++ rest) f.1)
specifiers-end d r rts (MayReturns.returns w o c iw io q ic) x bts p rest =
    let f : WordFirst (codes "returns") (rts ++ (bts ++ rest)) = (w, _, iw, refl) in
    (mark-word (codes "(") (codes "returns") (rts ++ (bts ++ rest)) f, fun_specifier-returns d (rts ++ (bts ++ rest)) f)

body-no_returns : (x : Option Block) (bts : List Token) → SpellsBody x bts → (rest : List Token) → word_at (codes "returns") (bts ++ rest) ≡ None
body-no_returns x bts p rest = let f = body-first x bts p rest in word-mark (codes "returns") f.0 (bts ++ rest) f.1

whole-fun : (d : ℕ) → Whole fun_height SpellsFun (suc d) (fun_at d) Anything
unfolding fun_at
whole-fun d x us (SpellsFun.fun {n} {ps} {ms} {r} {b = y} w m {pts} {mts} {rts} {bts} iw im pp pm pr pb) low rest s =
    let t5 : List Token = bts ++ rest in
    let t4 : List Token = rts ++ t5 in
    let t3 : List Token = mts ++ t4 in
    let all : (pts ++ (mts ++ (rts ++ bts))) ++ rest ≡ pts ++ t3 = simp append_assoc refl in
    let last = specifiers-end d r rts pr y bts pb rest in
    let params_read = whole-params d ps pts pp (omega (arith, low)) t3 in
    let specifiers_read = whole-many fun_specifier_height SpellsFunSpecifier d (fun_specifier_at d) NoOpen (whole-fun_specifier d) (begins-fun_specifier (codes "(")) filled-fun_specifier ms mts pm (omega (arith, low)) t4 (last.0) (last.1) in
    let returns_read = whole-may_returns d r rts pr (omega (arith, low)) t5 (body-no_returns y bts pb rest) in
    let body_read = whole-body d y bts pb (omega (arith, low)) rest tt in
    rw all (rw (word-here (codes "function") w (m ∷ (pts ++ t3)) iw, name-here n m (pts ++ t3) im, params_read, specifiers_read, returns_read, body_read) refl)

-- ---- constructors and modifiers

whole-constructor : (d : ℕ) → Whole constructor_height SpellsConstructor (suc d) (constructor_at d) Anything
unfolding constructor_at
whole-constructor d x us (SpellsConstructor.constructed {ps} {ms} {b = y} w {pts} {mts} {bts} iw pp pm pb) low rest s =
    let t3 : List Token = bts ++ rest in
    let t2 : List Token = mts ++ t3 in
    let all : (pts ++ (mts ++ bts)) ++ rest ≡ pts ++ t2 = simp append_assoc refl in
    let first = block-first y bts pb rest in
    let params_read = whole-params d ps pts pp (omega (arith, low)) t2 in
    let specifiers_read = whole-many constructor_specifier_height SpellsConstructorSpecifier d (constructor_specifier_at d) NoOpen (whole-constructor_specifier d) (begins-constructor_specifier (codes "(")) filled-constructor_specifier ms mts pm (omega (arith, low)) t3 (mark-mark (codes "(") (codes "{") t3 refl first) (constructor_specifier-mark d (codes "{") t3 first) in
    let body_read = block-all pb d (omega (arith, low)) rest in
    rw all (rw (word-here (codes "constructor") w (pts ++ t2) iw, params_read, specifiers_read, body_read) refl)

whole-modifier : (d : ℕ) → Whole modifier_height SpellsModifier (suc d) (modifier_at d) Anything
unfolding modifier_at
whole-modifier d x us (SpellsModifier.modified {n} {ps} {ms} {b = y} w m {pts} {mts} {bts} iw im pp pm pb) low rest s =
    let t4 : List Token = bts ++ rest in
    let t3 : List Token = mts ++ t4 in
    let all : (pts ++ (mts ++ bts)) ++ rest ≡ pts ++ t3 = simp append_assoc refl in
    let first = body-first y bts pb rest in
    let small : greatest_by flat ms ≤ greatest_by flat ms = omega arith in
    let apart : NoOpen t4 = mark-mark (codes "(") first.0 t4 first.2 first.1 in
    let quiet : NoOpen t3 = follows SpellsModifierSpecifier NoOpen (begins-modifier_specifier (codes "(")) ms mts pm t4 apart in
    let params_read = whole-may_params d ps pts pp (omega (arith, low)) t3 quiet in
    let specifiers_read = whole-many flat SpellsModifierSpecifier (greatest_by flat ms) modifier_specifier_at NoOpen (whole-modifier_specifier (greatest_by flat ms)) (begins-modifier_specifier (codes "(")) filled-modifier_specifier ms mts pm small t4 apart (modifier_specifier-mark first.0 t4 first.1) in
    let body_read = whole-body d y bts pb (omega (arith, low)) rest tt in
    rw all (rw (word-here (codes "modifier") w (m ∷ (pts ++ t3)) iw, name-here n m (pts ++ t3) im, params_read, specifiers_read, body_read) refl)

-- ---- events and errors

anonymous-all : (a : Bool) (us : List Token) → MayAnonymous a us → (e : Token) (rest : List Token) → IsMark (codes ";") e → may_word_at (codes "anonymous") (us ++ (e ∷ rest)) ≡ Some (a, e ∷ rest)
anonymous-all a us MayAnonymous.known e rest ie = word-absent (codes "anonymous") (e ∷ rest) (word-mark (codes "anonymous") (codes ";") (e ∷ rest) (e, rest, ie, refl))
anonymous-all a us (MayAnonymous.anonymous w iw) e rest ie = word-present (codes "anonymous") w (e ∷ rest) iw

pub whole-event : (d : ℕ) → Whole event_height SpellsEvent (suc d) (event_at d) Anything
unfolding event_at
whole-event d x us (SpellsEvent.event {n} {ps} {a} w m e {pts} {us = ws} iw im pp pa ie) low rest s =
    let t3 : List Token = ws ++ (e ∷ rest) in
    let all : (pts ++ (ws ++ (e ∷ []))) ++ rest ≡ pts ++ t3 = simp append_assoc refl in
    let params_read = whole-event_params d ps pts pp (omega (arith, low)) t3 in
    rw all (rw (word-here (codes "event") w (m ∷ (pts ++ t3)) iw, name-here n m (pts ++ t3) im, params_read, anonymous-all a ws pa e rest ie, mark-here (codes ";") e rest ie) refl)

pub whole-error : (d : ℕ) → Whole error_height SpellsError (suc d) (error_at d) Anything
unfolding error_at
whole-error d x us (SpellsError.error {n} {ps} w m e {pts} iw im pp ie) low rest s =
    let t3 : List Token = e ∷ rest in
    let all : (pts ++ (e ∷ [])) ++ rest ≡ pts ++ t3 = simp append_assoc refl in
    let params_read = whole-params d ps pts pp (omega (arith, low)) t3 in
    rw all (rw (word-here (codes "error") w (m ∷ (pts ++ t3)) iw, name-here n m (pts ++ t3) im, params_read, mark-here (codes ";") e rest ie) refl)

-- ---- what begins no such member

fun-none : (d : ℕ) (ts : List Token) → word_at (codes "function") ts ≡ None → fun_at d ts ≡ None
unfolding fun_at
fun-none d ts e = rw e refl

constructor-none : (d : ℕ) (ts : List Token) → word_at (codes "constructor") ts ≡ None → constructor_at d ts ≡ None
unfolding constructor_at
constructor-none d ts e = rw e refl

modifier-none : (d : ℕ) (ts : List Token) → word_at (codes "modifier") ts ≡ None → modifier_at d ts ≡ None
unfolding modifier_at
modifier-none d ts e = rw e refl

pub event-none : (d : ℕ) (ts : List Token) → word_at (codes "event") ts ≡ None → event_at d ts ≡ None
unfolding event_at
event-none d ts e = rw e refl

pub error-none : (d : ℕ) (ts : List Token) → word_at (codes "error") ts ≡ None → error_at d ts ≡ None
unfolding error_at
error-none d ts e = rw e refl

var-none : (d : ℕ) (ts : List Token) → type_at d ts ≡ None → var_at d ts ≡ None
unfolding var_at
var-none d ts e = rw e refl

-- no member begins with a mark
pub member-mark : (d : ℕ) (m : List ℕ) (ts : List Token) → MarkFirst m ts → member_at d ts ≡ None
unfolding member_at
member-mark d m ts f = rw (fun-none d ts (word-mark (codes "function") m ts f), constructor-none d ts (word-mark (codes "constructor") m ts f), modifier-none d ts (word-mark (codes "modifier") m ts f), event-none d ts (word-mark (codes "event") m ts f), error-none d ts (word-mark (codes "error") m ts f), var-none d ts (type-mark d m ts f)) refl

fun-first : (x : Fun) (us : List Token) → SpellsFun x us → (rest : List Token) → WordFirst (codes "function") (us ++ rest)
fun-first x us (SpellsFun.fun w m iw im pp pm pr pb) rest = (w, _, iw, refl)

constructor-first : (x : Constructor) (us : List Token) → SpellsConstructor x us → (rest : List Token) → WordFirst (codes "constructor") (us ++ rest)
constructor-first x us (SpellsConstructor.constructed w iw pp pm pb) rest = (w, _, iw, refl)

modifier-first : (x : Modifier) (us : List Token) → SpellsModifier x us → (rest : List Token) → WordFirst (codes "modifier") (us ++ rest)
modifier-first x us (SpellsModifier.modified w m iw im pp pm pb) rest = (w, _, iw, refl)

pub event-first : (x : Event) (us : List Token) → SpellsEvent x us → (rest : List Token) → WordFirst (codes "event") (us ++ rest)
event-first x us (SpellsEvent.event w m e iw im pp pa ie) rest = (w, _, iw, refl)

pub error-first : (x : Error) (us : List Token) → SpellsError x us → (rest : List Token) → WordFirst (codes "error") (us ++ rest)
error-first x us (SpellsError.error w m e iw im pp ie) rest = (w, _, iw, refl)

-- ---- a variable begins no other member

var-word : (w : List ℕ) → bytes_eq w (codes "mapping") ≡ false → Keyword w → (x : Var) (us : List Token) → SpellsVar x us → (rest : List Token) → word_at w (us ++ rest) ≡ None
var-word w q k x us (SpellsVar.var m e {ts} {us = ms} {is} pt pm im pi ie) rest = rw append_assoc (type-no_word w q k pt ((ms ++ (m ∷ (is ++ (e ∷ [])))) ++ rest))

-- no name and `(` stand here
abbrev NoCall : List Token → Type 0
NoCall ts = (name_at ts ≡ None) ⊎ ((i : Identifier) × (us : List Token) × (name_at ts ≡ Some (i, us)) × (mark_at (codes "(") us ≡ None))

test : (b : Bool) → (b ≡ true) ⊎ (b ≡ false)
test true = inl refl
test false = inr refl

no-call : (d : ℕ) (t : Token) (ts : List Token) → NoCall ts → error_at d (t ∷ ts) ≡ None
unfolding error_at word_at
no-call d t ts n = elim (test (is_word (codes "error") t.kind)) [
  | inl a ↦ rw a (elim n [ inl e ↦ rw e refl | inr f ↦ rw (f.2, enclosed-none d f.1 f.3) refl ])
  | inr b ↦ rw b refl
]

error-no_type : elementary_type (codes "error") ≡ None
unfolding elementary_type
error-no_type = refl

type-no_error : (d : ℕ) {t : types.Type} {us : List Token} → SpellsType t us → (rest : List Token) → NoCall rest → error_at d (us ++ rest) ≡ None
type-no_error d (SpellsType.elementary {ty} t i) rest n = error-none d (t ∷ rest) (word-not (codes "error") (kind.Word i.text) t rest i.word (type-differs i.text (codes "error") ty i.named error-no_type))
type-no_error d (SpellsType.named t i) rest n = no-call d t rest n
type-no_error d (SpellsType.array o c s io ic) rest n = rw append_assoc (type-no_error d s (o ∷ (c ∷ rest)) (inl (name-mark (codes "[") (o ∷ (c ∷ rest)) (o, c ∷ rest, io, refl))))
type-no_error d (SpellsType.mapping m o a c hw ho sk si ha sv sj hc) rest n = error-none d _ (word-not (codes "error") (kind.Word (codes "mapping")) m _ hw refl)

initial-no_open : (i : Option Initial) (is : List Token) → MayInitial i is → (e : Token) (rest : List Token) → IsMark (codes ";") e → mark_at (codes "(") (is ++ (e ∷ rest)) ≡ None
initial-no_open i is MayInitial.without e rest ie = mark-mark (codes "(") (codes ";") (e ∷ rest) refl (e, rest, ie, refl)
initial-no_open i is (MayInitial.initial t {ts} it p) e rest ie = mark-mark (codes "(") (codes "=") (t ∷ (ts ++ (e ∷ rest))) refl (t, ts ++ (e ∷ rest), it, refl)

specifiers-no_call : (vs : List VarSpecifier) (us : List Token) → Repeated SpellsVarSpecifier vs us → (rest : List Token) → NoCall rest → NoCall (us ++ rest)
specifiers-no_call vs us Repeated.ended rest n = n
specifiers-no_call vs us (Repeated.another {x} {ts = ts} {us = ws} p q) rest n = inl (rw append_assoc (var_specifier-no_name x ts p (ws ++ rest)))

var-no_error : (d : ℕ) (x : Var) (us : List Token) → SpellsVar x us → (rest : List Token) → error_at d (us ++ rest) ≡ None
var-no_error d x us (SpellsVar.var {vs = vs} {n} {i} m e {ts} {us = ms} {is} pt pm im pi ie) rest =
    let t2 : List Token = m ∷ (is ++ (e ∷ rest)) in
    let all : (ts ++ (ms ++ (m ∷ (is ++ (e ∷ []))))) ++ rest ≡ ts ++ (ms ++ t2) = simp append_assoc refl in
    let named : NoCall t2 = inr (named_by n m, is ++ (e ∷ rest), name-here n m (is ++ (e ∷ rest)) im, initial-no_open i is pi e rest ie) in
    rw all (type-no_error d pt (ms ++ t2) (specifiers-no_call vs ms pm t2 named))

-- ---- members

pub whole-member : (d : ℕ) → Whole member_height SpellsMember (suc d) (member_at d) Anything
unfolding member_at
whole-member d x us (SpellsMember.fun {f = y} p) low rest s = rw (whole-fun d y us p low rest tt) refl
whole-member d x us (SpellsMember.constructor_of {c = y} p) low rest s =
    let f = constructor-first y us p rest in
    rw (fun-none d (us ++ rest) (word-word (codes "function") (codes "constructor") (us ++ rest) refl f), whole-constructor d y us p low rest tt) refl
whole-member d x us (SpellsMember.modifier {m = y} p) low rest s =
    let f = modifier-first y us p rest in
    rw (fun-none d (us ++ rest) (word-word (codes "function") (codes "modifier") (us ++ rest) refl f), constructor-none d (us ++ rest) (word-word (codes "constructor") (codes "modifier") (us ++ rest) refl f), whole-modifier d y us p low rest tt) refl
whole-member d x us (SpellsMember.event {e = y} p) low rest s =
    let f = event-first y us p rest in
    rw (fun-none d (us ++ rest) (word-word (codes "function") (codes "event") (us ++ rest) refl f), constructor-none d (us ++ rest) (word-word (codes "constructor") (codes "event") (us ++ rest) refl f), modifier-none d (us ++ rest) (word-word (codes "modifier") (codes "event") (us ++ rest) refl f), whole-event d y us p low rest tt) refl
whole-member d x us (SpellsMember.error {e = y} p) low rest s =
    let f = error-first y us p rest in
    rw (fun-none d (us ++ rest) (word-word (codes "function") (codes "error") (us ++ rest) refl f), constructor-none d (us ++ rest) (word-word (codes "constructor") (codes "error") (us ++ rest) refl f), modifier-none d (us ++ rest) (word-word (codes "modifier") (codes "error") (us ++ rest) refl f), event-none d (us ++ rest) (word-word (codes "event") (codes "error") (us ++ rest) refl f), whole-error d y us p low rest tt) refl
whole-member d x us (SpellsMember.var {v = y} p) low rest s =
    rw (fun-none d (us ++ rest) (var-word (codes "function") refl (keyword (codes "function") refl) y us p rest), constructor-none d (us ++ rest) (var-word (codes "constructor") refl (keyword (codes "constructor") refl) y us p rest), modifier-none d (us ++ rest) (var-word (codes "modifier") refl (keyword (codes "modifier") refl) y us p rest), event-none d (us ++ rest) (var-word (codes "event") refl (keyword (codes "event") refl) y us p rest), var-no_error d y us p rest, whole-var d y us p low rest tt) refl

filled-var : Filled SpellsVar
filled-var x us (SpellsVar.var m e {ts} {us = ms} {is} pt pm im pi ie) = simp length-append (omega arith)

pub filled-member : Filled SpellsMember
filled-member x us (SpellsMember.fun (SpellsFun.fun w m iw im pp pm pr pb)) = omega arith
filled-member x us (SpellsMember.constructor_of (SpellsConstructor.constructed w iw pp pm pb)) = omega arith
filled-member x us (SpellsMember.modifier (SpellsModifier.modified w m iw im pp pm pb)) = omega arith
filled-member x us (SpellsMember.event (SpellsEvent.event w m e iw im pp pa ie)) = omega arith
filled-member x us (SpellsMember.error (SpellsError.error w m e iw im pp ie)) = omega arith
filled-member x us (SpellsMember.var {v = y} p) = filled-var y us p
