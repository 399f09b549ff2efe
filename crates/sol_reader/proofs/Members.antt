-- The members of a contract are read exactly where they are its variables and functions.
use Rattle.std.specs.Prelude.{is_none}
use Rattle.std.proofs.Common.{◌≡◌, ◌∙◌, sym, ap, subst, refl, ℕ, suc, ◌≤◌, List, [], ◌∷◌, ◌++◌, length, take, drop, leb, Bool, true, false, cond, ◌==◌, ◌&&◌, Option, Some, None, arith, append_assoc, append-nil}
use Rattle.std.proofs.Math.Seq.{take-append_seam, drop-append_seam}
use Rattle.std.proofs.lemmas.Bool.Decides.{nat_tests}
use Rattle.std.proofs.lemmas.List.{take-append-drop}
use Rattle.chc_nums.specs.declared.typed.Ty.TheVariants as ty
use Rattle.sol_tree.specs.declared.expr.Initial.{Initial}
use Rattle.sol_tree.specs.declared.types.Identifier.{Identifier}
use Rattle.sol_tree.specs.declared.types.Type as types
use Rattle.sol_tree.specs.declared.types.Type.TheOpen.{Type-F}
use Rattle.sol_tree.specs.declared.types.Type.TheVariants as type_tree
use Rattle.sol_tree.specs.declared.stmt.Block.{Block}
use Rattle.sol_tree.specs.declared.file.Base.{Base}
use Rattle.sol_tree.specs.declared.file.VarSpecifier.{VarSpecifier}
use Rattle.sol_tree.specs.declared.file.FunSpecifier.{FunSpecifier}
use Rattle.sol_tree.specs.declared.file.FunSpecifier.TheVariants as specifier
use Rattle.sol_tree.specs.declared.file.Fun.{Fun}
use Rattle.sol_tree.specs.declared.file.Member.{Member}
use Rattle.sol_tree.specs.declared.file.Member.TheVariants as member
use Rattle.sol_tree.specs.declared.file.Unit as units
use Rattle.sol_tree.specs.declared.file.Unit.TheVariants as unit
use Rattle.sol_tree.specs.declared.file.File.{File}
use Rattle.sol_first.specs.declared.contract.Variable.{Variable}
use Rattle.sol_first.specs.declared.contract.Function.{Function}
use Rattle.sol_first.specs.declared.contract.Contract.{Contract}
use Rattle.sol_first.specs.declared.contract.Step.{Step}
use Rattle.sol_reader.specs.Language.{IsStep, Pairs, none, more, IsVariable, declared, IsFunction, defined, IsFileOf, contract, Differ, variable_names}
use Rattle.sol_reader.specs.Reading.{all_onto, size_in, size_of, is_bare, var_of, variable_in, is_public, is_open, body_in, fun_of, function_in, leading, members_of, unit_of, units_of, step_of}
use Rattle.sol_reader.proofs.Names.{some-is}
use Rattle.sol_reader.proofs.Steps.{bind, step-sound, step-complete}

if-some : {A : Type 0} (P : Type 0) (t : Bool) (o : Option A) (z : A) → cond t o None ≡ Some z → (t ≡ true → o ≡ Some z → P) → P
if-some P true o z h f = f refl h
if-some P false o z h f = absurd (cc)

unless-some : {A : Type 0} (P : Type 0) (t : Bool) (o : Option A) (z : A) → cond t None o ≡ Some z → (t ≡ false → o ≡ Some z → P) → P
unless-some P true o z h f = absurd (cc)
unless-some P false o z h f = f refl h

and-parts : (P : Type 0) (a b : Bool) → (a && b) ≡ true → (a ≡ true → b ≡ true → P) → P
and-parts P true b h f = f refl h
and-parts P false b h f = absurd (cc)

nothing-in : {A : Type 0} (xs : List A) → (length xs == 0) ≡ true → xs ≡ []
nothing-in [] h = refl
nothing-in (x ∷ xs) h = absurd (grind (arith, nat_tests))

-- ---- entries, one by one

all-sound : {A B : Type 0} (R : A → B → Type 0) (one : A → Option B) → ((x : A) (y : B) → one x ≡ Some y → R x y) → (made : List B) (xs : List A) (ys : List B) → all_onto one made xs ≡ Some ys → (zs : List B) × (ys ≡ made ++ zs) × Pairs R xs zs
all-sound R one each made [] ys h = ([], sym (some-is made ys h) ∙ sym (append-nil made), none)
all-sound {A} {B} R one each made (x ∷ xs) ys h =
    bind ((zs : List B) × (ys ≡ made ++ zs) × Pairs R (x ∷ xs) zs) (one x) _ ys h (λ y h1 g1.
    let r = all-sound R one each (made ++ y ∷ []) xs ys g1 in
    (y ∷ r.0, r.1 ∙ append_assoc made (y ∷ []) r.0, more (each x y h1) r.2))

all-complete : {A B : Type 0} (R : A → B → Type 0) (one : A → Option B) → ((x : A) (y : B) → R x y → one x ≡ Some y) → (made : List B) {xs : List A} {ys : List B} → Pairs R xs ys → all_onto one made xs ≡ Some (made ++ ys)
all-complete R one each made none = ap (λ zs. Some zs) (sym (append-nil made))
all-complete R one each made (more {x} {y} {xs} {ys} a rest) = rw (each x y a) (all-complete R one each (made ++ y ∷ []) rest ∙ ap (λ zs. Some zs) (append_assoc made (y ∷ []) ys))

pairs-of : {A B : Type 0} (R : A → B → Type 0) (one : A → Option B) → ((x : A) (y : B) → one x ≡ Some y → R x y) → (xs : List A) (ys : List B) → all_onto one [] xs ≡ Some ys → Pairs R xs ys
pairs-of R one each xs ys h = let r = all-sound R one each [] xs ys h in subst (λ zs. Pairs R xs zs) (sym r.1) r.2

-- ---- variables

size-sound-at : (o : Type-F types.Type) (n : ℕ) → size_in o ≡ Some n → (at : ℕ) × (types.roll-Type o ≡ type_tree.Elementary at (ty.Uint n))
size-sound-at (Type-F.Elementary at (ty.Uint m)) n h = (at, type_tree.rolls-Elementary at (ty.Uint m) ∙ ap (λ (k : ℕ). type_tree.Elementary at (ty.Uint k)) (some-is m n h))
size-sound-at o n h = absurd (cc)

size-sound : (t : types.Type) (n : ℕ) → size_of t ≡ Some n → (at : ℕ) × (t ≡ type_tree.Elementary at (ty.Uint n))
unfolding size_of
size-sound t n h = let r = size-sound-at (types.out-Type t) n h in (r.0, sym (types.roll-out-Type t) ∙ r.1)

var-sound : (at first : ℕ) (t : types.Type) (specifiers : List VarSpecifier) (name : Identifier) (initial : Option Initial) (v : Variable) → var_of (record { at = first; ty = t; specifiers = specifiers; name = name; initial = initial }) ≡ Some v → IsVariable (member.Var at (record { at = first; ty = t; specifiers = specifiers; name = name; initial = initial })) v
var-sound at first t [] name None v h =
    bind (IsVariable (member.Var at (record { at = first; ty = t; specifiers = []; name = name; initial = None })) v) (size_of t) _ v h (λ n h1 g1.
    let s = size-sound t n h1 in
    subst (λ (w : Variable). IsVariable (member.Var at (record { at = first; ty = t; specifiers = []; name = name; initial = None })) w) (some-is (record { size = n; name = name.name }) v g1)
    (subst (λ (u : types.Type). IsVariable (member.Var at (record { at = first; ty = u; specifiers = []; name = name; initial = None })) (record { size = n; name = name.name })) (sym s.1) declared))
var-sound at first t [] name (Some i) v h = absurd (cc)
var-sound at first t (m ∷ ms) name initial v h =
    absurd (if-some ⊥ (is_bare (record { at = first; ty = t; specifiers = m ∷ ms; name = name; initial = initial })) _ v h (λ b g. and-parts ⊥ (length (m ∷ ms) == 0) _ b (λ e f. grind (arith, nat_tests))))

variable-sound : (m : Member) (v : Variable) → variable_in m ≡ Some v → IsVariable m v
variable-sound (member.Var at w) v h = var-sound at w.at w.ty w.specifiers w.name w.initial v h
variable-sound m v h = absurd (cc)

variable-complete : (m : Member) (v : Variable) → IsVariable m v → variable_in m ≡ Some v
unfolding size_of
variable-complete _ _ (declared {at} {first} {type_at} {name_at} {size} {name}) = rw (type_tree.outs-Elementary type_at (ty.Uint size)) refl

-- ---- functions

none-is : {A : Type 0} (o : Option A) → is_none o ≡ true → o ≡ None
none-is None h = refl
none-is (Some x) h = absurd (cc)

public-is : (ms : List FunSpecifier) → is_public ms ≡ true → (at : ℕ) × (ms ≡ specifier.Public at ∷ [])
public-is (specifier.Public at ∷ []) h = (at, refl)
public-is ms h = absurd (cc)

body-sound : (text : List ℕ) (vs : List Variable) (name : List ℕ) (b : Option Block) (f : Function) → body_in text vs name b ≡ Some f → (block : Block) × (b ≡ Some block) × (name ≡ f.name) × Pairs (IsStep text vs) block.statements f.steps
body-sound text vs name None f h = absurd (cc)
body-sound text vs name (Some block) f h =
    bind ((c : Block) × (Some block ≡ Some c) × (name ≡ f.name) × Pairs (IsStep text vs) c.statements f.steps) (all_onto (step_of text vs) [] block.statements) _ f h (λ ss h1 g1.
    let e : ◌≡◌ {A = Function} (record { name = name; steps = ss }) f = some-is (record { name = name; steps = ss }) f g1 in
    let p : Pairs (IsStep text vs) block.statements ss = pairs-of (IsStep text vs) (step_of text vs) (step-sound text vs) block.statements ss h1 in
    (block, refl, ap (λ (g : Function). g.name) e, subst (λ (rs : List Step). Pairs (IsStep text vs) block.statements rs) (ap (λ (g : Function). g.steps) e) p))

made-function : (text : List ℕ) (vs : List Variable) (at : ℕ) (w : Fun) (f : Function) (specifier_at : ℕ) (block : Block) → w.params ≡ [] → w.specifiers ≡ specifier.Public specifier_at ∷ [] → w.returns ≡ None → w.body ≡ Some block → w.name.name ≡ f.name → Pairs (IsStep text vs) block.statements f.steps → IsFunction text vs (member.Fun at w) f
made-function text vs at w f specifier_at block p m r b n s =
    let name : Identifier = w.name in
    let g : Fun = record { at = w.at; name = name; params = []; specifiers = specifier.Public specifier_at ∷ []; returns = None; body = Some block } in
    let e : ◌≡◌ {A = Fun} g w = λ i. record { at = w.at; name = name; params = sym p i; specifiers = sym m i; returns = sym r i; body = sym b i } in
    let h : ◌≡◌ {A = Function} (record { name = w.name.name; steps = f.steps }) f = λ i. record { name = n i; steps = f.steps } in
    subst (λ (v : Fun). IsFunction text vs (member.Fun at v) f) e (subst (λ (k : Function). IsFunction text vs (member.Fun at g) k) h (defined s))

fun-sound : (text : List ℕ) (vs : List Variable) (at : ℕ) (w : Fun) (f : Function) → fun_of text vs w ≡ Some f → IsFunction text vs (member.Fun at w) f
fun-sound text vs at w f h =
    let P : Type 0 = IsFunction text vs (member.Fun at w) f in
    if-some P (is_open w) (body_in text vs w.name.name w.body) f h (λ o g.
    and-parts P (length w.params == 0) (is_public w.specifiers && is_none w.returns) o (λ p q.
    and-parts P (is_public w.specifiers) (is_none w.returns) q (λ m r.
    let a = public-is w.specifiers m in
    let b = body-sound text vs w.name.name w.body f g in
    made-function text vs at w f a.0 b.0 (nothing-in w.params p) a.1 (none-is w.returns r) b.1 b.2 b.3)))

function-sound : (text : List ℕ) (vs : List Variable) (m : Member) (f : Function) → function_in text vs m ≡ Some f → IsFunction text vs m f
unfolding function_in
function-sound text vs (member.Fun at w) f h = fun-sound text vs at w f h
function-sound text vs m f h = absurd (cc)

function-complete : (text : List ℕ) (vs : List Variable) → Differ (variable_names vs) → (m : Member) (f : Function) → IsFunction text vs m f → function_in text vs m ≡ Some f
unfolding function_in
function-complete text vs d _ _ (defined {at} {first} {name_at} {specifier_at} {block_at} {name} {body} {steps} s) =
    let e : all_onto (step_of text vs) [] body ≡ Some steps = all-complete (IsStep text vs) (step_of text vs) (step-complete vs d text) [] s in
    rw e refl

-- ---- members

leading-functions : {text : List ℕ} {vs : List Variable} {ms : List Member} {fs : List Function} → Pairs (IsFunction text vs) ms fs → leading ms ≡ 0
leading-functions none = refl
leading-functions (more (defined s) rest) = refl

leading-is : (ms : List Member) {ds : List Member} {vs : List Variable} → leading ms ≡ 0 → Pairs IsVariable ds vs → leading (ds ++ ms) ≡ length ds
leading-is ms z none = z
leading-is ms z (more declared rest) = ap suc (leading-is ms z rest)

pairs-length : {A B : Type 0} {R : A → B → Type 0} {xs : List A} {ys : List B} → Pairs R xs ys → length xs ≡ length ys
pairs-length none = refl
pairs-length (more a rest) = ap suc (pairs-length rest)

members-complete : (text name : List ℕ) (ds ms : List Member) (vs : List Variable) (fs : List Function) → Differ (variable_names vs) → length vs ≤ 48 → Pairs IsVariable ds vs → Pairs (IsFunction text vs) ms fs → members_of text name (ds ++ ms) ≡ Some (record { name = name; variables = vs; functions = fs })
unfolding members_of
members-complete text name ds ms vs fs d l p q =
    let n : leading (ds ++ ms) ≡ length ds = leading-is ms (leading-functions q) p in
    let a : all_onto variable_in [] ds ≡ Some vs = all-complete IsVariable variable_in variable-complete [] p in
    let b : all_onto (function_in text vs) [] ms ≡ Some fs = all-complete (IsFunction text vs) (function_in text vs) (function-complete text vs d) [] q in
    let t : leb (length vs) 48 ≡ true = grind (arith, nat_tests) in
    rw (n, take-append_seam ds ms, drop-append_seam ds ms, a, t, b) refl

-- the contract of some members, which are variables and then functions
members-sound : (text : List ℕ) (at first name_at : ℕ) (name : List ℕ) (ms : List Member) (c : Contract) → members_of text name ms ≡ Some c → IsFileOf text c (record { at = at; units = unit.Contract first false (record { at = name_at; name = name }) [] ms ∷ [] })
unfolding members_of
members-sound text at first name_at name ms c h =
    let F : List Member → File = λ (all : List Member). record { at = at; units = unit.Contract first false (record { at = name_at; name = name }) [] all ∷ [] } in
    let P : Type 0 = IsFileOf text c (F ms) in
    bind P (all_onto variable_in [] (take (leading ms) ms)) _ c h (λ vs h1 g1.
    if-some P (leb (length vs) 48) _ c g1 (λ t g2.
    bind P (all_onto (function_in text vs) [] (drop (leading ms) ms)) _ c g2 (λ fs h3 g3.
    let a : Pairs IsVariable (take (leading ms) ms) vs = pairs-of IsVariable variable_in variable-sound (take (leading ms) ms) vs h1 in
    let b : Pairs (IsFunction text vs) (drop (leading ms) ms) fs = pairs-of (IsFunction text vs) (function_in text vs) (function-sound text vs) (drop (leading ms) ms) fs h3 in
    let made : IsFileOf text (record { name = name; variables = vs; functions = fs }) (F (take (leading ms) ms ++ drop (leading ms) ms)) = contract a b in
    subst (λ (d : Contract). IsFileOf text d (F ms)) (some-is (record { name = name; variables = vs; functions = fs }) c g3) (subst (λ (all : List Member). IsFileOf text (record { name = name; variables = vs; functions = fs }) (F all)) (take-append-drop (leading ms) ms) made))))

-- ---- files

unit-sound : (text : List ℕ) (at : ℕ) (u : units.Unit) (c : Contract) → unit_of text u ≡ Some c → IsFileOf text c (record { at = at; units = u ∷ [] })
unit-sound text at (unit.Contract first true name bases ms) c h = absurd (cc)
unit-sound text at (unit.Contract first false name bases ms) c h =
    if-some (IsFileOf text c (record { at = at; units = unit.Contract first false name bases ms ∷ [] })) (length bases == 0) _ c h (λ t g.
    subst (λ (bs : List Base). IsFileOf text c (record { at = at; units = unit.Contract first false name bs ms ∷ [] })) (sym (nothing-in bases t)) (members-sound text at first name.at name.name ms c g))
unit-sound text at u c h = absurd (cc)

pub units-sound : (text : List ℕ) (at : ℕ) (us : List units.Unit) (c : Contract) → units_of text us ≡ Some c → IsFileOf text c (record { at = at; units = us })
units-sound text at [] c h = absurd (cc)
units-sound text at (u ∷ []) c h = unit-sound text at u c h
units-sound text at (u ∷ w ∷ us) c h = absurd (cc)

pub units-complete : (text : List ℕ) (f : File) (c : Contract) → Differ (variable_names c.variables) → length c.variables ≤ 48 → IsFileOf text c f → units_of text f.units ≡ Some c
units-complete text _ _ d l (contract {name} {variables = vs} {functions = fs} {declarations = ds} {definitions = ms} p q) = members-complete text name ds ms vs fs d l p q
