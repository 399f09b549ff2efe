-- What is read as a part of a member is spelled so.
use Rattle.std.proofs.Common.{◌≡◌, ◌∙◌, sym, ap, subst, refl, ℕ, zero, suc, ◌+◌, ◌≤◌, max, List, [], ◌∷◌, ◌++◌, append_assoc, append-nil, Bool, true, false, Option, Some, None, inl, inr, codes, arith}
use Rattle.sol_tree.specs.declared.token.Token.{Token}
use Rattle.sol_tree.specs.declared.types.Identifier.{Identifier}
use Rattle.sol_parse_expr.specs.Grammar.{IsMark, IsWord, IsName, named_by, MayName, SpellsType}
use Rattle.sol_parse_expr.specs.Heights.{type_height, greatest}
use Rattle.sol_parse_expr.specs.Reading.{Measured, then_value, then_tree, type_at}
use Rattle.sol_parse_expr.proofs.Tokens.{word-or}
use Rattle.sol_parse_expr.proofs.After.{Holds, Front, Read, after-tree, if-tree, either-tree, only, after-mark, after-word, if-mark, if-word, after-name, after-may_name}
use Rattle.sol_parse_expr.proofs.SoundTypes.{sound-type}
use Rattle.sol_parse_stmt.specs.Grammar.{MayInitial, SpellsArguments, SpellsBlock}
use Rattle.sol_parse_stmt.specs.Heights.{arguments_height, initial_height, block_height}
use Rattle.sol_parse_stmt.specs.Reading.{block_at, arguments_at, may_initial_at}
use Rattle.sol_tree.specs.declared.file.Override.{Override}
use Rattle.sol_tree.specs.declared.file.VarSpecifier.{VarSpecifier}
use Rattle.sol_tree.specs.declared.file.ModifierSpecifier.{ModifierSpecifier}
use Rattle.sol_parser.specs.Grammar.{Separated, MaySeparated, Repeated, Enclosed, SpellsName, SpellsBase, SpellsOverride, SpellsVarSpecifier, SpellsFunSpecifier, SpellsConstructorSpecifier, SpellsModifierSpecifier, SpellsParam, MayIndexed, SpellsEventParam, MayReturns, SpellsBody, MayParams}
use Rattle.sol_parser.specs.Heights.{greatest_by, may_by, base_height, param_height, event_param_height, fun_specifier_height, constructor_specifier_height}
use Rattle.sol_parser.specs.Reading.{separated_at, enclosed_at, named_at, may_word_at, base_at, names_at, override_at, var_specifier_at, plain_specifier_at, fun_specifier_at, constructor_specifier_at, modifier_specifier_at, param_at, event_param_at, may_returns_at, body_at, may_params_at}
use Rattle.sol_parser.proofs.SoundLists.{Sound, sound-separated, sound-enclosed}
use Rattle.sol_parser.proofs.Statements.{sound-block, sound-arguments, sound-initial}

-- what has no levels
abbrev pub flat : {A : Type 0} → A → ℕ
flat x = 0

sound-named : (d : ℕ) → Sound flat SpellsName d named_at
unfolding named_at
sound-named d ts = after-name ts _ (Front (Read flat SpellsName d)) (λ t n us i. (t ∷ [], record { spells = SpellsName.name t i; height = refl; low = omega arith }, refl))

pub sound-base : (d : ℕ) → Sound base_height SpellsBase d (base_at d)
unfolding base_at
sound-base d ts =
    after-name ts _ (Front (Read base_height SpellsBase d)) (λ t n us i.
    if-tree (arguments_at d us) _ _ (λ x. Front (Read base_height SpellsBase d) (t ∷ x)) (Read arguments_height SpellsArguments d) us (sound-arguments d us) (λ a h vs rest r.
    (t ∷ vs, record { spells = SpellsBase.applied t i r.spells; height = r.height; low = r.low }, refl))
    (t ∷ [], record { spells = SpellsBase.alone t i; height = refl; low = omega arith }, refl))

-- `ID {, ID} )`
record ReadNames (is : List Identifier) (us : List Token) (h : ℕ) : Type 0 where
  inside : List Token
  closing : Token
  spelled : Separated SpellsName is inside
  closes : IsMark (codes ")") closing
  all : us ≡ inside ++ (closing ∷ [])

sound-names : (ts : List Token) → Holds (Front ReadNames) ts (names_at ts)
unfolding names_at
sound-names ts =
    after-tree (separated_at named_at ts) _ (Front ReadNames) (Read (greatest_by flat) (Separated SpellsName) 0) ts (sound-separated flat SpellsName 0 named_at (sound-named 0) ts) (λ is h us t1 r.
    after-mark (codes ")") t1 _ (λ x. Front ReadNames (us ++ x)) (λ c rest ic.
    (us ++ (c ∷ []), record { inside = us; closing = c; spelled = r.spells; closes = ic; all = refl }, sym (append_assoc us (c ∷ []) rest))))

pub sound-override : (d : ℕ) → Sound flat SpellsOverride d override_at
unfolding override_at
sound-override d ts =
    after-word (codes "override") ts _ (Front (Read flat SpellsOverride d)) (λ w us iw.
    if-mark (codes "(") us _ _ (λ x. Front (Read flat SpellsOverride d) (w ∷ x)) (λ o vs io.
    after-tree (names_at vs) _ (λ x. Front (Read flat SpellsOverride d) (w ∷ (o ∷ x))) ReadNames vs (sound-names vs) (λ is h ns rest r.
    (w ∷ (o ∷ ns), record { spells = rw (r.all) (SpellsOverride.listed w o r.closing iw io r.spelled r.closes); height = refl; low = omega arith }, refl)))
    (w ∷ [], record { spells = SpellsOverride.alone w iw; height = refl; low = omega arith }, refl))

-- ---- specifiers

pub sound-var_specifier : (d : ℕ) → Sound flat SpellsVarSpecifier d var_specifier_at
unfolding var_specifier_at
sound-var_specifier d ts =
    if-word (codes "public") ts _ _ (Front (Read flat SpellsVarSpecifier d)) (λ w us i. (w ∷ [], record { spells = SpellsVarSpecifier.is_public w i; height = refl; low = omega arith }, refl)) (
    if-word (codes "internal") ts _ _ (Front (Read flat SpellsVarSpecifier d)) (λ w us i. (w ∷ [], record { spells = SpellsVarSpecifier.is_internal w i; height = refl; low = omega arith }, refl)) (
    if-word (codes "private") ts _ _ (Front (Read flat SpellsVarSpecifier d)) (λ w us i. (w ∷ [], record { spells = SpellsVarSpecifier.is_private w i; height = refl; low = omega arith }, refl)) (
    if-word (codes "constant") ts _ _ (Front (Read flat SpellsVarSpecifier d)) (λ w us i. (w ∷ [], record { spells = SpellsVarSpecifier.is_constant w i; height = refl; low = omega arith }, refl)) (
    if-word (codes "immutable") ts _ _ (Front (Read flat SpellsVarSpecifier d)) (λ w us i. (w ∷ [], record { spells = SpellsVarSpecifier.is_immutable w i; height = refl; low = omega arith }, refl)) (
    after-tree (override_at ts) _ (Front (Read flat SpellsVarSpecifier d)) (Read flat SpellsOverride d) ts (sound-override d ts) (λ o h us rest r.
    (us, record { spells = SpellsVarSpecifier.overrides r.spells; height = refl; low = omega arith }, refl)))))))

sound-plain_specifier : (d : ℕ) → Sound fun_specifier_height SpellsFunSpecifier d plain_specifier_at
unfolding plain_specifier_at
sound-plain_specifier d ts =
    if-word (codes "public") ts _ _ (Front (Read fun_specifier_height SpellsFunSpecifier d)) (λ w us i. (w ∷ [], record { spells = SpellsFunSpecifier.is_public w i; height = refl; low = omega arith }, refl)) (
    if-word (codes "external") ts _ _ (Front (Read fun_specifier_height SpellsFunSpecifier d)) (λ w us i. (w ∷ [], record { spells = SpellsFunSpecifier.is_external w i; height = refl; low = omega arith }, refl)) (
    if-word (codes "internal") ts _ _ (Front (Read fun_specifier_height SpellsFunSpecifier d)) (λ w us i. (w ∷ [], record { spells = SpellsFunSpecifier.is_internal w i; height = refl; low = omega arith }, refl)) (
    if-word (codes "private") ts _ _ (Front (Read fun_specifier_height SpellsFunSpecifier d)) (λ w us i. (w ∷ [], record { spells = SpellsFunSpecifier.is_private w i; height = refl; low = omega arith }, refl)) (
    if-word (codes "view") ts _ _ (Front (Read fun_specifier_height SpellsFunSpecifier d)) (λ w us i. (w ∷ [], record { spells = SpellsFunSpecifier.is_view w i; height = refl; low = omega arith }, refl)) (
    if-word (codes "pure") ts _ _ (Front (Read fun_specifier_height SpellsFunSpecifier d)) (λ w us i. (w ∷ [], record { spells = SpellsFunSpecifier.is_pure w i; height = refl; low = omega arith }, refl)) (
    after-word (codes "virtual") ts _ (Front (Read fun_specifier_height SpellsFunSpecifier d)) (λ w us i. (w ∷ [], record { spells = SpellsFunSpecifier.is_virtual w i; height = refl; low = omega arith }, refl))))))))

pub sound-fun_specifier : (d : ℕ) → Sound fun_specifier_height SpellsFunSpecifier d (fun_specifier_at d)
unfolding fun_specifier_at
sound-fun_specifier d ts =
    either-tree (plain_specifier_at ts) _ (Front (Read fun_specifier_height SpellsFunSpecifier d)) ts (sound-plain_specifier d ts) (
    if-tree (override_at ts) _ _ (Front (Read fun_specifier_height SpellsFunSpecifier d)) (Read flat SpellsOverride d) ts (sound-override d ts) (λ o h us rest r.
    (us, record { spells = SpellsFunSpecifier.overrides r.spells; height = refl; low = omega arith }, refl)) (
    after-tree (base_at d ts) _ (Front (Read fun_specifier_height SpellsFunSpecifier d)) (Read base_height SpellsBase d) ts (sound-base d ts) (λ x h us rest r.
    (us, record { spells = SpellsFunSpecifier.uses r.spells; height = r.height; low = r.low }, refl))))

pub sound-constructor_specifier : (d : ℕ) → Sound constructor_specifier_height SpellsConstructorSpecifier d (constructor_specifier_at d)
unfolding constructor_specifier_at
sound-constructor_specifier d ts =
    if-word (codes "public") ts _ _ (Front (Read constructor_specifier_height SpellsConstructorSpecifier d)) (λ w us i. (w ∷ [], record { spells = SpellsConstructorSpecifier.is_public w i; height = refl; low = omega arith }, refl)) (
    if-word (codes "internal") ts _ _ (Front (Read constructor_specifier_height SpellsConstructorSpecifier d)) (λ w us i. (w ∷ [], record { spells = SpellsConstructorSpecifier.is_internal w i; height = refl; low = omega arith }, refl)) (
    after-tree (base_at d ts) _ (Front (Read constructor_specifier_height SpellsConstructorSpecifier d)) (Read base_height SpellsBase d) ts (sound-base d ts) (λ x h us rest r.
    (us, record { spells = SpellsConstructorSpecifier.uses r.spells; height = r.height; low = r.low }, refl))))

pub sound-modifier_specifier : (d : ℕ) → Sound flat SpellsModifierSpecifier d modifier_specifier_at
unfolding modifier_specifier_at
sound-modifier_specifier d ts =
    if-word (codes "virtual") ts _ _ (Front (Read flat SpellsModifierSpecifier d)) (λ w us i. (w ∷ [], record { spells = SpellsModifierSpecifier.is_virtual w i; height = refl; low = omega arith }, refl)) (
    after-tree (override_at ts) _ (Front (Read flat SpellsModifierSpecifier d)) (Read flat SpellsOverride d) ts (sound-override d ts) (λ o h us rest r.
    (us, record { spells = SpellsModifierSpecifier.overrides r.spells; height = refl; low = omega arith }, refl)))

-- ---- parameters and bodies

pub after-may_word : {B : Type 0} (w : List ℕ) (May : Bool → List Token → Type 0) → May false [] → ((t : Token) → IsWord w t → May true (t ∷ [])) → (ts : List Token) (go : Bool → List Token → Option (B × ℕ × List Token)) (P : List Token → B → ℕ → List Token → Type 0) → ((x : Bool) (us rest : List Token) → May x us → Holds P (us ++ rest) (go x rest)) → Holds P ts (then_value (may_word_at w ts) go)
unfolding may_word_at
after-may_word w May absent present ts go P k = elim (word-or w ts) [ inl miss ↦ rw miss (k false [] ts absent) | inr x ↦ rw (x.4) (rw (x.3) (k true (x.0 ∷ []) x.1 (present x.0 x.2))) ]

pub sound-param : (d : ℕ) → Sound param_height SpellsParam d (param_at d)
unfolding param_at
sound-param d ts =
    after-tree (type_at d ts) _ (Front (Read param_height SpellsParam d)) (Read type_height SpellsType d) ts (sound-type d ts) (λ t h us t1 r.
    after-may_name t1 _ (λ x. Front (Read param_height SpellsParam d) (us ++ x)) (λ i is rest m.
    (us ++ is, record { spells = SpellsParam.param r.spells m; height = r.height; low = r.low }, sym (append_assoc us is rest))))

pub sound-event_param : (d : ℕ) → Sound event_param_height SpellsEventParam d (event_param_at d)
unfolding event_param_at
sound-event_param d ts =
    after-tree (type_at d ts) _ (Front (Read event_param_height SpellsEventParam d)) (Read type_height SpellsType d) ts (sound-type d ts) (λ t h us t1 r.
    after-may_word (codes "indexed") MayIndexed MayIndexed.plain MayIndexed.indexed t1 _ (λ x. Front (Read event_param_height SpellsEventParam d) (us ++ x)) (λ b bs t2 n.
    after-may_name t2 _ (λ x. Front (Read event_param_height SpellsEventParam d) (us ++ (bs ++ x))) (λ i is rest m.
    (us ++ (bs ++ is), record { spells = SpellsEventParam.param r.spells n m; height = r.height; low = r.low }, simp append_assoc refl))))

pub sound-may_returns : (d : ℕ) → Sound (may_by param_height) MayReturns d (may_returns_at d)
unfolding may_returns_at
sound-may_returns d ts =
    if-word (codes "returns") ts _ _ (Front (Read (may_by param_height) MayReturns d)) (λ w t1 iw.
    after-mark (codes "(") t1 _ (λ x. Front (Read (may_by param_height) MayReturns d) (w ∷ x)) (λ o t2 io.
    after-tree (param_at d t2) _ (λ x. Front (Read (may_by param_height) MayReturns d) (w ∷ (o ∷ x))) (Read param_height SpellsParam d) t2 (sound-param d t2) (λ p h us t3 r.
    after-mark (codes ")") t3 _ (λ x. Front (Read (may_by param_height) MayReturns d) (w ∷ (o ∷ (us ++ x)))) (λ c rest ic.
    (w ∷ (o ∷ (us ++ (c ∷ []))), record { spells = MayReturns.returns w o c iw io r.spells ic; height = r.height; low = r.low }, simp append_assoc refl)))))
    ([], record { spells = MayReturns.nothing; height = refl; low = omega arith }, refl)

pub sound-body : (d : ℕ) → Sound (may_by block_height) SpellsBody d (body_at d)
unfolding body_at
sound-body d ts =
    if-mark (codes ";") ts _ _ (Front (Read (may_by block_height) SpellsBody d)) (λ n us i. (n ∷ [], record { spells = SpellsBody.missing n i; height = refl; low = omega arith }, refl)) (
    after-tree (block_at d ts) _ (Front (Read (may_by block_height) SpellsBody d)) (Read block_height SpellsBlock d) ts (sound-block d ts) (λ x h us rest r.
    (us, record { spells = SpellsBody.body r.spells; height = r.height; low = r.low }, refl)))

pub sound-params : (d : ℕ) → Sound (greatest_by param_height) (Enclosed SpellsParam) d (enclosed_at (param_at d))
sound-params d ts = sound-enclosed param_height SpellsParam d (param_at d) (sound-param d) ts

pub sound-may_params : (d : ℕ) → Sound (greatest_by param_height) MayParams d (may_params_at d)
unfolding may_params_at
sound-may_params d ts =
    if-tree (enclosed_at (param_at d) ts) _ _ (Front (Read (greatest_by param_height) MayParams d)) (Read (greatest_by param_height) (Enclosed SpellsParam) d) ts (sound-params d ts) (λ ps h us rest r.
    (us, record { spells = MayParams.listed r.spells; height = r.height; low = r.low }, refl))
    ([], record { spells = MayParams.without; height = refl; low = omega arith }, refl)
