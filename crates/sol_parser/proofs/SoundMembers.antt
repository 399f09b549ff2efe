-- What is read as a member is spelled so.
use Rattle.std.proofs.Common.{◌≡◌, ◌∙◌, sym, ap, subst, refl, ℕ, zero, suc, ◌+◌, ◌≤◌, max, List, [], ◌∷◌, ◌++◌, append_assoc, append-nil, Bool, true, false, Option, Some, None, inl, inr, codes, arith}
use Rattle.sol_tree.specs.declared.token.Token.{Token}
use Rattle.sol_parse_expr.specs.Grammar.{IsMark, IsWord, IsName, named_by, SpellsType}
use Rattle.sol_parse_expr.specs.Heights.{type_height, greatest}
use Rattle.sol_parse_expr.specs.Reading.{Measured, then_value, then_tree, type_at}
use Rattle.sol_parse_expr.proofs.After.{Holds, Front, Read, after-tree, if-tree, either-tree, only, after-mark, after-word, if-mark, if-word, after-name}
use Rattle.sol_parse_expr.proofs.SoundTypes.{sound-type}
use Rattle.sol_parse_stmt.specs.Grammar.{MayInitial, SpellsBlock}
use Rattle.sol_parse_stmt.specs.Heights.{initial_height, block_height}
use Rattle.sol_parse_stmt.specs.Reading.{block_at, may_initial_at}
use Rattle.sol_parser.specs.Grammar.{Repeated, Enclosed, SpellsVarSpecifier, SpellsFunSpecifier, SpellsConstructorSpecifier, SpellsModifierSpecifier, SpellsParam, SpellsEventParam, MayReturns, SpellsBody, MayParams, MayAnonymous, SpellsVar, SpellsFun, SpellsConstructor, SpellsModifier, SpellsEvent, SpellsError, SpellsMember}
use Rattle.sol_parser.specs.Heights.{greatest_by, may_by, param_height, event_param_height, fun_specifier_height, constructor_specifier_height, var_height, fun_height, constructor_height, modifier_height, event_height, error_height, member_height}
use Rattle.sol_parser.specs.Reading.{many_at, enclosed_at, may_word_at, var_specifier_at, fun_specifier_at, constructor_specifier_at, modifier_specifier_at, param_at, event_param_at, may_returns_at, body_at, may_params_at, var_at, fun_at, constructor_at, modifier_at, event_at, error_at, member_at}
use Rattle.sol_parser.proofs.SoundLists.{Sound, sound-many, sound-enclosed}
use Rattle.sol_parser.proofs.Statements.{sound-block, sound-initial}
use Rattle.sol_parser.proofs.SoundParts.{flat, sound-var_specifier, sound-fun_specifier, sound-constructor_specifier, sound-modifier_specifier, after-may_word, sound-event_param, sound-may_returns, sound-body, sound-params, sound-may_params}

sound-var : (d : ℕ) → Sound var_height SpellsVar (suc d) (var_at d)
unfolding var_at
sound-var d ts =
    after-tree (type_at d ts) _ (Front (Read var_height SpellsVar (suc d))) (Read type_height SpellsType d) ts (sound-type d ts) (λ t h us t1 r.
    after-tree (many_at var_specifier_at t1) _ (λ x. Front (Read var_height SpellsVar (suc d)) (us ++ x)) (Read (greatest_by flat) (Repeated SpellsVarSpecifier) 0) t1 (sound-many flat SpellsVarSpecifier 0 var_specifier_at (sound-var_specifier 0) t1) (λ ms k vs t2 q.
    after-name t2 _ (λ x. Front (Read var_height SpellsVar (suc d)) (us ++ (vs ++ x))) (λ m n t3 im.
    after-tree (may_initial_at d t3) _ (λ x. Front (Read var_height SpellsVar (suc d)) (us ++ (vs ++ (m ∷ x)))) (Read initial_height MayInitial d) t3 (sound-initial d t3) (λ i j is t4 p.
    after-mark (codes ";") t4 _ (λ x. Front (Read var_height SpellsVar (suc d)) (us ++ (vs ++ (m ∷ (is ++ x))))) (λ e rest ie. (
      us ++ (vs ++ (m ∷ (is ++ (e ∷ [])))),
      record {
        spells = SpellsVar.var m e r.spells q.spells im p.spells ie;
        height = rw (r.height, p.height) refl;
        low = omega (arith, r.low, p.low);
      },
      simp append_assoc refl,
    ))))))

sound-fun : (d : ℕ) → Sound fun_height SpellsFun (suc d) (fun_at d)
unfolding fun_at
sound-fun d ts =
    after-word (codes "function") ts _ (Front (Read fun_height SpellsFun (suc d))) (λ w t1 iw.
    after-name t1 _ (λ x. Front (Read fun_height SpellsFun (suc d)) (w ∷ x)) (λ m n t2 im.
    after-tree (enclosed_at (param_at d) t2) _ (λ x. Front (Read fun_height SpellsFun (suc d)) (w ∷ (m ∷ x))) (Read (greatest_by param_height) (Enclosed SpellsParam) d) t2 (sound-params d t2) (λ ps h us t3 r.
    after-tree (many_at (fun_specifier_at d) t3) _ (λ x. Front (Read fun_height SpellsFun (suc d)) (w ∷ (m ∷ (us ++ x)))) (Read (greatest_by fun_specifier_height) (Repeated SpellsFunSpecifier) d) t3 (sound-many fun_specifier_height SpellsFunSpecifier d (fun_specifier_at d) (sound-fun_specifier d) t3) (λ ms k vs t4 q.
    after-tree (may_returns_at d t4) _ (λ x. Front (Read fun_height SpellsFun (suc d)) (w ∷ (m ∷ (us ++ (vs ++ x))))) (Read (may_by param_height) MayReturns d) t4 (sound-may_returns d t4) (λ x i ws t5 p.
    after-tree (body_at d t5) _ (λ x. Front (Read fun_height SpellsFun (suc d)) (w ∷ (m ∷ (us ++ (vs ++ (ws ++ x)))))) (Read (may_by block_height) SpellsBody d) t5 (sound-body d t5) (λ y j xs rest o. (
      w ∷ (m ∷ (us ++ (vs ++ (ws ++ xs)))),
      record {
        spells = SpellsFun.fun w m iw im r.spells q.spells p.spells o.spells;
        height = rw (r.height, q.height, p.height, o.height) refl;
        low = omega (arith, r.low, q.low, p.low, o.low);
      },
      simp append_assoc refl,
    )))))))

sound-constructor : (d : ℕ) → Sound constructor_height SpellsConstructor (suc d) (constructor_at d)
unfolding constructor_at
sound-constructor d ts =
    after-word (codes "constructor") ts _ (Front (Read constructor_height SpellsConstructor (suc d))) (λ w t1 iw.
    after-tree (enclosed_at (param_at d) t1) _ (λ x. Front (Read constructor_height SpellsConstructor (suc d)) (w ∷ x)) (Read (greatest_by param_height) (Enclosed SpellsParam) d) t1 (sound-params d t1) (λ ps h us t2 r.
    after-tree (many_at (constructor_specifier_at d) t2) _ (λ x. Front (Read constructor_height SpellsConstructor (suc d)) (w ∷ (us ++ x))) (Read (greatest_by constructor_specifier_height) (Repeated SpellsConstructorSpecifier) d) t2 (sound-many constructor_specifier_height SpellsConstructorSpecifier d (constructor_specifier_at d) (sound-constructor_specifier d) t2) (λ ms k vs t3 q.
    after-tree (block_at d t3) _ (λ x. Front (Read constructor_height SpellsConstructor (suc d)) (w ∷ (us ++ (vs ++ x)))) (Read block_height SpellsBlock d) t3 (sound-block d t3) (λ y j xs rest o. (
      w ∷ (us ++ (vs ++ xs)),
      record {
        spells = SpellsConstructor.constructed w iw r.spells q.spells o.spells;
        height = rw (r.height, q.height, o.height) refl;
        low = omega (arith, r.low, q.low, o.low);
      },
      simp append_assoc refl,
    )))))

sound-modifier : (d : ℕ) → Sound modifier_height SpellsModifier (suc d) (modifier_at d)
unfolding modifier_at
sound-modifier d ts =
    after-word (codes "modifier") ts _ (Front (Read modifier_height SpellsModifier (suc d))) (λ w t1 iw.
    after-name t1 _ (λ x. Front (Read modifier_height SpellsModifier (suc d)) (w ∷ x)) (λ m n t2 im.
    after-tree (may_params_at d t2) _ (λ x. Front (Read modifier_height SpellsModifier (suc d)) (w ∷ (m ∷ x))) (Read (greatest_by param_height) MayParams d) t2 (sound-may_params d t2) (λ ps h us t3 r.
    after-tree (many_at modifier_specifier_at t3) _ (λ x. Front (Read modifier_height SpellsModifier (suc d)) (w ∷ (m ∷ (us ++ x)))) (Read (greatest_by flat) (Repeated SpellsModifierSpecifier) 0) t3 (sound-many flat SpellsModifierSpecifier 0 modifier_specifier_at (sound-modifier_specifier 0) t3) (λ ms k vs t4 q.
    after-tree (body_at d t4) _ (λ x. Front (Read modifier_height SpellsModifier (suc d)) (w ∷ (m ∷ (us ++ (vs ++ x))))) (Read (may_by block_height) SpellsBody d) t4 (sound-body d t4) (λ y j xs rest o. (
      w ∷ (m ∷ (us ++ (vs ++ xs))),
      record {
        spells = SpellsModifier.modified w m iw im r.spells q.spells o.spells;
        height = rw (r.height, o.height) refl;
        low = omega (arith, r.low, o.low);
      },
      simp append_assoc refl,
    ))))))

pub sound-event : (d : ℕ) → Sound event_height SpellsEvent (suc d) (event_at d)
unfolding event_at
sound-event d ts =
    after-word (codes "event") ts _ (Front (Read event_height SpellsEvent (suc d))) (λ w t1 iw.
    after-name t1 _ (λ x. Front (Read event_height SpellsEvent (suc d)) (w ∷ x)) (λ m n t2 im.
    after-tree (enclosed_at (event_param_at d) t2) _ (λ x. Front (Read event_height SpellsEvent (suc d)) (w ∷ (m ∷ x))) (Read (greatest_by event_param_height) (Enclosed SpellsEventParam) d) t2 (sound-enclosed event_param_height SpellsEventParam d (event_param_at d) (sound-event_param d) t2) (λ ps h us t3 r.
    after-may_word (codes "anonymous") MayAnonymous MayAnonymous.known MayAnonymous.anonymous t3 _ (λ x. Front (Read event_height SpellsEvent (suc d)) (w ∷ (m ∷ (us ++ x)))) (λ a vs t4 q.
    after-mark (codes ";") t4 _ (λ x. Front (Read event_height SpellsEvent (suc d)) (w ∷ (m ∷ (us ++ (vs ++ x))))) (λ e rest ie. (
      w ∷ (m ∷ (us ++ (vs ++ (e ∷ [])))),
      record {
        spells = SpellsEvent.event w m e iw im r.spells q ie;
        height = rw (r.height) refl;
        low = omega (arith, r.low);
      },
      simp append_assoc refl,
    ))))))

pub sound-error : (d : ℕ) → Sound error_height SpellsError (suc d) (error_at d)
unfolding error_at
sound-error d ts =
    after-word (codes "error") ts _ (Front (Read error_height SpellsError (suc d))) (λ w t1 iw.
    after-name t1 _ (λ x. Front (Read error_height SpellsError (suc d)) (w ∷ x)) (λ m n t2 im.
    after-tree (enclosed_at (param_at d) t2) _ (λ x. Front (Read error_height SpellsError (suc d)) (w ∷ (m ∷ x))) (Read (greatest_by param_height) (Enclosed SpellsParam) d) t2 (sound-params d t2) (λ ps h us t3 r.
    after-mark (codes ";") t3 _ (λ x. Front (Read error_height SpellsError (suc d)) (w ∷ (m ∷ (us ++ x)))) (λ e rest ie. (
      w ∷ (m ∷ (us ++ (e ∷ []))),
      record {
        spells = SpellsError.error w m e iw im r.spells ie;
        height = rw (r.height) refl;
        low = omega (arith, r.low);
      },
      simp append_assoc refl,
    )))))

pub sound-member : (d : ℕ) → Sound member_height SpellsMember (suc d) (member_at d)
unfolding member_at
sound-member d ts =
    if-tree (fun_at d ts) _ _ (Front (Read member_height SpellsMember (suc d))) (Read fun_height SpellsFun (suc d)) ts (sound-fun d ts) (λ x h us rest r. (us, record { spells = SpellsMember.fun r.spells; height = r.height; low = r.low }, refl)) (
    if-tree (constructor_at d ts) _ _ (Front (Read member_height SpellsMember (suc d))) (Read constructor_height SpellsConstructor (suc d)) ts (sound-constructor d ts) (λ x h us rest r. (us, record { spells = SpellsMember.constructor_of r.spells; height = r.height; low = r.low }, refl)) (
    if-tree (modifier_at d ts) _ _ (Front (Read member_height SpellsMember (suc d))) (Read modifier_height SpellsModifier (suc d)) ts (sound-modifier d ts) (λ x h us rest r. (us, record { spells = SpellsMember.modifier r.spells; height = r.height; low = r.low }, refl)) (
    if-tree (event_at d ts) _ _ (Front (Read member_height SpellsMember (suc d))) (Read event_height SpellsEvent (suc d)) ts (sound-event d ts) (λ x h us rest r. (us, record { spells = SpellsMember.event r.spells; height = r.height; low = r.low }, refl)) (
    if-tree (error_at d ts) _ _ (Front (Read member_height SpellsMember (suc d))) (Read error_height SpellsError (suc d)) ts (sound-error d ts) (λ x h us rest r. (us, record { spells = SpellsMember.error r.spells; height = r.height; low = r.low }, refl)) (
    after-tree (var_at d ts) _ (Front (Read member_height SpellsMember (suc d))) (Read var_height SpellsVar (suc d)) ts (sound-var d ts) (λ x h us rest r. (us, record { spells = SpellsMember.var r.spells; height = r.height; low = r.low }, refl)))))))
