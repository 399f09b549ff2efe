-- What is read as a file is spelled so.
use Rattle.std.proofs.Common.{◌≡◌, ◌∙◌, sym, ap, subst, refl, ℕ, zero, suc, ◌+◌, ◌≤◌, max, List, [], ◌∷◌, ◌++◌, append_assoc, append-nil, Bool, true, false, Option, Some, None, inl, inr, codes, arith}
use Rattle.sol_tree.specs.declared.token.Token.{Token}
use Rattle.sol_parse_expr.specs.Grammar.{IsMark, IsWord, IsName, named_by, SpellsType}
use Rattle.sol_parse_expr.specs.Heights.{type_height, greatest}
use Rattle.sol_parse_expr.specs.Reading.{Measured, then_value, then_tree, type_at}
use Rattle.sol_parse_expr.proofs.After.{Holds, Front, Read, after-tree, if-tree, either-tree, only, after-mark, after-word, if-mark, if-word, after-name}
use Rattle.sol_tree.specs.declared.file.File.{File}
use Rattle.sol_tree.specs.declared.file.Unit as units
use Rattle.sol_parser.specs.declared.units.Outline.{Outline}
use Rattle.sol_parser.specs.Grammar.{Separated, Repeated, SpellsBase, SpellsEvent, SpellsError, SpellsMember, MayBases, SpellsUnit, SpellsFile, first_at}
use Rattle.sol_parser.specs.Heights.{greatest_by, base_height, member_height, event_height, error_height, unit_height, file_height}
use Rattle.sol_parser.specs.Reading.{many_at, separated_at, base_at, member_at, event_at, error_at, may_bases_at, outline_at, contract_at, abstract_at, interface_at, unit_at, ended, file_at}
use Rattle.sol_parser.proofs.SoundLists.{Sound, sound-many, sound-separated}
use Rattle.sol_parser.proofs.SoundParts.{sound-base}
use Rattle.sol_parser.proofs.SoundMembers.{sound-event, sound-error, sound-member}

sound-may_bases : (d : ℕ) → Sound (greatest_by base_height) MayBases d (may_bases_at d)
unfolding may_bases_at
sound-may_bases d ts =
    if-word (codes "is") ts _ _ (Front (Read (greatest_by base_height) MayBases d)) (λ w t1 iw.
    only (separated_at (base_at d) t1) (λ x. Front (Read (greatest_by base_height) MayBases d) (w ∷ x)) (Read (greatest_by base_height) (Separated SpellsBase) d) t1 (sound-separated base_height SpellsBase d (base_at d) (sound-base d) t1) (λ bs h us rest r.
    (w ∷ us, record { spells = MayBases.bases w iw r.spells; height = r.height; low = r.low }, refl)))
    ([], record { spells = MayBases.without; height = refl; low = omega arith }, refl)

-- `ID [bases] { {member} }`
pub record SpellsOutline (o : Outline) (us : List Token) : Type 0 where
  pub text : List ℕ
  pub word : Token
  pub opening : Token
  pub closing : Token
  pub before : List Token
  pub inside : List Token
  pub named : IsName text word
  pub called : o.name ≡ named_by text word
  pub bases : MayBases o.bases before
  pub opens : IsMark (codes "{") opening
  pub members : Repeated SpellsMember o.members inside
  pub closes : IsMark (codes "}") closing
  pub all : us ≡ word ∷ (before ++ (opening ∷ (inside ++ (closing ∷ []))))

abbrev pub outline_height : Outline → ℕ
outline_height o = max (greatest_by base_height o.bases) (greatest_by member_height o.members)

sound-outline : (d : ℕ) → Sound outline_height SpellsOutline (suc d) (outline_at d)
unfolding outline_at
sound-outline d ts =
    let deeper : d + 1 ≡ suc d = omega arith in
    rw deeper (
    after-name ts _ (Front (Read outline_height SpellsOutline (suc d))) (λ m n t1 im.
    after-tree (may_bases_at (suc d) t1) _ (λ x. Front (Read outline_height SpellsOutline (suc d)) (m ∷ x)) (Read (greatest_by base_height) MayBases (suc d)) t1 (sound-may_bases (suc d) t1) (λ bs h us t2 r.
    after-mark (codes "{") t2 _ (λ x. Front (Read outline_height SpellsOutline (suc d)) (m ∷ (us ++ x))) (λ o t3 io.
    after-tree (many_at (member_at d) t3) _ (λ x. Front (Read outline_height SpellsOutline (suc d)) (m ∷ (us ++ (o ∷ x)))) (Read (greatest_by member_height) (Repeated SpellsMember) (suc d)) t3 (sound-many member_height SpellsMember (suc d) (member_at d) (sound-member d) t3) (λ ms k vs t4 q.
    after-mark (codes "}") t4 _ (λ x. Front (Read outline_height SpellsOutline (suc d)) (m ∷ (us ++ (o ∷ (vs ++ x))))) (λ c rest ic. (
      m ∷ (us ++ (o ∷ (vs ++ (c ∷ [])))),
      record {
        spells = record { text = n; word = m; opening = o; closing = c; before = us; inside = vs; named = im; called = refl; bases = r.spells; opens = io; members = q.spells; closes = ic; all = refl };
        height = rw (r.height, q.height) refl;
        low = omega (arith, r.low, q.low);
      },
      simp append_assoc refl,
    )))))))

sound-contract : (d : ℕ) → Sound unit_height SpellsUnit (suc d) (contract_at d)
unfolding contract_at
sound-contract d ts =
    after-word (codes "contract") ts _ (Front (Read unit_height SpellsUnit (suc d))) (λ w t1 iw.
    after-tree (outline_at d t1) _ (λ x. Front (Read unit_height SpellsUnit (suc d)) (w ∷ x)) (Read outline_height SpellsOutline (suc d)) t1 (sound-outline d t1) (λ o h us rest r.
    let s = r.spells in
    (w ∷ us, record { spells = rw (s.all, s.called) (SpellsUnit.contract w s.word s.opening s.closing iw s.named s.bases s.opens s.members s.closes); height = r.height; low = r.low }, refl)))

sound-abstract : (d : ℕ) → Sound unit_height SpellsUnit (suc d) (abstract_at d)
unfolding abstract_at
sound-abstract d ts =
    after-word (codes "abstract") ts _ (Front (Read unit_height SpellsUnit (suc d))) (λ a t1 ia.
    after-word (codes "contract") t1 _ (λ x. Front (Read unit_height SpellsUnit (suc d)) (a ∷ x)) (λ w t2 iw.
    after-tree (outline_at d t2) _ (λ x. Front (Read unit_height SpellsUnit (suc d)) (a ∷ (w ∷ x))) (Read outline_height SpellsOutline (suc d)) t2 (sound-outline d t2) (λ o h us rest r.
    let s = r.spells in
    (a ∷ (w ∷ us), record { spells = rw (s.all, s.called) (SpellsUnit.abstract_contract a w s.word s.opening s.closing ia iw s.named s.bases s.opens s.members s.closes); height = r.height; low = r.low }, refl))))

sound-interface : (d : ℕ) → Sound unit_height SpellsUnit (suc d) (interface_at d)
unfolding interface_at
sound-interface d ts =
    after-word (codes "interface") ts _ (Front (Read unit_height SpellsUnit (suc d))) (λ w t1 iw.
    after-tree (outline_at d t1) _ (λ x. Front (Read unit_height SpellsUnit (suc d)) (w ∷ x)) (Read outline_height SpellsOutline (suc d)) t1 (sound-outline d t1) (λ o h us rest r.
    let s = r.spells in
    (w ∷ us, record { spells = rw (s.all, s.called) (SpellsUnit.interface w s.word s.opening s.closing iw s.named s.bases s.opens s.members s.closes); height = r.height; low = r.low }, refl)))

pub sound-unit : (d : ℕ) → Sound unit_height SpellsUnit (suc d) (unit_at d)
unfolding unit_at
sound-unit d ts =
    either-tree (contract_at d ts) _ (Front (Read unit_height SpellsUnit (suc d))) ts (sound-contract d ts) (
    either-tree (abstract_at d ts) _ (Front (Read unit_height SpellsUnit (suc d))) ts (sound-abstract d ts) (
    either-tree (interface_at d ts) _ (Front (Read unit_height SpellsUnit (suc d))) ts (sound-interface d ts) (
    if-tree (event_at d ts) _ _ (Front (Read unit_height SpellsUnit (suc d))) (Read event_height SpellsEvent (suc d)) ts (sound-event d ts) (λ x h us rest r. (us, record { spells = SpellsUnit.event r.spells; height = r.height; low = r.low }, refl)) (
    after-tree (error_at d ts) _ (Front (Read unit_height SpellsUnit (suc d))) (Read error_height SpellsError (suc d)) ts (sound-error d ts) (λ x h us rest r. (us, record { spells = SpellsUnit.error r.spells; height = r.height; low = r.low }, refl))))))

-- a file that is spelled so, and has d levels at most
pub record ReadFile (d : ℕ) (ts : List Token) (f : File) : Type 0 where
  pub spells : SpellsFile f ts
  pub low : file_height f ≤ d

same-file : (x y : File) → ◌≡◌ {A = Option File} (Some x) (Some y) → x ≡ y
same-file x y h = cc

sound-ended : (d : ℕ) (ts : List Token) (r : Option (List units.Unit × ℕ × List Token)) (f : File) → Holds (Front (Read (greatest_by unit_height) (Repeated SpellsUnit) d)) ts r → then_tree r (λ us h rest. ended (first_at ts) us rest) ≡ Some f → ReadFile d ts f
sound-ended d ts None f g e = absurd (cc)
sound-ended d ts (Some (us, h, [])) f g e =
    let all : ts ≡ g.0 = g.2 ∙ append-nil g.0 in
    let spelled : Repeated SpellsUnit us ts = rw all (g.1.spells) in
    let low : greatest_by unit_height us ≤ d = omega (arith, g.1.height, g.1.low) in
    let made : ReadFile d ts (record { at = first_at ts; units = us }) = record { spells = SpellsFile.file spelled; low = low } in
    subst (λ (x : File). ReadFile d ts x) (same-file (record { at = first_at ts; units = us }) f e) made
sound-ended d ts (Some (us, h, t ∷ rest)) f g e = absurd (cc)

pub sound-file : (d : ℕ) (ts : List Token) (f : File) → file_at d ts ≡ Some f → ReadFile (suc d) ts f
unfolding file_at
sound-file d ts f e = sound-ended (suc d) ts (many_at (unit_at d) ts) f (sound-many unit_height SpellsUnit (suc d) (unit_at d) (sound-unit d) ts) e
