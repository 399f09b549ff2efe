-- What is read as a type is spelled so.
use Rattle.std.proofs.Common.{◌≡◌, sym, refl, ℕ, zero, suc, ◌+◌, max, List, [], ◌∷◌, ◌++◌, length, append_assoc, codes, arith}
use Rattle.sol_tree.specs.declared.token.Token.{Token}
use Rattle.sol_tree.specs.declared.types.Type as types
use Rattle.sol_parse_expr.specs.declared.types.Entry.{Entry}
use Rattle.sol_parse_expr.specs.Grammar.{IsMark, IsWord, IsName, IsElementary, IsUnit, IsOperator, named_by, MayName, SpellsType, MayUnit, Spells, SpellsAll, SpellsMore, unnamed, elementary, array, mapping, plain, scaled, tighter, number, truth, falsehood, parenthesised, conversion, of_type, of_message, of_super, index, member, call, opposite, negation, power, grouped, choice, nothing, some, ended, another}
use Rattle.sol_parse_expr.specs.Grammar as grammar
use Rattle.sol_parse_expr.specs.Heights.{type_height}
use Rattle.sol_parse_expr.specs.Reading.{Measured, entry_at, mapping_at, first_type_at, brackets_at, array_of, type_at}
use Rattle.sol_parse_expr.proofs.Heights.{height-elementary, height-named_type, height-array, height-mapping}
use Rattle.sol_parse_expr.proofs.After.{Holds, Front, Read, after-tree, after-mark, after-word, if-elementary, if-name, after-may_name, grown}

pub record ReadEntry (d : ℕ) (e : Entry) (us : List Token) (h : ℕ) : Type 0 where
  pub first : List Token
  pub second : List Token
  pub read : Read type_height SpellsType d e.ty first h
  pub name : MayName e.name second
  pub all : us ≡ first ++ second

abbrev pub TypesSound : ℕ → Measured types.Type → Type 0
TypesSound d read = (ts : List Token) → Holds (Front (Read type_height SpellsType d)) ts (read ts)

sound-entry : (d : ℕ) (inner : Measured types.Type) → TypesSound d inner → (ts : List Token) → Holds (Front (ReadEntry d)) ts (entry_at inner ts)
unfolding entry_at
sound-entry d inner s ts =
    after-tree (inner ts) _ (Front (ReadEntry d)) (Read type_height SpellsType d) ts (s ts) (λ t h us rest r.
    after-may_name rest _ (λ w. Front (ReadEntry d) (us ++ w)) (λ i is end m.
    (us ++ is, record { first = us; second = is; read = r; name = m; all = refl }, sym (append_assoc us is end))))

sound-mapping : (d : ℕ) (inner : Measured types.Type) → TypesSound d inner → (ts : List Token) → Holds (Front (Read type_height SpellsType (suc d))) ts (mapping_at inner ts)
unfolding mapping_at
sound-mapping d inner s ts =
    after-word (codes "mapping") ts _ (Front (Read type_height SpellsType (suc d))) (λ w t1 iw.
    after-mark (codes "(") t1 _ (λ x. Front (Read type_height SpellsType (suc d)) (w ∷ x)) (λ o t2 io.
    after-tree (entry_at inner t2) _ (λ x. Front (Read type_height SpellsType (suc d)) (w ∷ (o ∷ x))) (ReadEntry d) t2 (sound-entry d inner s t2) (λ k h ks t3 rk.
    after-mark (codes "=>") t3 _ (λ x. Front (Read type_height SpellsType (suc d)) (w ∷ (o ∷ (ks ++ x)))) (λ a t4 ia.
    after-tree (entry_at inner t4) _ (λ x. Front (Read type_height SpellsType (suc d)) (w ∷ (o ∷ (ks ++ (a ∷ x))))) (ReadEntry d) t4 (sound-entry d inner s t4) (λ v n vs t5 rv.
    after-mark (codes ")") t5 _ (λ x. Front (Read type_height SpellsType (suc d)) (w ∷ (o ∷ (ks ++ (a ∷ (vs ++ x)))))) (λ c rest ic. (
      w ∷ (o ∷ (rk.first ++ (rk.second ++ (a ∷ (rv.first ++ (rv.second ++ (c ∷ []))))))),
      record {
        spells = mapping w o a c iw io rk.read.spells rk.name ia rv.read.spells rv.name ic;
        height = rw height-mapping (rw (rk.read.height, rv.read.height) refl);
        low = omega (arith, rk.read.low, rv.read.low);
      },
      rw (rk.all, rv.all) (simp append_assoc refl),
    )))))))

sound-first_type : (d : ℕ) (inner : Measured types.Type) → TypesSound d inner → (ts : List Token) → Holds (Front (Read type_height SpellsType (suc d))) ts (first_type_at inner ts)
unfolding first_type_at
sound-first_type d inner s ts =
    if-elementary ts _ _ (Front (Read type_height SpellsType (suc d))) (λ t ty us i. (t ∷ [], record { spells = elementary t i; height = height-elementary t.at ty; low = omega arith }, refl)) (
    if-name ts _ _ (Front (Read type_height SpellsType (suc d))) (λ t n us i. (t ∷ [], record { spells = grammar.named t i; height = height-named_type t.at n; low = omega arith }, refl)) (
    sound-mapping d inner s ts))

-- a pair of brackets
pub record Brackets (u : Unit {0}) (us : List Token) (h : ℕ) : Type 0 where
  pub opening : Token
  pub closing : Token
  pub opens : IsMark (codes "[") opening
  pub closes : IsMark (codes "]") closing
  pub all : us ≡ opening ∷ (closing ∷ [])
  pub flat : h ≡ 0

sound-brackets : (ts : List Token) → Holds (Front Brackets) ts (brackets_at ts)
unfolding brackets_at
sound-brackets ts =
    after-mark (codes "[") ts _ (Front Brackets) (λ o us io.
    after-mark (codes "]") us _ (λ x. Front Brackets (o ∷ x)) (λ c rest ic.
    (o ∷ (c ∷ []), record { opening = o; closing = c; opens = io; closes = ic; all = refl; flat = refl }, refl)))

array-joins : (d : ℕ) (t : types.Type) (u : Unit {0}) (us vs : List Token) (h n : ℕ) → Read type_height SpellsType d t us h → Brackets u vs n → Read type_height SpellsType (suc d) (array_of t u) (us ++ vs) (max h n + 1)
array-joins d t u us vs h n r b = record {
  spells = rw (b.all) (array b.opening b.closing r.spells b.opens b.closes);
  height = rw height-array (rw (r.height, b.flat) (omega arith));
  low = omega (arith, r.low, b.flat);
}

pub sound-type : (d : ℕ) → TypesSound d (type_at d)
unfolding type_at
sound-type zero ts = tt
sound-type (suc d) ts =
    after-tree (first_type_at (type_at d) ts) _ (Front (Read type_height SpellsType (suc d))) (Read type_height SpellsType (suc d)) ts (sound-first_type d (type_at d) (sound-type d) ts) (λ t h us rest r.
    grown array_of d brackets_at SpellsType type_height Brackets sound-brackets (array-joins d) (length rest) t h us rest r)
