-- Orders that become known.
use Rattle.std.proofs.Common.{◌≡◌, ◌≢◌, ◌∙◌, sym, ap, refl, subst, ℕ, zero, suc, ◌<◌, List, [], ◌∷◌, ◌++◌, length, Option, Some, None, slice_get, slice_set, get_or, arith, ◌⊎◌, inl, inr, get_or-set_same, get_or-set_other}
use Rattle.std.proofs.lemmas.Bool.{cases_lt}
use Rattle.std.proofs.lemmas.Option.{slice_get_within, unwrap_or-slice_get}
use Rattle.chc_nums.specs.Values.{with_value}
use Rattle.sol_names.specs.Linearization.{Merges, Linearizes, AllLinearize, linear, none, more}
use Rattle.sol_names.specs.Tails.{Below, AllBelow}
use Rattle.sol_names.specs.Known.{known, all_known, to_merge, IsNext, AreRight, KnownBelow}
use Rattle.sol_names.proofs.Merging.{merge-unique, merge-below}

-- ---- values that are there

abbrev prefixed : List ℕ → Option (List (List ℕ)) → Option (List (List ℕ))
prefixed o rest = with_value rest (λ ls. Some (o ∷ ls))

-- orders of bases that are all known
pub record AreKnown (os : List (Option (List ℕ))) (u : ℕ) (us : List ℕ) (ls : List (List ℕ)) : Type 0 where
  pub order : List ℕ
  pub rest : List (List ℕ)
  pub here : known os u ≡ Some order
  pub later : all_known os us ≡ Some rest
  pub whole : ls ≡ order ∷ rest

known-at : (os : List (Option (List ℕ))) (u : ℕ) (us : List ℕ) (ls : List (List ℕ)) (o : Option (List ℕ)) (later : Option (List (List ℕ))) → known os u ≡ o → all_known os us ≡ later → with_value o (λ p. prefixed p later) ≡ Some ls → AreKnown os u us ls
known-at os u us ls None later e f g = absurd (cc)
known-at os u us ls (Some o) None e f g = absurd (cc)
known-at os u us ls (Some o) (Some rest) e f g = record { order = o; rest = rest; here = e; later = f; whole = cc }

known-both : (os : List (Option (List ℕ))) (u : ℕ) (us : List ℕ) (ls : List (List ℕ)) → all_known os (u ∷ us) ≡ Some ls → AreKnown os u us ls
known-both os u us ls e = known-at os u us ls (known os u) (all_known os us) refl refl e

-- the bases stand behind their orders
merged-at : (bs : List ℕ) (ls : List (List ℕ)) (o : Option (List (List ℕ))) → with_value o (λ ms. Some (ms ++ bs ∷ [])) ≡ Some ls → (ms : List (List ℕ)) × (o ≡ Some ms) × (ls ≡ ms ++ bs ∷ [])
merged-at bs ls None e = absurd (cc)
merged-at bs ls (Some ms) e = (ms, refl, cc)

-- ---- numbers below the count of units

all-below : (n : ℕ) (os : List (Option (List ℕ))) (bs : List ℕ) (ls : List (List ℕ)) → KnownBelow n os → all_known os bs ≡ Some ls → AllBelow n ls
all-below n os [] ls k e = let f : [] ≡ ls = cc in subst (AllBelow n) f tt
all-below n os (u ∷ us) ls k e =
    let a = known-both os u us ls e in
    subst (AllBelow n) (sym a.whole) (k u a.order a.here, all-below n os us a.rest k a.later)

below-append : (n : ℕ) (ls : List (List ℕ)) (l : List ℕ) → AllBelow n ls → Below n l → AllBelow n (ls ++ l ∷ [])
below-append n [] l h b = (b, tt)
below-append n (m ∷ ls) l h b = (h.0, below-append n ls l h.1 b)

pub merge-size : (n : ℕ) (os : List (Option (List ℕ))) (bs : List ℕ) (ls : List (List ℕ)) → KnownBelow n os → Below n bs → Some ls ≡ to_merge os bs → AllBelow n ls
merge-size n os bs ls k b e =
    let m = merged-at bs ls (all_known os bs) (sym e) in
    subst (AllBelow n) (sym m.2) (below-append n m.0 bs (all-below n os bs m.0 k m.1) b)

pub get-below : (n : ℕ) (g : List (List ℕ)) (u : ℕ) (bs : List ℕ) → AllBelow n g → slice_get g u ≡ Some bs → Below n bs
get-below n [] u bs h e = absurd (cc)
get-below n (l ∷ g) zero bs h e = let f : l ≡ bs = cc in subst (Below n) f h.0
get-below n (l ∷ g) (suc u) bs h e = get-below n g u bs h.1 e

mutual
  linear-below : {g : List (List ℕ)} → AllBelow (length g) g → {u : ℕ} {o : List ℕ} → Linearizes g u o → Below (length g) o
  linear-below {g} h (linear {u = u} {bs = bs} e a m) = (slice_get_within g u bs e, merge-below (length g) (below-append (length g) _ bs (linear-all-below h a) (get-below (length g) g u bs h e)) m)

  linear-all-below : {g : List (List ℕ)} → AllBelow (length g) g → {us : List ℕ} {os : List (List ℕ)} → AllLinearize g us os → AllBelow (length g) os
  linear-all-below h none = tt
  linear-all-below h (more l a) = (linear-below h l, linear-all-below h a)

pub right-below : (g : List (List ℕ)) (os : List (Option (List ℕ))) (n : ℕ) → n ≡ length g → AllBelow (length g) g → AreRight g os → KnownBelow n os
right-below g os n e h r u o k = subst (λ (m : ℕ). Below m o) (sym e) (linear-below h (r u o k))

-- ---- known orders are linearizations

known-linear : (g : List (List ℕ)) (os : List (Option (List ℕ))) (bs : List ℕ) (ls : List (List ℕ)) → AreRight g os → all_known os bs ≡ Some ls → AllLinearize g bs ls
known-linear g os [] ls r e = let f : [] ≡ ls = cc in subst (AllLinearize g []) f none
known-linear g os (u ∷ us) ls r e =
    let a = known-both os u us ls e in
    subst (AllLinearize g (u ∷ us)) (sym a.whole) (more (r u a.order a.here) (known-linear g os us a.rest r a.later))

pub next-linear : (g : List (List ℕ)) (os : List (Option (List ℕ))) (u : ℕ) (bs o : List ℕ) → AreRight g os → slice_get g u ≡ Some bs → IsNext os bs u (Some o) → Linearizes g u o
next-linear g os u bs o r e (ls, rest, t, m, f) =
    let k = merged-at bs ls (all_known os bs) t in
    subst (Linearizes g u) (sym f) (linear e (known-linear g os bs k.0 r k.1) (subst (λ (ms : List (List ℕ)). Merges ms rest) k.2 m))

known-get : (os : List (Option (List ℕ))) (u : ℕ) → known os u ≡ get_or os u None
known-get os u = unwrap_or-slice_get os u None

pub set-same : (os : List (Option (List ℕ))) (u : ℕ) (o : List ℕ) → u < length os → known (slice_set os u (Some o)) u ≡ Some o
set-same os u o l = known-get (slice_set os u (Some o)) u ∙ get_or-set_same os u (Some o) None l

pub set-other : (os : List (Option (List ℕ))) (u v : ℕ) (o : List ℕ) → v ≢ u → known (slice_set os u (Some o)) v ≡ known os v
set-other os u v o n = known-get (slice_set os u (Some o)) v ∙ get_or-set_other os u v (Some o) None n ∙ sym (known-get os v)

pub same-or-other : (u v : ℕ) → (v ≡ u) ⊎ (v ≢ u)
same-or-other u v =
    elim (cases_lt u v) [
      | inl less ↦ inr (λ e. absurd (omega arith))
      | inr past ↦ elim (cases_lt v u) [ inl less ↦ inr (λ e. absurd (omega arith)) | inr p ↦ inl (omega arith) ]
    ]

-- ---- a linearization is the only one

pub linear-get : {g : List (List ℕ)} {u : ℕ} {o : List ℕ} → Linearizes g u o → (bs : List ℕ) × (os : List (List ℕ)) × (rest : List ℕ) × (slice_get g u ≡ Some bs) × AllLinearize g bs os × Merges (os ++ bs ∷ []) rest × (o ≡ u ∷ rest)
linear-get (linear {bs = bs} {os = os} {rest = rest} e a m) = (bs, os, rest, e, a, m, refl)

abbrev Each : List (List ℕ) → List ℕ → List (List ℕ) → Type 0
Each g [] [] = Unit {0}
Each g [] (o ∷ os) = ⊥
Each g (u ∷ us) [] = ⊥
Each g (u ∷ us) (o ∷ os) = Linearizes g u o × AllLinearize g us os

each-of : {g : List (List ℕ)} {us : List ℕ} {os : List (List ℕ)} → AllLinearize g us os → Each g us os
each-of none = tt
each-of (more l a) = (l, a)

mutual
  pub linear-unique : {g : List (List ℕ)} {u : ℕ} {o p : List ℕ} → Linearizes g u o → Linearizes g u p → o ≡ p
  linear-unique {g} {u} {o} {p} (linear {bs = bs} {os = os} {rest = rest} e a m) h =
      let k = linear-get h in
      let same : k.0 ≡ bs = cc in
      let orders : os ≡ k.1 = all-unique a k.1 (each-of (subst (λ (cs : List ℕ). AllLinearize g cs k.1) same k.4)) in
      let merged : Merges (os ++ bs ∷ []) k.2 = subst (λ (cs : List ℕ). Merges (os ++ cs ∷ []) k.2) same (subst (λ (ls : List (List ℕ)). Merges (ls ++ k.0 ∷ []) k.2) (sym orders) k.5) in
      let later : rest ≡ k.2 = merge-unique m merged in
      ap (λ (r : List ℕ). u ∷ r) later ∙ sym k.6

  all-unique : {g : List (List ℕ)} {us : List ℕ} {os : List (List ℕ)} → AllLinearize g us os → (ps : List (List ℕ)) → Each g us ps → os ≡ ps
  all-unique none [] h = refl
  all-unique none (p ∷ ps) h = absurd h
  all-unique (more l a) [] h = absurd h
  all-unique (more l a) (p ∷ ps) h = let here = linear-unique l h.0 in let later = all-unique a ps (each-of h.1) in cc
