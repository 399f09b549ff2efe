-- Orders that become known one after another, and those that are let go of.
use Rattle.std.proofs.Common.{◌≡◌, ◌∙◌, sym, ap, refl, subst, ℕ, zero, suc, ◌+◌, ◌-◌, ◌<◌, ◌≤◌, List, [], ◌∷◌, ◌++◌, length, Bool, true, false, ◌||◌, ◌==◌, Option, Some, None, Result, Ok, Err, IfOk, unwrap_or, is_some, slice_get, slice_set, slice_index, take, drop, arith, append_assoc, append-nil, ◌⊎◌, inl, inr, if◌then◌else◌}
use Rattle.std.proofs.Math.Seq.{take-length}
use Rattle.chc_nums.specs.Values.{with_value}
use Rattle.sol_names.specs.Linearization.{Merges, Linearizes, AllLinearize, none, more}
use Rattle.sol_names.specs.Schedule.{has, AreBehind, IsSchedule}
use Rattle.sol_names.specs.Tails.{Below, AllBelow, times}
use Rattle.sol_names.specs.Known.{IsOrder, known, all_known, to_merge, IsNext, AreRight, AllKnown, bases_of, uses, Forgets, Finds, Settles, SettlesAll}
use Rattle.sol_names.proofs.Ordering.{linear-get, linear-unique, next-linear, set-same, set-other, same-or-other, get-below}
use Rattle.sol_names.proofs.Once.{either, or-right, same, one-linear}
use Rattle.sol_names.proofs.Scheduling.{has-later, has-first, has-snoc}

-- ---- bases

pub some-bases : (g : List (List ℕ)) (u : ℕ) (bs : List ℕ) → Some bs ≡ slice_get g u → bases_of g u ≡ bs
some-bases g u bs e = ap (λ (k : Option (List ℕ)). unwrap_or k []) (sym e)

pub no-bases : (g : List (List ℕ)) (u x : ℕ) → None ≡ slice_get g u → times x (bases_of g u) ≡ 0
no-bases g u x e = ap (λ (k : Option (List ℕ)). times x (unwrap_or k [])) (sym e)

pub bases-below : (g : List (List ℕ)) (u n : ℕ) (bs : List ℕ) → n ≡ length g → AllBelow (length g) g → slice_get g u ≡ Some bs → Below n bs
bases-below g u n bs e b f = subst (λ (m : ℕ). Below m bs) (sym e) (get-below (length g) g u bs b f)

pub first-below : (n : ℕ) (bs : List ℕ) → 1 ≤ length bs → Below n bs → slice_index bs 0 < n
first-below n [] one b = absurd (omega arith)
first-below n (x ∷ xs) one b = b.0

pub only-one : (bs : List ℕ) → 1 ≤ length bs → length bs < 2 → bs ≡ slice_index bs 0 ∷ []
only-one [] one two = absurd (omega arith)
only-one (x ∷ []) one two = refl
only-one (x ∷ y ∷ xs) one two = absurd (omega arith)

pub if-ok : {A E : Type 0} (P Q : A → Type 0) → ((a : A) → P a → Q a) → (r : Result A E) → IfOk r P → IfOk r Q
if-ok P Q f (Ok a) h = f a h
if-ok P Q f (Err e) h = tt

-- ---- what is found of one unit

known-first : (g : List (List ℕ)) (os : List (Option (List ℕ))) (b : ℕ) (o : List ℕ) (k : Option (List ℕ)) → known os b ≡ k → AreRight g os → is_some (known os b) ≡ true → Linearizes g b o → known os b ≡ Some o
known-first g os b o None e r s l = let f : false ≡ true = sym (ap (λ (x : Option (List ℕ)). is_some x) e) ∙ s in absurd (cc)
known-first g os b o (Some p) e r s l = e ∙ ap Some (linear-unique (r b p e) l)

known-all : (g : List (List ℕ)) (os : List (Option (List ℕ))) → AreRight g os → {bs : List ℕ} {ls : List (List ℕ)} → AllLinearize g bs ls → AllKnown os bs → all_known os bs ≡ Some ls
known-all g os r none k = refl
known-all g os r (more {u = b} {o = o} {us = bs} {os = ls} l a) k =
    let here : known os b ≡ Some o = known-first g os b o (known os b) refl r (k b (has-first b bs)) l in
    let later : all_known os bs ≡ Some ls = known-all g os r a (λ c h. k c (or-right (b == c) (has c bs) h)) in
    rw (here, later) refl

finds-none : (g : List (List ℕ)) (os : List (Option (List ℕ))) (bs : List ℕ) (w : ℕ) → AreRight g os → slice_get g w ≡ Some bs → IsNext os bs w None → Finds g os bs w None
finds-none g os bs w r e n k o l =
    let (cs, ls, rest, f, a, m, i) = linear-get l in
    let s : cs ≡ bs = cc in
    let all : all_known os bs ≡ Some ls = known-all g os r (subst (λ (ds : List ℕ). AllLinearize g ds ls) s a) k in
    let t : to_merge os bs ≡ Some (ls ++ bs ∷ []) = ap (λ (x : Option (List (List ℕ))). with_value x (λ ms. Some (ms ++ bs ∷ []))) all in
    n (ls ++ bs ∷ []) rest t (subst (λ (ds : List ℕ). Merges (ls ++ ds ∷ []) rest) s m)

pub finds-next : (g : List (List ℕ)) (os : List (Option (List ℕ))) (bs : List ℕ) (w : ℕ) (o : Option (List ℕ)) → AreRight g os → slice_get g w ≡ Some bs → IsNext os bs w o → Finds g os bs w o
finds-next g os bs w None r e n = finds-none g os bs w r e n
finds-next g os bs w (Some o) r e n = next-linear g os w bs o r e n

finds-at : (g : List (List ℕ)) (os : List (Option (List ℕ))) (b w : ℕ) (k o : Option (List ℕ)) → known os b ≡ k → AreRight g os → slice_get g w ≡ Some (b ∷ []) → o ≡ with_value k (λ p. Some (w ∷ p)) → Finds g os (b ∷ []) w o
finds-at g os b w None o i r e f =
    subst (Finds g os (b ∷ []) w) (sym f) (λ k p l. let h : false ≡ true = sym (ap (λ (x : Option (List ℕ)). is_some x) i) ∙ k b (has-first b []) in absurd (cc))
finds-at g os b w (Some p) o i r e f = subst (Finds g os (b ∷ []) w) (sym f) (one-linear g w b p e (r b p i))

pub finds-over : (g : List (List ℕ)) (os : List (Option (List ℕ))) (b w : ℕ) (o : Option (List ℕ)) → AreRight g os → slice_get g w ≡ Some (b ∷ []) → o ≡ with_value (known os b) (λ p. Some (w ∷ p)) → Finds g os (b ∷ []) w o
finds-over g os b w o r e f = finds-at g os b w (known os b) o refl r e f

-- ---- orders that are let go of

pub forgets-none : (used bs : List ℕ) (os : List (Option (List ℕ))) → Forgets used bs os os
forgets-none used bs os x = inl refl

pub forgets-both : (used bs : List ℕ) (os ps qs : List (Option (List ℕ))) → Forgets used bs os ps → Forgets used bs ps qs → Forgets used bs os qs
forgets-both used bs os ps qs f h x =
    elim (h x) [
      | inl e ↦ elim (f x) [ inl d ↦ inl (e ∙ d) | inr d ↦ inr (e ∙ d.0, d.1, d.2) ]
      | inr e ↦ inr e
    ]

none-at : (os : List (Option (List ℕ))) (x : ℕ) → known (slice_set os x None) x ≡ None
none-at [] x = refl
none-at (o ∷ os) zero = refl
none-at (o ∷ os) (suc x) = none-at os x

none-other : (os : List (Option (List ℕ))) (x y : ℕ) → (y ≡ x → ⊥) → known (slice_set os x None) y ≡ known os y
none-other [] x y n = refl
none-other (o ∷ os) zero zero n = absurd (n refl)
none-other (o ∷ os) zero (suc y) n = refl
none-other (o ∷ os) (suc x) zero n = refl
none-other (o ∷ os) (suc x) (suc y) n = none-other os x y (λ e. n (ap suc e))

pub forgets-one : (used bs : List ℕ) (os : List (Option (List ℕ))) (b : ℕ) → has b bs ≡ true → slice_index used b ≡ 1 → Forgets used bs os (slice_set os b None)
forgets-one used bs os b h e x =
    elim (same-or-other b x) [
      | inl s ↦
          let n : known (slice_set os b None) x ≡ None = subst (λ (y : ℕ). known (slice_set os b None) y ≡ None) (sym s) (none-at os b) in
          inr (n, subst (λ (y : ℕ). has y bs ≡ true) (sym s) h, subst (λ (y : ℕ). slice_index used y ≡ 1) (sym s) e)
      | inr n ↦ inl (none-other os b x n)
    ]

pub forgets-wider : (used bs : List ℕ) (b : ℕ) (os ps : List (Option (List ℕ))) → has b bs ≡ true → Forgets used (b ∷ []) os ps → Forgets used bs os ps
forgets-wider used bs b os ps h f x =
    elim (f x) [
      | inl e ↦ inl e
      | inr e ↦
          elim (either (b == x) false e.1) [
            | inl i ↦ inr (e.0, subst (λ (y : ℕ). has y bs ≡ true) (same b x i) h, e.2)
            | inr i ↦ absurd (cc)
          ]
    ]

-- what the loop over bases keeps
pub record Forgetting (used bs : List ℕ) (old : List (Option (List ℕ))) (rest : List ℕ) (os : List (Option (List ℕ))) : Type 0 where
  pub size : length os ≡ length old
  pub below : Below (length old) rest
  pub forgets : Forgets used bs old os
  pub among : (b : ℕ) → has b rest ≡ true → has b bs ≡ true

pub forgetting-start : (used bs : List ℕ) (os : List (Option (List ℕ))) → Below (length os) bs → Forgetting used bs os bs os
forgetting-start used bs os b = record { size = refl; below = b; forgets = forgets-none used bs os; among = λ x h. h }

pub forgetting-within : (used bs rest : List ℕ) (old os : List (Option (List ℕ))) → 1 ≤ length rest → Forgetting used bs old rest os → slice_index rest 0 < length os
forgetting-within used bs rest old os one t = subst (λ (n : ℕ). slice_index rest 0 < n) (sym t.size) (first-below (length old) rest one t.below)

pub forgetting-more : (used bs rest : List ℕ) (old os new : List (Option (List ℕ))) → 1 ≤ length rest → length new ≡ length os → Forgets used (slice_index rest 0 ∷ []) os new → Forgetting used bs old rest os → Forgetting used bs old (take (length rest - 1) (drop 1 rest)) new
forgetting-more used bs [] old os new one e f t = absurd (omega arith)
forgetting-more used bs (b ∷ rest) old os new one e f t =
    let m : length (b ∷ rest) - 1 ≡ length rest = omega arith in
    rw (m, take-length rest) (record {
      size = e ∙ t.size;
      below = t.below.1;
      forgets = forgets-both used bs old os new t.forgets (forgets-wider used bs b os new (t.among b (has-first b rest)) f);
      among = λ x h. t.among x (or-right (b == x) (has x rest) h);
    })

-- ---- one unit

pub settles-true : (g : List (List ℕ)) (used bs : List ℕ) (old mid last : List (Option (List ℕ))) (w : ℕ) (o : List ℕ) → slice_get g w ≡ Some bs → Linearizes g w o → Forgets used bs old mid → Forgets used bs mid last → w < length last → Settles g used old w true (slice_set last w (Some o))
settles-true g used bs old mid last w o e l f h k =
    let there : bases_of g w ≡ bs = some-bases g w bs (sym e) in
    let both = forgets-both used bs old mid last f h in (
      o,
      l,
      set-same last w o k,
      λ x n.
          elim (both x) [
            | inl i ↦ inl (set-other last w x o n ∙ i)
            | inr i ↦ inr (set-other last w x o n ∙ i.0, subst (λ (cs : List ℕ). has x cs ≡ true) (sym there) i.1, i.2)
          ],
    )

pub settles-false : (g : List (List ℕ)) (used bs : List ℕ) (old new : List (Option (List ℕ))) (w : ℕ) → slice_get g w ≡ Some bs → Finds g old bs w None → Settles g used old w false new
settles-false g used bs old new w e n k = n (subst (AllKnown old) (some-bases g w bs (sym e)) k)

pub settles-none : (g : List (List ℕ)) (used : List ℕ) (old new : List (Option (List ℕ))) (w : ℕ) → slice_get g w ≡ None → Settles g used old w false new
settles-none g used old new w e k o l = let (bs, os, rest, f, a, m, i) = linear-get l in absurd (cc)

-- ---- uses

uses-append : (g : List (List ℕ)) (x : ℕ) (vs ws : List ℕ) → uses g x (vs ++ ws) ≡ uses g x vs + uses g x ws
uses-append g x [] ws = omega arith
uses-append g x (v ∷ vs) ws = omega (arith, uses-append g x vs ws)

times-has : (x : ℕ) (bs : List ℕ) → has x bs ≡ true → 1 ≤ times x bs
times-has x [] h = absurd (cc)
times-has x (b ∷ bs) h = at (b == x) (times-has x bs) h
  where
    at : (c : Bool) → (has x bs ≡ true → 1 ≤ times x bs) → (c || has x bs) ≡ true → 1 ≤ (if c then 1 else 0) + times x bs
    at true go e = omega arith
    at false go e = omega (arith, go e)

times-own : (u : ℕ) → 1 ≤ times u (u ∷ [])
times-own u = times-has u (u ∷ []) (has-first u [])

has-below : (n x : ℕ) (bs : List ℕ) → Below n bs → has x bs ≡ true → x < n
has-below n x [] b h = absurd (cc)
has-below n x (y ∷ bs) b h =
    elim (either (y == x) (has x bs) h) [
      | inl e ↦ subst (λ (z : ℕ). z < n) (same y x e) b.0
      | inr e ↦ has-below n x bs b.1 e
    ]

base-at : (g : List (List ℕ)) (w x : ℕ) (k : Option (List ℕ)) → slice_get g w ≡ k → has x (bases_of g w) ≡ true → (bs : List ℕ) × (slice_get g w ≡ Some bs) × (has x bs ≡ true)
base-at g w x None e h = let f : bases_of g w ≡ [] = ap (λ (k : Option (List ℕ)). unwrap_or k []) e in let i : has x [] ≡ true = subst (λ (bs : List ℕ). has x bs ≡ true) f h in absurd (cc)
base-at g w x (Some bs) e h = let f : bases_of g w ≡ bs = some-bases g w bs (sym e) in (bs, e, subst (λ (cs : List ℕ). has x cs ≡ true) f h)

-- ---- unit after unit

-- the orders of units that went before are known, but for those that nothing needs any more
abbrev pub Kept : List (List ℕ) → ℕ → List ℕ → List ℕ → List (Option (List ℕ)) → Type 0
Kept g u before rest os = (x : ℕ) → has x before ≡ true → (is_some (known os x) ≡ true) ⊎ ((uses g x rest ≡ 0) × (x ≡ u → ⊥))

abbrev pub Used : List (List ℕ) → ℕ → List ℕ → List ℕ → Type 0
Used g u used whole = (x : ℕ) → x < length used → slice_index used x ≡ times x (u ∷ []) + uses g x whole

pub record Settling (g : List (List ℕ)) (u : ℕ) (whole rest : List ℕ) (os : List (Option (List ℕ))) : Type 0 where
  pub size : length os ≡ length g
  pub right : AreRight g os
  pub before : List ℕ
  pub split : whole ≡ before ++ rest
  pub behind : AreBehind g before rest
  pub kept : Kept g u before rest os

pub settling-start : (g : List (List ℕ)) (u : ℕ) (whole : List ℕ) (os : List (Option (List ℕ))) → length os ≡ length g → AreRight g os → IsSchedule g u whole → Settling g u whole whole os
settling-start g u whole os e r s = record { size = e; right = r; before = []; split = refl; behind = s.behind; kept = λ x h. absurd (cc) }

some-of : (os : List (Option (List ℕ))) (x : ℕ) (o : List ℕ) → known os x ≡ Some o → is_some (known os x) ≡ true
some-of os x o e = ap (λ (k : Option (List ℕ)). is_some k) e

turn-kept : (g : List (List ℕ)) (u w : ℕ) (used before ws : List ℕ) (os new : List (Option (List ℕ))) → AllBelow (length g) g → length used ≡ length g → Used g u used (before ++ w ∷ ws) → Settles g used os w true new → Kept g u before (w ∷ ws) os → Kept g u (before ++ w ∷ []) ws new
turn-kept g u w used before ws os new b z n (o, l, e, others) k x h =
    elim (same-or-other w x) [
      | inl s ↦ inl (subst (λ (y : ℕ). is_some (known new y) ≡ true) (sym s) (some-of new w o e))
      | inr d ↦
          elim (has-snoc x w before h) [
            | inr s ↦ absurd (d (sym s))
            | inl i ↦ at (k x i) (others x d)
          ]
    ]
  where
    at : (is_some (known os x) ≡ true) ⊎ ((uses g x (w ∷ ws) ≡ 0) × (x ≡ u → ⊥)) → (known new x ≡ known os x) ⊎ ((known new x ≡ None) × (has x (bases_of g w) ≡ true) × (slice_index used x ≡ 1)) → (is_some (known new x) ≡ true) ⊎ ((uses g x ws ≡ 0) × (x ≡ u → ⊥))
    at (inr p) q = inr (omega (arith, p.0), p.1)
    at (inl p) (inl q) = inl (ap (λ (y : Option (List ℕ)). is_some y) q ∙ p)
    at (inl p) (inr q) =
        let (bs, f, c) = base-at g w x (slice_get g w) refl q.1 in
        let within : x < length used = subst (λ (m : ℕ). x < m) (sym z) (has-below (length g) x bs (get-below (length g) g w bs b f) c) in
        let total : slice_index used x ≡ times x (u ∷ []) + uses g x (before ++ w ∷ ws) = n x within in
        let parts : uses g x (before ++ w ∷ ws) ≡ uses g x before + (times x (bases_of g w) + uses g x ws) = uses-append g x before (w ∷ ws) in
        let one = times-has x (bases_of g w) q.1 in
        let one_use = q.2 in
        inr (omega (arith, total, parts, one, one_use), λ s. let mine : 1 ≤ times x (u ∷ []) = subst (λ (y : ℕ). 1 ≤ times y (u ∷ [])) (sym s) (times-own u) in absurd (omega (arith, total, parts, one, one_use, mine)))

turn-right : (g : List (List ℕ)) (used : List ℕ) (w : ℕ) (os new : List (Option (List ℕ))) → Settles g used os w true new → AreRight g os → AreRight g new
turn-right g used w os new (o, l, e, others) r x p f =
    elim (same-or-other w x) [
      | inl s ↦
          let own_one : known new x ≡ Some o = subst (λ (y : ℕ). known new y ≡ Some o) (sym s) e in
          let q : o ≡ p = cc in
          subst (Linearizes g x) q (subst (λ (y : ℕ). Linearizes g y o) (sym s) l)
      | inr d ↦ elim (others x d) [ inl i ↦ r x p (sym i ∙ f) | inr i ↦ let i0 = i.0 in absurd (cc) ]
    ]

abbrev pub after_first : List ℕ → List ℕ
after_first rest = take (length rest - 1) (drop 1 rest)

pub settling-true : (g : List (List ℕ)) (u : ℕ) (used whole rest : List ℕ) (os new : List (Option (List ℕ))) → 1 ≤ length rest → AllBelow (length g) g → length used ≡ length g → Used g u used whole → length new ≡ length os → Settles g used os (slice_index rest 0) true new → Settling g u whole rest os → Settling g u whole (after_first rest) new
settling-true g u used whole [] os new one b z n k s t = absurd (omega arith)
settling-true g u used whole (w ∷ ws) os new one b z n k s t =
    let m : length (w ∷ ws) - 1 ≡ length ws = omega arith in
    rw (m, take-length ws) (record {
      size = k ∙ t.size;
      right = turn-right g used w os new s t.right;
      before = t.before ++ w ∷ [];
      split = t.split ∙ sym (append_assoc t.before (w ∷ []) ws);
      behind = t.behind.1;
      kept = turn-kept g u w used t.before ws os new b z (subst (Used g u used) t.split n) s t.kept;
    })

pub settling-false : (g : List (List ℕ)) (u : ℕ) (used whole rest : List ℕ) (os new : List (Option (List ℕ))) → 1 ≤ length rest → IsSchedule g u whole → Settles g used os (slice_index rest 0) false new → Settling g u whole rest os → (o : List ℕ) → Linearizes g u o → ⊥
settling-false g u used whole [] os new one c s t o l = absurd (omega arith)
settling-false g u used whole (w ∷ ws) os new one c s t o l =
    let there : has w whole ≡ true = subst (λ (xs : List ℕ). has w xs ≡ true) (sym t.split) (has-later w t.before (w ∷ ws) (has-first w ws)) in
    let (p, m) = c.needed w there o l in
    s (λ b h.
    let (bs, f, i) = base-at g w b (slice_get g w) refl h in
    elim (t.kept b (t.behind.0 bs b f i)) [
      | inl k ↦ k
      | inr k ↦ let k0 = k.0 in let used_once = times-has b (bases_of g w) h in absurd (omega (arith, k0, used_once))
    ]) p m

pub settling-end : (g : List (List ℕ)) (u : ℕ) (whole rest : List ℕ) (os : List (Option (List ℕ))) → length rest < 1 → IsSchedule g u whole → Settling g u whole rest os → SettlesAll g u true os
settling-end g u whole [] os z c t = (
  t.right,
  elim (t.kept u (subst (λ (xs : List ℕ). has u xs ≡ true) (t.split ∙ append-nil t.before) c.own)) [
    | inl k ↦ k
    | inr k ↦ absurd (k.1 refl)
  ],
)
settling-end g u whole (w ∷ ws) os z c t = absurd (omega arith)

pub order-end : (g : List (List ℕ)) (u : ℕ) (os : List (Option (List ℕ))) (k : Option (List ℕ)) → k ≡ known os u → SettlesAll g u true os → IsOrder g u k
order-end g u os (Some o) e s = s.0 u o (sym e)
order-end g u os None e s = let f : false ≡ true = ap (λ (x : Option (List ℕ)). is_some x) e ∙ s.1 in absurd (cc)
