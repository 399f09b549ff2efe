-- A linearization has each number once, and what stands behind its first number has linearizations that are shorter.
use Rattle.std.proofs.Common.{◌≡◌, ◌∙◌, sym, ap, refl, subst, ℕ, suc, ◌<◌, ◌≤◌, List, [], ◌∷◌, ◌++◌, ◌==◌, Bool, true, false, ◌||◌, map, length, Some, None, slice_get, arith, ◌⊎◌, inl, inr, if◌then◌else◌}
use Rattle.std.specs.List.{list_any, list_all}
use Rattle.std.proofs.lemmas.Bool.Decides.{nat_tests}
use Rattle.std.proofs.lemmas.List.Folds.{list_any-append}
use Rattle.sol_names.specs.Linearization.{is_behind, is_empty, next_among, next_of, without_head, Merges, ended, taken, Linearizes, AllLinearize, linear, none, more}
use Rattle.sol_names.specs.Schedule.{has}
use Rattle.sol_names.proofs.Ordering.{linear-unique}

-- ---- tests

pub either : (a b : Bool) → (a || b) ≡ true → (a ≡ true) ⊎ (b ≡ true)
either true b e = inl refl
either false b e = inr e

pub or-left : (a b : Bool) → a ≡ true → (a || b) ≡ true
or-left true b e = refl
or-left false b e = absurd (cc)

pub or-right : (a b : Bool) → b ≡ true → (a || b) ≡ true
or-right true b e = refl
or-right false b e = e

neither : (a b : Bool) → (a || b) ≡ false → (a ≡ false) × (b ≡ false)
neither true b e = absurd (cc)
neither false b e = (refl, e)

not-true : (b : Bool) → (b ≡ true → ⊥) → b ≡ false
not-true true n = absurd (n refl)
not-true false n = refl

true-false : (b : Bool) → b ≡ true → b ≡ false → ⊥
true-false b e f = absurd (cc)

pub own : (n : ℕ) → (n == n) ≡ true
own n = grind (arith, nat_tests)

pub same : (m n : ℕ) → (m == n) ≡ true → m ≡ n
same m n e = grind (arith, nat_tests)

-- ---- numbers of lists

-- a number stands in one of some lists
abbrev pub has_any : ℕ → List (List ℕ) → Bool
has_any u ls = list_any (has u) ls

-- each number of a list stands in it once
abbrev pub Once : List ℕ → Type 0
Once [] = Unit {0}
Once (x ∷ xs) = (has x xs ≡ false) × Once xs

has-head : (x : ℕ) (xs : List ℕ) → has x (x ∷ xs) ≡ true
has-head x xs = or-left (x == x) (has x xs) (own x)

-- ---- what is merged has each number once

next-has : (all ls : List (List ℕ)) (h : ℕ) → next_among all ls ≡ Some h → has_any h ls ≡ true
next-has all [] h e = absurd (cc)
next-has all ([] ∷ ls) h e = next-has all ls h e
next-has all ((x ∷ xs) ∷ ls) h e = at (list_any (is_behind x) all) (next-has all ls h) e
  where
    at : (b : Bool) → (next_among all ls ≡ Some h → has_any h ls ≡ true) → (if b then next_among all ls else Some x) ≡ Some h → has_any h ((x ∷ xs) ∷ ls) ≡ true
    at true go f = or-right (has h (x ∷ xs)) (has_any h ls) (go f)
    at false go f = let s : x ≡ h = cc in or-left (has h (x ∷ xs)) (has_any h ls) (subst (λ (y : ℕ). has y (x ∷ xs) ≡ true) s (has-head x xs))

next-free : (all ls : List (List ℕ)) (h : ℕ) → next_among all ls ≡ Some h → list_any (is_behind h) all ≡ false
next-free all [] h e = absurd (cc)
next-free all ([] ∷ ls) h e = next-free all ls h e
next-free all ((x ∷ xs) ∷ ls) h e = at (list_any (is_behind x) all) refl (next-free all ls h) e
  where
    at : (b : Bool) → list_any (is_behind x) all ≡ b → (next_among all ls ≡ Some h → list_any (is_behind h) all ≡ false) → (if b then next_among all ls else Some x) ≡ Some h → list_any (is_behind h) all ≡ false
    at true g go f = go f
    at false g go f = let s : x ≡ h = cc in subst (λ (y : ℕ). list_any (is_behind y) all ≡ false) s g

without-has : (h u : ℕ) (l : List ℕ) → has u (without_head h l) ≡ true → has u l ≡ true
without-has h u [] e = e
without-has h u (x ∷ xs) e = at (x == h) e
  where
    at : (b : Bool) → has u (if b then xs else x ∷ xs) ≡ true → has u (x ∷ xs) ≡ true
    at true f = or-right (x == u) (has u xs) f
    at false f = f

heads-have : (h u : ℕ) (ls : List (List ℕ)) → has_any u (map (without_head h) ls) ≡ true → has_any u ls ≡ true
heads-have h u [] e = e
heads-have h u (l ∷ ls) e =
    elim (either (has u (without_head h l)) (has_any u (map (without_head h) ls)) e) [
      | inl f ↦ or-left (has u l) (has_any u ls) (without-has h u l f)
      | inr f ↦ or-right (has u l) (has_any u ls) (heads-have h u ls f)
    ]

-- the number that is taken stands nowhere then
without-gone : (h : ℕ) (l : List ℕ) → is_behind h l ≡ false → has h (without_head h l) ≡ false
without-gone h [] e = refl
without-gone h (x ∷ xs) e = at (x == h) refl
  where
    at : (b : Bool) → (x == h) ≡ b → has h (if b then xs else x ∷ xs) ≡ false
    at true f = e
    at false f = ap (λ (b : Bool). b || has h xs) f ∙ e

heads-gone : (h : ℕ) (ls : List (List ℕ)) → list_any (is_behind h) ls ≡ false → has_any h (map (without_head h) ls) ≡ false
heads-gone h [] e = refl
heads-gone h (l ∷ ls) e =
    let n = neither (is_behind h l) (list_any (is_behind h) ls) e in
    ap (λ (b : Bool). b || has_any h (map (without_head h) ls)) (without-gone h l n.0) ∙ heads-gone h ls n.1

pub merge-has : {ls : List (List ℕ)} {o : List ℕ} → Merges ls o → (u : ℕ) → has u o ≡ true → has_any u ls ≡ true
merge-has (ended e) u f = absurd (cc)
merge-has {ls} (taken {h = h} {rest = rest} e m) u f =
    elim (either (h == u) (has u rest) f) [
      | inl g ↦ subst (λ (y : ℕ). has_any y ls ≡ true) (same h u g) (next-has ls ls h e)
      | inr g ↦ heads-have h u ls (merge-has m u g)
    ]

pub merge-once : {ls : List (List ℕ)} {o : List ℕ} → Merges ls o → Once o
merge-once (ended e) = tt
merge-once {ls} (taken {h = h} {rest = rest} e m) = (
  not-true (has h rest) (λ f. true-false (has_any h (map (without_head h) ls)) (merge-has m h f) (heads-gone h ls (next-free ls ls h e))),
  merge-once m,
)

-- ---- and is as long as each list

abbrev pub AllWithin : ℕ → List (List ℕ) → Type 0
AllWithin n [] = Unit {0}
AllWithin n (l ∷ ls) = (length l ≤ n) × AllWithin n ls

empty-within : (n : ℕ) (ls : List (List ℕ)) → list_all is_empty ls ≡ true → AllWithin n ls
empty-within n [] e = tt
empty-within n ([] ∷ ls) e = (omega arith, empty-within n ls e)
empty-within n ((x ∷ xs) ∷ ls) e = absurd (cc)

without-within : (n h : ℕ) (l : List ℕ) → length (without_head h l) ≤ n → length l ≤ suc n
without-within n h [] e = omega arith
without-within n h (x ∷ xs) e = at (x == h) e
  where
    at : (b : Bool) → length (if b then xs else x ∷ xs) ≤ n → length (x ∷ xs) ≤ suc n
    at true f = omega (arith, f)
    at false f = omega (arith, f)

heads-within : (n h : ℕ) (ls : List (List ℕ)) → AllWithin n (map (without_head h) ls) → AllWithin (suc n) ls
heads-within n h [] w = tt
heads-within n h (l ∷ ls) w = (without-within n h l w.0, heads-within n h ls w.1)

pub merge-within : {ls : List (List ℕ)} {o : List ℕ} → Merges ls o → AllWithin (length o) ls
merge-within {ls} (ended e) = empty-within 0 ls e
merge-within {ls} (taken {h = h} {rest = rest} e m) = heads-within (length rest) h ls (merge-within m)

within-first : (n : ℕ) (ls ms : List (List ℕ)) → AllWithin n (ls ++ ms) → AllWithin n ls
within-first n [] ms w = tt
within-first n (l ∷ ls) ms w = (w.0, within-first n ls ms w.1)

-- ---- numbers of a linearization

-- a number has a linearization of at most this length
abbrev pub Within : List (List ℕ) → ℕ → ℕ → Type 0
Within g n u = (p : List ℕ) × Linearizes g u p × (length p ≤ n)

weaken : (g : List (List ℕ)) (m n u : ℕ) → m ≤ n → Within g m u → Within g n u
weaken g m n u l (p, h, s) = (p, h, omega arith)

each-within : {g : List (List ℕ)} {us : List ℕ} {os : List (List ℕ)} → AllLinearize g us os → (n u : ℕ) → AllWithin n os → has u us ≡ true → Within g n u
each-within none n u w e = absurd (cc)
each-within {g} (more {u = v} {o = o} {us = us} {os = os} l a) n u w e =
    elim (either (v == u) (has u us) e) [
      | inl f ↦ (o, subst (λ (y : ℕ). Linearizes g y o) (same v u f) l, w.0)
      | inr f ↦ each-within a n u w.1 f
    ]

-- what stands in a merge of orders and bases stands in an order or is a base
rest-from : (os : List (List ℕ)) (bs rest : List ℕ) (x : ℕ) → Merges (os ++ bs ∷ []) rest → has x rest ≡ true → (has_any x os ≡ true) ⊎ (has x bs ≡ true)
rest-from os bs rest x m f =
    let there : (has_any x os || (has x bs || false)) ≡ true = sym (list_any-append (has x) os (bs ∷ [])) ∙ merge-has m x f in
    elim (either (has_any x os) (has x bs || false) there) [
      | inl h ↦ inl h
      | inr h ↦ elim (either (has x bs) false h) [ inl k ↦ inr k | inr k ↦ absurd (cc) ]
    ]

mutual
  linear-has : {g : List (List ℕ)} {u : ℕ} {o : List ℕ} → Linearizes g u o → (x : ℕ) → has x o ≡ true → Within g (length o) x
  linear-has {g} (linear {u = u} {bs = bs} {os = os} {rest = rest} e a m) x f =
      let w = within-first (length rest) os (bs ∷ []) (merge-within m) in
      elim (either (u == x) (has x rest) f) [
        | inl h ↦ (u ∷ rest, subst (λ (y : ℕ). Linearizes g y (u ∷ rest)) (same u x h) (linear e a m), omega arith)
        | inr h ↦
            weaken g (length rest) (length (u ∷ rest)) x (omega arith)
            (elim (rest-from os bs rest x m h) [
              | inl i ↦ any-has a (length rest) x w i
              | inr i ↦ each-within a (length rest) x w i
            ])
      ]

  any-has : {g : List (List ℕ)} {us : List ℕ} {os : List (List ℕ)} → AllLinearize g us os → (n x : ℕ) → AllWithin n os → has_any x os ≡ true → Within g n x
  any-has none n x w e = absurd (cc)
  any-has {g} (more {o = o} {os = os} l a) n x w e =
      elim (either (has x o) (has_any x os) e) [
        | inl f ↦ weaken g (length o) n x w.0 (linear-has l x f)
        | inr f ↦ any-has a n x w.1 f
      ]

rest-has : {g : List (List ℕ)} {bs : List ℕ} {os : List (List ℕ)} → AllLinearize g bs os → {rest : List ℕ} → Merges (os ++ bs ∷ []) rest → (x : ℕ) → has x rest ≡ true → Within g (length rest) x
rest-has {g} {bs} {os} a {rest} m x f =
    let w = within-first (length rest) os (bs ∷ []) (merge-within m) in
    elim (rest-from os bs rest x m f) [
      | inl i ↦ any-has a (length rest) x w i
      | inr i ↦ each-within a (length rest) x w i
    ]

pub linear-once : {g : List (List ℕ)} {u : ℕ} {o : List ℕ} → Linearizes g u o → Once o
linear-once {g} (linear {u = u} {bs = bs} {os = os} {rest = rest} e a m) = (
  not-true (has u rest) (λ f. let (p, h, s) = rest-has a m u f in let q : length (u ∷ rest) ≡ length p = ap length (linear-unique (linear e a m) h) in absurd (omega arith)),
  merge-once m,
)

-- ---- units with one base

alone-merged : (xs : List ℕ) → Once xs → Merges (xs ∷ [] ∷ []) xs
alone-merged [] o = ended refl
alone-merged (x ∷ xs) o =
    let free : list_any (is_behind x) ((x ∷ xs) ∷ [] ∷ []) ≡ false = ap (λ (b : Bool). b || (false || false)) o.0 in
    let next : next_of ((x ∷ xs) ∷ [] ∷ []) ≡ Some x = ap (λ (b : Bool). if b then None else Some x) free in
    let left : without_head x (x ∷ xs) ≡ xs = ap (λ (b : Bool). if b then xs else x ∷ xs) (own x) in
    taken next (subst (λ (l : List ℕ). Merges (l ∷ [] ∷ []) xs) (sym left) (alone-merged xs o.1))

one-merged : (b : ℕ) (t : List ℕ) → Once (b ∷ t) → Merges ((b ∷ t) ∷ (b ∷ []) ∷ []) (b ∷ t)
one-merged b t o =
    let free : list_any (is_behind b) ((b ∷ t) ∷ (b ∷ []) ∷ []) ≡ false = ap (λ (c : Bool). c || (false || false)) o.0 in
    let next : next_of ((b ∷ t) ∷ (b ∷ []) ∷ []) ≡ Some b = ap (λ (c : Bool). if c then next_among ((b ∷ t) ∷ (b ∷ []) ∷ []) ((b ∷ []) ∷ []) else Some b) free in
    let left : without_head b (b ∷ t) ≡ t = ap (λ (c : Bool). if c then t else b ∷ t) (own b) in
    let last : without_head b (b ∷ []) ≡ [] = ap (λ (c : Bool). if c then [] else b ∷ []) (own b) in
    taken next (subst (λ (l : List ℕ). Merges (l ∷ without_head b (b ∷ []) ∷ []) t) (sym left) (subst (λ (l : List ℕ). Merges (t ∷ l ∷ []) t) (sym last) (alone-merged t o.1)))

first-is : {g : List (List ℕ)} {b : ℕ} {o : List ℕ} → Linearizes g b o → (t : List ℕ) × (o ≡ b ∷ t)
first-is (linear {rest = rest} e a m) = (rest, refl)

-- the order of a unit with one base is the unit and then the base's
pub one-linear : (g : List (List ℕ)) (u b : ℕ) (o : List ℕ) → slice_get g u ≡ Some (b ∷ []) → Linearizes g b o → Linearizes g u (u ∷ o)
one-linear g u b o e l =
    let f = first-is l in
    let merged : Merges (o ∷ (b ∷ []) ∷ []) o = subst (λ (p : List ℕ). Merges (p ∷ (b ∷ []) ∷ []) p) (sym f.1) (one-merged b f.0 (subst Once f.1 (linear-once l))) in
    linear e (more l none) merged

-- each base of a unit that has an order has a shorter one
pub base-linear : (g : List (List ℕ)) (u b : ℕ) (bs o : List ℕ) → slice_get g u ≡ Some bs → has b bs ≡ true → Linearizes g u o → (p : List ℕ) × Linearizes g b p × (length p < length o)
base-linear g u b bs o e h (linear {bs = cs} {os = os} {rest = rest} f a m) =
    let s : cs ≡ bs = cc in
    let w = each-within a (length rest) b (within-first (length rest) os (cs ∷ []) (merge-within m)) (subst (λ (ds : List ℕ). has b ds ≡ true) (sym s) h) in
    (w.0, w.1, omega (arith, w.2))
