-- Sums over lists.
use Rattle.std.proofs.Common.{◌≡◌, ◌≢◌, ℕ, zero, suc, ◌+◌, ◌<◌, ◌≤◌, ◌==◌, List, [], ◌∷◌, ◌++◌, length, set, subst, ⊎_elim, if◌then◌else◌, sym, refl, ap, add-zero, arith, ◌⊎◌, inl, inr}
use mathlib.Core.Logic.{dite}
use mathlib.Core.Option.{some, some-injective, some-ne-none}
use native.Mathlib.Decide.{ℕ_discrete}
use lib.ListN.{get_elem?}
use Rattle.atomic_table.proofs.Lists.{at_set}
use Rattle.lists.proofs.Tests.{same-is, same-not}
use Rattle.pool_lock.specs.Weights.{weigh, upto}

module _ {A : Type 0} where
  pub weigh-set : (f : A → ℕ) (l : List (A)) (i : ℕ) (v w : A) → get_elem? l i ≡ some v → weigh f (set l i w) + f v ≡ weigh f l + f w
  weigh-set f [] i v w e = absurd (some-ne-none v (sym e))
  weigh-set f (x ∷ xs) zero v w e = let is : f x ≡ f v = ap f (some-injective x v e) in omega arith
  weigh-set f (x ∷ xs) (suc i) v w e = let r = weigh-set f xs i v w e in omega arith

  pub weigh-snoc : (f : A → ℕ) (l : List (A)) (v : A) → weigh f (l ++ v ∷ []) ≡ weigh f l + f v
  weigh-snoc f [] v = omega arith
  weigh-snoc f (x ∷ xs) v = let r = weigh-snoc f xs v in omega arith

  pub weigh-one : (f : A → ℕ) (l : List (A)) (i : ℕ) (v : A) → get_elem? l i ≡ some v → f v ≤ weigh f l
  weigh-one f [] i v e = absurd (some-ne-none v (sym e))
  weigh-one f (x ∷ xs) zero v e = let is : f x ≡ f v = ap f (some-injective x v e) in omega arith
  weigh-one f (x ∷ xs) (suc i) v e = let r = weigh-one f xs i v e in omega arith

  -- two places are two parts of a sum
  pub weigh-two : (f : A → ℕ) (l : List (A)) (i j : ℕ) (v w : A) → i ≢ j → get_elem? l i ≡ some v → get_elem? l j ≡ some w → f v + f w ≤ weigh f l
  weigh-two f [] i j v w n e d = absurd (some-ne-none v (sym e))
  weigh-two f (x ∷ xs) zero zero v w n e d = absurd (n refl)
  weigh-two f (x ∷ xs) zero (suc j) v w n e d = let is : f x ≡ f v = ap f (some-injective x v e) in let r = weigh-one f xs j w d in omega arith
  weigh-two f (x ∷ xs) (suc i) zero v w n e d = let is : f x ≡ f w = ap f (some-injective x w d) in let r = weigh-one f xs i v e in omega arith
  weigh-two f (x ∷ xs) (suc i) (suc j) v w n e d = let r = weigh-two f xs i j v w (λ q. n (ap suc q)) e d in omega arith

  pub weigh-le : (f g : A → ℕ) (l : List (A)) → ((i : ℕ) (v : A) → get_elem? l i ≡ some v → f v ≤ g v) → weigh f l ≤ weigh g l
  weigh-le f g [] h = omega arith
  weigh-le f g (x ∷ xs) h = let a = h 0 x refl in let b = weigh-le f g xs (λ i v e. h (suc i) v e) in omega arith

  weigh-none : (f : A → ℕ) (l : List (A)) → ((j : ℕ) (u : A) → get_elem? l j ≡ some u → f u ≡ 0) → weigh f l ≡ 0
  weigh-none f [] h = refl
  weigh-none f (x ∷ xs) h = let a = h zero x refl in let r = weigh-none f xs (λ j u e. h (suc j) u e) in omega arith

  -- where all others weigh nothing
  pub weigh-alone : (f : A → ℕ) (l : List (A)) (id : ℕ) (v : A) → get_elem? l id ≡ some v → ((j : ℕ) (u : A) → j ≢ id → get_elem? l j ≡ some u → f u ≡ 0) → weigh f l ≡ f v
  weigh-alone f [] id v e h = absurd (some-ne-none v (sym e))
  weigh-alone f (x ∷ xs) zero v e h = let is : f x ≡ f v = ap f (some-injective x v e) in let r = weigh-none f xs (λ j u g. h (suc j) u (λ q. omega arith) g) in omega arith
  weigh-alone f (x ∷ xs) (suc id) v e h = let z = h zero x (λ q. omega arith) refl in let r = weigh-alone f xs id v e (λ j u n g. h (suc j) u (λ q. n (omega arith)) g) in omega arith

  -- what holds of each entry, where one changes
  pub fits-set : (P : A → Type 0) (vs : List (A)) (id : ℕ) (w : A) → P w → ((j : ℕ) (v : A) → j ≢ id → get_elem? vs j ≡ some v → P v) → (j : ℕ) (v : A) → get_elem? (set vs id w) j ≡ some v → P v
  fits-set P vs id w mine others j v e = ⊎_elim (λ (t : (j ≡ id) × (w ≡ v)). subst P t.1 mine) (λ (t : (j ≢ id) × (get_elem? vs j ≡ some v)). others j v t.0 t.1) (at_set vs id j w v e)

  pub weigh-append : (f : A → ℕ) (xs ys : List A) → weigh f (xs ++ ys) ≡ weigh f xs + weigh f ys
  weigh-append f [] ys = omega arith
  weigh-append f (x ∷ xs) ys = let r = weigh-append f xs ys in omega arith

-- ---- sums over numbers

pub weigh-length : (xs : List ℕ) → weigh (λ _. 1) xs ≡ length xs
weigh-length [] = refl
weigh-length (x ∷ xs) = let r = weigh-length xs in omega arith

pub length-upto : (k n : ℕ) → length (upto k n) ≡ n
length-upto k zero = refl
length-upto k (suc n) = let r = length-upto (k + 1) n in omega arith

-- 1 at this number, and 0 at all others
abbrev pub is : ℕ → ℕ → ℕ
is k x = if x == k then 1 else 0

pub is-here : (k x : ℕ) → x ≡ k → is k x ≡ 1
is-here k x e = rw (same-is x k e) refl

pub is-else : (k x : ℕ) → x ≢ k → is k x ≡ 0
is-else k x n = rw (same-not x k n) refl

is-most : (k x : ℕ) → is k x ≤ 1
is-most k x = dite (ℕ_discrete x k) (λ e. let h = is-here k x e in omega arith) (λ n. let h = is-else k x n in omega arith)

-- a number that lies before or behind isn't among them
pub upto-none : (k a n : ℕ) → ((k < a) ⊎ (a + n ≤ k)) → weigh (is k) (upto a n) ≡ 0
upto-none k a zero h = refl
upto-none k a (suc n) (inl h) = let z = is-else k a (λ e. omega arith) in let r = upto-none k (a + 1) n (inl (omega arith)) in omega arith
upto-none k a (suc n) (inr h) = let z = is-else k a (λ e. omega arith) in let r = upto-none k (a + 1) n (inr (omega arith)) in omega arith

pub upto-snoc : (h : ℕ → ℕ) (k n : ℕ) → weigh h (upto k (suc n)) ≡ weigh h (upto k n) + h (k + n)
upto-snoc h k zero = let e : h k ≡ h (k + 0) = ap h (sym (add-zero k)) in omega arith
upto-snoc h k (suc n) = let r = upto-snoc h (k + 1) n in let e : h ((k + 1) + n) ≡ h (k + suc n) = ap h (omega arith) in omega arith

pub upto-once : (k a n : ℕ) → weigh (is k) (upto a n) ≤ 1
upto-once k a zero = omega arith
upto-once k a (suc n) =
    dite (ℕ_discrete a k)
    (λ e. let z = is-here k a e in let r = upto-none k (a + 1) n (inl (omega arith)) in omega arith)
    (λ ne. let z = is-else k a ne in let r = upto-once k (a + 1) n in omega arith)
