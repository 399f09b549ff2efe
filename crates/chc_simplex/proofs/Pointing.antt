-- Where no slack is above its bound, the point satisfies the rows.
use Rattle.std.proofs.Common.{◌≡◌, ◌∙◌, sym, ap, subst, refl, ℕ, zero, suc, ◌+◌, ◌*◌, ◌<◌, ◌≤◌, List, [], ◌∷◌, length, Option, Some, None, Bool, true, false, cond, arith, pos, ◌+ℤ◌, ◌-ℤ◌, ◌*ℤ◌, ◌≤ℤ◌, neg_ℤ, inl, inr}
use lib.IntN.{ℤ, negsuc}
use Prim.Native.Nat.{◌∣◌}
use native.Mathlib.Nat.{dvd-mul_left, dvd-mul_right}
use Rattle.std.specs.Prelude.{nat_lt, int_div, unsigned_abs}
use Rattle.std.proofs.lemmas.Int.{ints, unsigned_abs-mul}
use Rattle.std.proofs.lemmas.Nat.Gcd.{dvd_trans, dvd_refl}
use Rattle.chc_nums.specs.Wide.{in_128}
use Rattle.chc_nums.proofs.Fits.{in_128-value}
use Rattle.chc_nums.proofs.Ring.{mul-add, mul-assoc, mul-comm, zero-mul, mul-nonneg-nonpos, mul-neg}
use Rattle.chc_nums.specs.Values.{with_value}
use Rattle.chc_form.specs.declared.linear.Lin.{Lin}
use Rattle.chc_form.specs.Linear.{sum_of, FracSatisfies}
use Rattle.chc_simplex.specs.declared.data.Line.{Line}
use Rattle.chc_simplex.specs.declared.data.Lp.{Lp}
use Rattle.chc_simplex.specs.declared.data.Lp.TheVariants as lp
use Rattle.chc_simplex.specs.Divisors.{gcd}
use Rattle.chc_simplex.specs.Terms.{Terms, sums_from}
use Rattle.chc_simplex.specs.Lines.{Tableau, line_at, denominator_of}
use Rattle.chc_simplex.specs.Rounds.{rest_at, first_above}
use Rattle.chc_form.specs.RowSums.{number_at, terms_width, width}
use Rattle.chc_simplex.specs.Endings.{lowest, fraction, fractions, multiple, multiples, numerator, numerators, point_of, point}
use Rattle.chc_simplex.specs.TableauRun.{bounds_of}
use Rattle.chc_simplex.specs.Answers.{Answers}
use Rattle.chc_simplex.proofs.Steps.{gcd-is}
use Rattle.chc_simplex.proofs.Orders.{Within}
use Rattle.chc_nums.proofs.Values.{value-some}
use Rattle.chc_simplex.proofs.Division.{above-product, cancel, cancel-le, exact, divisor-some, abs-some, quotient-above}
use Rattle.chc_simplex.proofs.Invariance.{Nonbasic, Defines, Holds, Valid, Invariant}
use Rattle.chc_simplex.proofs.Scanning.{sums-value, none-found}
use Rattle.chc_simplex.proofs.Refuting.{Reads, bounds-read, rest_at-slack, rest_at-variable, sum-scale}
use Rattle.lists.proofs.Tests.{less-true, less-false}
use Rattle.std.proofs.lemmas.Bool.{cases_Bool}

-- ---- fractions

-- f is the value of a variable with this line, where the nonbasic variables rest
abbrev IsFraction : (ℕ → ℤ) → Option Line → ℤ × ℤ → Type 0
IsFraction x None f = (pos 1 ≤ℤ f.1) × (f.0 ≡ pos 0)
IsFraction x (Some l) f = (pos 1 ≤ℤ f.1) × (f.0 *ℤ l.denominator ≡ sum_of l.terms x *ℤ f.1)

abbrev AreFractions : (ℕ → ℤ) → Tableau → List (ℤ × ℤ) → Type 0
AreFractions x os [] = Unit {0}
AreFractions x [] (f ∷ fs) = ⊥
AreFractions x (o ∷ os) (f ∷ fs) = IsFraction x o f × AreFractions x os fs

abs-above : (a : ℤ) → pos 1 ≤ℤ a → pos (unsigned_abs a) ≡ a
abs-above (pos n) h = refl
abs-above (negsuc n) h = absurd (omega (arith, ints))

lowest-ring : (g v d x q : ℤ) → g *ℤ x ≡ v → g *ℤ q ≡ d → x *ℤ d ≡ v *ℤ q
lowest-ring g v d x q hv hd = ap (λ (y : ℤ). x *ℤ y) (sym hd) ∙ mul-assoc x g q ∙ ap (λ (y : ℤ). y *ℤ q) (mul-comm x g ∙ hv)

lowest-parts : (g v d x q : ℤ) (f : ℤ × ℤ) → pos 1 ≤ℤ g → pos 1 ≤ℤ d → g *ℤ x ≡ v → g *ℤ q ≡ d → ◌≡◌ {A = ℤ × ℤ} (x, q) f → (pos 1 ≤ℤ f.1) × (f.0 *ℤ d ≡ v *ℤ f.1)
lowest-parts g v d x q f a p hv hd same = subst (λ (e : ℤ × ℤ). (pos 1 ≤ℤ e.1) × (e.0 *ℤ d ≡ v *ℤ e.1)) same (quotient-above g q d a p hd, lowest-ring g v d x q hv hd)

lowest-is : (v d : ℤ) (f : ℤ × ℤ) → pos 1 ≤ℤ d → lowest v d ≡ Some f → (pos 1 ≤ℤ f.1) × (f.0 *ℤ d ≡ v *ℤ f.1)
lowest-is v d f p h =
    let c : ℕ = gcd (unsigned_abs v) (unsigned_abs d) in
    let divides = gcd-is (unsigned_abs v) (unsigned_abs d) in
    let above : pos 1 ≤ℤ pos c = let b : 0 < c = divisor-some (unsigned_abs d) c (abs-some d p) divides.1 in omega (arith, ints) in
    let g = value-some (in_128 (pos c)) (λ g. with_value (in_128 (int_div v g)) (λ x. with_value (in_128 (int_div d g)) (λ q. Some (x, q)))) f h in
    let x = value-some (in_128 (int_div v g.0)) (λ x. with_value (in_128 (int_div d g.0)) (λ q. Some (x, q))) f g.2 in
    let q = value-some (in_128 (int_div d g.0)) (λ q. Some (x.0, q)) f x.2 in
    let whole : g.0 ≡ pos c = in_128-value (pos c) g.0 g.1 in
    let hv : pos c *ℤ x.0 ≡ v = ap (λ (y : ℤ). pos c *ℤ y) (in_128-value (int_div v g.0) x.0 x.1 ∙ ap (int_div v) whole) ∙ exact v c divides.0 in
    let hd : pos c *ℤ q.0 ≡ d = ap (λ (y : ℤ). pos c *ℤ y) (in_128-value (int_div d g.0) q.0 q.1 ∙ ap (int_div d) whole) ∙ exact d c divides.1 in
    let same : ◌≡◌ {A = ℤ × ℤ} (x.0, q.0) f = cc (q.2) in
    lowest-parts (pos c) v d x.0 q.0 f above p hv hd same

fraction-is : (n : ℕ) (bounds : List ℤ) (o : Option Line) (f : ℤ × ℤ) → pos 1 ≤ℤ denominator_of o → fraction n bounds o ≡ Some f → IsFraction (rest_at n bounds) o f
fraction-is n bounds None f p h =
    let same : ◌≡◌ {A = ℤ × ℤ} (pos 0, pos 1) f = cc (h) in
    subst (λ (e : ℤ × ℤ). (pos 1 ≤ℤ e.1) × (e.0 ≡ pos 0)) same (omega (arith, ints), refl)
fraction-is n bounds (Some l) f p h =
    let v = value-some (sums_from (pos 0) l.terms (rest_at n bounds)) (λ v. lowest v l.denominator) f h in
    let x = lowest-is v.0 l.denominator f p v.2 in
    let whole : v.0 ≡ sum_of l.terms (rest_at n bounds) = omega (arith, ints, sums-value (pos 0) l.terms (rest_at n bounds) v.0 v.1) in
    (x.0, x.1 ∙ ap (λ (y : ℤ). y *ℤ f.1) whole)

-- each denominator is above 0
abbrev Above : Tableau → Type 0
Above [] = Unit {0}
Above (o ∷ os) = (pos 1 ≤ℤ denominator_of o) × Above os

pick-yes : {A : Type 0} (b : Bool) (x y z : A) → b ≡ true → cond b x y ≡ z → x ≡ z
pick-yes true x y z h e = e
pick-yes false x y z h e = absurd (cc (h))

pick-no : {A : Type 0} (b : Bool) (x y z : A) → b ≡ false → cond b x y ≡ z → y ≡ z
pick-no true x y z h e = absurd (cc (h))
pick-no false x y z h e = e

first-of : (n : ℕ) (bounds : List ℤ) (v : ℕ) (o : Option Line) (os : Tableau) (fs : List (ℤ × ℤ)) → nat_lt v n ≡ true → fractions n bounds v (o ∷ os) ≡ Some fs → with_value (fraction n bounds o) (λ f. with_value (fractions n bounds (v + 1) os) (λ fs. Some (f ∷ fs))) ≡ Some fs
first-of n bounds v o os fs b h =
    pick-yes (nat_lt v n) (with_value (fraction n bounds o) (λ f. with_value (fractions n bounds (v + 1) os) (λ fs. Some (f ∷ fs)))) (Some []) (Some fs) b h

last-of : (n : ℕ) (bounds : List ℤ) (v : ℕ) (o : Option Line) (os : Tableau) (fs : List (ℤ × ℤ)) → nat_lt v n ≡ false → fractions n bounds v (o ∷ os) ≡ Some fs → [] ≡ fs
last-of n bounds v o os fs b h =
    let e : ◌≡◌ {A = Option (List (ℤ × ℤ))} (Some []) (Some fs) =
    pick-no (nat_lt v n) (with_value (fraction n bounds o) (λ f. with_value (fractions n bounds (v + 1) os) (λ fs. Some (f ∷ fs)))) (Some []) (Some fs) b h in
    cc (e)

fractions-are : (n : ℕ) (bounds : List ℤ) (v : ℕ) (tab : Tableau) (fs : List (ℤ × ℤ)) → Above tab → fractions n bounds v tab ≡ Some fs → AreFractions (rest_at n bounds) tab fs
fractions-are n bounds v [] fs a h = let q : [] ≡ fs = cc (h) in subst (AreFractions (rest_at n bounds) []) q tt
fractions-are n bounds v (o ∷ os) fs a h =
    elim (cases_Bool (nat_lt v n)) [
      | inl b ↦
          let f = value-some (fraction n bounds o) (λ f. with_value (fractions n bounds (v + 1) os) (λ fs. Some (f ∷ fs))) fs (first-of n bounds v o os fs b h) in
          let more = value-some (fractions n bounds (v + 1) os) (λ fs. Some (f.0 ∷ fs)) fs f.2 in
          let q : f.0 ∷ more.0 ≡ fs = cc (more.2) in
          subst (AreFractions (rest_at n bounds) (o ∷ os)) q (fraction-is n bounds o f.0 a.0 f.1, fractions-are n bounds (v + 1) os more.0 a.1 more.1)
      | inr b ↦ let q : [] ≡ fs = last-of n bounds v o os fs b h in subst (AreFractions (rest_at n bounds) (o ∷ os)) q tt
    ]

fractions-length : (n : ℕ) (bounds : List ℤ) (v : ℕ) (tab : Tableau) (fs : List (ℤ × ℤ)) → v ≤ n → n ≤ v + length tab → fractions n bounds v tab ≡ Some fs → v + length fs ≡ n
fractions-length n bounds v [] fs l m h = let q : [] ≡ fs = cc (h) in subst (λ (xs : List (ℤ × ℤ)). v + length xs ≡ n) q (omega arith)
fractions-length n bounds v (o ∷ os) fs l m h =
    elim (cases_Bool (nat_lt v n)) [
      | inl b ↦
          let f = value-some (fraction n bounds o) (λ f. with_value (fractions n bounds (v + 1) os) (λ fs. Some (f ∷ fs))) fs (first-of n bounds v o os fs b h) in
          let more = value-some (fractions n bounds (v + 1) os) (λ fs. Some (f.0 ∷ fs)) fs f.2 in
          let q : f.0 ∷ more.0 ≡ fs = cc (more.2) in
          let i = fractions-length n bounds (v + 1) os more.0 (omega (arith, less-true v n b)) (omega arith) more.1 in
          subst (λ (xs : List (ℤ × ℤ)). v + length xs ≡ n) q (omega (arith, i))
      | inr b ↦ let q : [] ≡ fs = last-of n bounds v o os fs b h in subst (λ (xs : List (ℤ × ℤ)). v + length xs ≡ n) q (omega (arith, less-false v n b))
    ]

-- ---- one denominator

-- each denominator is above 0 and divides m
abbrev Dividing : ℤ → List (ℤ × ℤ) → Type 0
Dividing m [] = Unit {0}
Dividing m (f ∷ fs) = (pos 1 ≤ℤ f.1) × (unsigned_abs f.1 ∣ unsigned_abs m) × Dividing m fs

multiple-is : (a b m : ℤ) → pos 1 ≤ℤ a → pos 1 ≤ℤ b → multiple a b ≡ Some m → (pos 1 ≤ℤ m) × (unsigned_abs a ∣ unsigned_abs m) × (unsigned_abs b ∣ unsigned_abs m)
multiple-is a b m p q h =
    let c : ℕ = gcd (unsigned_abs a) (unsigned_abs b) in
    let divides = gcd-is (unsigned_abs a) (unsigned_abs b) in
    let above : pos 1 ≤ℤ pos c = let i : 0 < c = divisor-some (unsigned_abs a) c (abs-some a p) divides.0 in omega (arith, ints) in
    let g = value-some (in_128 (pos c)) (λ g. with_value (in_128 (int_div a g)) (λ k. in_128 (k *ℤ b))) m h in
    let k = value-some (in_128 (int_div a g.0)) (λ k. in_128 (k *ℤ b)) m g.2 in
    let whole : g.0 ≡ pos c = in_128-value (pos c) g.0 g.1 in
    let ha : pos c *ℤ k.0 ≡ a = ap (λ (y : ℤ). pos c *ℤ y) (in_128-value (int_div a g.0) k.0 k.1 ∙ ap (int_div a) whole) ∙ exact a c divides.0 in
    let hb : pos c *ℤ int_div b (pos c) ≡ b = exact b c divides.1 in
    let hm : m ≡ k.0 *ℤ b = in_128-value (k.0 *ℤ b) m k.2 in
    let ka : pos 1 ≤ℤ k.0 = quotient-above (pos c) k.0 a above p ha in
    let other : a *ℤ int_div b (pos c) ≡ m =
    ap (λ (y : ℤ). y *ℤ int_div b (pos c)) (sym ha ∙ mul-comm (pos c) k.0) ∙ sym (mul-assoc k.0 (pos c) (int_div b (pos c))) ∙ ap (λ (y : ℤ). k.0 *ℤ y) hb ∙ sym hm in
    let by_a : unsigned_abs a * unsigned_abs (int_div b (pos c)) ≡ unsigned_abs m = sym (unsigned_abs-mul a (int_div b (pos c))) ∙ ap unsigned_abs other in
    let by_b : unsigned_abs k.0 * unsigned_abs b ≡ unsigned_abs m = sym (unsigned_abs-mul k.0 b) ∙ ap unsigned_abs (sym hm) in (
      omega (arith, ints, hm, above-product k.0 b ka q),
      subst (λ (n : ℕ). unsigned_abs a ∣ n) by_a (dvd-mul_right (unsigned_abs a) (unsigned_abs (int_div b (pos c)))),
      subst (λ (n : ℕ). unsigned_abs b ∣ n) by_b (dvd-mul_left (unsigned_abs b) (unsigned_abs k.0)),
    )

-- each denominator is above 0
abbrev AllAbove : List (ℤ × ℤ) → Type 0
AllAbove [] = Unit {0}
AllAbove (f ∷ fs) = (pos 1 ≤ℤ f.1) × AllAbove fs

multiples-are : (a : ℤ) (fs : List (ℤ × ℤ)) (m : ℤ) → pos 1 ≤ℤ a → AllAbove fs → multiples a fs ≡ Some m → (pos 1 ≤ℤ m) × (unsigned_abs a ∣ unsigned_abs m) × Dividing m fs
multiples-are a [] m p s h =
    let q : a ≡ m = cc (h) in
    subst (λ (k : ℤ). (pos 1 ≤ℤ k) × (unsigned_abs a ∣ unsigned_abs k) × Unit {0}) q (p, dvd_refl (unsigned_abs a), tt)
multiples-are a (f ∷ fs) m p s h =
    let k = value-some (multiple a f.1) (λ k. multiples k fs) m h in
    let x = multiple-is a f.1 k.0 p s.0 k.1 in
    let i = multiples-are k.0 fs m x.0 s.1 k.2 in
    (i.0, dvd_trans (unsigned_abs a) x.1 i.1, (s.0, dvd_trans (unsigned_abs f.1) x.2 i.1, i.2))

numerators-length : (m : ℤ) (fs : List (ℤ × ℤ)) (xs : List ℤ) → numerators m fs ≡ Some xs → length xs ≡ length fs
numerators-length m [] xs h = let q : [] ≡ xs = cc (h) in subst (λ (ys : List ℤ). length ys ≡ 0) q refl
numerators-length m (f ∷ fs) xs h =
    let x = value-some (numerator m f) (λ x. with_value (numerators m fs) (λ xs. Some (x ∷ xs))) xs h in
    let more = value-some (numerators m fs) (λ xs. Some (x.0 ∷ xs)) xs x.2 in
    let q : x.0 ∷ more.0 ≡ xs = cc (more.2) in
    subst (λ (ys : List ℤ). length ys ≡ suc (length fs)) q (ap suc (numerators-length m fs more.0 more.1))

-- x over m is the fraction f
numerator-is : (m : ℤ) (f : ℤ × ℤ) (x : ℤ) → pos 1 ≤ℤ f.1 → unsigned_abs f.1 ∣ unsigned_abs m → numerator m f ≡ Some x → (k : ℤ) × (x ≡ f.0 *ℤ k) × (f.1 *ℤ k ≡ m)
numerator-is m f x p d h =
    let k = value-some (in_128 (int_div m f.1)) (λ k. in_128 (f.0 *ℤ k)) x h in
    let same : pos (unsigned_abs f.1) ≡ f.1 = abs-above f.1 p in
    let whole : f.1 *ℤ int_div m f.1 ≡ m = subst (λ (y : ℤ). y *ℤ int_div m y ≡ m) same (exact m (unsigned_abs f.1) d) in
    (k.0, in_128-value (f.0 *ℤ k.0) x k.2, ap (λ (y : ℤ). f.1 *ℤ y) (in_128-value (int_div m f.1) k.0 k.1) ∙ whole)

-- x over m is the value of a variable with this line
abbrev IsPlace : (ℕ → ℤ) → ℤ → Option Line → ℤ → Type 0
IsPlace r m None x = x ≡ pos 0
IsPlace r m (Some l) x = l.denominator *ℤ x ≡ m *ℤ sum_of l.terms r

abbrev ArePlaces : (ℕ → ℤ) → ℤ → Tableau → List ℤ → Type 0
ArePlaces r m os [] = Unit {0}
ArePlaces r m [] (x ∷ xs) = ⊥
ArePlaces r m (o ∷ os) (x ∷ xs) = IsPlace r m o x × ArePlaces r m os xs

-- u / q over m in place of s / d
place-ring : (u q m s d x k : ℤ) → pos 1 ≤ℤ q → u *ℤ d ≡ s *ℤ q → x ≡ u *ℤ k → q *ℤ k ≡ m → d *ℤ x ≡ m *ℤ s
place-ring u q m s d x k p hu hx hk =
    let left : d *ℤ x ≡ (u *ℤ d) *ℤ k = ap (λ (y : ℤ). d *ℤ y) hx ∙ mul-assoc d u k ∙ ap (λ (y : ℤ). y *ℤ k) (mul-comm d u) in
    let right : (s *ℤ q) *ℤ k ≡ m *ℤ s = sym (mul-assoc s q k) ∙ ap (λ (y : ℤ). s *ℤ y) hk ∙ mul-comm s m in
    left ∙ ap (λ (y : ℤ). y *ℤ k) hu ∙ right

place-is : (r : ℕ → ℤ) (m : ℤ) (o : Option Line) (f : ℤ × ℤ) (x : ℤ) → IsFraction r o f → unsigned_abs f.1 ∣ unsigned_abs m → numerator m f ≡ Some x → IsPlace r m o x
place-is r m None f x p d h =
    let n = numerator-is m f x p.0 d h in
    n.1 ∙ ap (λ (y : ℤ). y *ℤ n.0) p.1 ∙ zero-mul n.0
place-is r m (Some l) f x p d h =
    let n = numerator-is m f x p.0 d h in
    place-ring f.0 f.1 m (sum_of l.terms r) l.denominator x n.0 p.0 p.1 n.1 n.2

places-are : (r : ℕ → ℤ) (m : ℤ) (os : Tableau) (fs : List (ℤ × ℤ)) (xs : List ℤ) → AreFractions r os fs → Dividing m fs → numerators m fs ≡ Some xs → ArePlaces r m os xs
places-are r m os [] xs p d h = let q : [] ≡ xs = cc (h) in subst (ArePlaces r m os) q tt
places-are r m [] (f ∷ fs) xs p d h = absurd p
places-are r m (o ∷ os) (f ∷ fs) xs p d h =
    let x = value-some (numerator m f) (λ x. with_value (numerators m fs) (λ xs. Some (x ∷ xs))) xs h in
    let more = value-some (numerators m fs) (λ xs. Some (x.0 ∷ xs)) xs x.2 in
    let q : x.0 ∷ more.0 ≡ xs = cc (more.2) in
    subst (ArePlaces r m (o ∷ os)) q (place-is r m o f x.0 p.0 d.1 x.1, places-are r m os fs more.0 p.1 d.2 more.1)

place-at : (r : ℕ → ℤ) (m : ℤ) (os : Tableau) (xs : List ℤ) (j : ℕ) → ArePlaces r m os xs → j < length xs → IsPlace r m (line_at os j) (number_at xs j)
place-at r m os [] j p h = absurd (omega arith)
place-at r m [] (x ∷ xs) j p h = absurd p
place-at r m (o ∷ os) (x ∷ xs) zero p h = p.0
place-at r m (o ∷ os) (x ∷ xs) (suc j) p h = place-at r m os xs j p.1 (omega arith)

fractions-above : (x : ℕ → ℤ) (os : Tableau) (fs : List (ℤ × ℤ)) → AreFractions x os fs → AllAbove fs
fractions-above x os [] p = tt
fractions-above x [] (f ∷ fs) p = absurd p
fractions-above x (None ∷ os) (f ∷ fs) p = (p.0.0, fractions-above x os fs p.1)
fractions-above x (Some l ∷ os) (f ∷ fs) p = (p.0.0, fractions-above x os fs p.1)

-- ---- values of all variables

abbrev total : Tableau → ℤ
total [] = pos 1
total (o ∷ os) = denominator_of o *ℤ total os

-- the product of all denominators but one
abbrev cofactor : Tableau → ℕ → ℤ
cofactor [] i = pos 1
cofactor (o ∷ os) zero = total os
cofactor (o ∷ os) (suc i) = denominator_of o *ℤ cofactor os i

total-above : (tab : Tableau) → Above tab → pos 1 ≤ℤ total tab
total-above [] a = omega (arith, ints)
total-above (o ∷ os) a = above-product (denominator_of o) (total os) a.0 (total-above os a.1)

cofactor-above : (tab : Tableau) (i : ℕ) → Above tab → pos 1 ≤ℤ cofactor tab i
cofactor-above [] i a = omega (arith, ints)
cofactor-above (o ∷ os) zero a = total-above os a.1
cofactor-above (o ∷ os) (suc i) a = above-product (denominator_of o) (cofactor os i) a.0 (cofactor-above os i a.1)

total-split : (tab : Tableau) (i : ℕ) (l : Line) → line_at tab i ≡ Some l → total tab ≡ l.denominator *ℤ cofactor tab i
total-split [] i l h = absurd (cc (h))
total-split (o ∷ os) zero l h = ap (λ (q : Option Line). denominator_of q *ℤ total os) h
total-split (o ∷ os) (suc i) l h =
    let d : ℤ = denominator_of o in
    ap (λ (y : ℤ). denominator_of o *ℤ y) (total-split os i l h)
    ∙ mul-assoc (denominator_of o) l.denominator (cofactor os i)
    ∙ ap (λ (y : ℤ). y *ℤ cofactor os i) (mul-comm (denominator_of o) l.denominator)
    ∙ sym (mul-assoc l.denominator (denominator_of o) (cofactor os i))

all-above : (tab : Tableau) → ((i : ℕ) (l : Line) → line_at tab i ≡ Some l → pos 1 ≤ℤ l.denominator) → Above tab
all-above [] f = tt
all-above (None ∷ os) f = (omega (arith, ints), all-above os (λ i l h. f (suc i) l h))
all-above (Some l ∷ os) f = (f 0 l refl, all-above os (λ i l h. f (suc i) l h))

-- a variable's value times the product of all denominators and m
abbrev spread : (ℕ → ℤ) → ℤ → ℤ → ℤ → ℕ → Option Line → ℤ
spread r m k c i None = (k *ℤ m) *ℤ r i
spread r m k c i (Some l) = c *ℤ (m *ℤ sum_of l.terms r)

abbrev spread_at : (ℕ → ℤ) → ℤ → Tableau → ℕ → ℤ
spread_at r m tab i = spread r m (total tab) (cofactor tab i) i (line_at tab i)

spread-nonbasic : (r : ℕ → ℤ) (m : ℤ) (tab : Tableau) (i : ℕ) → line_at tab i ≡ None → spread_at r m tab i ≡ (total tab *ℤ m) *ℤ r i
spread-nonbasic r m tab i h = ap (spread r m (total tab) (cofactor tab i) i) h

spread-basic : (r : ℕ → ℤ) (m : ℤ) (tab : Tableau) (i : ℕ) (l : Line) → line_at tab i ≡ Some l → spread_at r m tab i ≡ cofactor tab i *ℤ (m *ℤ sum_of l.terms r)
spread-basic r m tab i l h = ap (spread r m (total tab) (cofactor tab i) i) h

sum-same : (P : ℕ → Type 0) (k : ℕ) (ts : Terms) (x y : ℕ → ℤ) → Within P k ts → ((v : ℕ) → P v → x v ≡ y v) → sum_of ts x ≡ sum_of ts y
sum-same P k [] x y w f = refl
sum-same P k (t ∷ ts) x y w f = omega (arith, ints, ap (λ (z : ℤ). t.1 *ℤ z) (f t.0 w.2), sum-same P (suc t.0) ts x y w.3 f)

-- a line's denominator times the spread value
spread-times : (r : ℕ → ℤ) (m : ℤ) (tab : Tableau) (i : ℕ) (l : Line) → line_at tab i ≡ Some l → l.denominator *ℤ spread_at r m tab i ≡ total tab *ℤ (m *ℤ sum_of l.terms r)
spread-times r m tab i l h =
    ap (λ (y : ℤ). l.denominator *ℤ y) (spread-basic r m tab i l h)
    ∙ mul-assoc l.denominator (cofactor tab i) (m *ℤ sum_of l.terms r)
    ∙ ap (λ (y : ℤ). y *ℤ (m *ℤ sum_of l.terms r)) (sym (total-split tab i l h))

spread-holds : (size : ℕ) (tab : Tableau) (r : ℕ → ℤ) (m : ℤ) → Valid size tab → Holds tab (spread_at r m tab)
spread-holds size tab r m v = record {
  each = λ i l h.
      spread-times r m tab i l h
      ∙ mul-assoc (total tab) m (sum_of l.terms r)
      ∙ sym (sum-scale (total tab *ℤ m) l.terms r)
      ∙ sym (sum-same (Nonbasic size tab) 0 l.terms (spread_at r m tab) (λ u. (total tab *ℤ m) *ℤ r u) (v.lines i l h).1 (λ u n. spread-nonbasic r m tab u n.1));
}

above-at : (tab : Tableau) (j : ℕ) (l : Line) → Above tab → line_at tab j ≡ Some l → pos 1 ≤ℤ l.denominator
above-at [] j l a h = absurd (cc (h))
above-at (o ∷ os) zero l a h = subst (λ (q : Option Line). pos 1 ≤ℤ denominator_of q) h a.0
above-at (o ∷ os) (suc j) l a h = above-at os j l a.1 h

-- the variables' values are the point's
spread-place : (r : ℕ → ℤ) (m : ℤ) (tab : Tableau) (j : ℕ) (x : ℤ) → Above tab → r j ≡ pos 0 → IsPlace r m (line_at tab j) x → spread_at r m tab j ≡ total tab *ℤ x
spread-place r m tab j x a z p =
    elim (line_at tab j) as (λ o. line_at tab j ≡ o → IsPlace r m o x → spread_at r m tab j ≡ total tab *ℤ x) [
      | None ↦ λ h q.
          spread-nonbasic r m tab j h
          ∙ ap (λ (y : ℤ). (total tab *ℤ m) *ℤ y) z
          ∙ mul-comm (total tab *ℤ m) (pos 0)
          ∙ zero-mul (total tab *ℤ m)
          ∙ sym (ap (λ (y : ℤ). total tab *ℤ y) q ∙ mul-comm (total tab) (pos 0) ∙ zero-mul (total tab))
      | Some l ↦ λ h q.
          let other : l.denominator *ℤ (total tab *ℤ x) ≡ total tab *ℤ (m *ℤ sum_of l.terms r) =
          mul-assoc l.denominator (total tab) x ∙ ap (λ (y : ℤ). y *ℤ x) (mul-comm l.denominator (total tab)) ∙ sym (mul-assoc (total tab) l.denominator x) ∙ ap (λ (y : ℤ). total tab *ℤ y) q in
          cancel l.denominator (spread_at r m tab j) (total tab *ℤ x) (above-at tab j l a h) (spread-times r m tab j l h ∙ sym other)
    ] refl p

bound-ring : (c m d x : ℤ) → (c *ℤ m) *ℤ (d *ℤ x) ≡ ((d *ℤ c) *ℤ m) *ℤ x
bound-ring c m d x =
    mul-assoc (c *ℤ m) d x ∙ ap (λ (y : ℤ). y *ℤ x) (mul-comm (c *ℤ m) d ∙ mul-assoc d c m)

scale-le : (g a b : ℤ) → pos 0 ≤ℤ g → a ≤ℤ b → (g *ℤ a) ≤ℤ (g *ℤ b)
scale-le g a b h l =
    let c : ℤ = a -ℤ b in
    let whole : b +ℤ c ≡ a = omega (arith, ints) in
    omega (arith, ints, mul-nonneg-nonpos g c h (omega (arith, ints)), mul-add g b c, ap (λ (y : ℤ). g *ℤ y) whole)

-- a slack's value is at most its bound
spread-bounded : (r : ℕ → ℤ) (m : ℤ) (tab : Tableau) (i : ℕ) → Above tab → pos 1 ≤ℤ m → ((l : Line) → line_at tab i ≡ Some l → sum_of l.terms r ≤ℤ (l.denominator *ℤ r i)) → spread_at r m tab i ≤ℤ ((total tab *ℤ m) *ℤ r i)
spread-bounded r m tab i a p f =
    elim (line_at tab i) as (λ o. line_at tab i ≡ o → spread_at r m tab i ≤ℤ ((total tab *ℤ m) *ℤ r i)) [
      | None ↦ λ h. omega (arith, ints, spread-nonbasic r m tab i h)
      | Some l ↦ λ h.
          let c : ℤ = cofactor tab i in
          let above : pos 1 ≤ℤ (cofactor tab i *ℤ m) = above-product (cofactor tab i) m (cofactor-above tab i a) p in
          let less = scale-le (cofactor tab i *ℤ m) (sum_of l.terms r) (l.denominator *ℤ r i) (omega (arith, ints)) (f l h) in
          omega (
            arith,
            ints,
            less,
            spread-basic r m tab i l h,
            mul-assoc (cofactor tab i) m (sum_of l.terms r),
            bound-ring (cofactor tab i) m l.denominator (r i),
            ap (λ (y : ℤ). (y *ℤ m) *ℤ r i) (total-split tab i l h),
          )
    ] refl

-- ---- the rows

terms-same : (n : ℕ) (ts : Terms) (z x : ℕ → ℤ) (k : ℤ) → terms_width ts ≤ n → ((v : ℕ) → v < n → z v ≡ k *ℤ x v) → sum_of ts z ≡ k *ℤ sum_of ts x
terms-same n [] z x k h f = sym (mul-comm k (pos 0) ∙ zero-mul k)
terms-same n (t ∷ ts) z x k h f =
    omega (
      arith,
      ints,
      ap (λ (y : ℤ). t.1 *ℤ y) (f t.0 (omega arith)),
      mul-assoc t.1 k (x t.0),
      ap (λ (y : ℤ). y *ℤ x t.0) (mul-comm t.1 k),
      mul-assoc k t.1 (x t.0),
      mul-add k (t.1 *ℤ x t.0) (sum_of ts x),
      terms-same n ts z x k (omega arith) f,
    )

row-step : (k m s c zr b : ℤ) → pos 1 ≤ℤ k → zr ≡ k *ℤ s → zr ≤ℤ ((k *ℤ m) *ℤ b) → b ≡ neg_ℤ c → (s +ℤ (c *ℤ m)) ≤ℤ pos 0
row-step k m s c zr b p h l e =
    let less : (k *ℤ s) ≤ℤ (k *ℤ (m *ℤ b)) = omega (arith, ints, h, l, mul-assoc k m b) in
    let short : s ≤ℤ (m *ℤ b) = cancel-le k s (m *ℤ b) p less in
    omega (arith, ints, short, ap (λ (y : ℤ). m *ℤ y) e, mul-neg m c, mul-comm m c)

rows-satisfied : (i n : ℕ) (rows : List Lin) (z r x : ℕ → ℤ) (k m : ℤ) → pos 1 ≤ℤ k → Defines i rows z → Reads i rows (λ r. neg_ℤ r.konst) r → ((j : ℕ) → i ≤ j → j < i + length rows → z j ≤ℤ ((k *ℤ m) *ℤ r j)) → ((v : ℕ) → v < n → z v ≡ k *ℤ x v) → width rows ≤ n → FracSatisfies rows x m
rows-satisfied i n [] z r x k m p d b f g h = tt
rows-satisfied i n (row ∷ rows) z r x k m p d b f g h = (
  row-step k m (sum_of row.terms x) row.konst (z i) (r i) p (d.0 ∙ terms-same n row.terms z x k (omega arith) g) (f i (omega arith) (omega arith)) b.0,
  rows-satisfied (suc i) n rows z r x k m p d.1 b.1 (λ j u v. f j (omega arith) (omega arith)) g (omega arith),
)

pub point-answers : (rows : List Lin) (bounds : List ℤ) (tab : Tableau) (answer : Lp) → Invariant rows tab → bounds_of rows ≡ Some bounds → first_above (width rows) bounds 0 tab ≡ Some None → point (width rows) bounds tab ≡ Some answer → Answers rows answer
unfolding point
point-answers rows bounds tab answer i b none h =
    let n : ℕ = width rows in
    let r : ℕ → ℤ = rest_at (width rows) bounds in
    let above : Above tab = all-above tab (λ j l g. (i.valid.lines j l g).0) in
    let fs = value-some (fractions n bounds 0 tab) point_of answer h in
    let m = value-some (multiples (pos 1) fs.0) (λ m. with_value (numerators m fs.0) (λ xs. Some (lp.Feasible xs m))) answer fs.2 in
    let xs = value-some (numerators m.0 fs.0) (λ xs. Some (lp.Feasible xs m.0)) answer m.2 in
    let are = fractions-are n bounds 0 tab fs.0 above fs.1 in
    let one = multiples-are (pos 1) fs.0 m.0 (omega (arith, ints)) (fractions-above (rest_at n bounds) tab fs.0 are) m.1 in
    let places = places-are (rest_at n bounds) m.0 tab fs.0 xs.0 are one.2 xs.1 in
    let all : length xs.0 ≡ n = omega (arith, numerators-length m.0 fs.0 xs.0 xs.1, fractions-length n bounds 0 tab fs.0 (omega arith) (omega (arith, i.valid.all)) fs.1) in
    let defines : Defines n rows (spread_at (rest_at n bounds) m.0 tab) = i.defines (spread_at (rest_at n bounds) m.0 tab) (spread-holds (n + length rows) tab (rest_at n bounds) m.0 i.valid) in
    let read : Reads n rows (λ r. neg_ℤ r.konst) (rest_at n bounds) = bounds-read n rows bounds (rest_at n bounds) b (rest_at-slack n bounds) in
    let same : lp.Feasible xs.0 m.0 ≡ answer = cc (xs.2) in
    subst (Answers rows) same (record {
      above = one.0;
      all = all;
      satisfies = rows-satisfied n n rows (spread_at (rest_at n bounds) m.0 tab) (rest_at n bounds) (number_at xs.0) (total tab) m.0 (total-above tab above) defines read
          (λ j u v. spread-bounded (rest_at n bounds) m.0 tab j above one.0 (λ l g. let e : 0 + j ≡ j = omega arith in subst (λ (w : ℕ). sum_of l.terms (rest_at n bounds) ≤ℤ (l.denominator *ℤ rest_at n bounds w)) e (none-found n bounds 0 tab none j l g (omega arith))))
          (λ v u. spread-place (rest_at n bounds) m.0 tab v (number_at xs.0 v) above (rest_at-variable n bounds v u) (place-at (rest_at n bounds) m.0 tab xs.0 v places (omega (arith, all))))
          (omega arith);
    })
