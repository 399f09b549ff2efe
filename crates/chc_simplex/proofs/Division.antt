-- Exact division of a line, and cancelling.
use Rattle.std.proofs.Common.{◌≡◌, ◌≢◌, ◌∙◌, ap, subst, ℕ, zero, suc, ◌*◌, ◌/◌, ◌<◌, ◌≤◌, [], ◌∷◌, Some, arith, pos, ◌+ℤ◌, ◌-ℤ◌, ◌*ℤ◌, ◌≤ℤ◌, ◌<ℤ◌, neg_ℤ}
use lib.IntN.{ℤ, negsuc}
use Prim.Native.Nat.{◌∣◌}
use native.Mathlib.Nat.{mul-div_cancel', zero-mul as zero-mul_nat}
use Rattle.std.proofs.Math.Nat.{mul-le-mul_left}
use Rattle.std.specs.Prelude.{int_div, unsigned_abs}
use Rattle.std.proofs.lemmas.Int.{ints, by_lt_z}
use Rattle.std.proofs.lemmas.Nat.Gcd.{dvd_trans, dvd_refl}
use Rattle.chc_nums.specs.Wide.{in_128}
use Rattle.chc_nums.proofs.Fits.{in_128-value}
use Rattle.chc_nums.proofs.Ring.{mul-add, mul-assoc, mul-comm, zero-mul, mul-nonneg-nonpos, mul-neg}
use Rattle.chc_nums.specs.Values.{with_value}
use Rattle.chc_form.specs.Linear.{sum_of}
use Rattle.chc_simplex.specs.declared.data.Line.{Line}
use Rattle.chc_simplex.specs.Divisors.{gcd}
use Rattle.chc_simplex.specs.Terms.{Terms}
use Rattle.chc_simplex.specs.Lines.{line, common, divided_terms, divided_line, reduced}
use Rattle.chc_simplex.proofs.Steps.{gcd-is}
use Rattle.chc_simplex.proofs.Orders.{Within}
use Rattle.chc_nums.proofs.Values.{value-some}

-- ---- cancelling

pub above-product : (a b : ℤ) → pos 1 ≤ℤ a → pos 1 ≤ℤ b → pos 1 ≤ℤ (a *ℤ b)
above-product (pos a) (pos b) h k =
    let one : 1 ≤ b = omega (arith, ints) in
    let some : 1 ≤ a = omega (arith, ints) in
    let more : a * 1 ≤ a * b = mul-le-mul_left a one in
    omega (arith, ints)
above-product (negsuc a) b h k = absurd (omega (arith, ints))
above-product (pos a) (negsuc b) h k = absurd (omega (arith, ints))

pub scale-less : (g a b : ℤ) → pos 1 ≤ℤ g → a <ℤ b → (g *ℤ a) <ℤ (g *ℤ b)
scale-less g a b h l =
    let c : ℤ = b -ℤ a in
    let whole : a +ℤ c ≡ b = omega (arith, ints) in
    let more : pos 1 ≤ℤ (g *ℤ c) = above-product g c h (omega (arith, ints)) in
    omega (arith, ints, more, mul-add g a c, ap (λ (y : ℤ). g *ℤ y) whole)

pub cancel : (g a b : ℤ) → pos 1 ≤ℤ g → g *ℤ a ≡ g *ℤ b → a ≡ b
cancel g a b h e =
    by_lt_z {P = a ≡ b} a b
    (λ l. absurd (omega (arith, ints, e, scale-less g a b h l)))
    (λ m. by_lt_z {P = a ≡ b} b a (λ l. absurd (omega (arith, ints, e, scale-less g b a h l))) (λ n. omega (arith, ints, m, n)))

pub cancel-le : (g a b : ℤ) → pos 1 ≤ℤ g → (g *ℤ a) ≤ℤ (g *ℤ b) → a ≤ℤ b
cancel-le g a b h e = by_lt_z {P = a ≤ℤ b} b a (λ l. absurd (omega (arith, ints, e, scale-less g b a h l))) (λ m. m)

-- ---- exact quotients

pub exact : (a : ℤ) (g : ℕ) → g ∣ unsigned_abs a → pos g *ℤ int_div a (pos g) ≡ a
exact (pos a) g h = ap pos (mul-div_cancel' g h)
exact (negsuc a) g h = mul-neg (pos g) (pos (suc a / g)) ∙ ap (λ (n : ℕ). neg_ℤ (pos n)) (mul-div_cancel' g h)

pub divisor-some : (a g : ℕ) → 0 < a → g ∣ a → 0 < g
divisor-some a zero l h = absurd (omega (arith, mul-div_cancel' zero h, zero-mul_nat (a / zero)))
divisor-some a (suc g) l h = omega arith

-- ---- a line in lowest terms

abbrev pub AllDivide : ℕ → Terms → Type 0
AllDivide g [] = Unit {0}
AllDivide g (t ∷ ts) = (g ∣ unsigned_abs t.1) × AllDivide g ts

common-first : (g : ℕ) (ts : Terms) → common g ts ∣ g
common-first g [] = dvd_refl g
common-first g (t ∷ ts) = dvd_trans (common g (t ∷ ts)) (common-first (gcd g (unsigned_abs t.1)) ts) (gcd-is g (unsigned_abs t.1)).0

common-all : (g : ℕ) (ts : Terms) → AllDivide (common g ts) ts
common-all g [] = tt
common-all g (t ∷ ts) =
    (dvd_trans (common g (t ∷ ts)) (common-first (gcd g (unsigned_abs t.1)) ts) (gcd-is g (unsigned_abs t.1)).1, common-all (gcd g (unsigned_abs t.1)) ts)

divided-is : (P : ℕ → Type 0) (z : ℕ → ℤ) (g : ℕ) (k : ℕ) (ts us : Terms) → AllDivide g ts → Within P k ts → divided_terms (pos g) ts ≡ Some us → Within P k us × (pos g *ℤ sum_of us z ≡ sum_of ts z)
divided-is P z g k [] us d w h =
    let e : [] ≡ us = cc in
    subst (λ (xs : Terms). Within P k xs × (pos g *ℤ sum_of xs z ≡ pos 0)) e (tt, omega (arith, ints, mul-comm (pos g) (pos 0), zero-mul (pos g)))
divided-is P z g k (t ∷ ts) us d w h =
    let a = value-some (in_128 (int_div t.1 (pos g))) (λ a. with_value (divided_terms (pos g) ts) (λ us. Some ((t.0, a) ∷ us))) us h in
    let r = value-some (divided_terms (pos g) ts) (λ us. Some ((t.0, a.0) ∷ us)) us a.2 in
    let i = divided-is P z g (suc t.0) ts r.0 d.1 w.3 r.1 in
    let whole : pos g *ℤ a.0 ≡ t.1 = ap (λ (y : ℤ). pos g *ℤ y) (in_128-value (int_div t.1 (pos g)) a.0 a.1) ∙ exact t.1 g d.0 in
    let some : a.0 ≢ pos 0 = λ q. w.1 (omega (arith, ints, whole, ap (λ (y : ℤ). pos g *ℤ y) q, mul-comm (pos g) (pos 0), zero-mul (pos g))) in
    let e : (t.0, a.0) ∷ r.0 ≡ us = cc (r.2) in
    subst (λ (xs : Terms). Within P k xs × (pos g *ℤ sum_of xs z ≡ sum_of (t ∷ ts) z)) e (
      (w.0, some, w.2, i.0),
      omega (arith, ints, mul-add (pos g) (a.0 *ℤ z t.0) (sum_of r.0 z), mul-assoc (pos g) a.0 (z t.0), ap (λ (y : ℤ). y *ℤ z t.0) whole, i.1),
    )

pub abs-some : (d : ℤ) → pos 1 ≤ℤ d → 0 < unsigned_abs d
abs-some (pos n) h = omega (arith, ints)
abs-some (negsuc n) h = omega arith

-- the line l is d y = s over some g above 0, where s is the value of the sum at z
abbrev pub Reduced : (ℕ → Type 0) → (ℕ → ℤ) → ℤ → ℤ → Line → Type 0
Reduced P z d s l = (pos 1 ≤ℤ l.denominator) × Within P 0 l.terms × (g : ℤ) × (pos 1 ≤ℤ g) × (g *ℤ l.denominator ≡ d) × (g *ℤ sum_of l.terms z ≡ s)

pub quotient-above : (g a d : ℤ) → pos 1 ≤ℤ g → pos 1 ≤ℤ d → g *ℤ a ≡ d → pos 1 ≤ℤ a
quotient-above g a d h k e = by_lt_z {P = pos 1 ≤ℤ a} (pos 0) a (λ l. omega (arith, ints, l)) (λ m. absurd (omega (arith, ints, e, mul-nonneg-nonpos g a (omega (arith, ints)) m)))

pub reduced-is : (P : ℕ → Type 0) (z : ℕ → ℤ) (d : ℤ) (ts : Terms) (l : Line) → pos 1 ≤ℤ d → Within P 0 ts → reduced d ts ≡ Some l → Reduced P z d (sum_of ts z) l
reduced-is P z d ts l p w h =
    let c : ℕ = common (unsigned_abs d) ts in
    let first : c ∣ unsigned_abs d = common-first (unsigned_abs d) ts in
    let above : pos 1 ≤ℤ pos c = let b : 0 < c = divisor-some (unsigned_abs d) c (abs-some d p) first in omega (arith, ints) in
    let g = value-some (in_128 (pos c)) (divided_line d ts) l h in
    let m : divided_line d ts (pos c) ≡ Some l = subst (λ (y : ℤ). divided_line d ts y ≡ Some l) (in_128-value (pos c) g.0 g.1) g.2 in
    let a = value-some (in_128 (int_div d (pos c))) (λ a. with_value (divided_terms (pos c) ts) (λ us. Some (line a us))) l m in
    let r = value-some (divided_terms (pos c) ts) (λ us. Some (line a.0 us)) l a.2 in
    let i = divided-is P z c 0 ts r.0 (common-all (unsigned_abs d) ts) w r.1 in
    let whole : pos c *ℤ a.0 ≡ d = ap (λ (y : ℤ). pos c *ℤ y) (in_128-value (int_div d (pos c)) a.0 a.1) ∙ exact d c first in
    let e : line a.0 r.0 ≡ l = cc (r.2) in
    subst (λ (k : Line). Reduced P z d (sum_of ts z) k) e (quotient-above (pos c) a.0 d above p whole, i.0, pos c, above, whole, i.1)
