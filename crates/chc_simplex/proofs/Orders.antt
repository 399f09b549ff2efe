-- Terms in order, and what the steps of a pivot keep of them.
use Rattle.std.proofs.Common.{◌≡◌, ◌≢◌, ◌∙◌, sym, ap, subst, refl, ℕ, suc, ◌<◌, ◌≤◌, [], ◌∷◌, ◌++◌, Option, Some, None, arith, pos, ◌+ℤ◌, ◌*ℤ◌, inl, inr}
use lib.IntN.{ℤ}
use Rattle.std.proofs.lemmas.Int.{ints}
use Rattle.std.specs.Prelude.{nat_lt, ◌==◌}
use Rattle.std.specs.Ordering.{int_eq}
use Rattle.chc_nums.specs.Wide.{in_128}
use Rattle.chc_nums.proofs.Fits.{in_128-value}
use Rattle.chc_nums.proofs.Ring.{mul-add, add-mul, mul-assoc, mul-comm, zero-mul}
use Rattle.chc_nums.specs.Values.{with_value}
use Rattle.chc_nums.proofs.Values.{value-some, int_eq-true, int_eq-false}
use Rattle.chc_form.specs.Linear.{sum_of}
use Rattle.chc_simplex.specs.Terms.{Terms, coefficient, others, term, put_before, both, scaled, placed_term, merged}
use Rattle.lists.proofs.Tests.{same-true, same-false, less-true, less-false, same-not}
use Rattle.std.proofs.lemmas.Bool.{cases_Bool}

-- ---- order

-- variables ascend from k on, no coefficient is 0, and P holds of each variable
abbrev pub Within : (ℕ → Type 0) → ℕ → Terms → Type 0
Within P k [] = Unit {0}
Within P k (t ∷ ts) = (k ≤ t.0) × (t.1 ≢ pos 0) × P t.0 × Within P (suc t.0) ts

pub Within-from : (P : ℕ → Type 0) (j k : ℕ) (ts : Terms) → j ≤ k → Within P k ts → Within P j ts
Within-from P j k [] h w = tt
Within-from P j k (t ∷ ts) h w = (omega (arith, w.0), w.1, w.2, w.3)

pub Within-map : (P Q : ℕ → Type 0) (k : ℕ) (ts : Terms) → ((v : ℕ) → P v → Q v) → Within P k ts → Within Q k ts
Within-map P Q k [] f w = tt
Within-map P Q k (t ∷ ts) f w = (w.0, w.1, f t.0 w.2, Within-map P Q (suc t.0) ts f w.3)

-- ---- one term in front

pub put-some : (v : ℕ) (number : Option ℤ) (rest : Option Terms) (rs : Terms) → put_before v number rest ≡ Some rs → (a : ℤ) × (ts : Terms) × (number ≡ Some a) × (rest ≡ Some ts) × (term v a ++ ts ≡ rs)
put-some v None rest rs h = absurd (cc)
put-some v (Some a) None rs h = absurd (cc)
put-some v (Some a) (Some ts) rs h = (a, ts, refl, refl, cc)

term-sum : (v : ℕ) (a : ℤ) (ts : Terms) (z : ℕ → ℤ) → sum_of (term v a ++ ts) z ≡ (a *ℤ z v) +ℤ sum_of ts z
term-sum v a ts z =
    elim (cases_Bool (int_eq a (pos 0))) [
      | inl e ↦ rw e (omega (arith, ints, ap (λ (y : ℤ). y *ℤ z v) (int_eq-true a e), zero-mul (z v)))
      | inr e ↦ rw e refl
    ]

term-within : (P : ℕ → Type 0) (k v : ℕ) (a : ℤ) (ts : Terms) → k ≤ v → P v → Within P (suc v) ts → Within P k (term v a ++ ts)
term-within P k v a ts h p w =
    elim (cases_Bool (int_eq a (pos 0))) [
      | inl e ↦ rw e (Within-from P k (suc v) ts (omega arith) w)
      | inr e ↦ rw e (h, int_eq-false a e, p, w)
    ]

-- terms in order whose sum is s at z
abbrev pub Made : (ℕ → Type 0) → (ℕ → ℤ) → ℕ → Terms → ℤ → Type 0
Made P z k rs s = Within P k rs × (sum_of rs z ≡ s)

-- one more in front
put-made : (P : ℕ → Type 0) (z : ℕ → ℤ) (k v : ℕ) (a : ℤ) (ts rs : Terms) (s t : ℤ) → k ≤ v → P v → Made P z (suc v) ts s → term v a ++ ts ≡ rs → (a *ℤ z v) +ℤ s ≡ t → Made P z k rs t
put-made P z k v a ts rs s t h p m e q =
    subst (λ (us : Terms). Made P z k us t) e
    (term-within P k v a ts h p m.0, term-sum v a ts z ∙ ap (λ (y : ℤ). (a *ℤ z v) +ℤ y) m.1 ∙ q)

left-step : (p c t z st su a s : ℤ) → a ≡ p *ℤ t → s ≡ (p *ℤ st) +ℤ (c *ℤ su) → (a *ℤ z) +ℤ s ≡ (p *ℤ ((t *ℤ z) +ℤ st)) +ℤ (c *ℤ su)
left-step p c t z st su a s e f = omega (arith, ints, ap (λ (y : ℤ). y *ℤ z) e, mul-assoc p t z, mul-add p (t *ℤ z) st, f)

right-step : (p c u z st su a s : ℤ) → a ≡ c *ℤ u → s ≡ (p *ℤ st) +ℤ (c *ℤ su) → (a *ℤ z) +ℤ s ≡ (p *ℤ st) +ℤ (c *ℤ ((u *ℤ z) +ℤ su))
right-step p c u z st su a s e f = omega (arith, ints, ap (λ (y : ℤ). y *ℤ z) e, mul-assoc c u z, mul-add c (u *ℤ z) su, f)

both-step : (p c t u z st su a s : ℤ) → a ≡ (p *ℤ t) +ℤ (c *ℤ u) → s ≡ (p *ℤ st) +ℤ (c *ℤ su) → (a *ℤ z) +ℤ s ≡ (p *ℤ ((t *ℤ z) +ℤ st)) +ℤ (c *ℤ ((u *ℤ z) +ℤ su))
both-step p c t u z st su a s e f =
    omega (
      arith,
      ints,
      ap (λ (y : ℤ). y *ℤ z) e,
      add-mul (p *ℤ t) (c *ℤ u) z,
      mul-assoc p t z,
      mul-assoc c u z,
      mul-add p (t *ℤ z) st,
      mul-add c (u *ℤ z) su,
      f,
    )

both-value : (p a c b s : ℤ) → both p a c b ≡ Some s → s ≡ (p *ℤ a) +ℤ (c *ℤ b)
both-value p a c b s h =
    let x = value-some (in_128 (p *ℤ a)) (λ x. with_value (in_128 (c *ℤ b)) (λ y. in_128 (x +ℤ y))) s h in
    let y = value-some (in_128 (c *ℤ b)) (λ y. in_128 (x.0 +ℤ y)) s x.2 in
    omega (arith, ints, in_128-value (p *ℤ a) x.0 x.1, in_128-value (c *ℤ b) y.0 y.1, in_128-value (x.0 +ℤ y.0) s y.2)

scaled-is : (P : ℕ → Type 0) (z : ℕ → ℤ) (c : ℤ) (us : Terms) (k : ℕ) (rs : Terms) → Within P k us → scaled c us ≡ Some rs → Made P z k rs (c *ℤ sum_of us z)
unfolding scaled
scaled-is P z c [] k rs w h =
    let e : [] ≡ rs = cc in
    subst (λ (us : Terms). Made P z k us (c *ℤ pos 0)) e (tt, omega (arith, ints, zero-mul c, mul-comm c (pos 0)))
scaled-is P z c (u ∷ us) k rs w h =
    let x = put-some u.0 (in_128 (c *ℤ u.1)) (scaled c us) rs h in
    put-made P z k u.0 x.0 x.1 rs (c *ℤ sum_of us z) (c *ℤ ((u.1 *ℤ z u.0) +ℤ sum_of us z)) w.0 w.2
    (scaled-is P z c us (suc u.0) x.1 w.3 x.3) x.4
    (omega (arith, ints, ap (λ (y : ℤ). y *ℤ z u.0) (in_128-value (c *ℤ u.1) x.0 x.2), mul-assoc c u.1 (z u.0), mul-add c (u.1 *ℤ z u.0) (sum_of us z)))

-- what is known of a merge with the terms ts
abbrev Merging : (ℕ → Type 0) → (ℕ → ℤ) → ℤ → ℤ → Terms → (Terms → Option Terms) → Type 0
Merging P z p c ts merge = (us : Terms) (k : ℕ) (rs : Terms) → Within P k ts → Within P k us → merge us ≡ Some rs → Made P z k rs ((p *ℤ sum_of ts z) +ℤ (c *ℤ sum_of us z))

placed-is : (P : ℕ → Type 0) (z : ℕ → ℤ) (p c : ℤ) (t : ℕ × ℤ) (ts : Terms) (merge : Terms → Option Terms) → Merging P z p c ts merge → Merging P z p c (t ∷ ts) (placed_term p c t merge)
placed-is P z p c t ts merge ih [] k rs w u h =
    let x = put-some t.0 (in_128 (p *ℤ t.1)) (merge []) rs h in
    put-made P z k t.0 x.0 x.1 rs _ _ w.0 w.2 (ih [] (suc t.0) x.1 w.3 tt x.3) x.4
    (left-step p c t.1 (z t.0) (sum_of ts z) (pos 0) x.0 _ (in_128-value (p *ℤ t.1) x.0 x.2) refl)
placed-is P z p c t ts merge ih (u ∷ us) k rs w v h =
    elim (cases_Bool (nat_lt t.0 u.0)) [
      | inl e ↦
          let x = put-some t.0 (in_128 (p *ℤ t.1)) (merge (u ∷ us)) rs (rw e at h) in
          put-made P z k t.0 x.0 x.1 rs _ _ w.0 w.2 (ih (u ∷ us) (suc t.0) x.1 w.3 (omega (arith, less-true t.0 u.0 e), v.1, v.2, v.3) x.3) x.4
          (left-step p c t.1 (z t.0) (sum_of ts z) (sum_of (u ∷ us) z) x.0 _ (in_128-value (p *ℤ t.1) x.0 x.2) refl)
      | inr e ↦
          let h1 = rw e at h in
          elim (cases_Bool (nat_lt u.0 t.0)) [
            | inl f ↦
                let x = put-some u.0 (in_128 (c *ℤ u.1)) (placed_term p c t merge us) rs (rw f at h1) in
                put-made P z k u.0 x.0 x.1 rs _ _ v.0 v.2
                (placed-is P z p c t ts merge ih us (suc u.0) x.1 (omega (arith, less-true u.0 t.0 f), w.1, w.2, w.3) v.3 x.3) x.4
                (right-step p c u.1 (z u.0) (sum_of (t ∷ ts) z) (sum_of us z) x.0 _ (in_128-value (c *ℤ u.1) x.0 x.2) refl)
            | inr f ↦
                let x = put-some t.0 (both p t.1 c u.1) (merge us) rs (rw f at h1) in
                let same : t.0 ≡ u.0 = omega (arith, less-false t.0 u.0 e, less-false u.0 t.0 f) in
                let m = ih us (suc t.0) x.1 w.3 (subst (λ (n : ℕ). Within P (suc n) us) (sym same) v.3) x.3 in
                put-made P z k t.0 x.0 x.1 rs _ _ w.0 w.2 m x.4
                (both-step p c t.1 u.1 (z t.0) (sum_of ts z) (sum_of us z) x.0 _ (both-value p t.1 c u.1 x.0 x.2) refl ∙ ap (λ (n : ℕ). (p *ℤ ((t.1 *ℤ z t.0) +ℤ sum_of ts z)) +ℤ (c *ℤ ((u.1 *ℤ z n) +ℤ sum_of us z))) same)
          ]
    ]

pub merged-is : (P : ℕ → Type 0) (z : ℕ → ℤ) (p c : ℤ) (ts : Terms) → Merging P z p c ts (merged p c ts)
unfolding merged
merged-is P z p c [] us k rs w u h =
    let m = scaled-is P z c us k rs u h in
    (m.0, omega (arith, ints, m.1, mul-comm p (pos 0), zero-mul p))
merged-is P z p c (t ∷ ts) us k rs w u h = placed-is P z p c t ts (merged p c ts) (merged-is P z p c ts) us k rs w u h

-- ---- a term taken out

pub coefficient-past : (P : ℕ → Type 0) (k e : ℕ) (ts : Terms) → e < k → Within P k ts → coefficient ts e ≡ pos 0
coefficient-past P k e [] l w = refl
coefficient-past P k e (t ∷ ts) l w =
    let n : t.0 ≢ e = λ q. absurd (omega (arith, q, w.0, l)) in
    rw (same-not t.0 e n) (coefficient-past P (suc t.0) e ts (omega (arith, w.0)) w.3)

pub others-is : (P : ℕ → Type 0) (z : ℕ → ℤ) (k e : ℕ) (ts : Terms) → Within P k ts → Within (λ v. P v × (v ≢ e)) k (others e ts) × (sum_of ts z ≡ (coefficient ts e *ℤ z e) +ℤ sum_of (others e ts) z)
others-is P z k e [] w = (tt, omega (arith, ints, zero-mul (z e)))
others-is P z k e (t ∷ ts) w =
    let i = others-is P z (suc t.0) e ts w.3 in
    elim (cases_Bool (t.0 == e)) [
      | inl q ↦
          let same : t.0 ≡ e = same-true t.0 e q in
          let none : coefficient ts e ≡ pos 0 = coefficient-past P (suc t.0) e ts (omega arith) w.3 in
          rw q (
            Within-from (λ v. P v × (v ≢ e)) k (suc t.0) (others e ts) (omega (arith, w.0)) i.0,
            omega (arith, ints, i.1, ap (λ (y : ℤ). y *ℤ z e) none, zero-mul (z e), ap (λ (n : ℕ). t.1 *ℤ z n) same),
          )
      | inr q ↦ rw q ((w.0, w.1, (w.2, same-false t.0 e q), i.0), omega (arith, ints, i.1))
    ]

-- a variable with coefficient 0 doesn't stand in the sum
pub absent-is : (P : ℕ → Type 0) (k e : ℕ) (ts : Terms) → Within P k ts → coefficient ts e ≡ pos 0 → Within (λ v. P v × (v ≢ e)) k ts
absent-is P k e [] w h = tt
absent-is P k e (t ∷ ts) w h =
    elim (cases_Bool (t.0 == e)) [
      | inl q ↦ absurd (w.1 (rw q at h))
      | inr q ↦ (w.0, w.1, (w.2, same-false t.0 e q), absent-is P (suc t.0) e ts w.3 (rw q at h))
    ]
