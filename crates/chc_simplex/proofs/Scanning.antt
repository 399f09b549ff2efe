-- What a round's finding says.
use Rattle.std.proofs.Common.{◌≡◌, ◌≢◌, ◌∙◌, sym, ap, subst, refl, ℕ, zero, suc, ◌+◌, ◌≤◌, List, [], ◌∷◌, Option, Some, None, Bool, true, false, arith, pos, ◌+ℤ◌, ◌*ℤ◌, ◌≤ℤ◌, ◌<ℤ◌, inl, inr, cond}
use lib.IntN.{ℤ}
use lib.Signed.{lt_z}
use Rattle.std.specs.Prelude.{nat_lt}
use Rattle.std.specs.Ordering.{int_eq}
use Rattle.std.proofs.lemmas.Int.{ints}
use Rattle.chc_nums.specs.Wide.{in_128, add_product}
use Rattle.chc_nums.proofs.Fits.{in_128-value}
use Rattle.chc_nums.specs.Values.{with_value}
use Rattle.chc_form.specs.Linear.{sum_of}
use Rattle.chc_simplex.specs.declared.data.Line.{Line}
use Rattle.chc_simplex.specs.Terms.{Terms, coefficient, sums_from}
use Rattle.chc_simplex.specs.Lines.{Tableau, line_at}
use Rattle.chc_simplex.specs.Rounds.{rest_at, line_above, is_above, first_above, is_suitable, entering}
use Rattle.chc_simplex.proofs.Orders.{Within}
use Rattle.chc_nums.proofs.Values.{value-some, add_product-value}
use Rattle.lists.proofs.Tests.{less-true, less-false, same-not, same-is}
use Rattle.std.proofs.lemmas.Bool.{cases_Bool}

pub sums-value : (s : ℤ) (ts : Terms) (x : ℕ → ℤ) (v : ℤ) → sums_from s ts x ≡ Some v → v ≡ s +ℤ sum_of ts x
sums-value s [] x v h = let e : s ≡ v = cc in omega (arith, ints, e)
sums-value s (t ∷ ts) x v h =
    let a = value-some (add_product s t.1 (x t.0)) (λ r. sums_from r ts x) v h in
    omega (arith, ints, add_product-value s t.1 (x t.0) a.0 a.1, sums-value a.0 ts x v a.2)

less-is : (a b : ℤ) → lt_z a b ≡ true → a <ℤ b
less-is a b h = grind (arith, ints)

less-not : (a b : ℤ) → lt_z a b ≡ false → b ≤ℤ a
less-not a b h = grind (arith, ints)

same-bool : (a b : Bool) → ◌≡◌ {A = Option Bool} (Some a) (Some b) → a ≡ b
same-bool a b h = cc

pub above-line : (n : ℕ) (bounds : List ℤ) (b : ℤ) (l : Line) → line_above n bounds b l ≡ Some true → (l.denominator *ℤ b) <ℤ sum_of l.terms (rest_at n bounds)
above-line n bounds b l h =
    let v = value-some (sums_from (pos 0) l.terms (rest_at n bounds)) (λ v. with_value (in_128 (l.denominator *ℤ b)) (λ most. Some (lt_z most v))) true h in
    let m = value-some (in_128 (l.denominator *ℤ b)) (λ most. Some (lt_z most v.0)) true v.2 in
    let c : lt_z m.0 v.0 ≡ true = same-bool (lt_z m.0 v.0) true m.2 in
    omega (arith, ints, less-is m.0 v.0 c, in_128-value (l.denominator *ℤ b) m.0 m.1, sums-value (pos 0) l.terms (rest_at n bounds) v.0 v.1)

pub below-line : (n : ℕ) (bounds : List ℤ) (b : ℤ) (l : Line) → line_above n bounds b l ≡ Some false → sum_of l.terms (rest_at n bounds) ≤ℤ (l.denominator *ℤ b)
below-line n bounds b l h =
    let v = value-some (sums_from (pos 0) l.terms (rest_at n bounds)) (λ v. with_value (in_128 (l.denominator *ℤ b)) (λ most. Some (lt_z most v))) false h in
    let m = value-some (in_128 (l.denominator *ℤ b)) (λ most. Some (lt_z most v.0)) false v.2 in
    let c : lt_z m.0 v.0 ≡ false = same-bool (lt_z m.0 v.0) false m.2 in
    omega (arith, ints, less-not m.0 v.0 c, in_128-value (l.denominator *ℤ b) m.0 m.1, sums-value (pos 0) l.terms (rest_at n bounds) v.0 v.1)

cond-no : {A : Type 0} (b : Bool) (x y : A) → b ≡ false → y ≡ cond b x y
cond-no true x y h = absurd (cc)
cond-no false x y h = refl

-- a basic variable that is found above its bound is a slack
is_above-true : (n : ℕ) (bounds : List ℤ) (v : ℕ) (o : Option Line) → is_above n bounds v o ≡ Some true → (l : Line) × (o ≡ Some l) × (n ≤ v) × (line_above n bounds (rest_at n bounds v) l ≡ Some true)
is_above-true n bounds v None h = absurd (cc)
is_above-true n bounds v (Some l) h =
    elim (cases_Bool (nat_lt v n)) [
      | inl b ↦ let q : false ≡ true = same-bool false true (rw b at h) in absurd (cc (q))
      | inr b ↦ (l, refl, less-false v n b, cond-no (nat_lt v n) (Some false) (line_above n bounds (rest_at n bounds v) l) b ∙ h)
    ]

is_above-false : (n : ℕ) (bounds : List ℤ) (v : ℕ) (l : Line) → n ≤ v → is_above n bounds v (Some l) ≡ Some false → line_above n bounds (rest_at n bounds v) l ≡ Some false
is_above-false n bounds v l m h =
    elim (cases_Bool (nat_lt v n)) [
      | inl b ↦ absurd (omega (arith, less-true v n b, m))
      | inr b ↦ cond-no (nat_lt v n) (Some false) (line_above n bounds (rest_at n bounds v) l) b ∙ h
    ]

-- a slack that was found
pub record Found (n : ℕ) (bounds : List ℤ) (v : ℕ) (tab : Tableau) (s : ℕ) : Type 0 where
  pub place : ℕ
  pub line : Line
  pub number : s ≡ v + place
  pub stands : line_at tab place ≡ Some line
  pub slack : n ≤ s
  pub above : (line.denominator *ℤ rest_at n bounds s) <ℤ sum_of line.terms (rest_at n bounds)

same-option : (a b : Option ℕ) → ◌≡◌ {A = Option (Option ℕ)} (Some a) (Some b) → a ≡ b
same-option a b h = cc

pub first-found : (n : ℕ) (bounds : List ℤ) (v : ℕ) (tab : Tableau) (s : ℕ) → first_above n bounds v tab ≡ Some (Some s) → Found n bounds v tab s
first-found n bounds v [] s h = let q : None ≡ Some s = same-option None (Some s) h in absurd (cc (q))
first-found n bounds v (o ∷ os) s h =
    let a = value-some (is_above n bounds v o) (λ above. cond above (Some (Some v)) (first_above n bounds (v + 1) os)) (Some s) h in
    elim (cases_Bool a.0) [
      | inl b ↦
          let here : Some v ≡ Some s = same-option (Some v) (Some s) (rw b at a.2) in
          let same : v ≡ s = cc (here) in
          let x = is_above-true n bounds v o (a.1 ∙ ap Some b) in
          subst (λ (w : ℕ). Found n bounds v (o ∷ os) w) same (record {
            place = 0;
            line = x.0;
            number = omega arith;
            stands = x.1;
            slack = x.2;
            above = above-line n bounds (rest_at n bounds v) x.0 x.3;
          })
      | inr b ↦
          let f = first-found n bounds (v + 1) os s (rw b at a.2) in record {
            place = suc f.place;
            line = f.line;
            number = omega (arith, f.number);
            stands = f.stands;
            slack = f.slack;
            above = f.above;
          }
    ]

pub none-found : (n : ℕ) (bounds : List ℤ) (v : ℕ) (tab : Tableau) → first_above n bounds v tab ≡ Some None → (k : ℕ) (l : Line) → line_at tab k ≡ Some l → n ≤ v + k → sum_of l.terms (rest_at n bounds) ≤ℤ (l.denominator *ℤ rest_at n bounds (v + k))
none-found n bounds v [] h k l g m = absurd (cc (g))
none-found n bounds v (o ∷ os) h zero l g m =
    let a = value-some (is_above n bounds v o) (λ above. cond above (Some (Some v)) (first_above n bounds (v + 1) os)) None h in
    elim (cases_Bool a.0) [
      | inl b ↦ let q : Some v ≡ None = same-option (Some v) None (rw b at a.2) in absurd (cc (q))
      | inr b ↦
          let e : v + 0 ≡ v = omega arith in
          let here : is_above n bounds v (Some l) ≡ Some false = ap (is_above n bounds v) (sym g) ∙ a.1 ∙ ap Some b in
          let r = below-line n bounds (rest_at n bounds v) l (is_above-false n bounds v l (omega arith) here) in
          omega (arith, ints, r, ap (λ (w : ℕ). l.denominator *ℤ rest_at n bounds w) e)
    ]
none-found n bounds v (o ∷ os) h (suc k) l g m =
    let a = value-some (is_above n bounds v o) (λ above. cond above (Some (Some v)) (first_above n bounds (v + 1) os)) None h in
    elim (cases_Bool a.0) [
      | inl b ↦ let q : Some v ≡ None = same-option (Some v) None (rw b at a.2) in absurd (cc (q))
      | inr b ↦
          let e : v + suc k ≡ (v + 1) + k = omega arith in
          let r = none-found n bounds (v + 1) os (rw b at a.2) k l g (omega arith) in
          omega (arith, ints, r, ap (λ (w : ℕ). l.denominator *ℤ rest_at n bounds w) e)
    ]

-- ---- the variable that enters

-- no term of a slack is above 0, and no other variable stands in the line
abbrev pub Blocked : ℕ → Terms → Type 0
Blocked n [] = Unit {0}
Blocked n (t ∷ ts) = (n ≤ t.0) × (t.1 ≤ℤ pos 0) × Blocked n ts

unlike : (a : ℤ) → a ≢ pos 0 → int_eq a (pos 0) ≡ false
unlike a h = grind (arith, ints)

not-suitable : (n : ℕ) (t : ℕ × ℤ) → is_suitable n t ≡ false → t.1 ≢ pos 0 → (n ≤ t.0) × (t.1 ≤ℤ pos 0)
not-suitable n t h m =
    elim (cases_Bool (nat_lt t.0 n)) [
      | inl b ↦ let q : true ≡ false = rw (b, unlike t.1 m) at h in absurd (cc (q))
      | inr b ↦ (less-false t.0 n b, less-not (pos 0) t.1 (rw b at h))
    ]

pub none-enters : (P : ℕ → Type 0) (n k : ℕ) (ts : Terms) → Within P k ts → entering n ts ≡ None → Blocked n ts
none-enters P n k [] w h = tt
none-enters P n k (t ∷ ts) w h =
    elim (cases_Bool (is_suitable n t)) [
      | inl b ↦ let q : Some t.0 ≡ None = rw b at h in absurd (cc (q))
      | inr b ↦ let x = not-suitable n t b w.1 in (x.0, x.1, none-enters P n (suc t.0) ts w.3 (rw b at h))
    ]

pub one-enters : (P : ℕ → Type 0) (n k e : ℕ) (ts : Terms) → Within P k ts → entering n ts ≡ Some e → (coefficient ts e ≢ pos 0) × P e × (k ≤ e)
one-enters P n k e [] w h = absurd (cc)
one-enters P n k e (t ∷ ts) w h =
    elim (cases_Bool (is_suitable n t)) [
      | inl b ↦
          let q : Some t.0 ≡ Some e = rw b at h in
          let same : t.0 ≡ e = cc (q) in
          let here : (coefficient (t ∷ ts) t.0 ≢ pos 0) × P t.0 × (k ≤ t.0) = (rw (same-is t.0 t.0 refl) w.1, w.2, w.0) in
          subst (λ (v : ℕ). (coefficient (t ∷ ts) v ≢ pos 0) × P v × (k ≤ v)) same here
      | inr b ↦
          let x = one-enters P n (suc t.0) e ts w.3 (rw b at h) in
          let n : t.0 ≢ e = λ q. absurd (omega (arith, x.2, q)) in
          (rw (same-not t.0 e n) x.0, x.1, omega (arith, x.2, w.0))
    ]
