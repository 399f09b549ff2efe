-- Where nothing may enter, the multipliers refute the rows.
use Rattle.std.proofs.Common.{◌≡◌, ◌∙◌, sym, ap, subst, refl, ℕ, zero, suc, ◌+◌, ◌-◌, ◌<◌, ◌≤◌, List, [], ◌∷◌, length, Option, Some, None, Bool, true, false, arith, pos, ◌+ℤ◌, ◌*ℤ◌, ◌≤ℤ◌, ◌<ℤ◌, neg_ℤ, inl, inr, cond}
use lib.IntN.{ℤ, negsuc}
use Rattle.std.specs.Prelude.{nat_lt, ◌==◌, if◌then◌else◌}
use Rattle.std.proofs.lemmas.Int.{ints}
use Rattle.std.proofs.lemmas.Bool.{cases_eq, cases_Bool}
use Rattle.chc_nums.specs.Wide.{in_128}
use Rattle.chc_nums.proofs.Fits.{in_128-value}
use Rattle.chc_nums.proofs.Ring.{mul-add, mul-assoc, mul-comm, zero-mul, minus-mul, neg-mul}
use Rattle.chc_nums.specs.Values.{with_value}
use Rattle.chc_form.specs.declared.linear.Lin.{Lin}
use Rattle.chc_form.specs.Linear.{sum_of}
use Rattle.chc_form.specs.Multipliers.{coef, weighted, NoneNegative, Refutes}
use Rattle.chc_form.proofs.Ranges.{between, between-same, between-add, between-scale, between-only, only, only-same, only-other, Ranged, sum-by_variable}
use Rattle.chc_simplex.specs.declared.data.Line.{Line}
use Rattle.chc_simplex.specs.declared.data.Lp.{Lp}
use Rattle.chc_simplex.specs.declared.data.Lp.TheVariants as lp
use Rattle.chc_simplex.specs.Terms.{Terms, coefficient}
use Rattle.chc_simplex.specs.Lines.{Tableau, line_at, terms_of, denominator_of}
use Rattle.chc_simplex.specs.Rounds.{rest_at, entering}
use Rattle.chc_form.specs.RowSums.{number_at, variable_sums, constant_sum, zeros, terms_width, width}
use Rattle.chc_simplex.specs.Endings.{multiplier, multipliers, summed, refutation}
use Rattle.chc_simplex.specs.TableauRun.{bounds_of}
use Rattle.chc_simplex.specs.Answers.{Answers}
use Rattle.chc_simplex.proofs.Orders.{coefficient-past, Within}
use Rattle.chc_nums.proofs.Values.{value-some}
use Rattle.chc_simplex.proofs.Pivoting.{line_at-within}
use Rattle.chc_simplex.proofs.Invariance.{Nonbasic, Defines, Invariant}
use Rattle.chc_simplex.proofs.Scanning.{Found, Blocked, none-enters}
use Rattle.lists.proofs.Tests.{less-is, less-not, same-true, same-not, same-is}

-- ---- the rows read at values of the slacks

-- w has f of each row at its slack, from i on
abbrev pub Reads : ℕ → List Lin → (Lin → ℤ) → (ℕ → ℤ) → Type 0
Reads i [] f w = Unit {0}
Reads i (r ∷ rs) f w = (w i ≡ f r) × Reads (suc i) rs f w

-- f of the row at k
abbrev row_at : List Lin → ℕ → (Lin → ℤ) → ℤ
row_at [] k f = pos 0
row_at (r ∷ rs) zero f = f r
row_at (r ∷ rs) (suc k) f = row_at rs k f

reads-by_place : (i : ℕ) (rows : List Lin) (f : Lin → ℤ) (w : ℕ → ℤ) → ((k : ℕ) → k < length rows → w (i + k) ≡ row_at rows k f) → Reads i rows f w
reads-by_place i [] f w h = tt
reads-by_place i (r ∷ rs) f w h =
    let e : i ≡ i + 0 = omega arith in (
      ap w e ∙ h 0 (omega arith),
      reads-by_place (suc i) rs f w (λ k l. let q : suc i + k ≡ i + suc k = omega arith in ap w q ∙ h (suc k) (omega arith)),
    )

pub bounds-read : (i : ℕ) (rows : List Lin) (bounds : List ℤ) (w : ℕ → ℤ) → bounds_of rows ≡ Some bounds → ((k : ℕ) → w (i + k) ≡ number_at bounds k) → Reads i rows (λ r. neg_ℤ r.konst) w
bounds-read i [] bounds w h f = tt
bounds-read i (r ∷ rs) bounds w h f =
    let b = value-some (in_128 (neg_ℤ r.konst)) (λ b. with_value (bounds_of rs) (λ bs. Some (b ∷ bs))) bounds h in
    let bs = value-some (bounds_of rs) (λ bs. Some (b.0 ∷ bs)) bounds b.2 in
    let same : b.0 ∷ bs.0 ≡ bounds = cc (bs.2) in
    let e : i ≡ i + 0 = omega arith in
    let at : (k : ℕ) → w (i + k) ≡ number_at (b.0 ∷ bs.0) k = λ k. f k ∙ ap (λ (xs : List ℤ). number_at xs k) (sym same) in (
      ap w e ∙ at 0 ∙ in_128-value (neg_ℤ r.konst) b.0 b.1,
      bounds-read (suc i) rs bs.0 w bs.1 (λ k. let q : suc i + k ≡ i + suc k = omega arith in ap w q ∙ at (suc k)),
    )

cond-yes : {A : Type 0} (b : Bool) (x y : A) → b ≡ true → cond b x y ≡ x
cond-yes true x y h = refl
cond-yes false x y h = absurd (cc)

cond-no : {A : Type 0} (b : Bool) (x y : A) → b ≡ false → cond b x y ≡ y
cond-no true x y h = absurd (cc)
cond-no false x y h = refl

pub rest_at-slack : (n : ℕ) (bounds : List ℤ) (k : ℕ) → rest_at n bounds (n + k) ≡ number_at bounds k
rest_at-slack n bounds k =
    let e : n + k - n ≡ k = omega arith in
    cond-no (nat_lt (n + k) n) (pos 0) (number_at bounds (n + k - n)) (less-not (n + k) n (omega arith)) ∙ ap (number_at bounds) e

pub rest_at-variable : (n : ℕ) (bounds : List ℤ) (v : ℕ) → v < n → rest_at n bounds v ≡ pos 0
rest_at-variable n bounds v h = cond-yes (nat_lt v n) (pos 0) (number_at bounds (v - n)) (less-is v n h)

-- ---- coefficients

pub coefficient-is : (P : ℕ → Type 0) (k v : ℕ) (ts : Terms) → Within P k ts → coefficient ts v ≡ coef ts v
coefficient-is P k v [] w = refl
coefficient-is P k v (t ∷ ts) w =
    let i = coefficient-is P (suc t.0) v ts w.3 in
    elim (cases_Bool (t.0 == v)) [
      | inl q ↦ rw q (omega (arith, ints, i, coefficient-past P (suc t.0) v ts (omega (arith, same-true t.0 v q)) w.3))
      | inr q ↦ rw q (omega (arith, ints, i))
    ]

pub coefficient-none : (P : ℕ → Type 0) (k v : ℕ) (ts : Terms) → Within P k ts → (P v → ⊥) → coefficient ts v ≡ pos 0
coefficient-none P k v [] w n = refl
coefficient-none P k v (t ∷ ts) w n =
    elim (cases_Bool (t.0 == v)) [
      | inl q ↦ absurd (n (subst P (same-true t.0 v q) w.2))
      | inr q ↦ rw q (coefficient-none P (suc t.0) v ts w.3 n)
    ]

blocked-coefficient : (n v : ℕ) (ts : Terms) → Blocked n ts → coefficient ts v ≤ℤ pos 0
blocked-coefficient n v [] b = omega (arith, ints)
blocked-coefficient n v (t ∷ ts) b =
    elim (cases_Bool (t.0 == v)) [
      | inl q ↦ rw q b.1
      | inr q ↦ rw q (blocked-coefficient n v ts b.2)
    ]

blocked-ranged : (n m k : ℕ) (tab : Tableau) (ts : Terms) → Blocked n ts → Within (Nonbasic (n + m) tab) k ts → Ranged n m ts
blocked-ranged n m k tab [] b w = tt
blocked-ranged n m k tab (t ∷ ts) b w = (b.0, w.2.0, blocked-ranged n m (suc t.0) tab ts b.2 w.3)

-- ---- the multipliers

abbrev exact_multiplier : ℕ → ℤ → Terms → ℕ → ℤ
exact_multiplier s d ts v = if v == s then d else neg_ℤ (coefficient ts v)

multiplier-value : (s : ℕ) (d : ℤ) (ts : Terms) (v : ℕ) (m : ℤ) → multiplier s d ts v ≡ Some m → m ≡ exact_multiplier s d ts v
multiplier-value s d ts v m h =
    elim (cases_Bool (v == s)) [
      | inl q ↦ let e : Some d ≡ Some m = rw q at h in rw q (let f : m ≡ d = cc (e) in f)
      | inr q ↦ rw q (in_128-value (neg_ℤ (coefficient ts v)) m (rw q at h))
    ]

multipliers-length : (s : ℕ) (d : ℤ) (ts : Terms) (v : ℕ) (rows : List Lin) (ms : List ℤ) → multipliers s d ts v rows ≡ Some ms → length ms ≡ length rows
multipliers-length s d ts v [] ms h = let q : [] ≡ ms = cc (h) in subst (λ (xs : List ℤ). length xs ≡ 0) q refl
multipliers-length s d ts v (r ∷ rs) ms h =
    let m = value-some (multiplier s d ts v) (λ m. with_value (multipliers s d ts (v + 1) rs) (λ ms. Some (m ∷ ms))) ms h in
    let more = value-some (multipliers s d ts (v + 1) rs) (λ ms. Some (m.0 ∷ ms)) ms m.2 in
    let q : m.0 ∷ more.0 ≡ ms = cc (more.2) in
    subst (λ (xs : List ℤ). length xs ≡ suc (length rs)) q (ap suc (multipliers-length s d ts (v + 1) rs more.0 more.1))

exact-sign : (n s : ℕ) (d : ℤ) (ts : Terms) (v : ℕ) → pos 1 ≤ℤ d → Blocked n ts → pos 0 ≤ℤ exact_multiplier s d ts v
exact-sign n s d ts v p b =
    elim (cases_Bool (v == s)) [
      | inl q ↦ rw q (omega (arith, ints, p))
      | inr q ↦ rw q (omega (arith, ints, blocked-coefficient n v ts b))
    ]

multipliers-signs : (n s : ℕ) (d : ℤ) (ts : Terms) (v : ℕ) (rows : List Lin) (ms : List ℤ) → pos 1 ≤ℤ d → Blocked n ts → multipliers s d ts v rows ≡ Some ms → NoneNegative ms
multipliers-signs n s d ts v [] ms p b h = let q : [] ≡ ms = cc (h) in subst NoneNegative q tt
multipliers-signs n s d ts v (r ∷ rs) ms p b h =
    let m = value-some (multiplier s d ts v) (λ m. with_value (multipliers s d ts (v + 1) rs) (λ ms. Some (m ∷ ms))) ms h in
    let more = value-some (multipliers s d ts (v + 1) rs) (λ ms. Some (m.0 ∷ ms)) ms m.2 in
    let q : m.0 ∷ more.0 ≡ ms = cc (more.2) in
    let sign : pos 0 ≤ℤ m.0 = omega (arith, ints, multiplier-value s d ts v m.0 m.1, exact-sign n s d ts v p b) in
    subst NoneNegative q (sign, multipliers-signs n s d ts (v + 1) rs more.0 p b more.1)

multipliers-sum : (s : ℕ) (d : ℤ) (ts : Terms) (v : ℕ) (rows : List Lin) (ms : List ℤ) (f : Lin → ℤ) (w : ℕ → ℤ) → multipliers s d ts v rows ≡ Some ms → Reads v rows f w → weighted f ms rows ≡ between v (length rows) (λ j. exact_multiplier s d ts j *ℤ w j)
multipliers-sum s d ts v [] ms f w h r = let q : [] ≡ ms = cc (h) in subst (λ (xs : List ℤ). weighted f xs [] ≡ pos 0) q refl
multipliers-sum s d ts v (r ∷ rs) ms f w h g =
    let m = value-some (multiplier s d ts v) (λ m. with_value (multipliers s d ts (v + 1) rs) (λ ms. Some (m ∷ ms))) ms h in
    let more = value-some (multipliers s d ts (v + 1) rs) (λ ms. Some (m.0 ∷ ms)) ms m.2 in
    let q : m.0 ∷ more.0 ≡ ms = cc (more.2) in
    let next : v + 1 ≡ suc v = omega arith in
    let i = multipliers-sum s d ts (suc v) rs more.0 f w (subst (λ (u : ℕ). multipliers s d ts u rs ≡ Some more.0) next more.1) g.1 in
    let here : m.0 *ℤ f r ≡ exact_multiplier s d ts v *ℤ w v = ap (λ (y : ℤ). y *ℤ f r) (multiplier-value s d ts v m.0 m.1) ∙ ap (λ (y : ℤ). exact_multiplier s d ts v *ℤ y) (sym g.0) in
    subst (λ (xs : List ℤ). weighted f xs (r ∷ rs) ≡ between v (suc (length rs)) (λ j. exact_multiplier s d ts j *ℤ w j)) q (omega (arith, ints, here, i))

-- one slack's part, and the others'
exact-parts : (P : ℕ → Type 0) (s : ℕ) (d : ℤ) (ts : Terms) (w : ℕ → ℤ) (j : ℕ) → Within P 0 ts → coefficient ts s ≡ pos 0 → exact_multiplier s d ts j *ℤ w j ≡ (only s d j *ℤ w j) +ℤ (negsuc 0 *ℤ (coef ts j *ℤ w j))
exact-parts P s d ts w j o n =
    let c = coefficient-is P 0 j ts o in
    elim (cases_eq j s) [
      | inl e ↦
          let one : only s d j ≡ d = ap (only s d) e ∙ only-same s d in
          let all : exact_multiplier s d ts j ≡ d = cond-yes (j == s) d (neg_ℤ (coefficient ts j)) (same-is j s e) in
          let none : coef ts j ≡ pos 0 = sym c ∙ ap (coefficient ts) e ∙ n in
          omega (
            arith,
            ints,
            ap (λ (y : ℤ). y *ℤ w j) all,
            ap (λ (y : ℤ). y *ℤ w j) one,
            ap (λ (y : ℤ). y *ℤ w j) none,
            zero-mul (w j),
            minus-mul (coef ts j *ℤ w j),
          )
      | inr e ↦
          let one : only s d j ≡ pos 0 = only-other s j d (λ q. e (sym q)) in
          let all : exact_multiplier s d ts j ≡ neg_ℤ (coefficient ts j) = cond-no (j == s) d (neg_ℤ (coefficient ts j)) (same-not j s e) in
          omega (
            arith,
            ints,
            ap (λ (y : ℤ). y *ℤ w j) all,
            ap (λ (y : ℤ). y *ℤ w j) one,
            zero-mul (w j),
            neg-mul (coefficient ts j) (w j),
            ap (λ (y : ℤ). y *ℤ w j) c,
            minus-mul (coef ts j *ℤ w j),
          )
    ]

-- the weighted sum of the rows is what the stuck line says of the slacks
pub weighted-is : (P : ℕ → Type 0) (n : ℕ) (s : ℕ) (d : ℤ) (ts : Terms) (rows : List Lin) (ms : List ℤ) (f : Lin → ℤ) (w : ℕ → ℤ) → Within P 0 ts → Ranged n (length rows) ts → coefficient ts s ≡ pos 0 → n ≤ s → s < n + length rows → multipliers s d ts n rows ≡ Some ms → Reads n rows f w → weighted f ms rows ≡ (d *ℤ w s) +ℤ neg_ℤ (sum_of ts w)
weighted-is P n s d ts rows ms f w o r c l m h g =
    let k : ℕ = length rows in
    omega (
      arith,
      ints,
      multipliers-sum s d ts n rows ms f w h g,
      between-same n k (λ j. exact_multiplier s d ts j *ℤ w j) (λ j. (only s d j *ℤ w j) +ℤ (negsuc 0 *ℤ (coef ts j *ℤ w j))) (λ j i q. exact-parts P s d ts w j o c),
      between-add n k (λ j. only s d j *ℤ w j) (λ j. negsuc 0 *ℤ (coef ts j *ℤ w j)),
      between-only n k s d w l m,
      between-scale n k (negsuc 0) (λ j. coef ts j *ℤ w j),
      minus-mul (between n k (λ j. coef ts j *ℤ w j)),
      sum-by_variable n k ts w r,
    )

-- ---- no variable is left

abbrev unit : ℕ → ℕ → ℤ
unit u v = if v == u then pos 1 else pos 0

-- 1 at u, and each slack its row's coefficient of u
abbrev unit_point : ℕ → List Lin → ℕ → ℕ → ℤ
unit_point n rows u v = if nat_lt v n then unit u v else row_at rows (v - n) (λ r. coef r.terms u)

unit-part : (u v : ℕ) (a : ℤ) → a *ℤ unit u v ≡ (if v == u then a else pos 0)
unit-part u v a =
    elim (cases_Bool (v == u)) [
      | inl q ↦ rw q (omega (arith, ints))
      | inr q ↦ rw q (omega (arith, ints, mul-comm a (pos 0), zero-mul a))
    ]

unit-sum : (n u : ℕ) (ts : Terms) (z : ℕ → ℤ) → terms_width ts ≤ n → ((v : ℕ) → v < n → z v ≡ unit u v) → coef ts u ≡ sum_of ts z
unit-sum n u [] z h f = refl
unit-sum n u (t ∷ ts) z h f =
    omega (arith, ints, unit-part u t.0 t.1, ap (λ (y : ℤ). t.1 *ℤ y) (f t.0 (omega arith)), unit-sum n u ts z (omega arith) f)

reads-define : (i n : ℕ) (rows : List Lin) (f : Lin → ℤ) (z : ℕ → ℤ) → Reads i rows f z → ((r : Lin) → terms_width r.terms ≤ n → f r ≡ sum_of r.terms z) → width rows ≤ n → Defines i rows z
reads-define i n [] f z r g h = tt
reads-define i n (r ∷ rs) f z d g h = (d.0 ∙ g r (omega arith), reads-define (suc i) n rs f z d.1 g (omega arith))

unit-below : (n : ℕ) (rows : List Lin) (u v : ℕ) → v < n → unit_point n rows u v ≡ unit u v
unit-below n rows u v h = cond-yes (nat_lt v n) (unit u v) (row_at rows (v - n) (λ r. coef r.terms u)) (less-is v n h)

unit-slack : (n : ℕ) (rows : List Lin) (u k : ℕ) → unit_point n rows u (n + k) ≡ row_at rows k (λ r. coef r.terms u)
unit-slack n rows u k =
    let e : n + k - n ≡ k = omega arith in
    cond-no (nat_lt (n + k) n) (unit u (n + k)) (row_at rows (n + k - n) (λ r. coef r.terms u)) (less-not (n + k) n (omega arith)) ∙ ap (λ (j : ℕ). row_at rows j (λ r. coef r.terms u)) e

unit-reads : (n : ℕ) (rows : List Lin) (u : ℕ) → Reads n rows (λ r. coef r.terms u) (unit_point n rows u)
unit-reads n rows u = reads-by_place n rows (λ r. coef r.terms u) (unit_point n rows u) (λ k l. unit-slack n rows u k)

unit-defines : (rows : List Lin) (u : ℕ) → Defines (width rows) rows (unit_point (width rows) rows u)
unit-defines rows u =
    reads-define (width rows) (width rows) rows (λ r. coef r.terms u) (unit_point (width rows) rows u) (unit-reads (width rows) rows u)
    (λ r h. unit-sum (width rows) u r.terms (unit_point (width rows) rows u) h (unit-below (width rows) rows u))
    (omega arith)

-- ---- the constant is above 0

pub sum-scale : (m : ℤ) (ts : Terms) (x : ℕ → ℤ) → sum_of ts (λ v. m *ℤ x v) ≡ m *ℤ sum_of ts x
sum-scale m [] x = omega (arith, ints, mul-comm m (pos 0), zero-mul m)
sum-scale m (t ∷ ts) x =
    omega (
      arith,
      ints,
      mul-assoc t.1 m (x t.0),
      ap (λ (y : ℤ). y *ℤ x t.0) (mul-comm t.1 m),
      mul-assoc m t.1 (x t.0),
      mul-add m (t.1 *ℤ x t.0) (sum_of ts x),
      sum-scale m ts x,
    )

reads-map : (i : ℕ) (rows : List Lin) (f g : Lin → ℤ) (w x : ℕ → ℤ) → Reads i rows f w → ((r : Lin) (v : ℕ) → w v ≡ f r → x v ≡ g r) → Reads i rows g x
reads-map i [] f g w x r h = tt
reads-map i (r ∷ rs) f g w x d h = (h r i d.0, reads-map (suc i) rs f g w x d.1 h)

-- the multipliers refute the rows
pub multipliers-refute : (rows : List Lin) (bounds : List ℤ) (tab : Tableau) (s : ℕ) (l : Line) (ms : List ℤ) → Invariant rows tab → bounds_of rows ≡ Some bounds → line_at tab s ≡ Some l → width rows ≤ s → (l.denominator *ℤ rest_at (width rows) bounds s) <ℤ sum_of l.terms (rest_at (width rows) bounds) → entering (width rows) l.terms ≡ None → multipliers s l.denominator l.terms (width rows) rows ≡ Some ms → Refutes ms rows
multipliers-refute rows bounds tab s l ms i b stands slack above none h =
    let n : ℕ = width rows in
    let size : ℕ = n + length rows in
    let d : ℤ = l.denominator in
    let good = i.valid.lines s l stands in
    let o : Within (Nonbasic size tab) 0 l.terms = good.1 in
    let blocked : Blocked n l.terms = none-enters (Nonbasic size tab) n 0 l.terms o none in
    let ranged : Ranged n (length rows) l.terms = blocked-ranged n (length rows) 0 tab l.terms blocked o in
    let within : s < n + length rows = omega (arith, line_at-within tab s l stands, i.valid.all) in
    let gone_s : coefficient l.terms s ≡ pos 0 = coefficient-none (Nonbasic size tab) 0 s l.terms o (λ p. absurd (cc (p.1, stands))) in
    let rest : ℕ → ℤ = rest_at n bounds in
    let minus : ℕ → ℤ = λ v. negsuc 0 *ℤ rest_at n bounds v in
    let read : Reads n rows (λ r. neg_ℤ r.konst) (rest_at n bounds) = bounds-read n rows bounds (rest_at n bounds) b (rest_at-slack n bounds) in
    let konst : Reads n rows (λ r. r.konst) (λ v. negsuc 0 *ℤ rest_at n bounds v) =
    reads-map n rows (λ r. neg_ℤ r.konst) (λ r. r.konst) (rest_at n bounds) (λ v. negsuc 0 *ℤ rest_at n bounds v) read (λ r v q. omega (arith, ints, minus-mul (rest_at n bounds v), q)) in record {
      count = multipliers-length s d l.terms n rows ms h;
      signs = multipliers-signs n s d l.terms n rows ms good.0 blocked h;
      gone = λ u.
          let z : ℕ → ℤ = unit_point n rows u in
          let t : d *ℤ unit_point n rows u s ≡ sum_of l.terms (unit_point n rows u) = (i.holds (unit_point n rows u) (unit-defines rows u)).each s l stands in
          omega (arith, ints, t, weighted-is (Nonbasic size tab) n s d l.terms rows ms (λ r. coef r.terms u) (unit_point n rows u) o ranged gone_s slack within h (unit-reads n rows u));
      above = omega (
        arith,
        ints,
        weighted-is (Nonbasic size tab) n s d l.terms rows ms (λ r. r.konst) (λ v. negsuc 0 *ℤ rest_at n bounds v) o ranged gone_s slack within h konst,
        sum-scale (negsuc 0) l.terms (rest_at n bounds),
        minus-mul (sum_of l.terms (rest_at n bounds)),
        mul-assoc d (negsuc 0) (rest_at n bounds s),
        ap (λ (y : ℤ). y *ℤ rest_at n bounds s) (mul-comm d (negsuc 0)),
        mul-assoc (negsuc 0) d (rest_at n bounds s),
        minus-mul (d *ℤ rest_at n bounds s),
        above,
      );
    }

pub refutation-answers : (rows : List Lin) (bounds : List ℤ) (tab : Tableau) (s : ℕ) (answer : Lp) → Invariant rows tab → bounds_of rows ≡ Some bounds → Found (width rows) bounds 0 tab s → entering (width rows) (terms_of (line_at tab s)) ≡ None → refutation (width rows) rows tab s ≡ Some answer → Answers rows answer
unfolding refutation
refutation-answers rows bounds tab s answer i b f none h =
    let n : ℕ = width rows in
    let place : f.place ≡ s = omega (arith, f.number) in
    let stands : line_at tab s ≡ Some f.line = sym (ap (line_at tab) place) ∙ f.stands in
    let none2 : entering n f.line.terms ≡ None = subst (λ (o : Option Line). entering n (terms_of o) ≡ None) stands none in
    let g : with_value (multipliers s f.line.denominator f.line.terms n rows) (summed n rows) ≡ Some answer =
    subst (λ (o : Option Line). with_value (multipliers s (denominator_of o) (terms_of o) n rows) (summed n rows) ≡ Some answer) stands h in
    let ms = value-some (multipliers s f.line.denominator f.line.terms n rows) (summed n rows) answer g in
    let sums = value-some (variable_sums ms.0 rows (zeros n)) (λ sums. with_value (constant_sum (pos 0) ms.0 rows) (λ c. Some (lp.Infeasible ms.0))) answer ms.2 in
    let c = value-some (constant_sum (pos 0) ms.0 rows) (λ c. Some (lp.Infeasible ms.0)) answer sums.2 in
    let same : lp.Infeasible ms.0 ≡ answer = cc (c.2) in
    subst (Answers rows) same (multipliers-refute rows bounds tab s f.line ms.0 i b stands f.slack f.above none2 ms.1)
