-- The tableau's invariant: its lines have the right form, and say of values of all variables what the rows say.
use Rattle.std.proofs.Common.{◌≡◌, ◌≢◌, ◌∙◌, sym, ap, subst, refl, ℕ, zero, suc, ◌+◌, ◌<◌, List, [], ◌∷◌, ◌++◌, length, Option, Some, None, arith, pos, ◌*ℤ◌, ◌≤ℤ◌, inl, inr, length-append}
use lib.IntN.{ℤ}
use Rattle.std.specs.Prelude.{slice_set}
use Rattle.std.proofs.lemmas.Int.{ints}
use Rattle.std.proofs.lemmas.Bool.{cases_eq, cases_lt}
use Rattle.std.proofs.lemmas.List.{length-set}
use Rattle.chc_nums.specs.Values.{with_value}
use Rattle.chc_form.specs.declared.linear.Lin.{Lin}
use Rattle.chc_form.specs.Linear.{sum_of, Ascend, AscendFrom, AllAscend}
use Rattle.chc_simplex.specs.declared.data.Line.{Line}
use Rattle.chc_simplex.specs.Terms.{Terms, coefficient}
use Rattle.chc_simplex.specs.Lines.{Tableau, line, line_at, terms_of, denominator_of, turned, substituted, rewritten, exchanged, pivot}
use Rattle.chc_simplex.specs.TableauRun.{nonbasic, slack_lines, first_tableau}
use Rattle.chc_form.specs.RowSums.{terms_width, width}
use Rattle.chc_simplex.proofs.Orders.{Within}
use Rattle.chc_nums.proofs.Values.{value-some}
use Rattle.chc_simplex.proofs.Pivoting.{Turned, turned-is, Substituted, substituted-is, line_at-other, line_at-same, line_at-within, rewritten-all, rewritten-none, rewritten-line, rewritten-some}

abbrev pub Nonbasic : ℕ → Tableau → ℕ → Type 0
Nonbasic size tab v = (v < size) × (line_at tab v ≡ None)

abbrev pub IsLine : ℕ → Tableau → Line → Type 0
IsLine size tab l = (pos 1 ≤ℤ l.denominator) × Within (Nonbasic size tab) 0 l.terms

-- as many entries as variables, and each line over nonbasic variables in order, with a denominator above 0
pub record Valid (size : ℕ) (tab : Tableau) : Type 0 where
  pub all : length tab ≡ size
  pub lines : (i : ℕ) (l : Line) → line_at tab i ≡ Some l → IsLine size tab l

-- each line holds at these values of all variables
pub record Holds (tab : Tableau) (z : ℕ → ℤ) : Type 0 where
  pub each : (i : ℕ) (l : Line) → line_at tab i ≡ Some l → l.denominator *ℤ z i ≡ sum_of l.terms z

-- each slack, from i on, is its row's sum
abbrev pub Defines : ℕ → List Lin → (ℕ → ℤ) → Type 0
Defines i [] z = Unit {0}
Defines i (r ∷ rs) z = (z i ≡ sum_of r.terms z) × Defines (suc i) rs z

-- ---- a pivot

-- the line at i before, and after s left
left-line : (tab : Tableau) (s i : ℕ) (l : Line) → line_at (slice_set tab s None) i ≡ Some l → (i ≢ s) × (line_at tab i ≡ Some l)
left-line tab s i l h =
    elim (cases_eq i s) [
      | inl e ↦
          elim (cases_lt s (length tab)) [
            | inl m ↦ let q : line_at (slice_set tab s None) i ≡ None = ap (line_at (slice_set tab s None)) e ∙ line_at-same tab s None m in absurd (cc (q, h))
            | inr m ↦ absurd (omega (arith, line_at-within (slice_set tab s None) i l h, e, m, length-set tab s None))
          ]
      | inr n ↦ (n, sym (line_at-other tab s i None n) ∙ h)
    ]

left-none : (tab : Tableau) (s i : ℕ) → s < length tab → line_at tab i ≡ None → line_at (slice_set tab s None) i ≡ None
left-none tab s i m h =
    elim (cases_eq i s) [
      | inl e ↦ ap (line_at (slice_set tab s None)) e ∙ line_at-same tab s None m
      | inr n ↦ line_at-other tab s i None n ∙ h
    ]

-- what is known where e enters for s
pub record Entering (size : ℕ) (tab : Tableau) (s e : ℕ) (old entered : Line) (ps next : Tableau) : Type 0 where
  pub valid : Valid size tab
  pub was : line_at tab s ≡ Some old
  pub enters : Nonbasic size tab e
  pub stands : coefficient old.terms e ≢ pos 0
  pub turn : turned old.denominator old.terms s e ≡ Some entered
  pub put : rewritten e entered (slice_set tab s None) ≡ Some ps
  pub last : slice_set ps e (Some entered) ≡ next

next-length : (size : ℕ) (tab : Tableau) (s e : ℕ) (old entered : Line) (ps next : Tableau) → Entering size tab s e old entered ps next → length next ≡ size
next-length size tab s e old entered ps next g =
    let a : length next ≡ length ps = sym (ap length g.last) ∙ length-set ps e (Some entered) in
    a ∙ rewritten-all e entered (slice_set tab s None) ps g.put ∙ length-set tab s None ∙ g.valid.all

next-entered : (size : ℕ) (tab : Tableau) (s e : ℕ) (old entered : Line) (ps next : Tableau) → Entering size tab s e old entered ps next → line_at next e ≡ Some entered
next-entered size tab s e old entered ps next g =
    let a : length ps ≡ size = rewritten-all e entered (slice_set tab s None) ps g.put ∙ length-set tab s None ∙ g.valid.all in
    sym (ap (λ (xs : Tableau). line_at xs e) g.last) ∙ line_at-same ps e (Some entered) (omega (arith, a, g.enters.0))

next-other : (size : ℕ) (tab : Tableau) (s e : ℕ) (old entered : Line) (ps next : Tableau) → Entering size tab s e old entered ps next → (i : ℕ) → i ≢ e → line_at next i ≡ line_at ps i
next-other size tab s e old entered ps next g i n = sym (ap (λ (xs : Tableau). line_at xs i) g.last) ∙ line_at-other ps e i (Some entered) n

within-s : (size : ℕ) (tab : Tableau) (s e : ℕ) (old entered : Line) (ps next : Tableau) → Entering size tab s e old entered ps next → s < length tab
within-s size tab s e old entered ps next g = line_at-within tab s old g.was

-- a nonbasic variable other than e is nonbasic after the pivot, and so is s
next-nonbasic : (size : ℕ) (tab : Tableau) (s e : ℕ) (old entered : Line) (ps next : Tableau) → Entering size tab s e old entered ps next → (v : ℕ) → Nonbasic size tab v → v ≢ e → Nonbasic size next v
next-nonbasic size tab s e old entered ps next g v n d =
    let l : line_at (slice_set tab s None) v ≡ None = left-none tab s v (within-s size tab s e old entered ps next g) n.1 in
    (n.0, next-other size tab s e old entered ps next g v d ∙ rewritten-none e entered (slice_set tab s None) ps v g.put l)

apart : (size : ℕ) (tab : Tableau) (s e : ℕ) (old entered : Line) (ps next : Tableau) → Entering size tab s e old entered ps next → s ≢ e
apart size tab s e old entered ps next g q =
    let a : line_at tab s ≡ None = ap (line_at tab) q ∙ g.enters.1 in
    absurd (cc (a, g.was))

next-left : (size : ℕ) (tab : Tableau) (s e : ℕ) (old entered : Line) (ps next : Tableau) → Entering size tab s e old entered ps next → Nonbasic size next s
next-left size tab s e old entered ps next g =
    let m : s < length tab = within-s size tab s e old entered ps next g in
    let l : line_at (slice_set tab s None) s ≡ None = line_at-same tab s None m in (
      omega (arith, m, g.valid.all),
      next-other size tab s e old entered ps next g s (apart size tab s e old entered ps next g) ∙ rewritten-none e entered (slice_set tab s None) ps s g.put l,
    )

entered-is : (size : ℕ) (tab : Tableau) (s e : ℕ) (old entered : Line) (ps next : Tableau) → Entering size tab s e old entered ps next → (z : ℕ → ℤ) → Turned (Nonbasic size next) z old.denominator s old.terms e entered
entered-is size tab s e old entered ps next g z =
    turned-is (Nonbasic size tab) (Nonbasic size next) z old.denominator old.terms s e entered g.stands (g.valid.lines s old g.was).1
    (next-nonbasic size tab s e old entered ps next g)
    (next-left size tab s e old entered ps next g)
    g.turn

-- an old line and the line that comes of it
line-is : (size : ℕ) (tab : Tableau) (s e : ℕ) (old entered : Line) (ps next : Tableau) → Entering size tab s e old entered ps next → (z : ℕ → ℤ) (i : ℕ) (l k : Line) → line_at tab i ≡ Some l → substituted e entered l ≡ Some k → Substituted (Nonbasic size next) z entered e l k
line-is size tab s e old entered ps next g z i l k h q =
    let n = entered-is size tab s e old entered ps next g z in
    let w = g.valid.lines i l h in
    substituted-is (Nonbasic size tab) (Nonbasic size next) z e entered l k n.0 n.1 w.0 w.1 (next-nonbasic size tab s e old entered ps next g) q

-- where a new line comes from
new-line : (size : ℕ) (tab : Tableau) (s e : ℕ) (old entered : Line) (ps next : Tableau) → Entering size tab s e old entered ps next → (i : ℕ) (k : Line) → i ≢ e → line_at next i ≡ Some k → (l : Line) × (line_at tab i ≡ Some l) × (substituted e entered l ≡ Some k)
new-line size tab s e old entered ps next g i k n h =
    let x = rewritten-line e entered (slice_set tab s None) ps i k g.put (sym (next-other size tab s e old entered ps next g i n) ∙ h) in
    (x.0, (left-line tab s i x.0 x.1).1, x.2)

same-line : (l k : Line) → ◌≡◌ {A = Option Line} (Some l) (Some k) → l ≡ k
same-line l k h = cc

next-valid : (size : ℕ) (tab : Tableau) (s e : ℕ) (old entered : Line) (ps next : Tableau) → Entering size tab s e old entered ps next → Valid size next
next-valid size tab s e old entered ps next g = record {
  all = next-length size tab s e old entered ps next g;
  lines = λ i k h.
      elim (cases_eq i e) [
        | inl q ↦
            let n = entered-is size tab s e old entered ps next g (λ v. pos 0) in
            let same : entered ≡ k = same-line entered k (sym (next-entered size tab s e old entered ps next g) ∙ sym (ap (line_at next) q) ∙ h) in
            subst (λ (j : Line). IsLine size next j) same (n.0, n.1)
        | inr n ↦
            let x = new-line size tab s e old entered ps next g i k n h in
            let r = line-is size tab s e old entered ps next g (λ v. pos 0) i x.0 k x.1 x.2 in
            (r.0, r.1)
      ];
}

next-holds : (size : ℕ) (tab : Tableau) (s e : ℕ) (old entered : Line) (ps next : Tableau) → Entering size tab s e old entered ps next → (z : ℕ → ℤ) → Holds tab z → Holds next z
next-holds size tab s e old entered ps next g z t =
    let n = entered-is size tab s e old entered ps next g z in
    let turn : entered.denominator *ℤ z e ≡ sum_of entered.terms z = n.2.1 (t.each s old g.was) in record {
      each = λ i k h.
          elim (cases_eq i e) [
            | inl q ↦
                let same : entered ≡ k = same-line entered k (sym (next-entered size tab s e old entered ps next g) ∙ sym (ap (line_at next) q) ∙ h) in
                let here : entered.denominator *ℤ z i ≡ sum_of entered.terms z = ap (λ (v : ℕ). entered.denominator *ℤ z v) q ∙ turn in
                subst (λ (j : Line). j.denominator *ℤ z i ≡ sum_of j.terms z) same here
            | inr d ↦
                let x = new-line size tab s e old entered ps next g i k d h in
                let r = line-is size tab s e old entered ps next g z i x.0 k x.1 x.2 in
                (r.2 turn (z i)).0 (t.each i x.0 x.1)
          ];
    }

held-before : (size : ℕ) (tab : Tableau) (s e : ℕ) (old entered : Line) (ps next : Tableau) → Entering size tab s e old entered ps next → (z : ℕ → ℤ) → Holds next z → Holds tab z
held-before size tab s e old entered ps next g z t =
    let n = entered-is size tab s e old entered ps next g z in
    let turn : entered.denominator *ℤ z e ≡ sum_of entered.terms z = t.each e entered (next-entered size tab s e old entered ps next g) in record {
      each = λ i l h.
          elim (cases_eq i s) [
            | inl q ↦
                let same : old ≡ l = same-line old l (sym g.was ∙ sym (ap (line_at tab) q) ∙ h) in
                let here : old.denominator *ℤ z i ≡ sum_of old.terms z = ap (λ (v : ℕ). old.denominator *ℤ z v) q ∙ n.2.0 turn in
                subst (λ (j : Line). j.denominator *ℤ z i ≡ sum_of j.terms z) same here
            | inr d ↦
                let there : line_at (slice_set tab s None) i ≡ Some l = line_at-other tab s i None d ∙ h in
                let x = rewritten-some e entered (slice_set tab s None) ps i l g.put there in
                let other : i ≢ e = λ q. absurd (cc (ap (line_at tab) q ∙ g.enters.1, h)) in
                let r = line-is size tab s e old entered ps next g z i l x.0 h x.2 in
                (r.2 turn (z i)).1 (t.each i x.0 (next-other size tab s e old entered ps next g i other ∙ x.1))
          ];
    }

-- ---- the invariant

pub record Invariant (rows : List Lin) (tab : Tableau) : Type 0 where
  pub valid : Valid (width rows + length rows) tab
  pub holds : (z : ℕ → ℤ) → Defines (width rows) rows z → Holds tab z
  pub defines : (z : ℕ → ℤ) → Holds tab z → Defines (width rows) rows z

pub pivot-keeps : (rows : List Lin) (tab next : Tableau) (s e : ℕ) (old : Line) → Invariant rows tab → line_at tab s ≡ Some old → Nonbasic (width rows + length rows) tab e → coefficient old.terms e ≢ pos 0 → pivot tab s e ≡ Some next → Invariant rows next
unfolding pivot
pivot-keeps rows tab next s e old i was enters stands h =
    let size : ℕ = width rows + length rows in
    let p : with_value (turned old.denominator old.terms s e) (exchanged tab s e) ≡ Some next = subst (λ (o : Option Line). with_value (turned (denominator_of o) (terms_of o) s e) (exchanged tab s e) ≡ Some next) was h in
    let x = value-some (turned old.denominator old.terms s e) (exchanged tab s e) next p in
    let y = value-some (rewritten e x.0 (slice_set tab s None)) (λ ps. Some (slice_set ps e (Some x.0))) next x.2 in
    let last : slice_set y.0 e (Some x.0) ≡ next = cc (y.2) in
    let g : Entering size tab s e old x.0 y.0 next = record { valid = i.valid; was = was; enters = enters; stands = stands; turn = x.1; put = y.1; last = last } in record {
      valid = next-valid size tab s e old x.0 y.0 next g;
      holds = λ z d. next-holds size tab s e old x.0 y.0 next g z (i.holds z d);
      defines = λ z t. i.defines z (held-before size tab s e old x.0 y.0 next g z t);
    }

-- ---- the first tableau

-- all variables of the terms are below w
from-order : (P : ℕ → Type 0) (n : ℕ) (ts : Terms) → AscendFrom n ts → ((v : ℕ) → v < terms_width ts → P v) → Within P (suc n) ts
from-order P n [] a f = tt
from-order P n (t ∷ ts) a f = (omega (arith, a.0), a.1, f t.0 (omega arith), from-order P t.0 ts a.2 (λ v h. f v (omega arith)))

ordered : (P : ℕ → Type 0) (ts : Terms) → Ascend ts → ((v : ℕ) → v < terms_width ts → P v) → Within P 0 ts
ordered P [] a f = tt
ordered P (t ∷ ts) a f = (omega arith, a.0, f t.0 (omega arith), from-order P t.0 ts a.1 (λ v h. f v (omega arith)))

first-below : (n v : ℕ) (xs : Tableau) → v < n → line_at (nonbasic n ++ xs) v ≡ None
first-below zero v xs h = absurd (omega arith)
first-below (suc n) zero xs h = refl
first-below (suc n) (suc v) xs h = first-below n v xs (omega arith)

first-from : (n k : ℕ) (xs : Tableau) → line_at (nonbasic n ++ xs) (n + k) ≡ line_at xs k
first-from zero k xs = let e : 0 + k ≡ k = omega arith in ap (line_at xs) e
first-from (suc n) k xs = let e : suc n + k ≡ suc (n + k) = omega arith in ap (line_at (None ∷ (nonbasic n ++ xs))) e ∙ first-from n k xs

nonbasic-length : (n : ℕ) → length (nonbasic n) ≡ n
nonbasic-length zero = refl
nonbasic-length (suc n) = ap suc (nonbasic-length n)

slacks-length : (rows : List Lin) → length (slack_lines rows) ≡ length rows
slacks-length [] = refl
slacks-length (r ∷ rs) = ap suc (slacks-length rs)

-- a line of the first tableau is that of a slack
first-split : (n i : ℕ) (xs : Tableau) (l : Line) → line_at (nonbasic n ++ xs) i ≡ Some l → (k : ℕ) × (i ≡ n + k) × (line_at xs k ≡ Some l)
first-split zero i xs l h = (i, omega arith, h)
first-split (suc n) zero xs l h = absurd (cc)
first-split (suc n) (suc i) xs l h = let x = first-split n i xs l h in (x.0, omega (arith, x.1), x.2)

slack-is : (P : ℕ → Type 0) (rows : List Lin) (k : ℕ) (l : Line) → AllAscend rows → ((v : ℕ) → v < width rows → P v) → line_at (slack_lines rows) k ≡ Some l → (pos 1 ≤ℤ l.denominator) × Within P 0 l.terms
slack-is P [] k l a f h = absurd (cc)
slack-is P (r ∷ rs) zero l a f h =
    let same : line (pos 1) r.terms ≡ l = cc in
    subst (λ (j : Line). (pos 1 ≤ℤ j.denominator) × Within P 0 j.terms) same (omega (arith, ints), ordered P r.terms a.0 (λ v m. f v (omega arith)))
slack-is P (r ∷ rs) (suc k) l a f h = slack-is P rs k l a.1 (λ v m. f v (omega arith)) h

slacks-hold : (i : ℕ) (rows : List Lin) (z : ℕ → ℤ) (k : ℕ) (l : Line) → Defines i rows z → line_at (slack_lines rows) k ≡ Some l → l.denominator *ℤ z (i + k) ≡ sum_of l.terms z
slacks-hold i [] z k l d h = absurd (cc)
slacks-hold i (r ∷ rs) z zero l d h =
    let same : line (pos 1) r.terms ≡ l = cc in
    let e : i + 0 ≡ i = omega arith in
    subst (λ (j : Line). j.denominator *ℤ z (i + 0) ≡ sum_of j.terms z) same (omega (arith, ints, d.0, ap z e))
slacks-hold i (r ∷ rs) z (suc k) l d h =
    let e : i + suc k ≡ suc i + k = omega arith in
    ap (λ (v : ℕ). l.denominator *ℤ z v) e ∙ slacks-hold (suc i) rs z k l d.1 h

slacks-define : (i : ℕ) (rows : List Lin) (z : ℕ → ℤ) → ((k : ℕ) (l : Line) → line_at (slack_lines rows) k ≡ Some l → l.denominator *ℤ z (i + k) ≡ sum_of l.terms z) → Defines i rows z
slacks-define i [] z f = tt
slacks-define i (r ∷ rs) z f =
    let e : i + 0 ≡ i = omega arith in (
      omega (arith, ints, f 0 (line (pos 1) r.terms) refl, ap z e),
      slacks-define (suc i) rs z (λ k l h. let q : suc i + k ≡ i + suc k = omega arith in ap (λ (v : ℕ). l.denominator *ℤ z v) q ∙ f (suc k) l h),
    )

pub first-invariant : (rows : List Lin) → AllAscend rows → Invariant rows (first_tableau rows)
first-invariant rows a =
    let n : ℕ = width rows in
    let xs : Tableau = slack_lines rows in record {
      valid = record {
        all = omega (arith, length-append (nonbasic n) xs, nonbasic-length n, slacks-length rows);
        lines = λ i l h.
            let x = first-split n i xs l h in
            slack-is (Nonbasic (width rows + length rows) (first_tableau rows)) rows x.0 l a (λ v m. (omega arith, first-below n v xs m)) x.2;
      };
      holds = λ z d. record {
        each = λ i l h.
            let x = first-split n i xs l h in
            ap (λ (v : ℕ). l.denominator *ℤ z v) x.1 ∙ slacks-hold n rows z x.0 l d x.2;
      };
      defines = λ z t. slacks-define n rows z (λ k l h. t.each (n + k) l (first-from n k xs ∙ h));
    }
