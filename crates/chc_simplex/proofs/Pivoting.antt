-- A pivot keeps what the lines say of values of all variables, and the form of the lines.
use Rattle.std.proofs.Common.{◌≡◌, ◌≢◌, ◌∙◌, sym, ap, subst, refl, ℕ, zero, suc, ◌<◌, [], ◌∷◌, length, get_or, Option, Some, None, true, false, arith, pos, ◌+ℤ◌, ◌*ℤ◌, ◌≤ℤ◌, neg_ℤ, inl, inr}
use lib.IntN.{ℤ, negsuc}
use lib.Signed.{lt_z}
use Rattle.std.specs.Prelude.{slice_set}
use Rattle.std.specs.Ordering.{int_eq}
use Rattle.std.proofs.lemmas.Int.{ints}
use Rattle.std.proofs.lemmas.List.{get_or-set_same, get_or-set_other}
use Rattle.std.proofs.lemmas.Option.{unwrap_or-slice_get}
use Rattle.chc_nums.specs.Wide.{in_128}
use Rattle.chc_nums.proofs.Fits.{in_128-value}
use Rattle.chc_nums.proofs.Ring.{mul-add, mul-assoc, mul-comm, zero-mul, minus-mul, neg-mul}
use Rattle.chc_nums.specs.Values.{with_value}
use Rattle.chc_form.specs.Linear.{sum_of}
use Rattle.chc_simplex.specs.declared.data.Line.{Line}
use Rattle.chc_simplex.specs.Terms.{Terms, coefficient, others, merged}
use Rattle.chc_simplex.specs.Lines.{Tableau, line, line_at, reduced, turned_up, turned_down, turned, with_entered, substituted, rewritten_line, rewritten}
use Rattle.chc_simplex.proofs.Orders.{Within, Within-map, merged-is, others-is, absent-is}
use Rattle.chc_nums.proofs.Values.{value-some, int_eq-true}
use Rattle.chc_simplex.proofs.Division.{above-product, cancel, Reduced, reduced-is}
use Rattle.std.proofs.lemmas.Bool.{cases_Bool}

-- ---- the leaving line turned round

-- d s is the first sum at z where p e is the second
abbrev Turns : (ℕ → ℤ) → ℤ → ℕ → Terms → ℕ → Line → Type 0
Turns z d s ts e l = (l.denominator *ℤ z e ≡ sum_of l.terms z → d *ℤ z s ≡ sum_of ts z) × (d *ℤ z s ≡ sum_of ts z → l.denominator *ℤ z e ≡ sum_of l.terms z)

abbrev pub Turned : (ℕ → Type 0) → (ℕ → ℤ) → ℤ → ℕ → Terms → ℕ → Line → Type 0
Turned N z d s ts e l = (pos 1 ≤ℤ l.denominator) × Within N 0 l.terms × Turns z d s ts e l

above-zero : (a : ℤ) → lt_z (pos 0) a ≡ true → pos 1 ≤ℤ a
above-zero a h = grind (arith, ints)

below-zero : (a : ℤ) → lt_z (pos 0) a ≡ false → a ≢ pos 0 → pos 1 ≤ℤ neg_ℤ a
below-zero a h n = grind (arith, ints)

one-mul : (a : ℤ) → pos 1 *ℤ a ≡ a
one-mul a = omega (arith, ints)

turned_up-is : (N : ℕ → Type 0) (z : ℕ → ℤ) (d : ℤ) (s : ℕ) (a : ℤ) (ts rest : Terms) (e : ℕ) (l : Line) → pos 1 ≤ℤ a → sum_of ts z ≡ (a *ℤ z e) +ℤ sum_of rest z → Within N 0 rest → N s → turned_up d s a rest ≡ Some l → Turned N z d s ts e l
turned_up-is N z d s a ts rest e l p q w n h =
    let x = value-some (merged (negsuc 0) d rest ((s, pos 1) ∷ [])) (λ us. Some (line a us)) l h in
    let m = merged-is N z (negsuc 0) d rest ((s, pos 1) ∷ []) 0 x.0 w (omega arith, λ i. absurd (cc), n, tt) x.1 in
    let sum : sum_of x.0 z ≡ neg_ℤ (sum_of rest z) +ℤ (d *ℤ z s) =
    omega (arith, ints, m.1, minus-mul (sum_of rest z), mul-add d (pos 1 *ℤ z s) (pos 0), mul-comm d (pos 0), zero-mul d, ap (λ (y : ℤ). d *ℤ y) (one-mul (z s))) in
    let same : line a x.0 ≡ l = cc (x.2) in
    subst (λ (k : Line). Turned N z d s ts e k) same (p, m.0, (λ t. omega (arith, ints, t, sum, q), λ t. omega (arith, ints, t, sum, q)))

turned_down-is : (N : ℕ → Type 0) (z : ℕ → ℤ) (d : ℤ) (s : ℕ) (a : ℤ) (ts rest : Terms) (e : ℕ) (l : Line) → pos 1 ≤ℤ neg_ℤ a → sum_of ts z ≡ (a *ℤ z e) +ℤ sum_of rest z → Within N 0 rest → N s → turned_down d s a rest ≡ Some l → Turned N z d s ts e l
turned_down-is N z d s a ts rest e l p q w n h =
    let u = value-some (in_128 (neg_ℤ a)) (λ p. with_value (in_128 (neg_ℤ d)) (λ n. with_value (merged (pos 1) n rest ((s, pos 1) ∷ [])) (λ ts. Some (line p ts)))) l h in
    let v = value-some (in_128 (neg_ℤ d)) (λ n. with_value (merged (pos 1) n rest ((s, pos 1) ∷ [])) (λ ts. Some (line u.0 ts))) l u.2 in
    let x = value-some (merged (pos 1) v.0 rest ((s, pos 1) ∷ [])) (λ us. Some (line u.0 us)) l v.2 in
    let m = merged-is N z (pos 1) v.0 rest ((s, pos 1) ∷ []) 0 x.0 w (omega arith, λ i. absurd (cc), n, tt) x.1 in
    let ua : u.0 ≡ neg_ℤ a = in_128-value (neg_ℤ a) u.0 u.1 in
    let vd : v.0 ≡ neg_ℤ d = in_128-value (neg_ℤ d) v.0 v.1 in
    let turn : v.0 *ℤ z s ≡ neg_ℤ (d *ℤ z s) = ap (λ (y : ℤ). y *ℤ z s) vd ∙ neg-mul d (z s) in
    let sum : sum_of x.0 z ≡ sum_of rest z +ℤ neg_ℤ (d *ℤ z s) =
    omega (arith, ints, m.1, one-mul (sum_of rest z), mul-add v.0 (pos 1 *ℤ z s) (pos 0), mul-comm v.0 (pos 0), zero-mul v.0, ap (λ (y : ℤ). v.0 *ℤ y) (one-mul (z s)), turn) in
    let up : u.0 *ℤ z e ≡ neg_ℤ (a *ℤ z e) = ap (λ (y : ℤ). y *ℤ z e) ua ∙ neg-mul a (z e) in
    let same : line u.0 x.0 ≡ l = cc (x.2) in
    subst (λ (k : Line). Turned N z d s ts e k) same (omega (arith, ints, p, ua), m.0, (λ t. omega (arith, ints, t, sum, q, up), λ t. omega (arith, ints, t, sum, q, up)))

pub turned-is : (P N : ℕ → Type 0) (z : ℕ → ℤ) (d : ℤ) (ts : Terms) (s e : ℕ) (l : Line) → coefficient ts e ≢ pos 0 → Within P 0 ts → ((v : ℕ) → P v → v ≢ e → N v) → N s → turned d ts s e ≡ Some l → Turned N z d s ts e l
turned-is P N z d ts s e l c w f n h =
    let o = others-is P z 0 e ts w in
    let a : ℤ = coefficient ts e in
    let rest : Within N 0 (others e ts) = Within-map (λ v. P v × (v ≢ e)) N 0 (others e ts) (λ v x. f v x.0 x.1) o.0 in
    elim (cases_Bool (lt_z (pos 0) a)) [
      | inl b ↦ turned_up-is N z d s a ts (others e ts) e l (above-zero a b) o.1 rest n (rw b at h)
      | inr b ↦ turned_down-is N z d s a ts (others e ts) e l (below-zero a b c) o.1 rest n (rw b at h)
    ]

-- ---- a line with the entering variable put in

-- the first line says of y what the second says, where the entered line holds
abbrev Agrees : (ℕ → ℤ) → Line → Line → Type 0
Agrees z l k = (y : ℤ) → (l.denominator *ℤ y ≡ sum_of l.terms z → k.denominator *ℤ y ≡ sum_of k.terms z) × (k.denominator *ℤ y ≡ sum_of k.terms z → l.denominator *ℤ y ≡ sum_of l.terms z)

abbrev pub Substituted : (ℕ → Type 0) → (ℕ → ℤ) → Line → ℕ → Line → Line → Type 0
Substituted N z entered e l k = (pos 1 ≤ℤ k.denominator) × Within N 0 k.terms × (entered.denominator *ℤ z e ≡ sum_of entered.terms z → Agrees z l k)

-- p times the old sum is g times the new one
scaled-sum : (p a ze so st sl sm : ℤ) → p *ℤ ze ≡ st → sl ≡ (a *ℤ ze) +ℤ so → sm ≡ (p *ℤ so) +ℤ (a *ℤ st) → sm ≡ p *ℤ sl
scaled-sum p a ze so st sl sm t l m =
    omega (
      arith,
      ints,
      m,
      ap (λ (y : ℤ). p *ℤ y) l,
      mul-add p (a *ℤ ze) so,
      mul-assoc p a ze,
      mul-assoc a p ze,
      ap (λ (y : ℤ). y *ℤ ze) (mul-comm p a),
      ap (λ (y : ℤ). a *ℤ y) t,
    )

-- p d = g k and p s = g t: then d y = s and k y = t say the same
agree : (p g d k s t y : ℤ) → pos 1 ≤ℤ p → pos 1 ≤ℤ g → g *ℤ k ≡ p *ℤ d → g *ℤ t ≡ p *ℤ s → (d *ℤ y ≡ s → k *ℤ y ≡ t) × (k *ℤ y ≡ t → d *ℤ y ≡ s)
agree p g d k s t y hp hg hd hs =
    let both : g *ℤ (k *ℤ y) ≡ p *ℤ (d *ℤ y) = mul-assoc g k y ∙ ap (λ (x : ℤ). x *ℤ y) hd ∙ sym (mul-assoc p d y) in
    (λ e. cancel g (k *ℤ y) t hg (both ∙ ap (λ (x : ℤ). p *ℤ x) e ∙ sym hs), λ e. cancel p (d *ℤ y) s hp (sym both ∙ ap (λ (x : ℤ). g *ℤ x) e ∙ hs))

-- the same, where k is a line in lowest terms
agree-reduced : (N : ℕ → Type 0) (z : ℕ → ℤ) (e s : ℤ) (k : Line) (p d t y : ℤ) → pos 1 ≤ℤ p → Reduced N z e s k → e ≡ p *ℤ d → s ≡ p *ℤ t → (d *ℤ y ≡ t → k.denominator *ℤ y ≡ sum_of k.terms z) × (k.denominator *ℤ y ≡ sum_of k.terms z → d *ℤ y ≡ t)
agree-reduced N z e s k p d t y hp r he hs = agree p r.2 d k.denominator t (sum_of k.terms z) y hp r.3 (r.4 ∙ he) (r.5 ∙ hs)

with_entered-is : (P N : ℕ → Type 0) (z : ℕ → ℤ) (e : ℕ) (entered l k : Line) → pos 1 ≤ℤ entered.denominator → Within N 0 entered.terms → pos 1 ≤ℤ l.denominator → Within P 0 l.terms → ((v : ℕ) → P v → v ≢ e → N v) → with_entered e entered (coefficient l.terms e) l ≡ Some k → Substituted N z entered e l k
with_entered-is P N z e entered l k ep ew lp lw f h =
    let p : ℤ = entered.denominator in
    let a : ℤ = coefficient l.terms e in
    let o = others-is P z 0 e l.terms lw in
    let rest : Within N 0 (others e l.terms) = Within-map (λ v. P v × (v ≢ e)) N 0 (others e l.terms) (λ v x. f v x.0 x.1) o.0 in
    let d = value-some (in_128 (p *ℤ l.denominator)) (λ d. with_value (merged p a (others e l.terms) entered.terms) (λ ts. reduced d ts)) k h in
    let m = value-some (merged p a (others e l.terms) entered.terms) (λ ts. reduced d.0 ts) k d.2 in
    let i = merged-is N z p a (others e l.terms) entered.terms 0 m.0 rest ew m.1 in
    let whole : d.0 ≡ p *ℤ l.denominator = in_128-value (p *ℤ l.denominator) d.0 d.1 in
    let above : pos 1 ≤ℤ d.0 = omega (arith, ints, whole, above-product p l.denominator ep lp) in
    let r = reduced-is N z d.0 m.0 k above i.0 m.2 in (
      r.0,
      r.1,
      λ t y. agree-reduced N z d.0 (sum_of m.0 z) k p l.denominator (sum_of l.terms z) y ep r whole
          (scaled-sum p a (z e) (sum_of (others e l.terms) z) (sum_of entered.terms z) (sum_of l.terms z) (sum_of m.0 z) t o.1 i.1),
    )

pub substituted-is : (P N : ℕ → Type 0) (z : ℕ → ℤ) (e : ℕ) (entered l k : Line) → pos 1 ≤ℤ entered.denominator → Within N 0 entered.terms → pos 1 ≤ℤ l.denominator → Within P 0 l.terms → ((v : ℕ) → P v → v ≢ e → N v) → substituted e entered l ≡ Some k → Substituted N z entered e l k
substituted-is P N z e entered l k ep ew lp lw f h =
    elim (cases_Bool (int_eq (coefficient l.terms e) (pos 0))) [
      | inl b ↦
          let s : Some l ≡ Some k = rw b at h in
          let same : l ≡ k = cc in
          let w : Within N 0 l.terms = Within-map (λ v. P v × (v ≢ e)) N 0 l.terms (λ v x. f v x.0 x.1) (absent-is P 0 e l.terms lw (int_eq-true (coefficient l.terms e) b)) in
          subst (λ (j : Line). Substituted N z entered e l j) same (lp, w, λ t y. (λ x. x, λ x. x))
      | inr b ↦ with_entered-is P N z e entered l k ep ew lp lw f (rw b at h)
    ]

-- ---- lines by number

pub line_at-get : (tab : Tableau) (i : ℕ) → line_at tab i ≡ get_or tab i None
line_at-get tab i = unwrap_or-slice_get tab i None

pub line_at-other : (tab : Tableau) (s i : ℕ) (o : Option Line) → i ≢ s → line_at (slice_set tab s o) i ≡ line_at tab i
line_at-other tab s i o h = line_at-get (slice_set tab s o) i ∙ get_or-set_other tab s i o None h ∙ sym (line_at-get tab i)

pub line_at-same : (tab : Tableau) (s : ℕ) (o : Option Line) → s < length tab → line_at (slice_set tab s o) s ≡ o
line_at-same tab s o h = line_at-get (slice_set tab s o) s ∙ get_or-set_same tab s o None h

pub line_at-within : (tab : Tableau) (i : ℕ) (l : Line) → line_at tab i ≡ Some l → i < length tab
line_at-within [] i l h = absurd (cc)
line_at-within (o ∷ os) zero l h = omega arith
line_at-within (o ∷ os) (suc i) l h = omega (arith, line_at-within os i l h)

pub rewritten-all : (e : ℕ) (entered : Line) (tab ps : Tableau) → rewritten e entered tab ≡ Some ps → length ps ≡ length tab
rewritten-all e entered [] ps h = let q : [] ≡ ps = cc in subst (λ (xs : Tableau). length xs ≡ 0) q refl
rewritten-all e entered (o ∷ os) ps h =
    let x = value-some (rewritten_line e entered o) (λ p. with_value (rewritten e entered os) (λ ps. Some (p ∷ ps))) ps h in
    let y = value-some (rewritten e entered os) (λ ps. Some (x.0 ∷ ps)) ps x.2 in
    let q : x.0 ∷ y.0 ≡ ps = cc (y.2) in
    subst (λ (xs : Tableau). length xs ≡ suc (length os)) q (ap suc (rewritten-all e entered os y.0 y.1))

pub rewritten-at : (e : ℕ) (entered : Line) (tab ps : Tableau) (i : ℕ) → rewritten e entered tab ≡ Some ps → rewritten_line e entered (line_at tab i) ≡ Some (line_at ps i)
rewritten-at e entered [] ps i h = let q : [] ≡ ps = cc in subst (λ (xs : Tableau). Some None ≡ Some (line_at xs i)) q refl
rewritten-at e entered (o ∷ os) ps zero h =
    let x = value-some (rewritten_line e entered o) (λ p. with_value (rewritten e entered os) (λ ps. Some (p ∷ ps))) ps h in
    let y = value-some (rewritten e entered os) (λ ps. Some (x.0 ∷ ps)) ps x.2 in
    let q : x.0 ∷ y.0 ≡ ps = cc (y.2) in
    subst (λ (xs : Tableau). rewritten_line e entered o ≡ Some (line_at xs 0)) q x.1
rewritten-at e entered (o ∷ os) ps (suc i) h =
    let x = value-some (rewritten_line e entered o) (λ p. with_value (rewritten e entered os) (λ ps. Some (p ∷ ps))) ps h in
    let y = value-some (rewritten e entered os) (λ ps. Some (x.0 ∷ ps)) ps x.2 in
    let q : x.0 ∷ y.0 ≡ ps = cc (y.2) in
    subst (λ (xs : Tableau). rewritten_line e entered (line_at os i) ≡ Some (line_at xs (suc i))) q (rewritten-at e entered os y.0 i y.1)

-- a nonbasic variable stays one, and each new line comes from an old one
pub rewritten-none : (e : ℕ) (entered : Line) (tab ps : Tableau) (i : ℕ) → rewritten e entered tab ≡ Some ps → line_at tab i ≡ None → line_at ps i ≡ None
rewritten-none e entered tab ps i h n =
    let x : Some None ≡ Some (line_at ps i) = rw n at (rewritten-at e entered tab ps i h) in
    cc

pub rewritten-line : (e : ℕ) (entered : Line) (tab ps : Tableau) (i : ℕ) (k : Line) → rewritten e entered tab ≡ Some ps → line_at ps i ≡ Some k → (l : Line) × (line_at tab i ≡ Some l) × (substituted e entered l ≡ Some k)
rewritten-line e entered tab ps i k h n =
    elim (line_at tab i) as (λ o. line_at tab i ≡ o → rewritten_line e entered o ≡ Some (line_at ps i) → (l : Line) × (line_at tab i ≡ Some l) × (substituted e entered l ≡ Some k)) [
      | None ↦ λ q r. absurd (cc (r, n))
      | Some l ↦ λ q r.
          let x = value-some (substituted e entered l) (λ j. Some (Some j)) (line_at ps i) r in
          let same : x.0 ≡ k = cc (x.2, n) in
          (l, q, subst (λ (j : Line). substituted e entered l ≡ Some j) same x.1)
    ] refl (rewritten-at e entered tab ps i h)

pub rewritten-some : (e : ℕ) (entered : Line) (tab ps : Tableau) (i : ℕ) (l : Line) → rewritten e entered tab ≡ Some ps → line_at tab i ≡ Some l → (k : Line) × (line_at ps i ≡ Some k) × (substituted e entered l ≡ Some k)
rewritten-some e entered tab ps i l h n =
    let r : rewritten_line e entered (Some l) ≡ Some (line_at ps i) = subst (λ (o : Option Line). rewritten_line e entered o ≡ Some (line_at ps i)) n (rewritten-at e entered tab ps i h) in
    let x = value-some (substituted e entered l) (λ j. Some (Some j)) (line_at ps i) r in
    let same : line_at ps i ≡ Some x.0 = cc (x.2) in
    (x.0, same, x.1)
