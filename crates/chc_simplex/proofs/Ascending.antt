-- Variables that ascend in each line, and coefficients that have 128 bits: what the steps of a pivot keep of them.
use Rattle.std.proofs.Common.{◌≡◌, ◌≢◌, sym, subst, refl, ℕ, zero, suc, ◌<◌, ◌≤◌, List, [], ◌∷◌, ◌++◌, Option, Some, arith, pos, ◌*ℤ◌, ◌+ℤ◌, neg_ℤ, slice_get, inl, inr}
use lib.IntN.{ℤ, negsuc}
use lib.Signed.{lt_z}
use Rattle.std.specs.Prelude.{FitsSigned, nat_lt, ◌==◌, slice_set, int_div, unsigned_abs}
use Rattle.std.specs.Int.{w128}
use Rattle.std.specs.Ordering.{int_eq}
use Rattle.std.proofs.lemmas.Bool.{cases_Bool}
use Rattle.lists.proofs.Tests.{less-true, less-false, same-not}
use Rattle.chc_nums.specs.Wide.{in_128}
use Rattle.chc_nums.specs.Values.{with_value}
use Rattle.chc_nums.proofs.Fits.{in_128-fits}
use Rattle.chc_nums.proofs.Values.{value-some}
use Rattle.chc_form.specs.declared.linear.Lin.{Lin}
use Rattle.chc_form.specs.Linear.{Ascend, AscendFrom, AllAscend}
use Rattle.chc_form.specs.RowSums.{width}
use Rattle.chc_simplex.specs.declared.data.Line.{Line}
use Rattle.chc_simplex.specs.Terms.{Terms, Ascends, AllFit, coefficient, others, term, put_before, both, scaled, placed_term, merged}
use Rattle.chc_simplex.specs.Lines.{Tableau, line, line_at, terms_of, common, divided_terms, divided_line, reduced, turned_up, turned_down, turned, with_entered}
use Rattle.chc_simplex.specs.TableauRun.{nonbasic, slack_lines, first_tableau}
use Rattle.chc_simplex.specs.Simplex.{LinesAscend}
use Rattle.chc_simplex.proofs.Orders.{put-some}

-- ---- a search that ends early

pub ascends-from : (j k : ℕ) (ts : Terms) → j ≤ k → Ascends k ts → Ascends j ts
ascends-from j k [] h a = tt
ascends-from j k (t ∷ ts) h a = (omega (arith, a.0), a.1)

pub ascends-tail : (v : ℕ) (a : ℤ) (ts : Terms) → Ascends 0 ((v, a) ∷ ts) → Ascends 0 ts
ascends-tail v a ts h = ascends-from 0 (suc v) ts (omega arith) h.1

absent : (k e : ℕ) (ts : Terms) → e < k → Ascends k ts → coefficient ts e ≡ pos 0
absent k e [] l a = refl
absent k e (t ∷ ts) l a =
    let n : t.0 ≢ e = λ q. absurd (omega (arith, q, a.0, l)) in
    rw (same-not t.0 e n) (absent (suc t.0) e ts (omega (arith, a.0)) a.1)

pub coefficient-before : (v e : ℕ) (a : ℤ) (ts : Terms) → e < v → Ascends 0 ((v, a) ∷ ts) → coefficient ((v, a) ∷ ts) e ≡ pos 0
coefficient-before v e a ts l h = absent v e ((v, a) ∷ ts) l (omega arith, h.1)

pub ruleset searches = (ascends-tail, coefficient-before)

-- ---- what is merged

-- variables ascend from k on, and coefficients have 128 bits
abbrev Formed : ℕ → Terms → Type 0
Formed k ts = Ascends k ts × AllFit ts

term-formed : (k v : ℕ) (a : ℤ) (ts : Terms) → k ≤ v → FitsSigned w128 a → Formed (suc v) ts → Formed k (term v a ++ ts)
term-formed k v a ts h f m =
    elim (cases_Bool (int_eq a (pos 0))) [
      | inl e ↦ rw e (ascends-from k (suc v) ts (omega arith) m.0, m.1)
      | inr e ↦ rw e ((h, m.0), (f, m.1))
    ]

put-formed : (k v : ℕ) (number : Option ℤ) (rest : Option Terms) (rs : Terms) → k ≤ v → ((a : ℤ) → number ≡ Some a → FitsSigned w128 a) → ((ts : Terms) → rest ≡ Some ts → Formed (suc v) ts) → put_before v number rest ≡ Some rs → Formed k rs
put-formed k v number rest rs h f g e =
    let x = put-some v number rest rs e in
    subst (Formed k) x.4 (term-formed k v x.0 x.1 h (f x.0 x.2) (g x.1 x.3))

scaled-formed : (c : ℤ) (us : Terms) (k : ℕ) (rs : Terms) → Ascends k us → scaled c us ≡ Some rs → Formed k rs
unfolding scaled
scaled-formed c [] k rs a h = let e : [] ≡ rs = cc in subst (Formed k) e (tt, tt)
scaled-formed c (u ∷ us) k rs a h = put-formed k u.0 (in_128 (c *ℤ u.1)) (scaled c us) rs a.0 (in_128-fits (c *ℤ u.1)) (λ ts q. scaled-formed c us (suc u.0) ts a.1 q) h

both-fits : (p a c b s : ℤ) → both p a c b ≡ Some s → FitsSigned w128 s
both-fits p a c b s h =
    let x = value-some (in_128 (p *ℤ a)) (λ x. with_value (in_128 (c *ℤ b)) (λ y. in_128 (x +ℤ y))) s h in
    let y = value-some (in_128 (c *ℤ b)) (λ y. in_128 (x.0 +ℤ y)) s x.2 in
    in_128-fits (x.0 +ℤ y.0) s y.2

-- what is known of a merge with the terms ts
abbrev Merges : Terms → (Terms → Option Terms) → Type 0
Merges ts merge = (us : Terms) (k : ℕ) (rs : Terms) → Ascends k ts → Ascends k us → merge us ≡ Some rs → Formed k rs

placed-formed : (p c : ℤ) (t : ℕ × ℤ) (ts : Terms) (merge : Terms → Option Terms) → Merges ts merge → Merges (t ∷ ts) (placed_term p c t merge)
placed-formed p c t ts merge ih [] k rs a b h = put-formed k t.0 (in_128 (p *ℤ t.1)) (merge []) rs a.0 (in_128-fits (p *ℤ t.1)) (λ xs q. ih [] (suc t.0) xs a.1 tt q) h
placed-formed p c t ts merge ih (u ∷ us) k rs a b h =
    elim (cases_Bool (nat_lt t.0 u.0)) [
      | inl e ↦ put-formed k t.0 (in_128 (p *ℤ t.1)) (merge (u ∷ us)) rs a.0 (in_128-fits (p *ℤ t.1)) (λ xs q. ih (u ∷ us) (suc t.0) xs a.1 (omega (arith, less-true t.0 u.0 e), b.1) q) (rw e at h)
      | inr e ↦
          let h1 = rw e at h in
          elim (cases_Bool (nat_lt u.0 t.0)) [
            | inl f ↦ put-formed k u.0 (in_128 (c *ℤ u.1)) (placed_term p c t merge us) rs b.0 (in_128-fits (c *ℤ u.1)) (λ xs q. placed-formed p c t ts merge ih us (suc u.0) xs (omega (arith, less-true u.0 t.0 f), a.1) b.1 q) (rw f at h1)
            | inr f ↦
                let same : t.0 ≡ u.0 = omega (arith, less-false t.0 u.0 e, less-false u.0 t.0 f) in
                put-formed k t.0 (both p t.1 c u.1) (merge us) rs a.0 (both-fits p t.1 c u.1) (λ xs q. ih us (suc t.0) xs a.1 (subst (λ (n : ℕ). Ascends (suc n) us) (sym same) b.1) q) (rw f at h1)
          ]
    ]

merged-formed : (p c : ℤ) (ts : Terms) → Merges ts (merged p c ts)
unfolding merged
merged-formed p c [] us k rs a b h = scaled-formed c us k rs b h
merged-formed p c (t ∷ ts) us k rs a b h = placed-formed p c t ts (merged p c ts) (merged-formed p c ts) us k rs a b h

others-ascend : (k e : ℕ) (ts : Terms) → Ascends k ts → Ascends k (others e ts)
others-ascend k e [] a = tt
others-ascend k e (t ∷ ts) a =
    elim (cases_Bool (t.0 == e)) [
      | inl q ↦ rw q (ascends-from k (suc t.0) (others e ts) (omega (arith, a.0)) (others-ascend (suc t.0) e ts a.1))
      | inr q ↦ rw q (a.0, others-ascend (suc t.0) e ts a.1)
    ]

-- the coefficients of a line that a variable was put into
pub merged-fit : (p c : ℤ) (e : ℕ) (ts us rs : Terms) → Ascends 0 ts → Ascends 0 us → merged p c (others e ts) us ≡ Some rs → AllFit rs
merged-fit p c e ts us rs a b h = (merged-formed p c (others e ts) us 0 rs (others-ascend 0 e ts a) b h).1

-- ---- lines

divided-ascend : (g : ℤ) (k : ℕ) (ts us : Terms) → Ascends k ts → divided_terms g ts ≡ Some us → Ascends k us
divided-ascend g k [] us a h = let e : [] ≡ us = cc in subst (Ascends k) e tt
divided-ascend g k (t ∷ ts) us a h =
    let b = value-some (in_128 (int_div t.1 g)) (λ a. with_value (divided_terms g ts) (λ us. Some ((t.0, a) ∷ us))) us h in
    let r = value-some (divided_terms g ts) (λ us. Some ((t.0, b.0) ∷ us)) us b.2 in
    let e : (t.0, b.0) ∷ r.0 ≡ us = cc (r.2) in
    subst (Ascends k) e (a.0, divided-ascend g (suc t.0) ts r.0 a.1 r.1)

reduced-ascend : (d : ℤ) (ts : Terms) (l : Line) → Ascends 0 ts → reduced d ts ≡ Some l → Ascends 0 l.terms
reduced-ascend d ts l a h =
    let g = value-some (in_128 (pos (common (unsigned_abs d) ts))) (divided_line d ts) l h in
    let x = value-some (in_128 (int_div d g.0)) (λ a. with_value (divided_terms g.0 ts) (λ us. Some (line a us))) l g.2 in
    let r = value-some (divided_terms g.0 ts) (λ us. Some (line x.0 us)) l x.2 in
    let e : line x.0 r.0 ≡ l = cc (r.2) in
    subst (λ (k : Line). Ascends 0 k.terms) e (divided-ascend g.0 0 ts r.0 a r.1)

pub entered-ascend : (e : ℕ) (entered : Line) (a : ℤ) (l k : Line) → Ascends 0 l.terms → Ascends 0 entered.terms → with_entered e entered a l ≡ Some k → Ascends 0 k.terms
entered-ascend e entered a l k f g h =
    let d = value-some (in_128 (entered.denominator *ℤ l.denominator)) (λ d. with_value (merged entered.denominator a (others e l.terms) entered.terms) (λ ts. reduced d ts)) k h in
    let m = value-some (merged entered.denominator a (others e l.terms) entered.terms) (λ ts. reduced d.0 ts) k d.2 in
    reduced-ascend d.0 m.0 k (merged-formed entered.denominator a (others e l.terms) entered.terms 0 m.0 (others-ascend 0 e l.terms f) g m.1).0 m.2

up-ascends : (d : ℤ) (s : ℕ) (a : ℤ) (rest : Terms) (l : Line) → Ascends 0 rest → turned_up d s a rest ≡ Some l → Ascends 0 l.terms
up-ascends d s a rest l f h =
    let x = value-some (merged (negsuc 0) d rest ((s, pos 1) ∷ [])) (λ us. Some (line a us)) l h in
    let e : line a x.0 ≡ l = cc (x.2) in
    subst (λ (k : Line). Ascends 0 k.terms) e (merged-formed (negsuc 0) d rest ((s, pos 1) ∷ []) 0 x.0 f (omega arith, tt) x.1).0

down-ascends : (d : ℤ) (s : ℕ) (a : ℤ) (rest : Terms) (l : Line) → Ascends 0 rest → turned_down d s a rest ≡ Some l → Ascends 0 l.terms
down-ascends d s a rest l f h =
    let u = value-some (in_128 (neg_ℤ a)) (λ p. with_value (in_128 (neg_ℤ d)) (λ n. with_value (merged (pos 1) n rest ((s, pos 1) ∷ [])) (λ ts. Some (line p ts)))) l h in
    let v = value-some (in_128 (neg_ℤ d)) (λ n. with_value (merged (pos 1) n rest ((s, pos 1) ∷ [])) (λ ts. Some (line u.0 ts))) l u.2 in
    let x = value-some (merged (pos 1) v.0 rest ((s, pos 1) ∷ [])) (λ us. Some (line u.0 us)) l v.2 in
    let e : line u.0 x.0 ≡ l = cc (x.2) in
    subst (λ (k : Line). Ascends 0 k.terms) e (merged-formed (pos 1) v.0 rest ((s, pos 1) ∷ []) 0 x.0 f (omega arith, tt) x.1).0

turned-ascends : (d : ℤ) (ts : Terms) (s e : ℕ) (l : Line) → Ascends 0 ts → turned d ts s e ≡ Some l → Ascends 0 l.terms
turned-ascends d ts s e l a h =
    let rest : Ascends 0 (others e ts) = others-ascend 0 e ts a in
    elim (cases_Bool (lt_z (pos 0) (coefficient ts e))) [
      | inl b ↦ up-ascends d s (coefficient ts e) (others e ts) l rest (rw b at h)
      | inr b ↦ down-ascends d s (coefficient ts e) (others e ts) l rest (rw b at h)
    ]

-- ---- all lines

line-ascends : (tab : Tableau) (v : ℕ) → LinesAscend tab → Ascends 0 (terms_of (line_at tab v))
line-ascends [] v a = tt
line-ascends (o ∷ os) zero a = a.0
line-ascends (o ∷ os) (suc v) a = line-ascends os v a.1

pub got-ascends : (tab : Tableau) (v : ℕ) (l : Line) → LinesAscend tab → slice_get tab v ≡ Some (Some l) → Ascends 0 l.terms
got-ascends [] v l a h = absurd (cc)
got-ascends (o ∷ os) zero l a h = let e : o ≡ Some l = cc in subst (λ (p : Option Line). Ascends 0 (terms_of p)) e a.0
got-ascends (o ∷ os) (suc v) l a h = got-ascends os v l a.1 h

pub put-ascends : (tab : Tableau) (v : ℕ) (o : Option Line) → LinesAscend tab → Ascends 0 (terms_of o) → LinesAscend (slice_set tab v o)
put-ascends [] v o a h = tt
put-ascends (p ∷ ps) zero o a h = (h, a.1)
put-ascends (p ∷ ps) (suc v) o a h = (a.0, put-ascends ps v o a.1 h)

pub left-ascends : (tab : Tableau) (d : ℤ) (ts : Terms) (s e : ℕ) (l : Line) → LinesAscend tab → ts ≡ terms_of (line_at tab s) → turned d ts s e ≡ Some l → Ascends 0 l.terms
left-ascends tab d ts s e l a q h = turned-ascends d ts s e l (subst (Ascends 0) (sym q) (line-ascends tab s a)) h

pub ruleset lines = (merged-fit, entered-ascend, got-ascends, put-ascends, left-ascends)

-- ---- the first tableau

later-ascend : (n : ℕ) (ts : Terms) → AscendFrom n ts → Ascends (suc n) ts
later-ascend n [] a = tt
later-ascend n (t ∷ ts) a = (omega (arith, a.0), later-ascend t.0 ts a.2)

row-ascends : (ts : Terms) → Ascend ts → Ascends 0 ts
row-ascends [] a = tt
row-ascends (t ∷ ts) a = (omega arith, later-ascend t.0 ts a.1)

slacks-ascend : (rows : List Lin) → AllAscend rows → LinesAscend (slack_lines rows)
slacks-ascend [] a = tt
slacks-ascend (r ∷ rs) a = (row-ascends r.terms a.0, slacks-ascend rs a.1)

after-nonbasic : (n : ℕ) (tab : Tableau) → LinesAscend tab → LinesAscend (nonbasic n ++ tab)
after-nonbasic zero tab a = a
after-nonbasic (suc n) tab a = (tt, after-nonbasic n tab a)

pub first-ascends : (rows : List Lin) (tab : Tableau) → AllAscend rows → Some (first_tableau rows) ≡ Some tab → LinesAscend tab
first-ascends rows tab a h =
    let e : first_tableau rows ≡ tab = cc in
    subst LinesAscend e (after-nonbasic (width rows) (slack_lines rows) (slacks-ascend rows a))

pub ruleset firsts = (first-ascends)
