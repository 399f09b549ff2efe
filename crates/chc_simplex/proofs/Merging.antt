-- The steps of a merge of two sums.
use Rattle.std.proofs.Common.{◌≡◌, ◌∙◌, sym, ap, refl, ℕ, ◌<◌, ◌≤◌, [], ◌∷◌, ◌++◌, append_assoc, append-nil, Option, Some, None, arith, ◌*ℤ◌}
use lib.IntN.{ℤ}
use Rattle.std.proofs.lemmas.Int.{to_z-of_z}
use Rattle.chc_nums.specs.Wide.{in_128}
use Rattle.chc_nums.specs.Values.{with_value}
use Rattle.chc_simplex.specs.Outcomes.{joined}
use Rattle.chc_simplex.specs.Terms.{Terms, term, pushed, put_before, both, scaled, merged, scaled_onto, merged_onto}
use Rattle.lists.proofs.Tests.{less-is, less-not}

-- ---- one term more at the end

joined-two : (made more : Terms) (rest : Option Terms) → joined (made ++ more) rest ≡ joined made (with_value rest (λ ts. Some (more ++ ts)))
joined-two made more None = refl
joined-two made more (Some ts) = ap Some (append_assoc made more ts)

pushed-before : (made now : Terms) (v : ℕ) (number : Option ℤ) (rest : Option Terms) → pushed made v number ≡ Some now → joined now rest ≡ joined made (put_before v number rest)
unfolding pushed
pushed-before made now v None rest h = absurd (cc)
pushed-before made now v (Some a) rest h =
    let same : made ++ term v a ≡ now = cc in
    ap (λ (xs : Terms). joined xs rest) (sym same) ∙ joined-two made (term v a) rest

pushed-not : (made : Terms) (v : ℕ) (number : Option ℤ) (rest : Option Terms) → pushed made v number ≡ None → joined made (put_before v number rest) ≡ None
unfolding pushed
pushed-not made v None rest h = refl
pushed-not made v (Some a) rest h = absurd (cc)

-- ---- terms times c

pub scaled-end : (made : Terms) (c : ℤ) → scaled_onto made c [] ≡ Some made
unfolding scaled scaled_onto
scaled-end made c = ap Some (append-nil made)

pub scaled-step : (made now : Terms) (c : ℤ) (v : ℕ) (a : ℤ) (ts : Terms) → pushed made v (in_128 (c *ℤ a)) ≡ Some now → scaled_onto made c ((v, a) ∷ ts) ≡ scaled_onto now c ts
unfolding scaled scaled_onto
scaled-step made now c v a ts h = sym (pushed-before made now v (in_128 (c *ℤ a)) (scaled c ts) h)

pub scaled-wide : (made : Terms) (c : ℤ) (v : ℕ) (a : ℤ) (ts : Terms) → pushed made v (in_128 (c *ℤ a)) ≡ None → scaled_onto made c ((v, a) ∷ ts) ≡ None
unfolding scaled scaled_onto
scaled-wide made c v a ts h = pushed-not made v (in_128 (c *ℤ a)) (scaled c ts) h

-- ---- two sums

pub merged-start : (p c : ℤ) (ts us : Terms) → merged_onto [] p c ts us ≡ merged p c ts us
unfolding merged_onto
merged-start p c ts us = elim (merged p c ts us) as (λ o. joined [] o ≡ o) [ None ↦ refl | Some x ↦ refl ]

pub merged-end : (made : Terms) (p c : ℤ) (us : Terms) → merged_onto made p c [] us ≡ scaled_onto made c us
unfolding merged merged_onto scaled_onto
merged-end made p c us = refl

pub merged-last : (made now : Terms) (p c : ℤ) (v : ℕ) (a : ℤ) (ts : Terms) → pushed made v (in_128 (p *ℤ a)) ≡ Some now → merged_onto made p c ((v, a) ∷ ts) [] ≡ merged_onto now p c ts []
unfolding merged merged_onto
merged-last made now p c v a ts h = sym (pushed-before made now v (in_128 (p *ℤ a)) (merged p c ts []) h)

pub merged-left : (made now : Terms) (p c : ℤ) (v : ℕ) (a : ℤ) (ts : Terms) (w : ℕ) (b : ℤ) (us : Terms) → v < w → pushed made v (in_128 (p *ℤ a)) ≡ Some now → merged_onto made p c ((v, a) ∷ ts) ((w, b) ∷ us) ≡ merged_onto now p c ts ((w, b) ∷ us)
unfolding merged merged_onto
merged-left made now p c v a ts w b us l h = rw (less-is v w l) (sym (pushed-before made now v (in_128 (p *ℤ a)) (merged p c ts ((w, b) ∷ us)) h))

pub merged-right : (made now : Terms) (p c : ℤ) (v : ℕ) (a : ℤ) (ts : Terms) (w : ℕ) (b : ℤ) (us : Terms) → w < v → pushed made w (in_128 (c *ℤ b)) ≡ Some now → merged_onto made p c ((v, a) ∷ ts) ((w, b) ∷ us) ≡ merged_onto now p c ((v, a) ∷ ts) us
unfolding merged merged_onto
merged-right made now p c v a ts w b us l h =
    let n : w ≤ v = omega arith in
    rw (less-not v w n, less-is w v l) (sym (pushed-before made now w (in_128 (c *ℤ b)) (merged p c ((v, a) ∷ ts) us) h))

pub merged-both : (made now : Terms) (p c : ℤ) (v : ℕ) (a : ℤ) (ts : Terms) (w : ℕ) (b : ℤ) (us : Terms) → w ≤ v → v ≤ w → pushed made v (both p a c b) ≡ Some now → merged_onto made p c ((v, a) ∷ ts) ((w, b) ∷ us) ≡ merged_onto now p c ts us
unfolding merged merged_onto
merged-both made now p c v a ts w b us l m h = rw (less-not v w l, less-not w v m) (sym (pushed-before made now v (both p a c b) (merged p c ts us) h))

pub merged-last_wide : (made : Terms) (p c : ℤ) (v : ℕ) (a : ℤ) (ts : Terms) → pushed made v (in_128 (p *ℤ a)) ≡ None → merged_onto made p c ((v, a) ∷ ts) [] ≡ None
unfolding merged merged_onto
merged-last_wide made p c v a ts h = pushed-not made v (in_128 (p *ℤ a)) (merged p c ts []) h

pub merged-left_wide : (made : Terms) (p c : ℤ) (v : ℕ) (a : ℤ) (ts : Terms) (w : ℕ) (b : ℤ) (us : Terms) → v < w → pushed made v (in_128 (p *ℤ a)) ≡ None → merged_onto made p c ((v, a) ∷ ts) ((w, b) ∷ us) ≡ None
unfolding merged merged_onto
merged-left_wide made p c v a ts w b us l h = rw (less-is v w l) (pushed-not made v (in_128 (p *ℤ a)) (merged p c ts ((w, b) ∷ us)) h)

pub merged-right_wide : (made : Terms) (p c : ℤ) (v : ℕ) (a : ℤ) (ts : Terms) (w : ℕ) (b : ℤ) (us : Terms) → w < v → pushed made w (in_128 (c *ℤ b)) ≡ None → merged_onto made p c ((v, a) ∷ ts) ((w, b) ∷ us) ≡ None
unfolding merged merged_onto
merged-right_wide made p c v a ts w b us l h =
    let n : w ≤ v = omega arith in
    rw (less-not v w n, less-is w v l) (pushed-not made w (in_128 (c *ℤ b)) (merged p c ((v, a) ∷ ts) us) h)

pub merged-both_wide : (made : Terms) (p c : ℤ) (v : ℕ) (a : ℤ) (ts : Terms) (w : ℕ) (b : ℤ) (us : Terms) → w ≤ v → v ≤ w → pushed made v (both p a c b) ≡ None → merged_onto made p c ((v, a) ∷ ts) ((w, b) ∷ us) ≡ None
unfolding merged merged_onto
merged-both_wide made p c v a ts w b us l m h = rw (less-not v w l, less-not w v m) (pushed-not made v (both p a c b) (merged p c ts us) h)

pub ruleset merges = (
  to_z-of_z,
  scaled-end,
  scaled-step,
  scaled-wide,
  merged-start,
  merged-end,
  merged-last,
  merged-left,
  merged-right,
  merged-both,
  merged-last_wide,
  merged-left_wide,
  merged-right_wide,
  merged-both_wide,
)
