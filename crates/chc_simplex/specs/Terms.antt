-- Sums of products of variables that ascend: a term is a variable's number and its coefficient.
use Rattle.std.specs.Prelude.{ℕ, suc, ◌≤◌, ◌==◌, nat_lt, List, [], ◌∷◌, ◌++◌, Option, Some, pos, ◌+ℤ◌, ◌*ℤ◌, if◌then◌else◌, FitsSigned}
use Rattle.std.specs.Int.{w128}
use lib.IntN.{ℤ}
use Rattle.std.specs.Ordering.{int_eq}
use Rattle.chc_nums.specs.Wide.{in_128, add_product}
use Rattle.chc_nums.specs.Values.{with_value}
use Rattle.chc_simplex.specs.Outcomes.{joined}

abbrev pub Terms : Type 0
Terms = List (ℕ × ℤ)

-- variables ascend, from k on
abbrev pub Ascends : ℕ → Terms → Type 0
Ascends k [] = Unit {0}
Ascends k (t ∷ ts) = (k ≤ t.0) × Ascends (suc t.0) ts

-- each coefficient has 128 bits
abbrev pub AllFit : Terms → Type 0
AllFit [] = Unit {0}
AllFit (t ∷ ts) = FitsSigned w128 t.1 × AllFit ts

-- the coefficient of a variable, 0 where it doesn't stand in the sum
abbrev pub coefficient : Terms → ℕ → ℤ
coefficient [] v = pos 0
coefficient (t ∷ ts) v = if t.0 == v then t.1 else coefficient ts v

-- the terms of all variables but one
abbrev pub others : ℕ → Terms → Terms
others e [] = []
others e (t ∷ ts) = if t.0 == e then others e ts else t ∷ others e ts

-- a term, which vanishes where its coefficient is 0
abbrev pub term : ℕ → ℤ → Terms
term v a = if int_eq a (pos 0) then [] else (v, a) ∷ []

-- terms with one more at their end
unfoldable pub pushed : Terms → ℕ → Option ℤ → Option Terms
pushed made v number = with_value number (λ a. Some (made ++ term v a))

-- a term in front of the rest
abbrev pub put_before : ℕ → Option ℤ → Option Terms → Option Terms
put_before v number rest = with_value number (λ a. with_value rest (λ ts. Some (term v a ++ ts)))

-- each coefficient times c
unfoldable pub scaled : ℤ → Terms → Option Terms
scaled c [] = Some []
scaled c (t ∷ ts) = put_before t.0 (in_128 (c *ℤ t.1)) (scaled c ts)

-- p times one coefficient and c times another, and their sum
abbrev pub both : ℤ → ℤ → ℤ → ℤ → Option ℤ
both p a c b = with_value (in_128 (p *ℤ a)) (λ x. with_value (in_128 (c *ℤ b)) (λ y. in_128 (x +ℤ y)))

-- one term times p where it belongs among terms times c, and `rest` of what comes after it
abbrev pub placed_term : ℤ → ℤ → (ℕ × ℤ) → (Terms → Option Terms) → Terms → Option Terms
placed_term p c t rest [] = put_before t.0 (in_128 (p *ℤ t.1)) (rest [])
placed_term p c t rest (u ∷ us) =
    if nat_lt t.0 u.0
    then put_before t.0 (in_128 (p *ℤ t.1)) (rest (u ∷ us))
    else (
    if nat_lt u.0 t.0
    then put_before u.0 (in_128 (c *ℤ u.1)) (placed_term p c t rest us)
    else put_before t.0 (both p t.1 c u.1) (rest us)
    )

-- p times one sum and c times another
unfoldable pub merged : ℤ → ℤ → Terms → Terms → Option Terms
merged p c [] us = scaled c us
merged p c (t ∷ ts) us = placed_term p c t (merged p c ts) us

-- the two above, after terms that are there already
unfoldable pub scaled_onto : Terms → ℤ → Terms → Option Terms
scaled_onto made c ts = joined made (scaled c ts)

unfoldable pub merged_onto : Terms → ℤ → ℤ → Terms → Terms → Option Terms
merged_onto made p c ts us = joined made (merged p c ts us)

-- the sum at these values, from left to right on from a first number
abbrev pub sums_from : ℤ → Terms → (ℕ → ℤ) → Option ℤ
sums_from s [] x = Some s
sums_from s (t ∷ ts) x = with_value (add_product s t.1 (x t.0)) (λ r. sums_from r ts x)
