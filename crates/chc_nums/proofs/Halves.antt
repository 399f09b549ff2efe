-- Numbers as so many times 2^64 and a rest.
use Rattle.std.proofs.Common.{inl, inr, ◌≡◌, arith, ◌-◌, ◌^◌}
use Rattle.std.specs.Prelude.{pos, ◌+ℤ◌, ◌-ℤ◌, ◌*ℤ◌, ◌≤ℤ◌, neg_ℤ, None, FitsSigned}
use Rattle.std.specs.Int.{int_div_euclid, int_rem_euclid, w128}
use Rattle.std.proofs.lemmas.Int.{ints}
use lib.IntN.{ℤ, negsuc}
use Rattle.chc_nums.specs.Wide.{in_128}
use Rattle.chc_nums.specs.Totals.{half, IsWithin}
use Rattle.chc_nums.proofs.Fits.{in_128-cases, in_128-yes, fits-between, fits-bounds}

pub halved : (z : ℤ) → (int_div_euclid z half *ℤ half) +ℤ int_rem_euclid z half ≡ z
halved (pos a) = omega (arith, ints)
halved (negsuc a) = omega (arith, ints)

pub rest-low : (z : ℤ) → pos 0 ≤ℤ int_rem_euclid z half
rest-low (pos a) = omega (arith, ints)
rest-low (negsuc a) = omega (arith, ints)

pub rest-high : (z : ℤ) → int_rem_euclid z half ≤ℤ pos 18446744073709551615
rest-high (pos a) = omega (arith, ints)
rest-high (negsuc a) = omega (arith, ints)

-- ---- a sum that has room for one number more

pub plus-high : (s sh sl n d : ℤ) → (sh *ℤ half) +ℤ sl ≡ s → (pos 0 ≤ℤ sl) × (sl ≤ℤ pos 18446744073709551615) → IsWithin (2 ^ 64 - 2) s → FitsSigned w128 n → d ≡ int_div_euclid n half → (neg_ℤ (pos (2 ^ 127 - 2 ^ 62)) ≤ℤ (sh +ℤ d)) × ((sh +ℤ d) ≤ℤ pos (2 ^ 127 - 2 ^ 62))
plus-high s sh sl n d v low w f e =
    let b = fits-bounds n f in
    (omega (arith, ints, v, low, w, b, e, halved n, rest-low n, rest-high n), omega (arith, ints, v, low, w, b, e, halved n, rest-low n, rest-high n))

pub minus-high : (s sh sl n d : ℤ) → (sh *ℤ half) +ℤ sl ≡ s → (pos 0 ≤ℤ sl) × (sl ≤ℤ pos 18446744073709551615) → IsWithin (2 ^ 64 - 2) s → FitsSigned w128 n → d ≡ int_div_euclid n half → (neg_ℤ (pos (2 ^ 127 - 2 ^ 62)) ≤ℤ (sh -ℤ d)) × ((sh -ℤ d) ≤ℤ pos (2 ^ 127 - 2 ^ 62))
minus-high s sh sl n d v low w f e =
    let b = fits-bounds n f in
    (omega (arith, ints, v, low, w, b, e, halved n, rest-low n, rest-high n), omega (arith, ints, v, low, w, b, e, halved n, rest-low n, rest-high n))

-- so large a number has 128 bits
pub room-fits : (z : ℤ) → (neg_ℤ (pos (2 ^ 127 - 2 ^ 62)) ≤ℤ z) × (z ≤ℤ pos (2 ^ 127 - 2 ^ 62)) → FitsSigned w128 z
room-fits z b = fits-between z (omega (arith, ints, b)) (omega (arith, ints, b))

pub plus-is : (t s sh sl n d r : ℤ) → (sh *ℤ half) +ℤ sl ≡ s → d ≡ int_div_euclid n half → r ≡ int_rem_euclid n half → t ≡ ((sh +ℤ d) *ℤ half) +ℤ (sl +ℤ r) → t ≡ s +ℤ n
plus-is t s sh sl n d r v p q i = omega (arith, ints, halved n, v, p, q, i)

pub minus-is : (t s sh sl n d r : ℤ) → (sh *ℤ half) +ℤ sl ≡ s → d ≡ int_div_euclid n half → r ≡ int_rem_euclid n half → t ≡ ((sh -ℤ d) *ℤ half) +ℤ (sl -ℤ r) → t ≡ s -ℤ n
minus-is t s sh sl n d r v p q i = omega (arith, ints, halved n, v, p, q, i)

-- where so many times 2^64 leave 128 bits, no number below 2^64 brings them back
fits-high : (s sh sl : ℤ) → (sh *ℤ half) +ℤ sl ≡ s → pos 0 ≤ℤ sl → sl ≤ℤ pos 18446744073709551615 → FitsSigned w128 s → FitsSigned w128 (sh *ℤ half)
fits-high s (pos a) sl v low high f = let g = f.sfits in record { sfits = omega (arith, ints, v, low, high, g) }
fits-high s (negsuc a) sl v low high f = let g = f.sfits in record { sfits = omega (arith, ints, v, low, high, g) }

pub wide-is : (s sh sl : ℤ) → (sh *ℤ half) +ℤ sl ≡ s → pos 0 ≤ℤ sl → sl ≤ℤ pos 18446744073709551615 → in_128 (sh *ℤ half) ≡ None → in_128 s ≡ None
wide-is s sh sl v low high e =
    elim (in_128-cases s) [
      | inl there ↦ let g = in_128-yes (sh *ℤ half) (fits-high s sh sl v low high there.1) in absurd (cc)
      | inr none ↦ none.0
    ]

pub ruleset halves = (halved, rest-low, rest-high)
