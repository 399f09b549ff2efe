-- Half the values of a type more or less, past a multiple of them all.
use Rattle.std.proofs.Common.{◌≡◌, ℕ, ◌+◌, ◌-◌, ◌*◌, ◌^◌, ◌%◌, ◌≤◌, ◌<◌, pos, ◌≤ℤ◌, ◌+ℤ◌, ◌-ℤ◌, None, arith, sym}
use Rattle.std.proofs.Math.Nat.{add-mod_right}
use Rattle.std.proofs.Math.Pow.{pow_mono}
use Rattle.std.proofs.lemmas.Nat.{pow-add}
use Rattle.std.specs.Prelude.{FitsSigned}
use Rattle.std.specs.Int.{w128}
use lib.IntN.{ℤ, negsuc}
use Rattle.std.proofs.lemmas.Int.{ints}
use Rattle.chc_nums.specs.Wide.{in_128, fits_128}
use Rattle.sol_core.specs.Wrapping.{modulo}

twice : (b : ℕ) → 2 ^ (b + 1) ≡ 2 ^ b + 2 ^ b
twice b = let e : 2 ^ (b + 1) ≡ 2 ^ b * 2 = pow-add 2 b 1 in omega arith

rest-half : (n h : ℕ) → h ≤ n → (n - h) % (h + h) ≡ (n + h) % (h + h)
rest-half n h p = let e : n + h ≡ (n - h) + (h + h) = omega arith in rw e (sym (add-mod_right (n - h) (h + h)))

pub modulo-half : (z : ℤ) (b : ℕ) → pos (2 ^ b) ≤ℤ z → modulo (z -ℤ pos (2 ^ b)) (2 ^ (b + 1)) ≡ modulo (z +ℤ pos (2 ^ b)) (2 ^ (b + 1))
modulo-half (pos n) b p =
    let q : 2 ^ b ≤ n = omega (arith, ints) in
    let d : pos n -ℤ pos (2 ^ b) ≡ pos (n - 2 ^ b) = omega (arith, ints) in
    rw (d, twice b) (rest-half n (2 ^ b) q)
modulo-half (negsuc n) b p = absurd (omega (arith, ints))

-- a sum with half the values that leaves 128 bits is of a number that is no less than them
pub high : (z : ℤ) (b : ℕ) → b < 126 → in_128 (z +ℤ pos (2 ^ b)) ≡ None → FitsSigned w128 z → pos (2 ^ b) ≤ℤ z
unfolding in_128 fits_128
high z b h e f =
    let p : 2 ^ b ≤ 2 ^ 125 = pow_mono {j = 125} (omega arith) in
    grind (arith, ints)
