-- Numbers that are kept in 128 bits.
use Rattle.std.proofs.Common.{◌≡◌, ℕ, ◌^◌, ◌<◌, ◌≤◌, Option, Some, None, arith}
use Rattle.std.specs.Option.{SomeIff}
use Rattle.std.proofs.lemmas.Bool.Decides.{nat_tests}
use Rattle.std.proofs.Math.Nat.{pow-le-pow_right}
use Rattle.sol_lexer.specs.Reading.{limited}

pub limited_of : (r : Option ℕ) (n : ℕ) → SomeIff r (n < 2 ^ 128) n → r ≡ limited n
unfolding limited
limited_of None n h = grind (arith, nat_tests)
limited_of (Some m) n h = grind (arith, nat_tests)

pub ruleset limiting = (limited_of)

-- a power of ten in 128 bits
pub power_below : (k : ℕ) → k ≤ 38 → 10 ^ k < 2 ^ 128
power_below k h =
    let a : 10 ^ k ≤ 10 ^ 38 = pow-le-pow_right {n = 10} (omega arith) {i = k} {j = 38} h in
    omega arith
