-- The greatest common divisor, by Euclid's algorithm.
use Rattle.std.specs.Prelude.{ℕ, zero, suc, ◌%◌, ◌==◌, if◌then◌else◌}

-- in so many steps at most
abbrev pub gcd_in : ℕ → ℕ → ℕ → ℕ
gcd_in zero a b = a
gcd_in (suc k) a b = if b == 0 then a else gcd_in k b (a % b)

-- b falls with each step, so b steps are enough
unfoldable pub gcd : ℕ → ℕ → ℕ
gcd a b = gcd_in b a b
