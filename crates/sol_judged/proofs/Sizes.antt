-- The search for a literal's smallest type, one size at a time.
use Rattle.std.proofs.Common.{◌≡◌, ℕ, zero, suc, ◌+◌, ◌<◌, Bool, true, false, Some, None, refl, arith}
use lib.IntN.{ℤ}
use Rattle.sol_judged.specs.declared.types.ValueType.TheVariants as type
use Rattle.sol_judged.specs.LiteralTypes.{fits_elementary, sized, smallest_of}

pub smallest_of-none : (signed : Bool) (k n : ℕ) (z : ℤ) → k ≡ 0 → smallest_of signed k n z ≡ None
unfolding smallest_of
smallest_of-none signed zero n z h = refl
smallest_of-none signed (suc k) n z h = absurd (omega arith)

pub smallest_of-here : (signed : Bool) (k n : ℕ) (z : ℤ) → 0 < k → fits_elementary (sized signed n) z ≡ true → smallest_of signed k n z ≡ Some (type.Elementary (sized signed n))
unfolding smallest_of
smallest_of-here signed zero n z h e = absurd (omega arith)
smallest_of-here signed (suc k) n z h e = rw e refl

pub smallest_of-next : (signed : Bool) (k j n : ℕ) (z : ℤ) → k ≡ j + 1 → fits_elementary (sized signed n) z ≡ false → smallest_of signed k n z ≡ smallest_of signed j (n + 1) z
unfolding smallest_of
smallest_of-next signed zero j n z h e = absurd (omega arith)
smallest_of-next signed (suc k) j n z h e = let i : k ≡ j = omega arith in rw (e, i) refl

pub ruleset sizes = (smallest_of-none, smallest_of-here)
