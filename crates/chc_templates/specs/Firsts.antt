-- Numbers in order, as far as they can be of a type: those of more than 96 bits stand behind all others and give no
-- candidate.
use Rattle.std.specs.Prelude.{List, take, unsigned_abs, Bool, nat_lt, ◌^◌}
use Rattle.std.specs.List.{filter}
use lib.IntN.{ℤ}
use Rattle.chc_templates.specs.Constants.{placed_all}

-- at most 96 bits beside the sign
unfoldable pub is_small : ℤ → Bool
is_small x = nat_lt (unsigned_abs x) (2 ^ 96)

-- the first sixteen of numbers in order, with the small ones among some numbers
unfoldable pub firsts : List ℤ → List ℤ → List ℤ
firsts ys xs = take 16 (placed_all ys (filter is_small xs))
