-- Multipliers that pass: their sums over the rows, taken in 128 bits, refute the rows.
use Rattle.std.specs.Prelude.{Bool, false, ◌&&◌, not, ◌==◌, List, length, Option, Some, None, pos}
use Rattle.std.specs.List.{list_all}
use Rattle.std.specs.Ordering.{int_eq}
use lib.IntN.{ℤ}
use lib.Signed.{lt_z}
use Rattle.chc_form.specs.declared.linear.Lin.{Lin}
use Rattle.chc_form.specs.RowSums.{variable_sums, constant_sum, zeros, width}

-- no multiplier is negative
abbrev pub none_negative : List ℤ → Bool
none_negative ms = list_all (λ m. not (lt_z m (pos 0))) ms

-- the sum of the constants has 128 bits and is above 0
abbrev pub is_above : Option ℤ → Bool
is_above None = false
is_above (Some c) = lt_z (pos 0) c

-- the sums of the variables have 128 bits and are all 0
abbrev pub are_gone : Option (List ℤ) → Bool
are_gone None = false
are_gone (Some sums) = list_all (λ s. int_eq s (pos 0)) sums

-- as many multipliers as rows, none negative; the constants' sum is above 0, and no variable is left
unfoldable pub passes : List ℤ → List Lin → Bool
passes ms ls =
    (length ms == length ls) && (none_negative ms && (is_above (constant_sum (pos 0) ms ls) && are_gone (variable_sums ms ls (zeros (width ls)))))
