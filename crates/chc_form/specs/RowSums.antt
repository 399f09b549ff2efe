-- The sums of rows, each row times its multiplier, taken from left to right in 128 bits.
use Rattle.std.specs.Prelude.{◌≡◌, ℕ, zero, suc, ◌+◌, max, List, [], ◌∷◌, Option, Some, pos, slice_get, slice_set, unwrap_or}
use lib.IntN.{ℤ}
use Rattle.chc_nums.specs.Wide.{add_product}
use Rattle.chc_nums.specs.Values.{with_value}
use Rattle.chc_form.specs.declared.linear.Lin.{Lin}

-- an entry of a list of numbers, 0 past its end
abbrev pub number_at : List ℤ → ℕ → ℤ
number_at xs i = unwrap_or (slice_get xs i) (pos 0)

-- one more than the greatest variable, 0 where there is none
abbrev pub terms_width : List (ℕ × ℤ) → ℕ
terms_width [] = 0
terms_width (t ∷ ts) = max (t.0 + 1) (terms_width ts)

abbrev pub width : List Lin → ℕ
width [] = 0
width (r ∷ rs) = max (terms_width r.terms) (width rs)

-- the sums of the variables, with one term times m
abbrev pub with_term : ℤ → (ℕ × ℤ) → List ℤ → Option (List ℤ)
with_term m t sums = with_value (add_product (number_at sums t.0) m t.1) (λ s. Some (slice_set sums t.0 s))

-- the sums of the variables, with a row's terms times m
abbrev pub with_row : ℤ → List (ℕ × ℤ) → List ℤ → Option (List ℤ)
with_row m [] sums = Some sums
with_row m (t ∷ ts) sums = with_value (with_term m t sums) (with_row m ts)

-- the sums of the variables over the rows, each row times its multiplier
abbrev pub variable_sums : List ℤ → List Lin → List ℤ → Option (List ℤ)
variable_sums [] rs sums = Some sums
variable_sums (m ∷ ms) [] sums = Some sums
variable_sums (m ∷ ms) (r ∷ rs) sums = with_value (with_row m r.terms sums) (variable_sums ms rs)

-- the sum of the constants
abbrev pub constant_sum : ℤ → List ℤ → List Lin → Option ℤ
constant_sum s [] rs = Some s
constant_sum s (m ∷ ms) [] = Some s
constant_sum s (m ∷ ms) (r ∷ rs) = with_value (add_product s m r.konst) (λ t. constant_sum t ms rs)

abbrev pub zeros : ℕ → List ℤ
zeros zero = []
zeros (suc n) = pos 0 ∷ zeros n

-- no number of these sums leaves 128 bits
pub record Summed (ms : List ℤ) (ls : List Lin) : Type 0 where
  pub sums : List ℤ
  pub constant : ℤ
  pub variables : variable_sums ms ls (zeros (width ls)) ≡ Some sums
  pub constants : constant_sum (pos 0) ms ls ≡ Some constant
