-- The places where the lines of a text begin, but for the first line.
use Rattle.std.specs.Prelude.{ℕ, zero, suc, ◌+◌, ◌≡◌, ◌≤◌, ◌==◌, Bool, true, false, List, [], ◌∷◌, length, leb, if◌then◌else◌}
use Rattle.chc_nums.specs.declared.limits.TheConstants.{MAX_FILE_BYTES}

abbrev pub with_start : Bool → ℕ → List ℕ → List ℕ
with_start true at starts = at ∷ starts
with_start false at starts = starts

-- those of a text before which so many bytes stand
abbrev pub starts_from : ℕ → List ℕ → List ℕ
starts_from at [] = []
starts_from at (b ∷ bs) = with_start (b == 10) (at + 1) (starts_from (at + 1) bs)

-- how many of them are not after a place
abbrev pub begun : List ℕ → ℕ → ℕ
begun [] at = 0
begun (s ∷ ss) at = if leb s at then suc (begun ss at) else 0

-- the last of so many of them, or 0
abbrev pub last_of : ℕ → List ℕ → ℕ → ℕ
last_of first starts zero = first
last_of first [] (suc n) = first
last_of first (s ∷ ss) (suc n) = last_of s ss n

-- what is known of a text and the places where its lines begin
pub record AreStarts (starts : List ℕ) (text : List ℕ) : Type 0 where
  pub places : starts ≡ starts_from 0 text
  pub short : length text ≤ MAX_FILE_BYTES
