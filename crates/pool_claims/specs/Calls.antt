-- What the calls of claims say of passes.
use Rattle.std.specs.Prelude.{◌≡◌, ℕ, ◌<◌, ◌⊎◌, List, [], ◌∷◌, ◌++◌, Bool, true, false, Option, Some, None}
use Rattle.atomic_table.specs.Seated.{TableId}
use Rattle.pool_claims.specs.declared.pass.ClaimPass.{ClaimPass}
use Rattle.pool_claims.specs.Views.{drawn_as, passing, drawn_in}

-- 1 for true
abbrev pub bit : Bool → ℕ
bit true = 1
bit false = 0

-- a pass of these claims, which has drawn these numbers
abbrev pub IsPassOf : TableId → ℕ → ClaimPass → Type 0
IsPassOf id n p = (p.seat.table_id ≡ id) × (drawn : List ℕ) × (p.seat.me ≡ (passing (drawn_as n drawn (bit p.ended)), []))

abbrev pub ArePassesOf : TableId → ℕ → List ClaimPass → Type 0
ArePassesOf id n [] = Unit {0}
ArePassesOf id n (p ∷ ps) = IsPassOf id n p × ArePassesOf id n ps

-- the numbers that a pass has drawn, in order
abbrev pub drawn_by : ClaimPass → List ℕ
drawn_by p = drawn_in p.seat.me.0

-- fresh passes of these claims
abbrev pub AreFresh : TableId → ℕ → List ClaimPass → Type 0
AreFresh id n [] = Unit {0}
AreFresh id n (p ∷ ps) = ((p.ended ≡ false) × (p.seat.table_id ≡ id) × (p.seat.me ≡ (passing (drawn_as n [] 0), []))) × AreFresh id n ps

-- a claim: the number is drawn and lies below the count, and the pass had not had none; or the pass has had none, and nothing is drawn
abbrev pub HasClaimed : ℕ → ClaimPass → Option ℕ → ClaimPass → Type 0
HasClaimed n p (Some k) q = (k < n) × (p.ended ≡ false) × (q.ended ≡ false) × (drawn_by q ≡ drawn_by p ++ k ∷ [])
HasClaimed n p None q = (q.ended ≡ true) × (drawn_by q ≡ drawn_by p)

-- what all passes have drawn
abbrev pub all_by : List ClaimPass → List ℕ
all_by [] = []
all_by (p ∷ ps) = drawn_by p ++ all_by ps

-- one of the passes had none
abbrev pub SomeEnded : List ClaimPass → Type 0
SomeEnded [] = ⊥
SomeEnded (p ∷ ps) = (p.ended ≡ true) ⊎ SomeEnded ps
