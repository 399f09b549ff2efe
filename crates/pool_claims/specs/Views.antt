-- Views of seats: the passes that they stand for, and what a claim tells.
use Rattle.std.specs.Prelude.{◌≡◌, ℕ, zero, suc, nat_lt, List, [], ◌∷◌, ◌++◌, map, take, drop, if◌then◌else◌}
use Rattle.atomic_table.specs.Table.{Me, Step}
use Rattle.pool_lock.specs.Weights.{weigh}
use Rattle.pool_claims.specs.declared.view.Drawn.{Drawn}
use Rattle.pool_claims.specs.declared.view.Size.{Size}
use Rattle.pool_claims.specs.declared.view.View.{View}

abbrev pub drawn_as : ℕ → List ℕ → ℕ → Drawn
drawn_as below numbers ended = record { below = below; numbers = numbers; ended = ended }

-- so many passes that have drawn nothing
abbrev pub fresh_passes : ℕ → ℕ → List Drawn
fresh_passes below zero = []
fresh_passes below (suc n) = drawn_as below [] 0 ∷ fresh_passes below n

abbrev pub view_of : List Drawn → View
view_of ps = record { passes = ps }

-- a seat that stands for one pass
abbrev pub passing : Drawn → View
passing p = view_of (p ∷ [])

-- the first seat stands for all passes
abbrev pub beginner : Size → View
beginner size = view_of (fresh_passes size.numbers size.passes)

-- what all of them have drawn
abbrev pub all_drawn : List Drawn → List ℕ
all_drawn [] = []
all_drawn (p ∷ ps) = p.numbers ++ all_drawn ps

abbrev pub drawn_in : View → List ℕ
drawn_in v = all_drawn v.passes

abbrev pub ended_of : Drawn → ℕ
ended_of p = p.ended

-- how many of a seat's passes had none
abbrev pub ended_in : View → ℕ
ended_in v = weigh ended_of v.passes

-- how many passes a seat stands for
abbrev pub passes_of : View → ℕ
passes_of v = weigh (λ _. 1) v.passes

-- the pass after a claim that found this number: it is drawn where it lies below the count
abbrev pub after : ℕ → Drawn → Drawn
after found p = if nat_lt found p.below then drawn_as p.below (p.numbers ++ found ∷ []) p.ended else drawn_as p.below p.numbers 1

abbrev pub claimed : Step (Unit {0}) → Me (Unit {0}) View → ℕ → Me (Unit {0}) View → Type 0
claimed st m found m' = m' ≡ (view_of (map (after found) m.0.passes), m.1)

-- the first pass of a seat, and the others
abbrev pub first_of : View → View
first_of v = view_of (take 1 v.passes)

abbrev pub rest_of : View → View
rest_of v = view_of (drop 1 v.passes)

-- the passes of the second seat stand before those of the first
abbrev pub both_of : View → View → View
both_of v w = view_of (w.passes ++ v.passes)

abbrev pub spent : View
spent = view_of []
