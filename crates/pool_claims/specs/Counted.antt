-- The rule of claims, which holds between any two steps. Word 0 is the next number to draw.
use Rattle.std.specs.Prelude.{◌≡◌, ℕ, ◌+◌, ◌≤◌, ◌<◌, ◌^◌, nat_lt, List, [], ◌∷◌, length, slice_index, if◌then◌else◌}
use mathlib.Core.Option.{some}
use lib.ListN.{get_elem?}
use Rattle.atomic_table.specs.Table.{State}
use Rattle.pool_lock.specs.Weights.{weigh, upto}
use Rattle.pool_claims.specs.declared.view.Drawn.{Drawn}
use Rattle.pool_claims.specs.declared.view.Size.{Size}
use Rattle.pool_claims.specs.declared.view.View.{View}
use Rattle.pool_claims.specs.Views.{drawn_in, ended_in, passes_of}

-- the lesser of the word and the count: so many numbers are drawn
abbrev pub lesser : ℕ → ℕ → ℕ
lesser word n = if nat_lt word n then word else n

-- each pass knows the count
abbrev pub KnowBelow : ℕ → List Drawn → Type 0
KnowBelow n [] = Unit {0}
KnowBelow n (p ∷ ps) = (p.below ≡ n) × (p.ended ≤ 1) × KnowBelow n ps

pub record Counted (size : Size) (s : State (Unit {0}) View) : Type 0 where
  pub wide : length s.words ≡ 1
  -- the numbers that are drawn are those below the lesser of the word and the count, each once
  pub drawn : (h : ℕ → ℕ) → weigh (λ v. weigh h (drawn_in v)) s.views ≡ weigh h (upto 0 (lesser (slice_index s.words 0) size.numbers))
  -- the word passes the count by no more than one for each pass that had none
  pub most : slice_index s.words 0 ≤ size.numbers + weigh ended_in s.views
  -- a pass that had none found all numbers drawn
  pub least : (i : ℕ) (v : View) → get_elem? s.views i ≡ some v → 1 ≤ ended_in v → size.numbers ≤ slice_index s.words 0
  pub passes : weigh passes_of s.views ≡ size.passes
  pub few : size.passes ≤ 64
  pub below : (i : ℕ) (v : View) → get_elem? s.views i ≡ some v → KnowBelow size.numbers v.passes
  pub small : size.numbers < 2 ^ 32
