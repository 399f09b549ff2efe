-- The rule of the lock, which holds between any two steps. Word 0 is the next ticket, word 1 the one that is served and word 2 the
-- length of the list, each modulo 2^64; slot 0 has the value.
use Rattle.std.specs.Prelude.{◌≡◌, ℕ, ◌+◌, ◌%◌, ◌^◌, ◌<◌, ◌≤◌, ◌⊎◌, List, [], ◌∷◌, length, drop, slice_index, Option, Some, None}
use mathlib.Core.Option.{none, some}
use lib.ListN.{get_elem?}
use Rattle.atomic_table.specs.Table.{State}
use Rattle.pool_lock.specs.declared.view.Known.{Known}
use Rattle.pool_lock.specs.declared.view.Opened.{Opened}
use Rattle.pool_lock.specs.declared.view.Phase.{Phase}
use Rattle.pool_lock.specs.declared.view.Phase.TheVariants.{Empty, Filling, Idle, Waiting, Served}
use Rattle.pool_lock.specs.declared.view.View.{View}
use Rattle.pool_lock.specs.Entries.{StartsWith, AllBelow}
use Rattle.pool_lock.specs.Weights.{weigh, upto}
use Rattle.pool_lock.specs.Views.{beginner, numbers_in, ticket_of, held}
use Rattle.pool_lock.specs.Told.{KnowsEach}

module _ {X : Type 0} where
  -- a ticket lies from the one that is served to the next one; a served seat has the current list, and the slot is out
  abbrev pub FitsPhase : Type 0 → ℕ → ℕ → List (ℕ × X) → Phase X → Type 0
  FitsPhase out serving next current Empty = ⊥
  FitsPhase out serving next current Filling = ⊥
  FitsPhase out serving next current Idle = Unit {0}
  FitsPhase out serving next current (Waiting t) = (serving ≤ t) × (t < next)
  FitsPhase out serving next current (Served t c) = (t ≡ serving) × (t < next) × (c ≡ current) × out

module _ {X R : Type 0} where
  -- a seat that stands for no pass is spent
  abbrev pub AtRest : Phase X → List (Known X R) → Type 0
  AtRest phase [] = phase ≡ Idle
  AtRest phase (p ∷ ps) = Unit {0}

  abbrev pub Fits : Type 0 → ℕ → ℕ → List (ℕ × X) → Opened X R → View X R → Type 0
  Fits out serving next current o v = FitsPhase out serving next current v.phase × AtRest v.phase v.passes × KnowsEach o current v.passes

  module _ {T : Type 0} (list : T → List (ℕ × X)) (root : T → R) (n : ℕ) where
    -- the value is at home, with the current list and the root of the opening
    abbrev pub AtHome : List (ℕ × X) → Opened X R → State (Option T) (View X R) → Type 0
    AtHome current o s = (x : T) × (s.homes ≡ some (Some x) ∷ []) × (list x ≡ current) × (root x ≡ o.root)

    -- the slot is out with the seat that is served
    abbrev pub IsOut : ℕ → List (ℕ × X) → State (Option T) (View X R) → Type 0
    IsOut serving current s = (j : ℕ) × (w : View X R) × (get_elem? s.views j ≡ some w) × (w.phase ≡ Served serving current) × (s.homes ≡ none ∷ [])

    -- The lock has its value.
    pub record Held (s : State (Option T) (View X R)) : Type 0 where
      pub opened : Opened X R
      pub current : List (ℕ × X)
      pub serving : ℕ
      pub next : ℕ
      pub wide : length s.words ≡ 3
      pub next_word : slice_index s.words 0 ≡ next % 2 ^ 64
      pub serving_word : slice_index s.words 1 ≡ serving % 2 ^ 64
      pub count_word : slice_index s.words 2 ≡ length current % 2 ^ 64
      pub few : n ≤ 64
      -- the numbers of all passes are those below n, each once
      pub numbers : (h : ℕ → ℕ) → weigh (λ v. weigh h (numbers_in v)) s.views ≡ weigh h (upto 0 n)
      -- as many tickets are out as seats have
      pub drawn : serving + weigh held s.views ≡ next
      pub fits : (i : ℕ) (v : View X R) → get_elem? s.views i ≡ some v → Fits (s.homes ≡ none ∷ []) serving next current opened v
      -- no two seats have one ticket
      pub single : (i j : ℕ) (v w : View X R) (t : ℕ) → get_elem? s.views i ≡ some v → get_elem? s.views j ≡ some w → ticket_of v.phase ≡ Some t → ticket_of w.phase ≡ Some t → i ≡ j
      pub short : length current < 2 ^ 63
      pub begun : StartsWith current opened.start
      -- who appended an item behind the opening list is a pass
      pub ours : AllBelow n (drop (length opened.start) current)
      pub home : AtHome current opened s ⊎ IsOut serving current s

    -- The lock has no value yet: its one seat takes the empty slot, and puts the value in.
    pub record Unfilled (s : State (Option T) (View X R)) : Type 0 where
      pub words : s.words ≡ 0 ∷ 0 ∷ 0 ∷ []
      pub few : n ≤ 64
      pub slot : ((s.views ≡ beginner n Empty ∷ []) × (s.homes ≡ some None ∷ [])) ⊎ ((s.views ≡ beginner n Filling ∷ []) × (s.homes ≡ none ∷ []))

    abbrev pub Kept : State (Option T) (View X R) → Type 0
    Kept s = Unfilled s ⊎ Held s
