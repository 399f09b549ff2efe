-- Views of seats: the passes that they stand for, and the phase.
use Rattle.std.specs.Prelude.{◌≡◌, ℕ, zero, suc, ◌+◌, List, [], ◌∷◌, ◌++◌, map, Option, Some, None}
use Rattle.atomic_table.specs.Table.{Me}
use Rattle.pool_lock.specs.declared.view.Known.{Known}
use Rattle.pool_lock.specs.declared.view.Opened.{Opened}
use Rattle.pool_lock.specs.declared.view.Phase.{Phase}
use Rattle.pool_lock.specs.declared.view.Phase.TheVariants.{Empty, Filling, Idle, Waiting, Served}
use Rattle.pool_lock.specs.declared.view.View.{View}

module _ {X : Type 0} where
  -- the ticket of a seat
  abbrev pub ticket_of : Phase X → Option ℕ
  ticket_of Empty = None
  ticket_of Filling = None
  ticket_of Idle = None
  ticket_of (Waiting t) = Some t
  ticket_of (Served t c) = Some t

  -- the list of a served seat
  abbrev pub taken_in : Phase X → List (ℕ × X)
  taken_in Empty = []
  taken_in Filling = []
  taken_in Idle = []
  taken_in (Waiting t) = []
  taken_in (Served t c) = c

  -- a served seat with another list
  abbrev pub holding : List (ℕ × X) → Phase X → Phase X
  holding all Empty = Empty
  holding all Filling = Filling
  holding all Idle = Idle
  holding all (Waiting t) = Waiting t
  holding all (Served t c) = Served t all

-- 1 where there is a ticket
abbrev pub one_if : Option ℕ → ℕ
one_if None = 0
one_if (Some t) = 1

module _ {X R : Type 0} where
  abbrev pub opened_as : R → List (ℕ × X) → Opened X R
  opened_as r start = record { root = r; start = start }

  abbrev pub known : ℕ → Option (Opened X R) → List (ℕ × X) → List (ℕ × X) → Known X R
  known k o seen published = record { number = k; opened = o; seen = seen; published = published }

  -- a pass that has seen and published nothing
  abbrev pub fresh : Option (Opened X R) → ℕ → Known X R
  fresh o k = known k o [] []

  -- so many fresh passes, numbered from one number on
  abbrev pub fresh_from : Option (Opened X R) → ℕ → ℕ → List (Known X R)
  fresh_from o k zero = []
  fresh_from o k (suc n) = fresh o k ∷ fresh_from o (k + 1) n

  abbrev pub number_of : Known X R → ℕ
  number_of p = p.number

  -- the lock of the pass was opened with this
  abbrev pub with_opened : Option (Opened X R) → Known X R → Known X R
  with_opened o p = known p.number o p.seen p.published

  -- the pass has seen this list
  abbrev pub with_seen : List (ℕ × X) → Known X R → Known X R
  with_seen all p = known p.number p.opened all p.published

  -- the pass has published these too
  abbrev pub with_more : (ℕ → List (ℕ × X)) → Known X R → Known X R
  with_more more p = known p.number p.opened p.seen (p.published ++ more p.number)

  abbrev pub view_of : List (Known X R) → Phase X → View X R
  view_of ps phase = record { passes = ps; phase = phase }

  -- a seat that stands for one pass
  abbrev pub passing : Known X R → Phase X → View X R
  passing p phase = view_of (p ∷ []) phase

  abbrev pub in_phase : Phase X → View X R → View X R
  in_phase phase v = view_of v.passes phase

  -- the first seat, before there is a value
  abbrev pub beginner : ℕ → Phase X → View X R
  beginner n phase = view_of (fresh_from None 0 n) phase

  -- the numbers of the passes that a seat stands for
  abbrev pub numbers_in : View X R → List ℕ
  numbers_in v = map number_of v.passes

  -- how many tickets a seat has
  abbrev pub held : View X R → ℕ
  held v = one_if (ticket_of v.phase)

  abbrev pub first_number : List (Known X R) → ℕ
  first_number [] = 0
  first_number (p ∷ ps) = p.number

  abbrev pub first_opened : List (Known X R) → Option (Opened X R)
  first_opened [] = None
  first_opened (p ∷ ps) = p.opened

  abbrev pub first_seen : List (Known X R) → List (ℕ × X)
  first_seen [] = []
  first_seen (p ∷ ps) = p.seen

  abbrev pub first_published : List (Known X R) → List (ℕ × X)
  first_published [] = []
  first_published (p ∷ ps) = p.published

  -- the number of a pass
  abbrev pub number_in : View X R → ℕ
  number_in v = first_number v.passes

  -- what the value was when the lock of a pass was opened
  abbrev pub opened_in : View X R → Option (Opened X R)
  opened_in v = first_opened v.passes

  -- what a pass has seen
  abbrev pub seen_in : View X R → List (ℕ × X)
  seen_in v = first_seen v.passes

  -- what a pass has published, each item with its place
  abbrev pub published_in : View X R → List (ℕ × X)
  published_in v = first_published v.passes

  -- the seat stands for one pass, has no ticket and holds nothing
  abbrev pub IsIdle : {T : Type 0} → Me (Option T) (View X R) → Type 0
  IsIdle m = (p : Known X R) × (m ≡ (passing p Idle, []))
