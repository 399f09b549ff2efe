-- What the calls of the lock say of passes.
use Rattle.std.specs.Prelude.{◌≡◌, ℕ, ◌+◌, List, [], ◌∷◌, ◌++◌, length, drop, Option, Some, IfSome, IsSomeAnd}
use Rattle.atomic_table.specs.declared.shared.Seat.{Seat}
use Rattle.atomic_table.specs.Seated.{TableId}
use Rattle.pool_lock.specs.declared.view.Known.{Known}
use Rattle.pool_lock.specs.declared.view.Opened.{Opened}
use Rattle.pool_lock.specs.declared.view.Phase.TheVariants.{Idle}
use Rattle.pool_lock.specs.declared.view.View.{View}
use Rattle.pool_lock.specs.declared.pass.NumberedSeat.{NumberedSeat}
use Rattle.pool_lock.specs.Entries.{StartsWith, AllStand, AllBelow, items_behind}
use Rattle.pool_lock.specs.Views.{passing, fresh, number_in, opened_in, seen_in, published_in}

module _ {X R : Type 0} where
  -- the seat is that of a pass of this lock, with this number, between two calls
  abbrev pub IsPassOf : {T : Type 0} → TableId → ℕ → Seat (Option T) (View X R) → Type 0
  IsPassOf id k s = (s.table_id ≡ id) × (p : Known X R) × (p.number ≡ k) × (s.me ≡ (passing p Idle, []))

  -- the copies are those of what the pass has seen
  abbrev pub HasCopies : {C : Type 0} → (R → List (ℕ × X) → C → Type 0) → View X R → C → Type 0
  HasCopies copied v have = IfSome (opened_in v) (λ o. copied o.root (seen_in v) have)

  -- the item fits what the pass has seen
  abbrev pub MayPublish : (R → List (ℕ × X) → X → Type 0) → View X R → X → Type 0
  MayPublish fits v item = IfSome (opened_in v) (λ o. fits o.root (seen_in v) item)

  -- the pass has seen the list at its event: that begins with what it had seen, and with the list at the opening; the items with its
  -- number behind that are those that it published, each at its place
  pub record Looked (v w : View X R) : Type 0 where
    pub number : number_in w ≡ number_in v
    pub opened : opened_in w ≡ opened_in v
    pub published : published_in w ≡ published_in v
    pub seen : StartsWith (seen_in w) (seen_in v)
    pub begun : IsSomeAnd (opened_in w) (λ o. StartsWith (seen_in w) o.start)
    pub behind : IsSomeAnd (opened_in w) (λ o. published_in w ≡ items_behind o.start (seen_in w) (number_in w))
    pub stand : AllStand (number_in w) (seen_in w) (published_in w)

  -- the pass has published one item more, at this place
  pub record Published (v : View X R) (at : ℕ) (item : X) (w : View X R) : Type 0 where
    pub number : number_in w ≡ number_in v
    pub opened : opened_in w ≡ opened_in v
    pub seen : seen_in w ≡ seen_in v
    pub published : published_in w ≡ published_in v ++ (at, item) ∷ []

  -- the value has the root of the opening; its list begins with the one at the opening and with what the pass has seen; the items with the
  -- pass's number behind the opening are those that it published, in order; and who appended an item there is a pass
  pub record StandsIn (n : ℕ) (r : R) (all : List (ℕ × X)) (o : Opened X R) (v : View X R) : Type 0 where
    pub root : r ≡ o.root
    pub begun : StartsWith all o.start
    pub seen : StartsWith all (seen_in v)
    pub published : published_in v ≡ items_behind o.start all (number_in v)
    pub ours : AllBelow n (drop (length o.start) all)

  module _ {T : Type 0} where
    -- the numbers of passes
    abbrev pub numbers_of : List (NumberedSeat T X R) → List ℕ
    numbers_of [] = []
    numbers_of (p ∷ ps) = p.number ∷ numbers_of ps

    -- each is a pass of this lock
    abbrev pub ArePassesOf : TableId → List (NumberedSeat T X R) → Type 0
    ArePassesOf id [] = Unit {0}
    ArePassesOf id (p ∷ ps) = IsPassOf id p.number p.seat × ArePassesOf id ps

    -- it is a pass of this lock, between two calls
    abbrev pub IsOurs : TableId → NumberedSeat T X R → Type 0
    IsOurs id p = IsPassOf id p.number p.seat

    -- it is a pass of this lock, which has called nothing yet
    abbrev pub IsFresh : TableId → NumberedSeat T X R → Type 0
    IsFresh id p = (p.seat.table_id ≡ id) × (o : Opened X R) × (p.seat.me ≡ (passing (fresh (Some o) p.number) Idle, []))

    -- they are fresh passes of this lock, numbered in order from one number on
    abbrev pub AreFresh : TableId → Option (Opened X R) → ℕ → List (NumberedSeat T X R) → Type 0
    AreFresh id o k [] = Unit {0}
    AreFresh id o k (p ∷ ps) = ((p.number ≡ k) × (p.seat.table_id ≡ id) × (p.seat.me ≡ (passing (fresh o k) Idle, []))) × AreFresh id o (k + 1) ps

    -- what each pass has seen and published stands in a value with such a root and list
    abbrev pub AllStandIn : ℕ → R → List (ℕ × X) → List (NumberedSeat T X R) → Type 0
    AllStandIn n r all [] = Unit {0}
    AllStandIn n r all (p ∷ ps) = IsSomeAnd (opened_in p.seat.me.0) (λ o. StandsIn n r all o p.seat.me.0) × AllStandIn n r all ps
