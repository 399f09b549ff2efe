-- What each step tells the seat that makes it: the step, the seat before, the number found and the seat after.
use Rattle.std.specs.Prelude.{◌≡◌, ◌≢◌, ℕ, ◌%◌, ◌^◌, List, [], ◌∷◌, ◌++◌, map, length, take, drop, Option, Some, None}
use Rattle.atomic_table.specs.Table.{Me, Step, rest}
use Rattle.pool_lock.specs.declared.view.Known.{Known}
use Rattle.pool_lock.specs.declared.view.Opened.{Opened}
use Rattle.pool_lock.specs.declared.view.Phase.TheVariants.{Filling, Idle, Waiting, Served}
use Rattle.pool_lock.specs.declared.view.View.{View}
use Rattle.pool_lock.specs.Entries.{StartsWith, items_of, items_behind}
use Rattle.pool_lock.specs.Views.{opened_as, view_of, in_phase, with_opened, with_seen, with_more, taken_in, holding, seen_in}

abbrev Sat : Type 0 → Type 0 → Type 0 → Type 0
Sat T X R = Me (Option T) (View X R)

module _ {X : Type 0} where
  abbrev pub list_of : {T : Type 0} → (T → List (ℕ × X)) → Option T → List (ℕ × X)
  list_of list None = []
  list_of list (Some x) = list x

  -- the list of the value in hand
  abbrev pub list_in : {T : Type 0} → (T → List (ℕ × X)) → List (ℕ × Option T) → List (ℕ × X)
  list_in list [] = []
  list_in list (e ∷ es) = list_of list e.1

module _ {X R : Type 0} where
  -- the pass knows the opening; the list begins with what the pass has seen, and the items with its number behind the opening list are
  -- those that it published
  abbrev pub Knows : Opened X R → List (ℕ × X) → Known X R → Type 0
  Knows o all p = (p.opened ≡ Some o) × StartsWith all p.seen × (p.published ≡ items_behind o.start all p.number)

  abbrev pub KnowsEach : Opened X R → List (ℕ × X) → List (Known X R) → Type 0
  KnowsEach o all [] = Unit {0}
  KnowsEach o all (p ∷ ps) = Knows o all p × KnowsEach o all ps

  -- such a root and list are those of the value since the opening, and the seat's passes know them
  abbrev pub Meets : R → List (ℕ × X) → View X R → Type 0
  Meets r all v = (o : Opened X R) × (r ≡ o.root) × StartsWith all o.start × KnowsEach o all v.passes

  abbrev pub opening_of : {T : Type 0} → (T → List (ℕ × X)) → (T → R) → Option T → Option (Opened X R)
  opening_of list root None = None
  opening_of list root (Some x) = Some (opened_as (root x) (list x))

  -- what the value in hand is
  abbrev pub opening_in : {T : Type 0} → (T → List (ℕ × X)) → (T → R) → List (ℕ × Option T) → Option (Opened X R)
  opening_in list root [] = None
  opening_in list root (e ∷ es) = opening_of list root e.1

  -- the seat has the empty slot
  abbrev pub fetched : {T : Type 0} → Step (Option T) → Sat T X R → ℕ → Sat T X R → Type 0
  fetched st m r m' = m' ≡ (in_phase Filling m.0, (0, None) ∷ m.1)

  -- the slot went back, and the lock was opened with the value that it has
  abbrev pub filled : {T : Type 0} → (T → List (ℕ × X)) → (T → R) → Step (Option T) → Sat T X R → ℕ → Sat T X R → Type 0
  filled list root st m r m' = m' ≡ (view_of (map (with_opened (opening_in list root m.1)) m.0.passes) Idle, rest m.1)

  -- a ticket was drawn
  abbrev pub drew : {T : Type 0} → Step (Option T) → Sat T X R → ℕ → Sat T X R → Type 0
  drew st m r m' = (t : ℕ) × (r ≡ t % 2 ^ 64) × (m' ≡ (in_phase (Waiting t) m.0, m.1))

  -- the ticket is served, and the slot was taken with the value; or nothing changed
  abbrev pub waited : {T : Type 0} → (T → List (ℕ × X)) → (T → R) → Step (Option T) → Sat T X R → ℕ → Sat T X R → Type 0
  waited {T} list root st m r m' = (t : ℕ) → m.0.phase ≡ Waiting t
      → (r ≡ t % 2 ^ 64 → (x : T) × Meets (root x) (list x) m.0 × (m' ≡ (in_phase (Served t (list x)) m.0, (0, Some x) ∷ m.1))) × (r ≢ t % 2 ^ 64 → m' ≡ m)

  -- nothing changed; where so many items were counted as the pass has seen, that is the list, and the pass knows it
  abbrev pub glanced : {T : Type 0} → Step (Option T) → Sat T X R → ℕ → Sat T X R → Type 0
  glanced st m r m' = (m' ≡ m) × (r ≡ length (seen_in m.0) → (o : Opened X R) × StartsWith (seen_in m.0) o.start × KnowsEach o (seen_in m.0) m.0.passes)

  -- each pass has seen the list
  abbrev pub saw : List (ℕ × X) → View X R → View X R
  saw all v = view_of (map (with_seen all) v.passes) v.phase

  -- the list is longer, and what it has more was published by the passes whose numbers it bears
  abbrev pub put : List (ℕ × X) → View X R → View X R
  put all v = view_of (map (with_more (λ k. items_of k (length (taken_in v.phase)) (drop (length (taken_in v.phase)) all))) v.passes) (holding all v.phase)

  -- the event of a look
  abbrev pub looked : {T : Type 0} → (T → List (ℕ × X)) → Step (Option T) → Sat T X R → ℕ → Sat T X R → Type 0
  looked list st m r m' = m' ≡ (saw (list_in list m.1) m.0, m.1)

  -- the event of a publication: the number found is the length of the list before
  abbrev pub published : {T : Type 0} → (T → List (ℕ × X)) → Step (Option T) → Sat T X R → ℕ → Sat T X R → Type 0
  published list st m r m' = (r ≡ length (taken_in m.0.phase) % 2 ^ 64) × (m' ≡ (put (list_in list m.1) m.0, m.1))

  -- the slot went back, and the seat has no ticket
  abbrev pub passed_on : {T : Type 0} → Step (Option T) → Sat T X R → ℕ → Sat T X R → Type 0
  passed_on st m r m' = m' ≡ (in_phase Idle m.0, rest m.1)

  -- the first pass of a seat, and the others
  abbrev pub first_of : View X R → View X R
  first_of v = view_of (take 1 v.passes) Idle

  abbrev pub rest_of : View X R → View X R
  rest_of v = view_of (drop 1 v.passes) v.phase

  -- the passes of the second seat stand before those of the first
  abbrev pub both_of : View X R → View X R → View X R
  both_of v w = view_of (w.passes ++ v.passes) v.phase

  -- a seat that stands for no pass
  abbrev pub spent : View X R
  spent = view_of [] Idle
