-- Where a seat stands within a section of the lock.
use Rattle.std.specs.Prelude.{◌≡◌, ℕ, List, [], ◌∷◌, ◌++◌, Option, Some, None}
use Rattle.atomic_table.specs.Table.{Me}
use Rattle.pool_lock.specs.declared.view.Known.{Known}
use Rattle.pool_lock.specs.declared.view.Opened.{Opened}
use Rattle.pool_lock.specs.declared.view.Phase.TheVariants.{Waiting, Served}
use Rattle.pool_lock.specs.declared.view.View.{View}
use Rattle.pool_lock.specs.Views.{passing, in_phase}
use Rattle.pool_lock.specs.Told.{Meets}

module _ {X R : Type 0} where
  -- it has this ticket and holds nothing
  abbrev pub IsWaiting : {T : Type 0} → ℕ → Me (Option T) (View X R) → Type 0
  IsWaiting t m = (p : Known X R) × (m ≡ (passing p (Waiting t), []))

  -- it is served and has the value; all else is as it was
  abbrev pub IsTurn : {T : Type 0} → (T → List (ℕ × X)) → (T → R) → Me (Option T) (View X R) → Me (Option T) (View X R) → Type 0
  IsTurn {T} list root m m' = (t : ℕ) × (x : T) × Meets (root x) (list x) m.0 × (m' ≡ (in_phase (Served t (list x)) m.0, (0, Some x) ∷ []))

  -- it is served, and the value with such a root and list is out of the slot
  abbrev pub IsServed : {T : Type 0} → R → List (ℕ × X) → Me (Option T) (View X R) → Me (Option T) (View X R) → Type 0
  IsServed r all m m' = (t : ℕ) × Meets r all m.0 × (m' ≡ (in_phase (Served t all) m.0, (0, None) ∷ []))

  -- it is served, and a value with such a root and list is the one that it took out
  abbrev pub MayReturn : {T : Type 0} → R → List (ℕ × X) → Me (Option T) (View X R) → Type 0
  MayReturn r all m = (t : ℕ) × (p : Known X R) × (o : Opened X R) × (p.opened ≡ Some o) × (r ≡ o.root) × (m ≡ (passing p (Served t all), (0, None) ∷ []))

  -- it is served, and a value with such a root and list has one item more than the one that it took out, by the seat's pass
  abbrev pub MayAppend : {T : Type 0} → R → List (ℕ × X) → Me (Option T) (View X R) → Type 0
  MayAppend r all m = (t : ℕ) × (p : Known X R) × (o : Opened X R) × (c : List (ℕ × X)) × (item : X) × (p.opened ≡ Some o) × (r ≡ o.root) × (all ≡ c ++ (p.number, item) ∷ []) × (m ≡ (passing p (Served t c), (0, None) ∷ []))

  -- it is served, and the slot has the value with the list of its view
  abbrev pub IsBack : {T : Type 0} → (T → List (ℕ × X)) → (T → R) → Me (Option T) (View X R) → Type 0
  IsBack {T} list root m = (t : ℕ) × (p : Known X R) × (o : Opened X R) × (x : T) × (p.opened ≡ Some o) × (root x ≡ o.root) × (m ≡ (passing p (Served t (list x)), (0, Some x) ∷ []))
