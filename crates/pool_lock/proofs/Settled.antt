-- Where a seat is past the opening, the lock has its value.
use Rattle.std.proofs.Common.{◌≡◌, ℕ, zero, suc, List, [], ◌∷◌, sym, subst, inl, inr, ⊎_elim, Option}
use mathlib.Core.Option.{some, some-injective, some-ne-none}
use lib.ListN.{get_elem?}
use Rattle.atomic_table.specs.Table.{State}
use Rattle.pool_lock.specs.declared.view.Phase.{Phase}
use Rattle.pool_lock.specs.declared.view.Phase.TheVariants.{Empty, Filling, Idle, Waiting, Served}
use Rattle.pool_lock.specs.declared.view.View.{View}
use Rattle.pool_lock.specs.Views.{beginner}
use Rattle.pool_lock.specs.Rule.{Held, Kept}

-- past the opening
abbrev pub IsSettled : {X : Type 0} → Phase X → Type 0
IsSettled Empty = ⊥
IsSettled Filling = ⊥
IsSettled Idle = Unit {0}
IsSettled (Waiting t) = Unit {0}
IsSettled (Served t c) = Unit {0}

module _ {X R : Type 0} where
  only-one : (vs : List (View X R)) (u v : View X R) (id : ℕ) → vs ≡ u ∷ [] → get_elem? vs id ≡ some v → u ≡ v
  only-one vs u v id e at = alone id (subst (λ (l : List (View X R)). get_elem? l id ≡ some v) e at)
    where
      alone : (i : ℕ) → get_elem? (u ∷ []) i ≡ some v → u ≡ v
      alone zero h = some-injective u v h
      alone (suc i) h = absurd (some-ne-none v (sym h))

  module _ {T : Type 0} (list : T → List (ℕ × X)) (root : T → R) (n : ℕ) where
    pub settled : (s : State (Option T) (View X R)) (id : ℕ) (v : View X R) → Kept list root n s → get_elem? s.views id ≡ some v → IsSettled v.phase → Held list root n s
    settled s id v (inr h) at past = h
    settled s id v (inl u) at past =
        ⊎_elim
        (λ e. absurd (subst (λ (w : View X R). IsSettled w.phase) (sym (only-one s.views (beginner n Empty) v id e.0 at)) past))
        (λ e. absurd (subst (λ (w : View X R). IsSettled w.phase) (sym (only-one s.views (beginner n Filling) v id e.0 at)) past))
        u.slot
