-- A pass that has called nothing has seen nothing.
use Rattle.std.proofs.Common.{◌≡◌, ℕ, List, length, refl, sym, subst, Option, Some}
use Rattle.atomic_table.specs.Table.{Me}
use Rattle.atomic_table.specs.Seated.{TableId}
use Rattle.pool_lock.specs.declared.pass.NumberedSeat.{NumberedSeat}
use Rattle.pool_lock.specs.declared.view.View.{View}
use Rattle.pool_lock.specs.Views.{fresh}
use Rattle.pool_lock.specs.Calls.{IsOurs, IsFresh, HasCopies}

module _ {T X R : Type 0} where
  pub ours : (id : TableId) (p : NumberedSeat T X R) → IsFresh id p → IsOurs id p
  ours id p h = (h.0, fresh (Some h.1) p.number, refl, h.2)

  pub none-seen : (id : TableId) (p : NumberedSeat T X R) → IsFresh id p → HasCopies (λ (r : R) (xs : List (ℕ × X)) (n : ℕ). n ≡ length xs) p.seat.me.0 0
  none-seen id p h = subst (λ (m : Me (Option T) (View X R)). HasCopies (λ (r : R) (xs : List (ℕ × X)) (n : ℕ). n ≡ length xs) m.0 0) (sym h.2) refl

pub ruleset beginning = (ours, none-seen)
