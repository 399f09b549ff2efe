-- What a thread keeps between two turns at a shared pool.
use Rattle.std.specs.Prelude.{◌≡◌, List, IsSomeAnd}
use Rattle.atomic_table.specs.Seated.{TableId}
use Rattle.chc_form.specs.declared.system.System.{System}
use Rattle.chc_form.specs.declared.lemma.Lemma.{Lemma}
use Rattle.pool_lock.specs.declared.pass.NumberedSeat.{NumberedSeat}
use Rattle.pool_lock.specs.declared.view.View.{View}
use Rattle.pool_lock.specs.Views.{opened_in}
use Rattle.pool_lock.specs.Calls.{IsOurs, IsFresh, HasCopies}
use Rattle.pool_state.specs.Content.{Batched, Content}
use Rattle.pool_state.specs.Items.{AreCopies}

-- the pool of the pass is one of the system
abbrev pub IsOver : System → View Batched System → Type 0
IsOver s v = IsSomeAnd (opened_in v) (λ o. o.root ≡ s)

-- a pass that has called nothing yet
abbrev pub IsBeginner : TableId → System → NumberedSeat Content Batched System → Type 0
IsBeginner id s p = IsFresh id p × IsOver s p.seat.me.0

-- a pass, and copies of what it has seen
abbrev pub IsReady : TableId → System → List Lemma → NumberedSeat Content Batched System → Type 0
IsReady id s have p = IsOurs id p × (HasCopies AreCopies p.seat.me.0 have × IsOver s p.seat.me.0)
