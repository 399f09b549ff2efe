-- What a turn at a shared pool keeps.
use Rattle.std.proofs.Common.{◌≡◌, ◌∙◌, sym, ap, subst, refl, ℕ, ◌+◌, List, [], ◌∷◌, ◌++◌, Option, Some, None}
use Rattle.std.specs.Prelude.{IfSome, IsSomeAnd, All}
use Rattle.std.proofs.lemmas.List.Elements.{All-nil, All-cons}
use Rattle.atomic_table.specs.Table.{Me}
use Rattle.atomic_table.specs.Seated.{TableId}
use Rattle.chc_form.specs.declared.system.System.{System}
use Rattle.chc_form.specs.declared.lemma.Lemma.{Lemma}
use Rattle.pool_lock.specs.declared.pass.NumberedSeat.{NumberedSeat}
use Rattle.pool_lock.specs.declared.view.Opened.{Opened}
use Rattle.pool_lock.specs.declared.view.Phase.TheVariants.{Idle}
use Rattle.pool_lock.specs.declared.view.View.{View}
use Rattle.pool_lock.specs.Views.{passing, fresh, opened_in, seen_in}
use Rattle.pool_lock.specs.Calls.{AreFresh, HasCopies, MayPublish, Looked, Published}
use Rattle.pool_state.specs.Content.{Batched, Content}
use Rattle.pool_state.specs.Items.{lemmas_in, MayFollow, AreCopies}
use Rattle.chc_tests.specs.Ready.{IsOver, IsBeginner, IsReady}

follows-any : (s : System) (o : Option (Opened Batched System)) (seen : List (ℕ × Batched)) (b : Batched) → IsSomeAnd o (λ q. q.root ≡ s) → b.system ≡ s → b.base ≡ [] → IfSome o (λ q. MayFollow q.root seen b)
follows-any s None seen b h e f = tt
follows-any s (Some q) seen b h e f = (e ∙ sym h, (lemmas_in seen, ap (λ (ls : List Lemma). ls ++ lemmas_in seen) (sym f)))

-- a batch with no base may be published
pub may-publish : (s : System) (v : View Batched System) (b : Batched) → IsOver s v → b.system ≡ s → b.base ≡ [] → MayPublish MayFollow v b
may-publish s v b h e f = follows-any s (opened_in v) (seen_in v) b h e f

pub copies-published : (v w : View Batched System) (at : ℕ) (b : Batched) (have : List Lemma) → Published v at b w → HasCopies AreCopies v have → HasCopies AreCopies w have
copies-published v w at b have p h =
    subst (λ (o : Option (Opened Batched System)). IfSome o (λ q. AreCopies q.root (seen_in w) have)) (sym p.opened)
    (subst (λ (xs : List (ℕ × Batched)). IfSome (opened_in v) (λ q. AreCopies q.root xs have)) (sym p.seen) h)

pub over-published : (s : System) (v w : View Batched System) (at : ℕ) (b : Batched) → Published v at b w → IsOver s v → IsOver s w
over-published s v w at b p h = subst (λ (o : Option (Opened Batched System)). IsSomeAnd o (λ q. q.root ≡ s)) (sym p.opened) h

pub over-looked : (s : System) (v w : View Batched System) → Looked v w → IsOver s v → IsOver s w
over-looked s v w l h = subst (λ (o : Option (Opened Batched System)). IsSomeAnd o (λ q. q.root ≡ s)) (sym l.opened) h

-- a pass that has called nothing has seen nothing, so no copies are those of it
pub begins : (id : TableId) (s : System) (p : NumberedSeat Content Batched System) → IsBeginner id s p → IsReady id s [] p
begins id s p h =
    let f = h.0 in
    let me : p.seat.me ≡ (passing (fresh (Some f.1) p.number) Idle, []) = f.2 in (
      (f.0, fresh (Some f.1) p.number, refl, me),
      (subst (λ (m : Me (Option Content) (View Batched System)). HasCopies AreCopies m.0 []) (sym me) (refl, refl), h.1),
    )

-- the passes of a lock that was opened round a pool of the system
pub beginners : (id : TableId) (s : System) (o : Opened Batched System) (k : ℕ) (ps : List (NumberedSeat Content Batched System)) → o.root ≡ s → AreFresh id (Some o) k ps → All (IsBeginner id s) ps
beginners id s o k [] e h = All-nil (IsBeginner id s)
beginners id s o k (p ∷ ps) e h =
    let me : p.seat.me ≡ (passing (fresh (Some o) p.number) Idle, []) = h.0.2 ∙ ap (λ (j : ℕ). (passing (fresh (Some o) j) Idle, [])) (sym h.0.0) in
    let over : IsOver s p.seat.me.0 = subst (λ (m : Me (Option Content) (View Batched System)). IsOver s m.0) (sym me) e in
    All-cons (IsBeginner id s) p ps ((h.0.1, o, me), over) (beginners id s o (k + 1) ps e h.1)

pub ruleset turning = (may-publish, copies-published, over-published, over-looked, begins)
