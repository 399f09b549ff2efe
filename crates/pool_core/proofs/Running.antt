-- Events one after another.
use Rattle.std.proofs.Common.{◌≡◌, ◌∙◌, sym, ap, subst, refl, append_assoc, ◌⊎◌, ⊎_elim, List, [], ◌∷◌, ◌++◌, length, length-set, arith}
use Rattle.std.specs.Prelude.{slice_get}
use Rattle.chc_form.specs.declared.system.System.{System}
use Rattle.pool_state.specs.Content.{Fits, joined_to}
use Rattle.pool_core.specs.declared.events.Event.{Event}
use Rattle.pool_core.specs.declared.events.Event.TheVariants.{Look, Publish, Answer}
use Rattle.pool_core.specs.declared.events.Told.{Told}
use Rattle.pool_core.specs.declared.events.Told.TheVariants as told
use Rattle.pool_core.specs.Core.{Core}
use Rattle.pool_core.specs.Steps.{Steps, IsInRange}
use Rattle.pool_core.specs.Runs.{Runs, AreInRange}
use Rattle.pool_core.proofs.Fronts.{some-and}

-- one event more
pub run-more : (c m d : Core) (es : List Event) (ts : List Told) (e : Event) (t : Told) → Runs c es ts m → Steps m e t d → Runs c (es ++ e ∷ []) (ts ++ t ∷ []) d
run-more c m d [] [] e t r s = (d, subst (λ (x : Core). Steps x e t d) r s, refl)
run-more c m d [] (u ∷ ts) e t r s = absurd r
run-more c m d (f ∷ es) [] e t r s = absurd r
run-more c m d (f ∷ es) (u ∷ ts) e t r s = (r.0, r.1, run-more r.0 m d es ts e t r.2 s)

-- a step changes neither how many workers there are nor the system
step-same : (c d : Core) (e : Event) (t : Told) → Steps c e t d → (length d.seen ≡ length c.seen) × (d.pool.system ≡ c.pool.system)
step-same c d (Look k) t s = (ap (λ (x : Core). length x.seen) s.1 ∙ length-set c.seen k c.pool, ap (λ (x : Core). x.pool.system) s.1)
step-same c d (Publish k b) t s =
    let a = some-and (slice_get c.seen k) (λ had. (Fits had b × (t ≡ told.Placed (length c.pool.batches)) × (d ≡ record { pool = joined_to c.pool k b; seen = c.seen })) ⊎ ((Fits had b → ⊥) × (t ≡ told.Stranger b) × (d ≡ c))) s in
    ⊎_elim
    (λ u. (ap (λ (x : Core). length x.seen) u.2, ap (λ (x : Core). x.pool.system) u.2))
    (λ u. (ap (λ (x : Core). length x.seen) u.2, ap (λ (x : Core). x.pool.system) u.2))
    a.2
step-same c d (Answer k i) t s = (ap (λ (x : Core). length x.seen) s.3, ap (λ (x : Core). x.pool.system) s.3)

range-one : (c d : Core) (e : Event) → length d.seen ≡ length c.seen → d.pool.system ≡ c.pool.system → IsInRange c e → IsInRange d e
range-one c d (Look k) n s h = omega (arith, n, h)
range-one c d (Publish k b) n s h = omega (arith, n, h)
range-one c d (Answer k i) n s h = let m = ap (λ (x : System). length x.queries) s in (omega (arith, n, h.0), omega (arith, m, h.1))

range-all : (c d : Core) (es : List Event) → length d.seen ≡ length c.seen → d.pool.system ≡ c.pool.system → AreInRange c es → AreInRange d es
range-all c d [] n s h = tt
range-all c d (e ∷ es) n s h = (range-one c d e n s h.0, range-all c d es n s h.1)

-- what is in range stays so
pub range-kept : (c d : Core) (e : Event) (t : Told) (es : List Event) → Steps c e t d → AreInRange c es → AreInRange d es
range-kept c d e t es s h = let k = step-same c d e t s in range-all c d es k.0 k.1 h

-- ---- a turn of a run

pub turn-ran : (c m d : Core) (all left rest : List Event) (e : Event) (old new : List Told) → (done : List Event) × (all ≡ done ++ left) × Runs c done old m → left ≡ e ∷ rest → (t : Told) × Steps m e t d × (new ≡ old ++ t ∷ []) → (done : List Event) × (all ≡ done ++ rest) × Runs c done new d
turn-ran c m d all left rest e old new h first step =
    let more : Runs c (h.0 ++ e ∷ []) (old ++ step.0 ∷ []) d = run-more c m d h.0 old e step.0 h.2 step.1 in
    (h.0 ++ e ∷ [], h.1 ∙ ap (λ (es : List Event). h.0 ++ es) first ∙ sym (append_assoc h.0 (e ∷ []) rest), subst (λ (ts : List Told). Runs c (h.0 ++ e ∷ []) ts d) (sym step.2) more)

pub turn-range : (m d : Core) (left rest : List Event) (e : Event) (old new : List Told) → AreInRange m left → left ≡ e ∷ rest → (t : Told) × Steps m e t d × (new ≡ old ++ t ∷ []) → AreInRange d rest
turn-range m d left rest e old new h first step =
    let there : AreInRange m (e ∷ rest) = subst (AreInRange m) first h in
    range-kept m d e step.0 rest step.1 there.1
