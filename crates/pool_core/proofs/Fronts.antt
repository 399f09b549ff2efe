-- Prefixes of pools.
use Rattle.std.proofs.Common.{◌≡◌, ◌∙◌, ap, subst, refl, ℕ, true, zero, suc, List, [], ◌∷◌, ◌++◌, length, append_assoc, Option, Some, None}
use Rattle.std.specs.Prelude.{slice_get, slice_set, IsSomeAnd}
use Rattle.chc_form.specs.declared.system.System.{System}
use Rattle.chc_form.specs.declared.lemma.Lemma.{Lemma}
use Rattle.chc_form.specs.WellMade.{well_made}
use Rattle.pool_lock.proofs.Entries.{starts-same, starts-more, starts-through}
use Rattle.pool_state.specs.declared.joined.Joined.{Joined}
use Rattle.pool_state.specs.Content.{Batched, Content, IsBatch, IsPool, Fits, joined_to}
use Rattle.pool_state.proofs.Growing.{pool-none, pool-joined}
use Rattle.pool_core.specs.Core.{nothing, unseen, IsFront, AreFronts}

pub some-and : {A : Type 0} (o : Option A) (P : A → Type 0) → IsSomeAnd o P → (x : A) × (o ≡ Some x) × P x
some-and None P h = absurd h
some-and (Some x) P h = (x, refl, h)

pub front-same : (c : Content) → IsFront c c
front-same c = record { system = refl; batches = starts-same c.batches; lemmas = starts-same c.lemmas }

pub front-joined : (f c : Content) (k : ℕ) (b : Batched) → IsFront f c → IsFront f (joined_to c k b)
front-joined f c k b h =
    let j : Joined = record { worker = k; base = length b.base; len = length b.lemmas } in
    record { system = h.system; batches = starts-more c.batches f.batches (j ∷ []) h.batches; lemmas = starts-more c.lemmas f.lemmas b.lemmas h.lemmas }

pub front-through : (f g c : Content) → IsFront f g → IsFront g c → IsFront f c
front-through f g c h k = record {
  system = h.system ∙ k.system;
  batches = starts-through c.batches g.batches f.batches k.batches h.batches;
  lemmas = starts-through c.lemmas g.lemmas f.lemmas k.lemmas h.lemmas;
}

-- a batch that fits a prefix fits the whole
pub fits-front : (f c : Content) (b : Batched) → IsFront f c → Fits f b → Fits c b
fits-front f c b h fit = record {
  same = fit.same ∙ h.system;
  rest = fit.rest ++ h.lemmas.0;
  prefix = h.lemmas.1 ∙ ap (λ (ls : List Lemma). ls ++ h.lemmas.0) fit.prefix ∙ append_assoc b.base fit.rest h.lemmas.0;
}

pub pool-nothing : (s : System) → well_made s ≡ true → IsPool (nothing s)
pool-nothing s made = pool-none s [] [] made refl refl

pub pool-joins : (c : Content) (k : ℕ) (b : Batched) → IsPool c → IsBatch b → Fits c b → IsPool (joined_to c k b)
pool-joins c k b p q f = pool-joined c b (record { worker = k; base = length b.base; len = length b.lemmas }) p q f refl refl

-- ---- what workers have seen

pub fronts-none : (s : System) (n : ℕ) → well_made s ≡ true → AreFronts (nothing s) (unseen s n)
fronts-none s zero made = tt
fronts-none s (suc n) made = ((front-same (nothing s), pool-nothing s made), fronts-none s n made)

pub fronts-joined : (c : Content) (k : ℕ) (b : Batched) (fs : List Content) → AreFronts c fs → AreFronts (joined_to c k b) fs
fronts-joined c k b [] h = tt
fronts-joined c k b (f ∷ fs) h = ((front-joined f c k b h.0.0, h.0.1), fronts-joined c k b fs h.1)

pub fronts-looked : (c : Content) (fs : List Content) (k : ℕ) → IsPool c → AreFronts c fs → AreFronts c (slice_set fs k c)
fronts-looked c [] zero p h = tt
fronts-looked c [] (suc k) p h = tt
fronts-looked c (f ∷ fs) zero p h = ((front-same c, p), h.1)
fronts-looked c (f ∷ fs) (suc k) p h = (h.0, fronts-looked c fs k p h.1)

pub front-at : (c : Content) (fs : List Content) (k : ℕ) (had : Content) → AreFronts c fs → slice_get fs k ≡ Some had → IsFront had c × IsPool had
front-at c [] zero had h e = absurd (cc)
front-at c [] (suc k) had h e = absurd (cc)
front-at c (f ∷ fs) zero had h e = let same : f ≡ had = cc (e) in subst (λ (g : Content). IsFront g c × IsPool g) same h.0
front-at c (f ∷ fs) (suc k) had h e = front-at c fs k had h.1 e

-- what a worker sees after a look begins with what it had seen
pub looked-longer : (c : Content) (fs : List Content) (j k : ℕ) (had : Content) → slice_get fs k ≡ Some had → IsFront had c → (has : Content) × (slice_get (slice_set fs j c) k ≡ Some has) × IsFront had has
looked-longer c [] j zero had e h = absurd (cc)
looked-longer c [] j (suc k) had e h = absurd (cc)
looked-longer c (f ∷ fs) zero zero had e h = (c, refl, h)
looked-longer c (f ∷ fs) zero (suc k) had e h = (had, e, front-same had)
looked-longer c (f ∷ fs) (suc j) zero had e h = (had, e, front-same had)
looked-longer c (f ∷ fs) (suc j) (suc k) had e h = looked-longer c fs j k had e h
