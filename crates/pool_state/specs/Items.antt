-- The batches of a pool as a list that only grows, and the lemmas of such a list.
use Rattle.std.proofs.Common.{refl, sym, ap, subst, ◌∙◌, append_assoc}
use Rattle.std.specs.Prelude.{◌≡◌, ℕ, ◌+◌, true, List, [], ◌∷◌, ◌++◌, take, drop}
use Rattle.std.specs.List.{list_all}
use Rattle.chc_form.specs.declared.system.System.{System}
use Rattle.chc_form.specs.declared.lemma.Lemma.{Lemma}
use Rattle.chc_form.specs.WellMade.{of_system}
use Rattle.pool_lock.specs.Entries.{StartsWith}
use Rattle.pool_lock.proofs.Entries.{starts-more}
use Rattle.pool_state.specs.declared.joined.Joined.{Joined}
use Rattle.pool_state.specs.Content.{Batched, Content}

-- the batches that joined from here on, each with the number of its worker, where so many of all lemmas stand before them
abbrev pub items_from : System → List Lemma → ℕ → List Joined → List (ℕ × Batched)
items_from s all at [] = []
items_from s all at (j ∷ js) = (j.worker, record { system = s; base = take j.base all; lemmas = take j.len (drop at all) }) ∷ items_from s all (at + j.len) js

-- the batches of a pool, in order, each with the number of its worker
abbrev pub items_in : Content → List (ℕ × Batched)
items_in c = items_from c.system c.lemmas 0 c.batches

-- the lemmas of batches, in order
abbrev pub lemmas_in : List (ℕ × Batched) → List Lemma
lemmas_in [] = []
lemmas_in (b ∷ bs) = b.1.lemmas ++ lemmas_in bs

-- a batch can follow these: it is of the system, and its base is a prefix of their lemmas
abbrev pub MayFollow : System → List (ℕ × Batched) → Batched → Type 0
MayFollow s bs b = (b.system ≡ s) × StartsWith (lemmas_in bs) b.base

-- copies of the lemmas of batches, which are of the system
abbrev pub AreCopies : System → List (ℕ × Batched) → List Lemma → Type 0
AreCopies s bs copies = (copies ≡ lemmas_in bs) × (list_all (of_system s) copies ≡ true)

-- ---- the law of what follows

pub lemmas-append : (bs cs : List (ℕ × Batched)) → lemmas_in (bs ++ cs) ≡ lemmas_in bs ++ lemmas_in cs
lemmas-append [] cs = refl
lemmas-append (b ∷ bs) cs = ap (λ (ls : List Lemma). b.1.lemmas ++ ls) (lemmas-append bs cs) ∙ sym (append_assoc b.1.lemmas (lemmas_in bs) (lemmas_in cs))

-- a batch that may follow some batches may follow more
pub follows : (s : System) (front rest : List (ℕ × Batched)) (b : Batched) → MayFollow s front b → MayFollow s (front ++ rest) b
follows s front rest b h = (h.0, subst (λ (ls : List Lemma). StartsWith ls b.base) (sym (lemmas-append front rest)) (starts-more (lemmas_in front) b.base (lemmas_in rest) h.1))
