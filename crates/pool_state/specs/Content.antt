-- What a batch and a pool are, and how the lemmas of a pool grew.
use Rattle.std.specs.Prelude.{◌≡◌, ◌≤◌, ℕ, true, Result, Ok, Err, List, [], ◌∷◌, ◌++◌, length, take}
use Rattle.std.specs.List.{list_all}
use Rattle.chc_nums.specs.declared.limits.TheConstants.{MAX_LEMMAS}
use Rattle.chc_form.specs.declared.system.System.{System}
use Rattle.chc_form.specs.declared.lemma.Lemma.{Lemma}
use Rattle.chc_form.specs.Solving.{Relative}
use Rattle.chc_form.specs.WellMade.{well_made, of_system}
use Rattle.pool_state.specs.declared.joined.Joined.{Joined}

-- what a batch is: lemmas, and the base under which they were shown
pub record Batched : Type 0 where
  pub system : System
  pub base : List Lemma
  pub lemmas : List Lemma

-- what a pool is: lemmas, and the batches by which they came
pub record Content : Type 0 where
  pub system : System
  pub batches : List Joined
  pub lemmas : List Lemma

-- batches joined one after another, each relative to a prefix of the lemmas before it
pub data Grown (s : System) : List Joined → List Lemma → Type 0 where
  empty : Grown s [] []
  more : {js : List Joined} {ls : List Lemma} → Grown s js ls → (j : Joined) → (batch : List Lemma) → j.base ≤ length ls → j.len ≡ length batch → Relative s (take j.base ls) batch → Grown s (js ++ j ∷ []) (ls ++ batch)

-- what every batch keeps
pub record IsBatch (b : Batched) : Type 0 where
  pub made : well_made b.system ≡ true
  pub base_of : list_all (of_system b.system) b.base ≡ true
  pub lemmas_of : list_all (of_system b.system) b.lemmas ≡ true
  pub some : 1 ≤ length b.lemmas
  pub few : length b.lemmas ≤ MAX_LEMMAS
  pub relative : Relative b.system b.base b.lemmas

-- what every pool keeps
pub record IsPool (c : Content) : Type 0 where
  pub made : well_made c.system ≡ true
  pub lemmas_of : list_all (of_system c.system) c.lemmas ≡ true
  pub grown : Grown c.system c.batches c.lemmas

-- a batch can join: it is of the pool's system, and its base is a prefix of the pool's lemmas
pub record Fits (c : Content) (b : Batched) : Type 0 where
  pub same : b.system ≡ c.system
  pub rest : List Lemma
  pub prefix : c.lemmas ≡ b.base ++ rest

-- a batch more, in the name of a worker
abbrev pub joined_to : Content → ℕ → Batched → Content
joined_to c by b = record {
  system = c.system;
  batches = c.batches ++ (record { worker = by; base = length b.base; len = length b.lemmas }) ∷ [];
  lemmas = c.lemmas ++ b.lemmas;
}

-- what joining answers: the batch is there, or all is as it was and the batch is handed back
abbrev pub Appends : {E : Type 0} → Content → ℕ → Batched → Content → Result (Unit {0}) (Batched × E) → Type 0
Appends old by b new (Ok u) = new ≡ joined_to old by b
Appends old by b new (Err e) = (new ≡ old) × (e.0 ≡ b)
