-- What stands of drops when the rounds below some number are over.
use Rattle.std.proofs.Common.{◌≡◌, ◌<◌, ℕ, List, false, Some, slice_get}
use Rattle.std.specs.List.{Contains}
use Rattle.chc_form.specs.declared.linear.Limits.{Limits}
use Rattle.chc_form.specs.declared.system.System.{System}
use Rattle.chc_form.specs.declared.lemma.Lemma.{Lemma}
use Rattle.chc_houdini.specs.declared.greatest.RoundStop.{RoundStop}
use Rattle.chc_houdini.specs.Drops.{is_named, IsQuery, IsRefuted, IsDrop, InOrder}

-- in rounds below some number each candidate that is left and has a query that isn't refuted is dropped
abbrev pub AllDropped : System → List Lemma → List RoundStop → ℕ → Type 0
AllDropped s candidates drops rounds = (i k j : ℕ) (c : Lemma) → i < rounds → slice_get candidates k ≡ Some c → is_named drops i k ≡ false → IsQuery s c j → (IsRefuted s drops candidates i c j → ⊥) → (d : RoundStop) × Contains drops d × (d.round ≡ i) × (d.lemma ≡ k)

pub record RightBelow (s : System) (l : Limits) (candidates : List Lemma) (drops : List RoundStop) (rounds : ℕ) : Type 0 where
  pub order : InOrder drops
  pub each : (d : RoundStop) → Contains drops d → IsDrop s l candidates drops d
  pub below : (d : RoundStop) → Contains drops d → d.round < rounds
  pub all : (i : ℕ) → i < rounds → (d : RoundStop) × Contains drops d × (d.round ≡ i)
  pub complete : AllDropped s candidates drops rounds
