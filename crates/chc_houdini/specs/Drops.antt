-- Which candidates are dropped in rounds, so that those that are kept are shown under each other: Houdini's rule.
use Rattle.std.specs.Prelude.{◌≡◌, ◌<◌, ◌⊎◌, ℕ, suc, nat_lt, ◌==◌, Bool, false, ◌&&◌, List, [], ◌∷◌, Some, slice_get, if◌then◌else◌}
use Rattle.std.specs.List.{Contains, list_any}
use Rattle.chc_form.specs.declared.linear.Limits.{Limits}
use Rattle.chc_form.specs.declared.system.Rule.{Rule}
use Rattle.chc_form.specs.declared.system.System.{System}
use Rattle.chc_form.specs.declared.system.Part.TheVariants as part
use Rattle.chc_form.specs.declared.lemma.Lemma.{Lemma}
use Rattle.chc_form.specs.Formulas.{FormulaRefuted}
use Rattle.chc_reduce.specs.Reduced.{reduced}
use Rattle.chc_ask.specs.Open.{StaysOpen}
use Rattle.chc_houdini.specs.declared.greatest.RoundStop.{RoundStop}

-- a drop of a round below i names candidate k
abbrev pub is_named : List RoundStop → ℕ → ℕ → Bool
is_named drops i k = list_any (λ d. nat_lt d.round i && (d.lemma == k)) drops

-- the candidates, from number k on, that no drop of a round below i names
abbrev pub left_from : List RoundStop → ℕ → ℕ → List Lemma → List Lemma
left_from drops i k [] = []
left_from drops i k (c ∷ cs) = if is_named drops i k then left_from drops i (suc k) cs else c ∷ left_from drops i (suc k) cs

-- the candidates of round i
abbrev pub left_in : List RoundStop → List Lemma → ℕ → List Lemma
left_in drops candidates i = left_from drops i 0 candidates

-- a query of candidate c in round i: a rule by its number, whose head is on its predicate
abbrev pub IsQuery : System → Lemma → ℕ → Type 0
IsQuery s c j = (r : Rule) × (slice_get s.rules j ≡ Some r) × (r.head.pred ≡ c.pred)

-- the query of candidate c for rule j in round i is refuted over fractions
abbrev pub IsRefuted : System → List RoundStop → List Lemma → ℕ → Lemma → ℕ → Type 0
IsRefuted s drops candidates i c j = FormulaRefuted (reduced s (part.Rule j) (Some c) (left_in drops candidates i))

-- a drop names a candidate of its round, and the first rule whose query stays open there, and says why
pub record IsDrop (s : System) (l : Limits) (candidates : List Lemma) (drops : List RoundStop) (d : RoundStop) : Type 0 where
  pub candidate : Lemma
  pub place : slice_get candidates d.lemma ≡ Some candidate
  pub there : is_named drops d.round d.lemma ≡ false
  pub query : IsQuery s candidate d.rule
  pub left : StaysOpen l (reduced s (part.Rule d.rule) (Some candidate) (left_in drops candidates d.round)) d.left
  pub earlier : (j : ℕ) → j < d.rule → IsQuery s candidate j → IsRefuted s drops candidates d.round candidate j

-- drops stand in order of round and candidate
abbrev pub Before : RoundStop → RoundStop → Type 0
Before d e = (d.round < e.round) ⊎ ((d.round ≡ e.round) × (d.lemma < e.lemma))

abbrev pub InOrder : List RoundStop → Type 0
InOrder [] = Unit {0}
InOrder (d ∷ ds) = ((e : RoundStop) → Contains ds e → Before d e) × InOrder ds

-- the drops over a list of candidates are right, and `rounds` is the first round without one: in each round up to that
-- one, each candidate that is left there and has a query that isn't refuted is dropped
pub record RightDrops (s : System) (l : Limits) (candidates : List Lemma) (drops : List RoundStop) (rounds : ℕ) : Type 0 where
  pub order : InOrder drops
  pub once : (a b : ℕ) (d e : RoundStop) → slice_get drops a ≡ Some d → slice_get drops b ≡ Some e → d.lemma ≡ e.lemma → a ≡ b
  pub each : (d : RoundStop) → Contains drops d → IsDrop s l candidates drops d
  pub below : (d : RoundStop) → Contains drops d → d.round < rounds
  pub all : (i : ℕ) → i < rounds → (d : RoundStop) × Contains drops d × (d.round ≡ i)
  pub complete : (i k j : ℕ) (c : Lemma) → i < suc rounds → slice_get candidates k ≡ Some c → is_named drops i k ≡ false → IsQuery s c j → (IsRefuted s drops candidates i c j → ⊥) → (d : RoundStop) × Contains drops d × (d.round ≡ i) × (d.lemma ≡ k)

-- the candidates that no drop names
abbrev pub kept_from : List RoundStop → ℕ → List Lemma → List Lemma
kept_from drops k [] = []
kept_from drops k (c ∷ cs) = if list_any (λ d. d.lemma == k) drops then kept_from drops (suc k) cs else c ∷ kept_from drops (suc k) cs

abbrev pub kept : List RoundStop → List Lemma → List Lemma
kept drops candidates = kept_from drops 0 candidates
