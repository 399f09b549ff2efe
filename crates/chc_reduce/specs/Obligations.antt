-- What has to be refuted so that a batch of lemmas is relative to a base: for each lemma in order, and each rule in order
-- whose head is on its predicate, the formula for them.
use Rattle.std.specs.Prelude.{ℕ, suc, ◌==◌, List, [], ◌∷◌, ◌++◌, Some, if◌then◌else◌}
use Rattle.chc_form.specs.declared.formula.Formula.{Formula}
use Rattle.chc_form.specs.declared.system.Rule.{Rule}
use Rattle.chc_form.specs.declared.system.System.{System}
use Rattle.chc_form.specs.declared.system.Part.TheVariants as part
use Rattle.chc_form.specs.declared.lemma.Lemma.{Lemma}
use Rattle.chc_reduce.specs.Reduced.{reduced}

-- a lemma by its place in the batch, a rule by its number, and the formula that shows the lemma at the rule's head
pub record Obligation : Type 0 where
  pub lemma : ℕ
  pub rule : ℕ
  pub formula : Formula

-- those of one lemma, from rule number i on, where these lemmas are had
abbrev pub at_rules : System → List Lemma → ℕ → Lemma → ℕ → List Rule → List Obligation
at_rules s have k l i [] = []
at_rules s have k l i (r ∷ rs) =
    if r.head.pred == l.pred
    then (record { lemma = k; rule = i; formula = reduced s (part.Rule i) (Some l) have }) ∷ at_rules s have k l (suc i) rs
    else at_rules s have k l (suc i) rs

-- those of lemmas, from place k on
abbrev pub for_lemmas : System → List Lemma → ℕ → List Lemma → List Obligation
for_lemmas s have k [] = []
for_lemmas s have k (l ∷ ls) = at_rules s have k l 0 s.rules ++ for_lemmas s have (suc k) ls

-- those of a batch over its base
abbrev pub obligations : System → List Lemma → List Lemma → List Obligation
obligations s base batch = for_lemmas s (base ++ batch) 0 batch
