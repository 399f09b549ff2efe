-- The same round rule by rule: the candidates that are left, each with what the rules asked so far say of it.
use Rattle.std.specs.Prelude.{ℕ, suc, ◌==◌, List, [], ◌∷◌, ◌++◌, map, Some, if◌then◌else◌}
use lib.IntN.{ℤ}
use Rattle.chc_form.specs.declared.linear.Limits.{Limits}
use Rattle.chc_form.specs.declared.system.Rule.{Rule}
use Rattle.chc_form.specs.declared.system.System.{System}
use Rattle.chc_form.specs.declared.system.Part.TheVariants as part
use Rattle.chc_form.specs.declared.lemma.Lemma.{Lemma}
use Rattle.chc_reduce.specs.Reduced.{reduced}
use Rattle.chc_ask.specs.declared.open.Asked.{Asked}
use Rattle.chc_ask.specs.declared.open.Asked.TheVariants as asked
use Rattle.chc_ask.specs.Asked.{asked_of}
use Rattle.chc_houdini.specs.declared.greatest.RoundStop.{RoundStop}
use Rattle.chc_houdini.specs.declared.rounds.Judged.{Judged}
use Rattle.chc_houdini.specs.declared.rounds.Judged.TheVariants as judged
use Rattle.chc_houdini.specs.declared.rounds.Round.{Round}
use Rattle.chc_houdini.specs.declared.rounds.Candidate.{Candidate}
use Rattle.chc_houdini.specs.Drops.{is_named}
use Rattle.chc_houdini.specs.Rounds.{noted}

-- the candidates, from number k on, that no drop of a round below i names
abbrev pub candidates_from : List RoundStop → ℕ → ℕ → List Lemma → List Candidate
candidates_from drops i k [] = []
candidates_from drops i k (c ∷ cs) =
    if is_named drops i k then candidates_from drops i (suc k) cs else (record { number = k; lemma = c; judged = judged.Shown [] }) ∷ candidates_from drops i (suc k) cs

-- the answer for rule number j, after multipliers for those before it
abbrev pub taken : ℕ → List (List ℤ) → Asked → Judged
taken j made (asked.Refuted p) = judged.Shown (made ++ p ∷ [])
taken j made (asked.Open o) = judged.Stopped j o

abbrev pub judged_more : System → Limits → List Lemma → ℕ → Rule → Lemma → Judged → Judged
judged_more s l have j r c (judged.Shown made) = if r.head.pred == c.pred then taken j made (asked_of l (reduced s (part.Rule j) (Some c) have)) else judged.Shown made
judged_more s l have j r c (judged.Stopped i o) = judged.Stopped i o

-- a candidate after rule number j
abbrev pub turned : System → Limits → List Lemma → ℕ → Rule → Candidate → Candidate
turned s l have j r x = record x { judged = judged_more s l have j r x.lemma x.judged }

-- candidates after rules, from number j on
abbrev pub judged_by : System → Limits → List Lemma → ℕ → List Rule → List Candidate → List Candidate
judged_by s l have j [] xs = xs
judged_by s l have j (r ∷ rs) xs = judged_by s l have (suc j) rs (map (turned s l have j r) xs)

-- a round so far, and candidates with their judgements
abbrev pub gathered : ℕ → Round → List Candidate → Round
gathered i sofar [] = sofar
gathered i sofar (x ∷ xs) = gathered i (noted i x.number sofar x.judged) xs
