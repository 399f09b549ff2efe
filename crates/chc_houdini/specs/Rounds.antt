-- One round: each candidate that is left, in order, asked rule by rule under the candidates that the round began with.
use Rattle.std.specs.Prelude.{ℕ, suc, ◌==◌, List, [], ◌∷◌, ◌++◌, Some, if◌then◌else◌}
use lib.IntN.{ℤ}
use Rattle.chc_form.specs.declared.linear.Limits.{Limits}
use Rattle.chc_form.specs.declared.system.Rule.{Rule}
use Rattle.chc_form.specs.declared.system.System.{System}
use Rattle.chc_form.specs.declared.system.Part.TheVariants as part
use Rattle.chc_form.specs.declared.lemma.Lemma.{Lemma}
use Rattle.chc_reduce.specs.Reduced.{reduced}
use Rattle.chc_ask.specs.declared.open.Asked.{Asked}
use Rattle.chc_ask.specs.declared.open.Asked.TheVariants as asked
use Rattle.chc_ask.specs.Asked.{asked_of}
use Rattle.chc_houdini.specs.declared.greatest.RoundStop.{RoundStop}
use Rattle.chc_houdini.specs.declared.rounds.Judged.{Judged}
use Rattle.chc_houdini.specs.declared.rounds.Judged.TheVariants as judged
use Rattle.chc_houdini.specs.declared.rounds.Round.{Round}
use Rattle.chc_houdini.specs.Drops.{is_named}

-- multipliers in front of a judgement's own
abbrev pub with_proofs : List (List ℤ) → Judged → Judged
with_proofs made (judged.Shown ps) = judged.Shown (made ++ ps)
with_proofs made (judged.Stopped j o) = judged.Stopped j o

-- the answer for rule number j, in front of the judgement by the rules after it
abbrev pub after_answer : Asked → ℕ → Judged → Judged
after_answer (asked.Refuted p) j later = with_proofs (p ∷ []) later
after_answer (asked.Open o) j later = judged.Stopped j o

-- a candidate judged by rules, from number j on: multipliers for each rule on its predicate, or the first that stays open
abbrev pub judged_from : System → Limits → List Lemma → Lemma → ℕ → List Rule → Judged
judged_from s l have c j [] = judged.Shown []
judged_from s l have c j (r ∷ rs) =
    if r.head.pred == c.pred
    then after_answer (asked_of l (reduced s (part.Rule j) (Some c) have)) j (judged_from s l have c (suc j) rs)
    else judged_from s l have c (suc j) rs

unfoldable pub judgement : System → Limits → List Lemma → Lemma → Judged
judgement s l have c = judged_from s l have c 0 s.rules

-- a round so far, and candidate k with its judgement; multipliers before a drop are let go
abbrev pub noted : ℕ → ℕ → Round → Judged → Round
noted i k sofar (judged.Shown ps) = record sofar { proofs = sofar.proofs ++ ps }
noted i k sofar (judged.Stopped j o) = record { drops = sofar.drops ++ (record { round = i; lemma = k; rule = j; left = o }) ∷ []; proofs = [] }

-- a round so far, and candidates from number k on, of which earlier drops name some
abbrev pub round_from : System → Limits → List Lemma → List RoundStop → ℕ → Round → ℕ → List Lemma → Round
round_from s l have earlier i sofar k [] = sofar
round_from s l have earlier i sofar k (c ∷ cs) =
    round_from s l have earlier i (if is_named earlier i k then sofar else noted i k sofar (judgement s l have c)) (suc k) cs

abbrev pub no_round : Round
no_round = record { drops = []; proofs = [] }

-- round i over candidates, under those that are left of them
unfoldable pub round_of : System → Limits → List Lemma → List RoundStop → ℕ → List Lemma → Round
round_of s l have earlier i candidates = round_from s l have earlier i no_round 0 candidates
