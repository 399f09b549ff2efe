-- The first obligation that proofs leave open.
use Rattle.std.specs.Prelude.{ℕ, List, [], ◌∷◌, Option, Some, None, if◌then◌else◌}
use lib.IntN.{ℤ}
use Rattle.chc_reduce.specs.Obligations.{Obligation}
use Rattle.chc_reduce.specs.Rows.{rows_of}
use Rattle.chc_cert.specs.Passing.{passes}

-- the lemma and the rule of the first obligation whose proof is missing or does not pass; further proofs are not looked at
abbrev pub unproved : List Obligation → List (List ℤ) → Option (ℕ × ℕ)
unproved [] ps = None
unproved (o ∷ os) [] = Some (o.lemma, o.rule)
unproved (o ∷ os) (p ∷ ps) = if passes p (rows_of o.formula) then unproved os ps else Some (o.lemma, o.rule)
