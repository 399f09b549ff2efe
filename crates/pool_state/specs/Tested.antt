-- Obligations that are tested one after another: the proofs that are left after them, or the first that stays open.
use Rattle.std.specs.Prelude.{◌≡◌, ℕ, List, [], ◌∷◌, Result, Ok, Err, Option, Some, None, if◌then◌else◌}
use lib.IntN.{ℤ}
use denote.Ref.{Bor}
use Rattle.chc_reduce.specs.Obligations.{Obligation}
use Rattle.chc_reduce.specs.Rows.{rows_of}
use Rattle.chc_cert.specs.Passing.{passes}
use Rattle.pool_state.specs.declared.fault.BatchFault.{BatchFault}
use Rattle.pool_state.specs.declared.fault.BatchFault.TheVariants as fault

-- the proofs that are left, or the lemma and the rule that stay open
abbrev pub ProofsLeft : Type 0
ProofsLeft = Result (List (List ℤ)) (ℕ × ℕ)

abbrev pub tested_one : Obligation → List (List ℤ) → ProofsLeft
tested_one o [] = Err (o.lemma, o.rule)
tested_one o (p ∷ ps) = if passes p (rows_of o.formula) then Ok ps else Err (o.lemma, o.rule)

abbrev pub and_then : ProofsLeft → (List (List ℤ) → ProofsLeft) → ProofsLeft
and_then (Ok ps) go = go ps
and_then (Err first) go = Err first

abbrev pub tested : List Obligation → List (List ℤ) → ProofsLeft
tested [] ps = Ok ps
tested (o ∷ os) ps = and_then (tested_one o ps) (tested os)

abbrev pub open_of : ProofsLeft → Option (ℕ × ℕ)
open_of (Ok ps) = None
open_of (Err first) = Some first

-- what a call answers of a test that goes over proofs
abbrev pub Leaves : ProofsLeft → Result (Bor (List (List ℤ))) BatchFault → Type 0
Leaves left (Ok rest) = left ≡ Ok rest.now
Leaves left (Err (fault.Unproved lemma rule)) = left ≡ Err (lemma, rule)
Leaves left (Err fault.NoMemory) = Unit {0}

-- what a call answers of a first obligation that stays open: none where there is a result, of which more is said
abbrev pub LeavesOpen : {A : Type 0} → Option (ℕ × ℕ) → (A → Type 0) → Result A BatchFault → Type 0
LeavesOpen first Says (Ok a) = Says a × (first ≡ None)
LeavesOpen first Says (Err (fault.Unproved lemma rule)) = first ≡ Some (lemma, rule)
LeavesOpen first Says (Err fault.NoMemory) = Unit {0}
