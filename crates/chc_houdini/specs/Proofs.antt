-- Multipliers for obligations, pairwise: those that one run of the tableau answers for the obligation's formula.
use Rattle.std.specs.Prelude.{◌≡◌, List, [], ◌∷◌}
use lib.IntN.{ℤ}
use Rattle.chc_form.specs.declared.linear.Limits.{Limits}
use Rattle.chc_reduce.specs.Obligations.{Obligation}
use Rattle.chc_ask.specs.declared.open.Asked.TheVariants as asked
use Rattle.chc_ask.specs.Asked.{asked_of}

abbrev pub AllAsked : Limits → List Obligation → List (List ℤ) → Type 0
AllAsked l [] [] = Unit {0}
AllAsked l [] (p ∷ ps) = ⊥
AllAsked l (o ∷ os) [] = ⊥
AllAsked l (o ∷ os) (p ∷ ps) = (asked_of l o.formula ≡ asked.Refuted p) × AllAsked l os ps
