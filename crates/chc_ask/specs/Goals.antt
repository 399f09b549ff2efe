-- What is answered of a goal at a rule under lemmas.
use Rattle.std.specs.Prelude.{◌≡◌, ℕ, List, Some}
use Rattle.chc_form.specs.declared.linear.Limits.{Limits}
use Rattle.chc_form.specs.declared.system.System.{System}
use Rattle.chc_form.specs.declared.system.Part.TheVariants as part
use Rattle.chc_form.specs.declared.lemma.Lemma.{Lemma}
use Rattle.chc_reduce.specs.declared.premises.Premises.{Premises}
use Rattle.chc_reduce.specs.Reduced.{reduced}
use Rattle.chc_reduce.specs.Premises.{ArePremises}
use Rattle.chc_ask.specs.declared.open.Asked.{Asked}
use Rattle.chc_ask.specs.Asked.{asked_of}

-- of whatever rule and lemmas these are the premises, it is the answer on the formula for the goal
abbrev pub AnswersGoal : Limits → Lemma → Premises → Asked → Type 0
AnswersGoal l goal g a = (s : System) (i : ℕ) (ls : List Lemma) → ArePremises s i ls g → a ≡ asked_of l (reduced s (part.Rule i) (Some goal) ls)
