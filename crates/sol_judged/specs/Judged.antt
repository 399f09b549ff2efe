-- What is found in a piece of text, and the faults in it: each a rule and the place where it is broken.
use Rattle.std.specs.Prelude.{◌≡◌, ℕ, List, [], ◌∷◌, ◌++◌, ◌⊎◌, Result, Ok, Err}
use Rattle.sol_judged.specs.declared.rules.Rule.{Rule}
use Rattle.sol_judged.specs.declared.fault.TypeFault.{TypeFault}
use Rattle.sol_judged.specs.declared.fault.TypeFault.TheVariants as fault

pub record Judged (A : Type 0) : Type 0 where
  pub found : A
  pub faults : List (Rule × ℕ)

abbrev pub sound : {A : Type 0} → A → Judged A
sound a = record { found = a; faults = [] }

-- a rule is broken at a place, and all the same a is found
abbrev pub broken : {A : Type 0} → Rule → ℕ → A → Judged A
broken rule at a = record { found = a; faults = (rule, at) ∷ [] }

-- two rules are broken, and either may be told
abbrev pub broken_both : {A : Type 0} → Rule → ℕ → Rule → ℕ → A → Judged A
broken_both rule at other other_at a = record { found = a; faults = (rule, at) ∷ (other, other_at) ∷ [] }

-- what is found first, and what is judged by it, with the faults of both
infixl 10 ◌>>=◌
abbrev pub ◌>>=◌ : {A B : Type 0} → Judged A → (A → Judged B) → Judged B
j >>= k = record { found = (k j.found).found; faults = j.faults ++ (k j.found).faults }

abbrev pub Among : Rule × ℕ → List (Rule × ℕ) → Type 0
Among f [] = ⊥
Among f (g ∷ gs) = (g ≡ f) ⊎ Among f gs

abbrev pub IsFault : List (Rule × ℕ) → TypeFault → Type 0
IsFault faults (fault.Broken rule at) = Among (rule, at) faults
IsFault faults fault.NoMemory = Unit {0}

-- Ok exactly where there is no fault, with what is found, seen in a way; or one of the faults; or no memory
abbrev pub Judges : {A B : Type 0} → (B → A) → Judged A → Result B TypeFault → Type 0
Judges see j (Ok b) = j ≡ sound (see b)
Judges see j (Err e) = IsFault j.faults e

-- a value that only memory can fail to give
abbrev pub Makes : {A : Type 0} → A → Result A TypeFault → Type 0
Makes a (Ok b) = b ≡ a
Makes a (Err (fault.Broken rule at)) = ⊥
Makes a (Err fault.NoMemory) = Unit {0}
