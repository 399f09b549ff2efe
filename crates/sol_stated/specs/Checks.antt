-- What is checked and gives nothing but its faults, and what a scope becomes.
use Rattle.std.specs.Prelude.{◌≡◌, ℕ, List, [], ◌∷◌, Bool, if◌then◌else◌, Result, Ok, Err}
use Rattle.sol_judged.specs.declared.rules.Rule.{Rule}
use Rattle.sol_judged.specs.declared.fault.TypeFault.{TypeFault}
use Rattle.sol_judged.specs.Judged.{Judged, sound, broken, ◌>>=◌, IsFault}
use Rattle.sol_stated.specs.declared.scope.Scope.{Scope}

abbrev pub Check : Type 0
Check = Judged (Unit {0})

abbrev pub pass : Check
pass = sound tt

abbrev pub fail : Rule → ℕ → Check
fail broken_rule at = broken broken_rule at tt

-- a rule is broken at a place where this doesn't hold
abbrev pub check : Bool → Rule → ℕ → Check
check holds broken_rule at = if holds then pass else fail broken_rule at

-- each of some checks
abbrev pub all_checks : List Check → Check
all_checks [] = pass
all_checks (c ∷ cs) = c >>= λ u. all_checks cs

-- Ok exactly where there is no fault; or one of the faults; or no memory
abbrev pub Checks : Check → Result (Unit {0}) TypeFault → Type 0
Checks j (Ok u) = j ≡ pass
Checks j (Err e) = IsFault j.faults e

-- Ok exactly where there is no fault, with the scope that goes on; or one of the faults; or no memory
abbrev pub Works : Judged Scope → Result (Unit {0}) TypeFault → Scope → Type 0
Works j (Ok u) new = j ≡ sound new
Works j (Err e) new = IsFault j.faults e
