-- Steps that end the run where a number leaves 128 bits.
use Rattle.std.specs.Prelude.{◌≡◌, List, ◌++◌, Option, Some, None, Result, Ok, Err}
use Rattle.chc_nums.specs.Values.{with_value}
use Rattle.chc_simplex.specs.declared.data.Stop.{Stop}
use Rattle.chc_simplex.specs.declared.data.Stop.TheVariants as stop

-- what follows items that are there already
abbrev pub joined : {A : Type 0} → List A → Option (List A) → Option (List A)
joined made rest = with_value rest (λ more. Some (made ++ more))

-- what a call gives: the value, `Wide` where there is none, and nothing is said where memory ran out
abbrev pub Gives : {A : Type 0} → Result A Stop → Option A → Type 0
Gives (Ok a) value = value ≡ Some a
Gives (Err stop.Wide) value = value ≡ None
Gives (Err stop.NoMemory) value = Unit {0}
