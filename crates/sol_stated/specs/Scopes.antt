-- Locals, and where they can be named: from behind their declaration to the end of the block or `for` around it (Solidity's
-- documentation, "Scoping and Declarations"). Rule 24.
use Rattle.std.specs.Prelude.{ℕ, ◌+◌, List, [], ◌∷◌, ◌++◌, length, take, drop, Option, Some, None}
use Rattle.sol_judged.specs.declared.rules.Rule.TheVariants as rule
use Rattle.sol_judged.specs.declared.tables.Meaning.{Meaning}
use Rattle.sol_judged.specs.declared.tables.Meaning.TheVariants as means
use Rattle.sol_judged.specs.Names.{last_binding}
use Rattle.sol_stated.specs.declared.scope.Scope.{Scope}
use Rattle.sol_stated.specs.Checks.{Check, pass, fail}
use Rattle.sol_stated.specs.Contexts.{Typed, OfType, Mistyped}

abbrev pub start : Scope
start = record { visible = []; from = 0; count = 0 }

-- an inner scope, in which nothing is declared yet
abbrev pub opened : Scope → Scope
opened w = record w { from = length w.visible }

-- so many locals stay visible, and those from a place on are of the innermost scope; the count goes on
abbrev pub closed_to : ℕ → ℕ → Scope → Scope
closed_to kept from w = record w { visible = take kept w.visible; from = from }

-- the scope around an inner one, after it
abbrev pub closed : Scope → Scope → Scope
closed outer inner = closed_to (length outer.visible) outer.from inner

-- what a local of a type means, which is the next one of its function
abbrev pub local : Scope → Typed → Meaning
local w (OfType t) = means.Local w.count t
local w (Mistyped broken_rule place) = means.Faulty broken_rule place

-- one more local
abbrev pub declared : List ℕ → Meaning → Scope → Scope
declared name m w = record w { visible = w.visible ++ (record { name = name; meaning = m }) ∷ []; count = w.count + 1 }

-- the same without a name
abbrev pub unnamed : Scope → Scope
unnamed w = record w { count = w.count + 1 }

abbrev pub fresh_by : ℕ → Option Meaning → Check
fresh_by at None = pass
fresh_by at (Some m) = fail rule.LocalTwice at

-- no local of the innermost scope has this name; else rule 24 is broken at the second
unfoldable pub fresh : ℕ → List ℕ → Scope → Check
fresh at name w = fresh_by at (last_binding (drop w.from w.visible) name)
