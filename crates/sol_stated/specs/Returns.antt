-- `return`, `break`, `continue` and `_` (Solidity's documentation, "Function Modifiers"). A modifier returns nothing, whatever
-- the function does to which it is applied. Rules 17, 18 and 19.
use Rattle.std.specs.Prelude.{ℕ, Option, Some, None, Bool}
use Rattle.sol_tree.specs.declared.expr.ExprTree.{ExprTree}
use Rattle.sol_tree.specs.Places.{place_of}
use Rattle.sol_judged.specs.declared.rules.Rule.TheVariants as rule
use Rattle.sol_judged.specs.Settings.{Setting}
use Rattle.sol_judged.specs.Judged.{◌>>=◌}
use Rattle.sol_judged.specs.Judgement.{judge}
use Rattle.sol_stated.specs.Checks.{Check, pass, fail, check}
use Rattle.sol_stated.specs.Contexts.{Kind, Typed, Function, Modifier}
use Rattle.sol_stated.specs.Values.{any_value, value_in}

abbrev pub returned_type : Kind → Option Typed
returned_type (Function t) = t
returned_type Modifier = None

-- a value is returned exactly where one is declared, and converts; else rule 17 is broken at `return`
abbrev pub returned : Setting → ℕ → Option Typed → Option ExprTree → Check
returned w at None None = pass
returned w at None (Some e) = fail rule.Return at >>= λ u. judge w e >>= any_value rule.Return at (place_of e)
returned w at (Some t) None = fail rule.Return at
returned w at (Some t) (Some e) = value_in w rule.Return at t e

-- `break` and `continue` stand in a loop; else rule 18 is broken at the word
abbrev pub jump : ℕ → Bool → Check
jump at in_loop = check in_loop rule.Jump at

-- `_` stands in a modifier; else rule 19 is broken at it
abbrev pub placeholder : ℕ → Kind → Check
placeholder at (Function t) = fail rule.Placeholder at
placeholder at Modifier = pass
