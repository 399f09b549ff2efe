-- The modifiers that a function or a constructor uses (Solidity's documentation, "Function Modifiers"). Their arguments are judged
-- where they are used. Rules 1, 19 and 20.
use Rattle.std.specs.Prelude.{ℕ, List, [], Bool, false, Option, Some, None, map, slice_get, if◌then◌else◌}
use Rattle.sol_tree.specs.declared.expr.ExprTree.{ExprTree}
use Rattle.sol_tree.specs.declared.expr.Arguments.{Arguments}
use Rattle.sol_tree.specs.declared.file.Base.{Base}
use Rattle.sol_tree.specs.declared.file.FunSpecifier.{FunSpecifier}
use Rattle.sol_tree.specs.declared.file.FunSpecifier.TheVariants as mark
use Rattle.sol_tree.specs.declared.file.ConstructorSpecifier.{ConstructorSpecifier}
use Rattle.sol_tree.specs.declared.file.ConstructorSpecifier.TheVariants as own
use Rattle.sol_judged.specs.declared.rules.Rule.TheVariants as rule
use Rattle.sol_judged.specs.declared.tables.Meaning.{Meaning}
use Rattle.sol_judged.specs.declared.tables.Meaning.TheVariants as means
use Rattle.sol_judged.specs.Settings.{Setting}
use Rattle.sol_judged.specs.Judged.{Judged, sound, broken, broken_both, ◌>>=◌}
use Rattle.sol_judged.specs.Names.{meaning_of}
use Rattle.sol_judged.specs.Judgement.{placed}
use Rattle.sol_stated.specs.Checks.{Check, pass}
use Rattle.sol_stated.specs.Contexts.{Context}
use Rattle.sol_stated.specs.Raising.{Params, passed}

-- a use without parentheses has no arguments
abbrev pub arguments_of : Option Arguments → List ExprTree
arguments_of None = []
arguments_of (Some a) = a.values

abbrev pub has_body : Option Bool → Bool
has_body None = false
has_body (Some b) = b

-- a modifier in the table, with a body or none
abbrev pub modifier_in_table : ℕ → Bool → Params → Judged Params
modifier_in_table at b None = broken_both rule.Naming at rule.ModifierUse at None
modifier_in_table at b (Some ps) = if b then sound (Some ps) else broken rule.Placeholder at (Some ps)

-- the parameters of the modifier that a name means, which has a body, else rule 19 is broken at the name; where it means none,
-- rules 1 and 20 are
unfoldable pub modifier_params : Context → ℕ → Option Meaning → Judged Params
modifier_params c at (Some (means.Modifier m)) = modifier_in_table at (has_body (slice_get c.has_body m)) (slice_get c.declared.modifiers m)
modifier_params c at (Some (means.Faulty broken_rule place)) = broken broken_rule place None
modifier_params c at _ = broken_both rule.Naming at rule.ModifierUse at None

-- arguments that don't fit break rule 20 at the name
unfoldable pub used_as : Context → Setting → Base → Option Meaning → Check
used_as c w b m = modifier_params c b.name.at m >>= λ ps. passed rule.ModifierUse b.name.at ps (map (placed w) (arguments_of b.arguments))

abbrev pub modifier_use : Context → Setting → Base → Check
modifier_use c w b = used_as c w b (meaning_of w b.name.name)

-- a constructor's mark may name a contract or an interface too, whose arguments are judged with the bases
abbrev pub own_use_as : Context → Setting → Base → Option Meaning → Check
own_use_as c w b (Some (means.Contract u)) = pass
own_use_as c w b (Some (means.Interface u)) = pass
own_use_as c w b m = used_as c w b m

abbrev pub own_use : Context → Setting → Base → Check
own_use c w b = own_use_as c w b (meaning_of w b.name.name)

-- the mark of a function
abbrev pub function_mark : Context → Setting → FunSpecifier → Check
function_mark c w (mark.Base at b) = modifier_use c w b
function_mark c w _ = pass

-- the mark of a constructor
abbrev pub constructor_mark : Context → Setting → ConstructorSpecifier → Check
constructor_mark c w (own.Base at b) = own_use c w b
constructor_mark c w _ = pass
