-- The marks of functions and variables (Solidity's documentation, "Function Types", "Visibility and Getters"). Marks are counted,
-- so one that is written twice is two. Rule 27, and rule 1 in `override`.
use Rattle.std.specs.Prelude.{ℕ, ◌+◌, ◌==◌, nat_lt, List, [], ◌∷◌, map, Option, Some, Bool, true, false, not, ◌&&◌, ◌||◌, if◌then◌else◌}
use Rattle.sol_tree.specs.declared.file.Fun.{Fun}
use Rattle.sol_tree.specs.declared.file.FunSpecifier.{FunSpecifier}
use Rattle.sol_tree.specs.declared.file.FunSpecifier.TheVariants as mark
use Rattle.sol_tree.specs.declared.file.ModifierSpecifier.{ModifierSpecifier}
use Rattle.sol_tree.specs.declared.file.ModifierSpecifier.TheVariants as modifier_mark
use Rattle.sol_tree.specs.declared.file.Override.{Override}
use Rattle.sol_tree.specs.declared.file.Var.{Var}
use Rattle.sol_tree.specs.declared.file.VarSpecifier.{VarSpecifier}
use Rattle.sol_tree.specs.declared.file.VarSpecifier.TheVariants as var_mark
use Rattle.sol_tree.specs.declared.types.Identifier.{Identifier}
use Rattle.sol_judged.specs.declared.rules.Rule.TheVariants as rule
use Rattle.sol_judged.specs.declared.tables.Meaning.{Meaning}
use Rattle.sol_judged.specs.declared.tables.Meaning.TheVariants as means
use Rattle.sol_judged.specs.Settings.{Setting}
use Rattle.sol_judged.specs.Names.{meaning_of}
use Rattle.sol_stated.specs.Checks.{Check, pass, fail, check, all_checks}

-- how many of a list pass a test, and whether one does
abbrev pub how_many : {A : Type 0} → (A → Bool) → List A → ℕ
how_many is [] = 0
how_many is (x ∷ xs) = if is x then 1 + how_many is xs else how_many is xs

abbrev pub is_there : {A : Type 0} → (A → Bool) → List A → Bool
is_there is [] = false
is_there is (x ∷ xs) = is x || is_there is xs

-- ---- functions

abbrev pub is_visibility : FunSpecifier → Bool
is_visibility (mark.Public at) = true
is_visibility (mark.External at) = true
is_visibility (mark.Internal at) = true
is_visibility (mark.Private at) = true
is_visibility _ = false

abbrev pub is_external : FunSpecifier → Bool
is_external (mark.External at) = true
is_external _ = false

abbrev pub is_view : FunSpecifier → Bool
is_view (mark.View at) = true
is_view _ = false

abbrev pub is_pure : FunSpecifier → Bool
is_pure (mark.Pure at) = true
is_pure _ = false

-- exactly one visibility, and not both view and pure; else rule 27 is broken at the name
unfoldable pub function_specifiers : Fun → Check
function_specifiers f = check ((how_many is_visibility f.specifiers == 1) && not (is_there is_view f.specifiers && is_there is_pure f.specifiers)) rule.Specifiers f.name.at

-- ---- variables

abbrev pub is_var_visibility : VarSpecifier → Bool
is_var_visibility (var_mark.Public at) = true
is_var_visibility (var_mark.Internal at) = true
is_var_visibility (var_mark.Private at) = true
is_var_visibility _ = false

abbrev pub is_constant : VarSpecifier → Bool
is_constant (var_mark.Constant at) = true
is_constant _ = false

abbrev pub is_immutable : VarSpecifier → Bool
is_immutable (var_mark.Immutable at) = true
is_immutable _ = false

-- at most one visibility, and not both constant and immutable; else rule 27 is broken at the name
unfoldable pub variable_specifiers : Var → Check
variable_specifiers v = check (nat_lt (how_many is_var_visibility v.specifiers) 2 && not (is_there is_constant v.specifiers && is_there is_immutable v.specifiers)) rule.Specifiers v.name.at

-- ---- `override`

-- a name there means a contract or an interface; else rule 1 is broken at it
abbrev pub overridden : ℕ → Option Meaning → Check
overridden at (Some (means.Contract u)) = pass
overridden at (Some (means.Interface u)) = pass
overridden at (Some (means.Faulty broken_rule place)) = fail broken_rule place
overridden at _ = fail rule.Naming at

abbrev pub overridden_name : Setting → Identifier → Check
overridden_name w n = overridden n.at (meaning_of w n.name)

abbrev pub override_names : Setting → Override → Check
override_names w o = all_checks (map (overridden_name w) o.names)

abbrev pub function_override : Setting → FunSpecifier → Check
function_override w (mark.Override at o) = override_names w o
function_override w _ = pass

abbrev pub variable_override : Setting → VarSpecifier → Check
variable_override w (var_mark.Override at o) = override_names w o
variable_override w _ = pass

abbrev pub modifier_override : Setting → ModifierSpecifier → Check
modifier_override w (modifier_mark.Override at o) = override_names w o
modifier_override w _ = pass
