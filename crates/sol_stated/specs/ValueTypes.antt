-- Types of values: elementary ones and interfaces. Where another type is declared, of a mapping or an array, rule 2 is broken at
-- its first token, and names in a type break rules 1 and 2 by themselves.
use Rattle.std.specs.Prelude.{ℕ, List, ◌∷◌, Option, Some}
use Rattle.sol_tree.specs.declared.types.Type as types
use Rattle.sol_tree.specs.declared.types.Type.TheOpen.{Type-F}
use Rattle.sol_tree.specs.declared.types.Type.TheViews.{out-Type}
use Rattle.sol_judged.specs.declared.rules.Rule.{Rule}
use Rattle.sol_judged.specs.declared.rules.Rule.TheVariants as rule
use Rattle.sol_judged.specs.declared.types.ValueType.TheVariants as type
use Rattle.sol_judged.specs.declared.tables.Meaning.{Meaning}
use Rattle.sol_judged.specs.declared.tables.Meaning.TheVariants as means
use Rattle.sol_judged.specs.Settings.{Setting}
use Rattle.sol_judged.specs.Judged.{Judged, sound, broken, broken_both}
use Rattle.sol_judged.specs.Names.{meaning_of}
use Rattle.sol_judged.specs.TypeMembers.{type_faults}
use Rattle.sol_stated.specs.Contexts.{Typed, OfType, Mistyped}

-- a name as a type: an interface. A contract's breaks rule 2, as every other name it breaks rule 1.
abbrev pub named_type : ℕ → Option Meaning → Judged Typed
named_type at (Some (means.Interface u)) = sound (OfType (type.Interface u))
named_type at (Some (means.Contract u)) = broken_both rule.Naming at rule.DeclaredType at (Mistyped rule.DeclaredType at)
named_type at (Some (means.Faulty broken_rule place)) = broken broken_rule place (Mistyped broken_rule place)
named_type at _ = broken rule.Naming at (Mistyped rule.Naming at)

abbrev pub misplaced_type : ℕ → List (Rule × ℕ) → Judged Typed
misplaced_type at names = record { found = Mistyped rule.DeclaredType at; faults = (rule.DeclaredType, at) ∷ names }

-- by its outermost form alone, and the faults of the names in it
abbrev pub value_layer : Setting → List (Rule × ℕ) → Type-F types.Type → Judged Typed
value_layer w names (Type-F.Elementary at t) = sound (OfType (type.Elementary t))
value_layer w names (Type-F.Named at name) = named_type at (meaning_of w name)
value_layer w names (Type-F.Array at element) = misplaced_type at names
value_layer w names (Type-F.Mapping at key key_name value value_name) = misplaced_type at names

unfoldable pub value_type : Setting → types.Type → Judged Typed
value_type w t = value_layer w (type_faults w t) (out-Type t)
