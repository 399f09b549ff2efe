-- What is declared, as far as it can be told from its declared types. Where one of these breaks a rule nothing can be told, and each
-- use of what is so declared tells that rule and its place again.
use Rattle.std.specs.Prelude.{◌≡◌, ℕ, List, [], ◌∷◌, ◌++◌, Option, Some, None, Result, Ok, Err}
use Rattle.sol_tree.specs.declared.file.Param.{Param}
use Rattle.sol_tree.specs.declared.types.Type as types
use Rattle.sol_judged.specs.declared.rules.Rule.{Rule}
use Rattle.sol_judged.specs.declared.fault.TypeFault.{TypeFault}
use Rattle.sol_judged.specs.declared.fault.TypeFault.TheVariants as fault
use Rattle.sol_judged.specs.declared.types.ValueType.{ValueType}
use Rattle.sol_judged.specs.Settings.{Setting}
use Rattle.sol_stated.specs.Contexts.{Typed, OfType, Mistyped}
use Rattle.sol_stated.specs.ValueTypes.{value_type}

pub data Read (A : Type 0) : Type 0 where
  Readable : (a : A) → Read A
  Unreadable : (broken_rule : Rule) (at : ℕ) → Read A

abbrev pub then_read : {A B : Type 0} → Read A → (A → Read B) → Read B
then_read (Readable a) k = k a
then_read (Unreadable broken_rule at) k = Unreadable broken_rule at

-- an error is that rule and place, or want of memory
abbrev pub Tells : {A : Type 0} → Read A → TypeFault → Type 0
Tells r (fault.Broken broken_rule at) = r ≡ Unreadable broken_rule at
Tells r fault.NoMemory = Unit {0}

-- Ok with what is read; or the rule and place that are broken; or no memory
abbrev pub Reads : {A : Type 0} → Read A → Result A TypeFault → Type 0
Reads r (Ok a) = r ≡ Readable a
Reads r (Err e) = Tells r e

-- ---- types of values

abbrev pub of_typed : Typed → Read ValueType
of_typed (OfType t) = Readable t
of_typed (Mistyped broken_rule at) = Unreadable broken_rule at

unfoldable pub read_type : Setting → types.Type → Read ValueType
read_type w t = of_typed (value_type w t).found

-- the types of some parameters, in order, after others
abbrev pub read_types : {X : Type 0} → (X → Read ValueType) → List ValueType → List X → Read (List ValueType)
read_types read ts [] = Readable ts
read_types read ts (x ∷ xs) = then_read (read x) (λ t. read_types read (ts ++ t ∷ []) xs)

abbrev pub read_param : Setting → Param → Read ValueType
read_param w p = read_type w p.ty

unfoldable pub read_params : Setting → List Param → Read (List ValueType)
read_params w ps = read_types (read_param w) [] ps

-- what is returned, if anything
unfoldable pub read_returned : Setting → Option Param → Read (Option ValueType)
read_returned w None = Readable None
read_returned w (Some p) = then_read (read_type w p.ty) (λ t. Readable (Some t))
