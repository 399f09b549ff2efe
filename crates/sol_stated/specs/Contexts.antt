-- What is around a statement, as contracts see it.
use Rattle.std.specs.Prelude.{ℕ, List, [], Bool, true, false, Option}
use Rattle.std.specs.Option.{option_map}
use Rattle.sol_judged.specs.declared.rules.Rule.{Rule}
use Rattle.sol_judged.specs.declared.types.ValueType.{ValueType}
use Rattle.sol_judged.specs.declared.tables.Declared.{Declared}
use Rattle.sol_judged.specs.Settings.{Setting}
use Rattle.sol_stated.specs.declared.context.Around.{Around}
use Rattle.sol_stated.specs.declared.context.Body.{Body}
use Rattle.sol_stated.specs.declared.context.Body.TheVariants as body
use Rattle.sol_stated.specs.declared.scope.Scope.{Scope}

-- What a declared type is: a type of values, or one of the faults of what is written. Whoever names what is declared so tells
-- that fault again.
pub data Typed : Type 0 where
  OfType : (t : ValueType) → Typed
  Mistyped : (broken_rule : Rule) (at : ℕ) → Typed

-- What a body belongs to: a function with what it returns, if anything, or a constructor, which returns nothing; or a modifier.
pub data Kind : Type 0 where
  Function : (returned : Option Typed) → Kind
  Modifier : Kind

abbrev pub kind_of : Body → Kind
kind_of (body.Function t) = Function (option_map OfType t)
kind_of body.Modifier = Modifier

pub record Context : Type 0 where
  pub declared : Declared
  -- whether each modifier has a body
  pub has_body : List Bool
  pub unit : ℕ
  pub is_checked : Bool
  pub in_loop : Bool
  pub kind : Kind

abbrev pub context : Around → Context
context a = record { declared = a.declared.now; has_body = a.has_body.now; unit = a.unit; is_checked = a.is_checked; in_loop = a.in_loop; kind = kind_of a.body }

abbrev pub unchecked : Context → Context
unchecked c = record c { is_checked = false }

abbrev pub looping : Context → Context
looping c = record c { in_loop = true }

abbrev pub with_kind : Kind → Context → Context
with_kind k c = record c { kind = k }

-- where an expression stands, with the locals of a scope
abbrev pub setting_in : Context → Scope → Setting
setting_in c w = record { declared = c.declared; unit = c.unit; locals = w.visible; is_checked = c.is_checked }

-- the same without locals
abbrev pub bare : Context → Setting
bare c = record { declared = c.declared; unit = c.unit; locals = []; is_checked = c.is_checked }
