-- Where an expression stands, as contracts see it: what is declared there, the place of the unit, the locals in scope, and
-- whether arithmetic is checked.
use Rattle.std.specs.Prelude.{ℕ, List, Bool}
use Rattle.sol_judged.specs.declared.tables.Binding.{Binding}
use Rattle.sol_judged.specs.declared.tables.Declared.{Declared}
use Rattle.sol_judged.specs.declared.tables.Surroundings.{Surroundings}

pub record Setting : Type 0 where
  pub declared : Declared
  pub unit : ℕ
  pub locals : List Binding
  pub is_checked : Bool

abbrev pub setting : Surroundings → Setting
setting w = record { declared = w.declared.now; unit = w.unit; locals = w.locals.now; is_checked = w.is_checked }
