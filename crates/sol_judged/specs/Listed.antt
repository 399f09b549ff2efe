-- A member as contracts see it: its name by its bytes.
use Rattle.std.specs.Prelude.{ℕ, List, Bool}
use Rattle.sol_judged.specs.declared.tables.Member.{Member}
use Rattle.sol_judged.specs.declared.tables.Meaning.{Meaning}

pub record Listed : Type 0 where
  pub name : List ℕ
  pub unit : ℕ
  pub is_private : Bool
  pub meaning : Meaning

abbrev pub listed : Member → Listed
listed m = record { name = m.name.now; unit = m.unit; is_private = m.is_private; meaning = m.meaning }
