-- What a file declares: its units by their names, and its events and errors (Solidity's documentation, "Layout of a Solidity Source File").
use Rattle.std.specs.Prelude.{ℕ, ◌+◌, List, [], ◌∷◌, ◌++◌, false}
use Rattle.sol_tree.specs.declared.file.Unit as units
use Rattle.sol_tree.specs.declared.file.Unit.TheVariants as unit
use Rattle.sol_judged.specs.declared.tables.Declared.{Declared}
use Rattle.sol_judged.specs.declared.tables.Meaning.{Meaning}
use Rattle.sol_judged.specs.declared.tables.Meaning.TheVariants as means
use Rattle.sol_judged.specs.declared.tables.OuterFunction.{OuterFunction}
use Rattle.sol_judged.specs.Listed.{Listed}
use Rattle.sol_judged.specs.Settings.{Setting}
use Rattle.sol_names.specs.Units.{unit_name}
use Rattle.sol_unit.specs.declared.tables.Tables.{Tables}
use Rattle.sol_unit.specs.Added.{Added, no_type}
use Rattle.sol_unit.specs.Parameters.{event, error}
use Rattle.sol_unit.specs.Lineages.{Making, named, read_in}
use Rattle.sol_unit.specs.Outers.{outer_units}

-- ---- units

-- one more entry for the unit at a place
unfoldable pub with_unit : ℕ → units.Unit → Meaning → List Listed → List Listed
with_unit u x what ls = ls ++ (record { name = (unit_name x).name; unit = u; is_private = false; meaning = what }) ∷ []

-- what a unit means before declared types are read
abbrev pub unit_alone : ℕ → units.Unit → Meaning
unit_alone u (unit.Contract at a n bs ms) = means.Contract u
unit_alone u (unit.Interface at n bs ms) = means.Interface u
unit_alone u (unit.Event at e) = no_type
unit_alone u (unit.Error at e) = no_type

-- the units of a file by their names alone, of which the first has this place
abbrev pub unit_names : ℕ → List Listed → List units.Unit → List Listed
unit_names u ls [] = ls
unit_names u ls (x ∷ xs) = unit_names (u + 1) (with_unit u x (unit_alone u x) ls) xs

abbrev pub file_names : List units.Unit → Declared
file_names us = named (unit_names 0 [] us) []

-- ---- events and errors of the file

abbrev pub no_tables : Tables
no_tables = record { scalars = 0; arrays = 0; bodies = 0; constants = []; maps = []; functions = []; modifiers = []; has_body = []; events = []; errors = [] }

unfoldable pub added_unit : Setting → ℕ → units.Unit → Tables → Added Tables
added_unit w u (unit.Contract at a n bs ms) t = record { meaning = means.Contract u; tables = t }
added_unit w u (unit.Interface at n bs ms) t = record { meaning = means.Interface u; tables = t }
added_unit w u (unit.Event at e) t = event w e t
added_unit w u (unit.Error at e) t = error w e t

abbrev pub unit_listed : ℕ → units.Unit → List Listed → Added Tables → Making Tables
unit_listed u x ls a = record { entries = with_unit u x a.meaning ls; tables = a.tables }

unfoldable pub file_unit : Declared → ℕ → Making Tables → units.Unit → Making Tables
file_unit d u t x = unit_listed u x t.entries (added_unit (read_in d u) u x t.tables)

abbrev pub file_units : Declared → ℕ → Making Tables → List units.Unit → Making Tables
file_units d u t [] = t
file_units d u t (x ∷ xs) = file_units d (u + 1) (file_unit d u t x) xs

abbrev pub made_units : List units.Unit → Making Tables
made_units us = file_units (file_names us) 0 (record { entries = []; tables = no_tables }) us

abbrev pub made_outers : List units.Unit → List (List ℕ) → Making (List OuterFunction)
made_outers us orders = outer_units (made_units us).entries us orders 0 (record { entries = []; tables = [] }) us
