-- The tables in which the members of a linearization are judged.
use Rattle.std.specs.Prelude.{ℕ, List, take}
use Rattle.sol_tree.specs.declared.file.Unit as units
use Rattle.sol_judged.specs.declared.tables.OuterFunction.{OuterFunction}
use Rattle.sol_unit.specs.declared.scenes.Scene.{Scene}
use Rattle.sol_unit.specs.declared.scenes.Shared.{Shared}
use Rattle.sol_unit.specs.declared.tables.Tables.{Tables}
use Rattle.sol_unit.specs.Lineages.{Making, member_names, named, declared_lineage}
use Rattle.sol_unit.specs.Files.{no_tables, made_units, made_outers}

-- what all linearizations of a file share, whose units have these linearizations
abbrev pub shared_by : List (List ℕ) → Making Tables → Making (List OuterFunction) → Shared
shared_by orders units outers = record { orders = orders; units = units.entries; interface_members = outers.entries; outer_functions = outers.tables; events = units.tables.events; errors = units.tables.errors }

abbrev pub shared_in : List units.Unit → List (List ℕ) → Shared
shared_in us orders = shared_by orders (made_units us) (made_outers us orders)

-- events and errors of the file stand before those of members
abbrev pub file_tables : Shared → Tables
file_tables s = record no_tables { events = s.events; errors = s.errors }

abbrev pub scene_of : Shared → List ℕ → Making Tables → Scene
scene_of s order m = record {
  declared = record {
    lineage = order;
    orders = s.orders;
    units = s.units;
    members = m.entries;
    interface_members = s.interface_members;
    constants = m.tables.constants;
    maps = m.tables.maps;
    functions = m.tables.functions;
    outer_functions = s.outer_functions;
    modifiers = m.tables.modifiers;
    events = m.tables.events;
    errors = m.tables.errors;
  };
  has_body = m.tables.has_body;
}

-- the tables of a linearization, with what is shared
abbrev pub scene_with : List units.Unit → Shared → List ℕ → Scene
scene_with us s order = scene_of s order (declared_lineage (named s.units (member_names us order)) us order (file_tables s))

-- what is shared, from the tables of a linearization, with so many events and errors of the file
abbrev pub shared_of : Scene → ℕ → ℕ → Shared
shared_of s events errors = record { orders = s.declared.orders; units = s.declared.units; interface_members = s.declared.interface_members; outer_functions = s.declared.outer_functions; events = take events s.declared.events; errors = take errors s.declared.errors }
