-- Modifiers, events and errors by their parameters (Solidity's documentation, "Function Modifiers", "Events", "Errors").
use Rattle.std.specs.Prelude.{ℕ, List, [], ◌∷◌, ◌++◌, length, Option, Some, None, Bool, true, false, is_some}
use Rattle.sol_tree.specs.declared.file.Error.{Error}
use Rattle.sol_tree.specs.declared.file.Event.{Event}
use Rattle.sol_tree.specs.declared.file.EventParam.{EventParam}
use Rattle.sol_tree.specs.declared.file.Modifier as modifiers
use Rattle.sol_judged.specs.declared.tables.Meaning.TheVariants as means
use Rattle.sol_judged.specs.declared.types.ValueType.{ValueType}
use Rattle.sol_judged.specs.Settings.{Setting}
use Rattle.sol_unit.specs.declared.tables.Tables.{Tables}
use Rattle.sol_unit.specs.Reads.{Read, read_type, read_types, read_params}
use Rattle.sol_unit.specs.Added.{Added, added_if_read}

abbrev pub added_modifier : Bool → List ValueType → Tables → Added Tables
added_modifier has_body ps t = record { meaning = means.Modifier (length t.modifiers); tables = record t { modifiers = t.modifiers ++ ps ∷ []; has_body = t.has_body ++ has_body ∷ [] } }

unfoldable pub modifier : Setting → modifiers.Modifier → Tables → Added Tables
modifier w m t = added_if_read (read_params w m.params) (added_modifier (is_some m.body)) t

abbrev pub read_event_param : Setting → EventParam → Read ValueType
read_event_param w p = read_type w p.ty

unfoldable pub read_event_params : Setting → List EventParam → Read (List ValueType)
read_event_params w ps = read_types (read_event_param w) [] ps

abbrev pub added_event : List ValueType → Tables → Added Tables
added_event ps t = record { meaning = means.Event (length t.events); tables = record t { events = t.events ++ ps ∷ [] } }

unfoldable pub event : Setting → Event → Tables → Added Tables
event w e t = added_if_read (read_event_params w e.params) added_event t

abbrev pub added_error : List ValueType → Tables → Added Tables
added_error ps t = record { meaning = means.Error (length t.errors); tables = record t { errors = t.errors ++ ps ∷ [] } }

unfoldable pub error : Setting → Error → Tables → Added Tables
error w e t = added_if_read (read_params w e.params) added_error t
