-- Mappings as values: the keys with what stands at them, in the order of the keys. Where there is one key, the second is 0. A
-- value 0 is not kept, and a key that is not there has it.
use Rattle.std.specs.Prelude.{List, pos, unwrap_or, if◌then◌else◌}
use lib.IntN.{ℤ}
use Rattle.std.specs.declared.cmp.Ordering.{Ordering}
use Rattle.std.specs.Ordering.{int_eq, int_cmp, ordering_then}
use Rattle.std.specs.Map.{lookup, remove_entry}
use Rattle.std.specs.BTreeMap.{is_at, insert_entry}

abbrev pub Mapping : Type 0
Mapping = List ((ℤ × ℤ) × ℤ)

-- the first keys decide, and else the second
abbrev pub key_order : ℤ × ℤ → ℤ × ℤ → Ordering
key_order a b = ordering_then (int_cmp a.0 b.0) (int_cmp a.1 b.1)

-- what stands at two keys
abbrev pub map_at : Mapping → ℤ → ℤ → ℤ
map_at m a b = unwrap_or (lookup (is_at (key_order (a, b))) m) (pos 0)

-- the mapping in which another value stands at two keys
abbrev pub map_set : Mapping → ℤ → ℤ → ℤ → Mapping
map_set m a b z = if int_eq z (pos 0) then remove_entry (is_at (key_order (a, b))) m else insert_entry key_order m (a, b) z
