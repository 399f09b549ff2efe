-- The functions of the interfaces of a file, in the order of the text, which an external call may call (Solidity's documentation,
-- "Interfaces"). Each has the types that it has in the linearization of its interface.
use Rattle.std.specs.Prelude.{ℕ, ◌+◌, List, [], ◌∷◌, ◌++◌, length, slice_get, unwrap_or}
use Rattle.sol_tree.specs.declared.file.Fun.{Fun}
use Rattle.sol_tree.specs.declared.file.Member.{Member}
use Rattle.sol_tree.specs.declared.file.Member.TheVariants as member
use Rattle.sol_tree.specs.declared.file.Unit as units
use Rattle.sol_tree.specs.declared.file.Unit.TheVariants as unit
use Rattle.sol_judged.specs.declared.tables.Meaning.TheVariants as means
use Rattle.sol_judged.specs.declared.tables.OuterFunction.{OuterFunction}
use Rattle.sol_judged.specs.Listed.{Listed}
use Rattle.sol_judged.specs.Settings.{Setting}
use Rattle.sol_unit.specs.Added.{Added, added_if_read}
use Rattle.sol_unit.specs.Functions.{read_outer}
use Rattle.sol_unit.specs.Lineages.{Making, member_names, named, read_in, listed_as}

abbrev pub added_outer : OuterFunction → List OuterFunction → Added (List OuterFunction)
added_outer f fs = record { meaning = means.Outer (length fs); tables = fs ++ f ∷ [] }

unfoldable pub outer : Setting → Fun → List OuterFunction → Added (List OuterFunction)
outer w f fs = added_if_read (read_outer w f) added_outer fs

unfoldable pub outer_member : Setting → ℕ → Making (List OuterFunction) → Member → Making (List OuterFunction)
outer_member w u t (member.Fun at f) = listed_as u (member.Fun at f) t.entries (outer w f t.tables)
outer_member w u t _ = t

abbrev pub outer_members : Setting → ℕ → Making (List OuterFunction) → List Member → Making (List OuterFunction)
outer_members w u t [] = t
outer_members w u t (m ∷ ms) = outer_members w u (outer_member w u t m) ms

-- the linearization of the unit at a place
abbrev pub order_at : List (List ℕ) → ℕ → List ℕ
order_at orders u = unwrap_or (slice_get orders u) []

-- among the names of units
unfoldable pub outer_unit : List Listed → List units.Unit → List (List ℕ) → ℕ → Making (List OuterFunction) → units.Unit → Making (List OuterFunction)
outer_unit names us orders u t (unit.Interface at n bs ms) = outer_members (read_in (named names (member_names us (order_at orders u))) u) u t ms
outer_unit names us orders u t _ = t

-- those of some units, of which the first has this place
abbrev pub outer_units : List Listed → List units.Unit → List (List ℕ) → ℕ → Making (List OuterFunction) → List units.Unit → Making (List OuterFunction)
outer_units names us orders u t [] = t
outer_units names us orders u t (x ∷ xs) = outer_units names us orders (u + 1) (outer_unit names us orders u t x) xs
