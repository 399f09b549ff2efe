-- What names mean where they stand (Solidity's documentation, "Scoping and Declarations", "Multiple Inheritance and
-- Linearization").
use Rattle.std.specs.Prelude.{ℕ, List, [], ◌∷◌, Option, Some, None, Bool, false, not, ◌&&◌, ◌||◌, ◌==◌, bytes_eq, if◌then◌else◌, slice_get, unwrap_or}
use Rattle.std.specs.Option.{option_or}
use Rattle.sol_judged.specs.declared.tables.Binding.{Binding}
use Rattle.sol_judged.specs.declared.tables.Meaning.{Meaning}
use Rattle.sol_judged.specs.Listed.{Listed}
use Rattle.sol_judged.specs.declared.tables.Declared.{Declared}
use Rattle.sol_judged.specs.Settings.{Setting}
use Rattle.sol_judged.specs.declared.linked.Sought.{Sought}
use Rattle.sol_judged.specs.declared.linked.Sought.TheVariants as sought

abbrev pub has : List ℕ → ℕ → Bool
has [] u = false
has (x ∷ xs) u = (x == u) || has xs u

-- what stands behind a number in a list
abbrev pub behind : List ℕ → ℕ → List ℕ
behind [] u = []
behind (x ∷ xs) u = if x == u then xs else behind xs u

-- a member is one of those that are looked for, in some units
abbrev pub is_sought : Sought → List ℕ → Listed → Bool
is_sought (sought.Own u) us m = (m.unit == u) && m.is_private
is_sought sought.Shared us m = not m.is_private
is_sought sought.Among us m = has us m.unit && not m.is_private
is_sought (sought.SeenBy u) us m = has us m.unit && (not m.is_private || (m.unit == u))
is_sought (sought.Of u) us m = m.unit == u

-- the meaning of the last of those members that has a name
abbrev pub last_member : Sought → List ℕ → List Listed → List ℕ → Option Meaning
last_member s us [] q = None
last_member s us (m ∷ ms) q = option_or (last_member s us ms q) (if bytes_eq m.name q && is_sought s us m then Some m.meaning else None)

abbrev pub last_binding : List Binding → List ℕ → Option Meaning
last_binding [] q = None
last_binding (b ∷ bs) q = option_or (last_binding bs q) (if bytes_eq b.name q then Some b.meaning else None)

-- the linearization of the unit at a place
abbrev pub order_of : Declared → ℕ → List ℕ
order_of d u = unwrap_or (slice_get d.orders u) []

-- a member's name in a unit means the unit's private member, else the most derived member that isn't private
unfoldable pub member_named : Declared → ℕ → List ℕ → Option Meaning
member_named d u q = option_or (last_member (sought.Own u) [] d.members q) (last_member sought.Shared [] d.members q)

-- a name means a local, else a member, else a unit of the file
unfoldable pub meaning_of : Setting → List ℕ → Option Meaning
meaning_of w q = option_or (last_binding w.locals q) (option_or (member_named w.declared w.unit q) (last_member sought.Shared [] w.declared.units q))

-- `super.f`: the next member of the linearization behind a unit that isn't private
unfoldable pub super_named : Declared → ℕ → List ℕ → Option Meaning
super_named d u q = last_member sought.Among (behind d.lineage u) d.members q

-- `B.f`: the most derived member of B's own linearization that isn't private, or private in B itself
unfoldable pub seen_by : Declared → ℕ → List ℕ → Option Meaning
seen_by d u q = last_member (sought.SeenBy u) (order_of d u) d.members q

-- the function of the first of some interfaces that has one of a name
abbrev pub first_outer : List ℕ → List Listed → List ℕ → Option Meaning
first_outer [] ms q = None
first_outer (u ∷ us) ms q = option_or (last_member (sought.Of u) [] ms q) (first_outer us ms q)

-- `i.f` of a value of an interface type: the most derived function of the interface's linearization
unfoldable pub outer_named : Declared → ℕ → List ℕ → Option Meaning
outer_named d i q = first_outer (order_of d i) d.interface_members q
