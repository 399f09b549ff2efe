-- What the members of a linearization mean (Solidity's documentation, "Inheritance"). All of them are known by their names before a
-- declared type is read, and a member hides a unit of the file that has its name. The most base-like unit comes first, and the
-- members of a unit stand in the order of the text, so that the last member of a name is the most derived one.
use Rattle.std.specs.Prelude.{ℕ, List, [], ◌∷◌, map, reverse, true}
use Rattle.sol_tree.specs.declared.file.Member.{Member}
use Rattle.sol_tree.specs.declared.file.Member.TheVariants as member
use Rattle.sol_tree.specs.declared.file.Unit as units
use Rattle.sol_judged.specs.declared.tables.Declared.{Declared}
use Rattle.sol_judged.specs.declared.tables.Member as entries
use Rattle.sol_judged.specs.Listed.{Listed, listed}
use Rattle.sol_judged.specs.Settings.{Setting}
use Rattle.sol_unit.specs.declared.tables.Tables.{Tables}
use Rattle.sol_unit.specs.Added.{Added, no_type}
use Rattle.sol_unit.specs.Listing.{with_member, members_at}
use Rattle.sol_unit.specs.Variables.{variable}
use Rattle.sol_unit.specs.Functions.{function, constructor}
use Rattle.sol_unit.specs.Parameters.{modifier, event, error}

-- ---- names

-- the members of a unit by their names alone, after others
abbrev pub names_of_unit : ℕ → List Listed → List Member → List Listed
names_of_unit u ls [] = ls
names_of_unit u ls (m ∷ ms) = names_of_unit u (with_member u m no_type ls) ms

abbrev pub names_of_units : List units.Unit → List Listed → List ℕ → List Listed
names_of_units us ls [] = ls
names_of_units us ls (u ∷ more) = names_of_units us (names_of_unit u ls (members_at us u)) more

unfoldable pub member_names : List units.Unit → List ℕ → List Listed
member_names us order = names_of_units us [] (reverse order)

-- units and members by their names, and no more
abbrev pub named : List Listed → List Listed → Declared
named units members = record { lineage = []; orders = []; units = units; members = members; interface_members = []; constants = []; maps = []; functions = []; outer_functions = []; modifiers = []; events = []; errors = [] }

-- where the declared types of a unit are read
abbrev pub read_in : Declared → ℕ → Setting
read_in d u = record { declared = d; unit = u; locals = []; is_checked = true }

-- ---- meanings

-- members with what they mean, and the tables that their numbers are places in
pub record Making (T : Type 0) : Type 0 where
  pub entries : List Listed
  pub tables : T

abbrev pub making : {T : Type 0} → List entries.Member → T → Making T
making es t = record { entries = map listed es; tables = t }

-- what a member means, as it is read among names
unfoldable pub added_member : Setting → Member → Tables → Added Tables
added_member w (member.Var at v) t = variable w v t
added_member w (member.Fun at f) t = function w f t
added_member w (member.Constructor at c) t = constructor t
added_member w (member.Modifier at m) t = modifier w m t
added_member w (member.Event at e) t = event w e t
added_member w (member.Error at e) t = error w e t

abbrev pub listed_as : {T : Type 0} → ℕ → Member → List Listed → Added T → Making T
listed_as u m ls a = record { entries = with_member u m a.meaning ls; tables = a.tables }

unfoldable pub declared_member : Declared → ℕ → Making Tables → Member → Making Tables
declared_member d u t m = listed_as u m t.entries (added_member (read_in d u) m t.tables)

abbrev pub declared_unit : Declared → ℕ → Making Tables → List Member → Making Tables
declared_unit d u t [] = t
declared_unit d u t (m ∷ ms) = declared_unit d u (declared_member d u t m) ms

abbrev pub declared_units : Declared → List units.Unit → Making Tables → List ℕ → Making Tables
declared_units d us t [] = t
declared_units d us t (u ∷ more) = declared_units d us (declared_unit d u t (members_at us u)) more

-- the members of a linearization, after tables that are filled so far
unfoldable pub declared_lineage : Declared → List units.Unit → List ℕ → Tables → Making Tables
declared_lineage d us order t = declared_units d us (record { entries = []; tables = t }) (reverse order)
