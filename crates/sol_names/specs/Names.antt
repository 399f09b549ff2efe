-- Names in the code, and maps from names to numbers.
use Rattle.std.specs.Prelude.{ℕ, List, Option}
use Rattle.std.specs.Str.{bytes_eq}
use Rattle.indexmap.specs.IndexMap.{IndexMap, get_by}
use denote.Ref.{Bor}
use Rattle.sol_tree.specs.declared.types.Identifier.{Identifier}
use Rattle.sol_names.specs.declared.names.Named.{Named}

-- a name as it stands in a tree
abbrev pub identifier_of : Named → Identifier
identifier_of n = record { at = n.at; name = n.text.now }

-- what a map has for a name
abbrev pub number_of : {S : Type 0} → IndexMap (Bor (List ℕ)) ℕ S → List ℕ → Option ℕ
number_of m q = get_by (λ k. bytes_eq q k.now) m
