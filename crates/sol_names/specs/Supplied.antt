-- The names that the units at some places give to those behind them in a linearization.
use Rattle.std.specs.Prelude.{◌≡◌, ℕ, List, is_some}
use Rattle.std.specs.List.{list_any}
use Rattle.indexmap.specs.IndexMap.{IndexMap}
use denote.Ref.{Bor}
use Rattle.sol_tree.specs.declared.file.Unit as units
use Rattle.sol_names.specs.Names.{number_of}
use Rattle.sol_names.specs.Units.{implemented, exposed}
use Rattle.sol_names.specs.Orders.{given_at}

-- one map has just the names of their functions with a body, another those of their public variables
pub record AreSupplied {S : Type 0} (us : List units.Unit) (before : List ℕ) (functions variables : IndexMap (Bor (List ℕ)) ℕ S) : Type 0 where
  pub functions_are : (q : List ℕ) → is_some (number_of functions q) ≡ list_any (given_at us implemented q) before
  pub variables_are : (q : List ℕ) → is_some (number_of variables q) ≡ list_any (given_at us exposed q) before
