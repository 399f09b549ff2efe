-- Which contract a text holds, and what a report says of the text.
use Rattle.std.specs.Prelude.{ℕ, List, Option, Ok}
use Rattle.sol_names.specs.declared.Lineage.{Lineage}
use Rattle.sol_names.specs.Orders.{Orders}
use Rattle.sol_first.specs.declared.Contract.{Contract}
use Rattle.sol_tree.specs.declared.file.File.{File}
use Rattle.sol_reader.specs.Language.{IsFirst}
use Rattle.sol_report.specs.declared.Report.{Report}
use Rattle.sol_check.specs.Reports.{IsReportOf}
use Rattle.sol_driver.specs.Refusals.{HasTree}

-- the text's tree has a contract to check, the named one or else the last, and a linearization of it; and the tree is that of
-- this contract of the first language
pub record HasContract (name : Option (List ℕ)) (text : List ℕ) (c : Contract) : Type 0 where
  pub file : File
  pub source : HasTree text file
  pub lineage : Lineage
  pub ordered : Orders file.units name (Ok lineage)
  pub first : IsFirst text file c

-- the report is right of the text's contract
pub record Stands (name : Option (List ℕ)) (text : List ℕ) (r : Report) : Type 0 where
  pub contract : Contract
  pub has : HasContract name text contract
  pub report : IsReportOf contract r
