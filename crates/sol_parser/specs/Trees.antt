-- What parsing says of a list of tokens.
use Rattle.std.specs.Prelude.{◌≤◌, List, Result, Ok, Err}
use Rattle.chc_nums.specs.declared.limits.TheConstants.{MAX_LEVELS}
use Rattle.sol_tree.specs.declared.token.Token.{Token}
use Rattle.sol_tree.specs.declared.file.File.{File}
use Rattle.sol_parse_expr.specs.declared.fault.ParseFault.{ParseFault}
use Rattle.sol_parse_expr.specs.declared.fault.ParseFault.TheVariants as fault
use Rattle.sol_parse_expr.specs.Place.{IsPlace}
use Rattle.sol_parser.specs.Grammar.{SpellsFile}
use Rattle.sol_parser.specs.Heights.{file_height}

-- the file spells the tokens, and has at most MAX_LEVELS levels
pub record IsTree (f : File) (ts : List Token) : Type 0 where
  pub spells : SpellsFile f ts
  pub low : file_height f ≤ MAX_LEVELS

-- what parsing gives: the tree, or a place, and then there is no tree
abbrev pub Parses : Result File ParseFault → List Token → Type 0
Parses (Ok f) ts = IsTree f ts
Parses (Err fault.NoMemory) ts = Unit {0}
Parses (Err (fault.NoTree at)) ts = ((f : File) → IsTree f ts → ⊥) × IsPlace at ts
