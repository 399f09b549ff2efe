-- Why a text is refused, and the line that says so.
use Rattle.std.specs.Prelude.{◌≡◌, ◌≢◌, ℕ, List, [], ◌++◌, take, drop, codes, decimal, Option, Ok, Err}
use Rattle.sol_tree.specs.declared.token.Token.{Token}
use Rattle.sol_tree.specs.declared.file.File.{File}
use Rattle.sol_lexer.specs.declared.lexer.LexFault.{LexFault}
use Rattle.sol_lexer.specs.declared.lexer.LexFault.TheVariants as fault
use Rattle.sol_lexer.specs.Tokens.{Tokenizes, LexicalFault}
use Rattle.sol_parse_expr.specs.Place.{IsPlace}
use Rattle.sol_parser.specs.Trees.{IsTree}
use Rattle.sol_names.specs.declared.NameFault.{NameFault}
use Rattle.sol_names.specs.declared.NameFault.TheVariants as naming
use Rattle.sol_names.specs.declared.Lineage.{Lineage}
use Rattle.sol_names.specs.Orders.{Orders}
use Rattle.sol_first.specs.declared.Contract.{Contract}
use Rattle.sol_reader.specs.Language.{IsFirst}
use Rattle.sol_reader.specs.Places.{line_of, column_of}
use Rattle.sol_driver.specs.declared.refusal.Refusal.{Refusal}
use Rattle.sol_driver.specs.declared.refusal.Refusal.TheVariants as refusal

-- ---- causes

-- the file is the tree of the text's tokens
pub record HasTree (text : List ℕ) (file : File) : Type 0 where
  pub tokens : List Token
  pub tokenizes : Tokenizes text tokens
  pub tree : IsTree file tokens

-- the text has tokens, but they have no tree; the place is that of one of them
pub record HasNoTree (text : List ℕ) (at : ℕ) : Type 0 where
  pub tokens : List Token
  pub tokenizes : Tokenizes text tokens
  pub none : (file : File) → IsTree file tokens → ⊥
  pub place : IsPlace at tokens

-- the text has a tree, of which no contract is to be checked, or one without a linearization, for this cause; the contract
-- is the named one, or else the last
pub record HasNoLineage (name : Option (List ℕ)) (text : List ℕ) (fault : NameFault) : Type 0 where
  pub file : File
  pub source : HasTree text file
  pub cause : Orders file.units name (Err fault)
  pub told : fault ≢ naming.NoMemory

-- the text has a tree, and a contract to check; but the tree is that of no contract of the first language
pub record IsNotBuilt (name : Option (List ℕ)) (text : List ℕ) : Type 0 where
  pub file : File
  pub source : HasTree text file
  pub lineage : Lineage
  pub ordered : Orders file.units name (Ok lineage)
  pub foreign : (c : Contract) → IsFirst text file c → ⊥

abbrev pub IsRefused : Option (List ℕ) → List ℕ → Refusal → Type 0
IsRefused name text (refusal.Lexical f) = LexicalFault text f
IsRefused name text (refusal.NoTree at) = HasNoTree text at
IsRefused name text (refusal.Naming f) = HasNoLineage name text f
IsRefused name text refusal.NotBuilt = IsNotBuilt name text

-- ---- lines

abbrev pub place_of_fault : LexFault → ℕ
place_of_fault (fault.BadByte at) = at
place_of_fault (fault.OpenComment at) = at
place_of_fault (fault.OpenText at) = at
place_of_fault (fault.WideNumber at) = at
place_of_fault (fault.Refused at len) = at
place_of_fault fault.NoMemory = 0

-- a refused word or punctuator is told as it is written
abbrev pub fault_words : List ℕ → LexFault → List ℕ
fault_words text (fault.BadByte at) = codes "bad-byte"
fault_words text (fault.OpenComment at) = codes "open-comment"
fault_words text (fault.OpenText at) = codes "open-text"
fault_words text (fault.WideNumber at) = codes "wide-number"
fault_words text (fault.Refused at len) = codes "word " ++ take len (drop at text)
fault_words text fault.NoMemory = []

-- `L:C refused W`
abbrev pub placed_line : List ℕ → ℕ → List ℕ → List ℕ
placed_line text at words = decimal (line_of text at) ++ codes ":" ++ decimal (column_of text at) ++ codes " refused " ++ words ++ codes "\n"

abbrev pub naming_line : List ℕ → NameFault → List ℕ
naming_line text (naming.TwiceNamed at) = placed_line text at (codes "named-twice")
naming_line text naming.NoContract = codes "refused no-contract\n"
naming_line text (naming.UnknownBase at) = placed_line text at (codes "unknown-base")
naming_line text (naming.NoOrder at) = placed_line text at (codes "no-order")
naming_line text (naming.Abstract at) = placed_line text at (codes "abstract")
naming_line text naming.NoMemory = []

abbrev pub refusal_line : List ℕ → Refusal → List ℕ
refusal_line text (refusal.Lexical f) = placed_line text (place_of_fault f) (fault_words text f)
refusal_line text (refusal.NoTree at) = placed_line text at (codes "no-tree")
refusal_line text (refusal.Naming f) = naming_line text f
refusal_line text refusal.NotBuilt = codes "refused not-built\n"

-- the line tells a cause for which the text is refused
pub record IsRefusedWith (name : Option (List ℕ)) (text : List ℕ) (line : List ℕ) : Type 0 where
  pub refusal : Refusal
  pub cause : IsRefused name text refusal
  pub line_is : line ≡ refusal_line text refusal
