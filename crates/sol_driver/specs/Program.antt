-- What the program does with its words and its status.
use Rattle.std.specs.Prelude.{◌≡◌, ℕ, List, [], ◌∷◌, drop, Bool, true, false, Result, Ok, Err, string_bytes, codes, if◌then◌else◌}
use Rattle.std.specs.Str.{bytes_eq}
use Rattle.std.specs.Vec.Iter.{into_iter_items}
use Rattle.std.specs.declared.vec.IntoIter.{IntoIter}
use Rattle.std.specs.declared.string.String.{String}
use Rattle.std.specs.declared.alloc.Global.{Global}
use Rattle.sol_driver.specs.declared.outcome.Status.{Status}
use Rattle.sol_driver.specs.declared.program.WordsFault.{WordsFault}
use Rattle.sol_driver.specs.Ends.{Asked, Told, EndsWith}
use Rattle.sol_driver.specs.Texts.{code_of}

-- the words after the program's name, in order and all; none where the system gave none
abbrev pub given_words : Result (IntoIter (String Global) Global) WordsFault → List (String Global)
given_words (Ok args) = drop 1 (into_iter_items args)
given_words (Err f) = []

-- no word is given, or `--help` alone
abbrev pub asks_usage : List (String Global) → Bool
asks_usage [] = true
asks_usage (w ∷ []) = bytes_eq (string_bytes w) (codes "--help")
asks_usage (w ∷ v ∷ rest) = false

-- how the program is used
abbrev pub usage : List ℕ
usage = codes "usage: solchc check FILE [--contract NAME]\n       solchc targets FILE [--contract NAME]\n       solchc replay FILE SCRIPT LINE:COLUMN:KIND [--contract NAME]\ncheck prints a line for each target of the contract in FILE: safe, unsafe or unknown; targets prints where they\nstand; replay says whether the calls in SCRIPT violate a target.\nExit status: 0 all safe, or listed, or violated; 1 some unsafe, 2 some unknown, 3 text refused, 4 words refused,\n5 read fault, 6 write fault, 7 no memory, 8 file too long, 9 no target, script refused or not violated.\n"

abbrev pub usage_for : List (String Global) → List ℕ
usage_for words = if asks_usage words then usage else []

-- the program ends with a status, and this is its number
pub record EndsAsNumber (a : Asked) (t : Told) (n : ℕ) : Type 0 where
  pub status : Status
  pub ends : EndsWith a t status
  pub number : n ≡ code_of status
