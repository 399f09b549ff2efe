-- The words behind a command: the option `--contract` with a value behind it, which stands anywhere and at most once, and words
-- that stand by themselves.
use Rattle.std.specs.Prelude.{ℕ, List, [], ◌∷◌, ◌++◌, Option, Some, None, Bool, true, false, not, ◌==◌, ◌||◌, bytes_eq, codes, if◌then◌else◌}
use Rattle.std.specs.Option.{is_some}
use Rattle.sol_words.specs.declared.arguments.Arguments.{Arguments}

-- a word that stands by itself, or an option's value: it isn't empty and doesn't begin with `-`
abbrev pub is_plain : List ℕ → Bool
is_plain [] = false
is_plain (first ∷ rest) = not (first == 45)

abbrev pub nothing : Arguments
nothing = record { words = []; contract = None }

abbrev pub with_word : Arguments → List ℕ → Arguments
with_word a word = record { words = a.words ++ word ∷ []; contract = a.contract }

abbrev pub with_contract : Arguments → List ℕ → Arguments
with_contract a name = record { words = a.words; contract = Some name }

-- what some words say behind what was said so far; the first of them is the option's value, where one is wanted
abbrev pub arguments : Arguments → Bool → List (List ℕ) → Option Arguments
arguments a true [] = None
arguments a true (word ∷ words) = if is_some a.contract || not (is_plain word) then None else arguments (with_contract a word) false words
arguments a false [] = Some a
arguments a false (word ∷ words) =
    if bytes_eq word (codes "--contract") then arguments a true words
    else (if not (is_plain word) then None else arguments (with_word a word) false words)
