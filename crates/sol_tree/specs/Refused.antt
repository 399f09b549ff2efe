-- The words of Solidity that are outside the language: those of a table, and the fixed-point types.
use Rattle.std.specs.Prelude.{ℕ, Bool, true, false, ◌&&◌, ◌||◌, ◌==◌, if◌then◌else◌, List, [], ◌∷◌, codes}
use Rattle.std.specs.Str.{bytes_eq}
use Rattle.std.specs.Char.{is_ascii_digit}
use denote.Ref.{Bor}
use Rattle.sol_tree.specs.RefusedWords.{words_outside}

-- whether a word is one of these
abbrev pub is_one_of : List ℕ → List (List ℕ) → Bool
is_one_of w [] = false
is_one_of w (v ∷ vs) = bytes_eq w v || is_one_of w vs

-- what references to texts point to
abbrev pub texts : List (Bor (List ℕ)) → List (List ℕ)
texts [] = []
texts (t ∷ ts) = t.now ∷ texts ts

-- the table of refused words
unfoldable pub refused_words : List (List ℕ)
refused_words = words_outside

-- digits alone
abbrev pub is_digits : List ℕ → Bool
is_digits [] = true
is_digits (b ∷ bs) = is_ascii_digit b && is_digits bs

-- a number: digits, and at least one
abbrev pub is_number : List ℕ → Bool
is_number [] = false
is_number (b ∷ bs) = is_ascii_digit b && is_digits bs

-- digits, `x` (which is 120) and a number
abbrev pub is_pair : List ℕ → Bool
is_pair [] = false
is_pair (b ∷ bs) = if is_ascii_digit b then is_pair bs else (b == 120 && is_number bs)

-- nothing, or two numbers with `x` between them
abbrev pub is_sizes : List ℕ → Bool
is_sizes [] = true
is_sizes (b ∷ bs) = is_ascii_digit b && is_pair bs

-- a stem, alone or followed by two numbers with `x` between them
abbrev pub is_sized : List ℕ → List ℕ → Bool
is_sized [] w = is_sizes w
is_sized (c ∷ stem) [] = false
is_sized (c ∷ stem) (b ∷ bs) = b == c && is_sized stem bs

-- whether a word is refused
unfoldable pub is_refused_word : List ℕ → Bool
is_refused_word w = is_one_of w refused_words || is_sized (codes "fixed") w || is_sized (codes "ufixed") w
