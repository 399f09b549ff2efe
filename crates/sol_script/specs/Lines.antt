-- What a line of a script's text says. Its words are separated by one space; a number is decimal, with `-` before negative
-- ones and without leading zeros, and has 128 bits.
use Rattle.std.specs.Prelude.{ℕ, suc, ◌^◌, List, [], ◌∷◌, Option, Some, None, pos, Bool, not, ◌&&◌, bytes_eq, codes, slice_get, if◌then◌else◌}
use Rattle.std.specs.Fmt.{signed_decimal}
use Rattle.std.specs.Str.Parse.{signed_digits_value}
use lib.IntN.{ℤ, neg_ℤ}
use lib.Signed.{lt_z}
use Rattle.sol_core.specs.declared.Answer.TheVariants as answer
use Rattle.sol_core.specs.declared.Program.{Program}
use Rattle.sol_core.specs.Formed.{named}
use Rattle.sol_script.specs.declared.line.Line.{Line}
use Rattle.sol_script.specs.declared.line.Line.TheVariants as line
use Rattle.sol_script.specs.Pieces.{pieces}

-- from -2^127 to 2^127 - 1
abbrev pub is_short : ℤ → Bool
is_short n = not (lt_z n (neg_ℤ (pos (2 ^ 127)))) && lt_z n (pos (2 ^ 127))

-- the number that its own spelling gives back
abbrev pub number : List ℕ → Option ℤ
number word = if bytes_eq (signed_decimal (signed_digits_value 10 word)) word && is_short (signed_digits_value 10 word) then Some (signed_digits_value 10 word) else None

abbrev pub before_numbers : Option ℤ → Option (List ℤ) → Option (List ℤ)
before_numbers None more = None
before_numbers (Some n) None = None
before_numbers (Some n) (Some ns) = Some (n ∷ ns)

abbrev pub numbers : List (List ℕ) → Option (List ℤ)
numbers [] = Some []
numbers (word ∷ words) = before_numbers (number word) (numbers words)

-- the first of some doors whose function has a name; the first of them has a number
abbrev pub first_named : Program → ℕ → List ℕ → List ℕ → Option ℕ
first_named p at [] name = None
first_named p at (f ∷ fs) name = if named name (slice_get p.funs f) then Some at else first_named p (suc at) fs name

-- the door with a name
abbrev pub door_named : Program → List ℕ → Option ℕ
door_named p name = first_named p 0 p.doors name

-- who acts, and then the arguments
abbrev pub acting : Option (List ℤ) → Option (ℤ × List ℤ)
acting None = None
acting (Some []) = None
acting (Some (sender ∷ args)) = Some (sender, args)

abbrev pub deployed : Option (ℤ × List ℤ) → Option Line
deployed None = None
deployed (Some (sender, args)) = Some (line.Deploy sender args)

abbrev pub called_by : Option ℕ → Option (ℤ × List ℤ) → Option Line
called_by door None = None
called_by door (Some (sender, args)) = Some (line.Call door sender args)

-- a name, which isn't empty, and then who calls and the arguments
abbrev pub called : Program → List (List ℕ) → Option Line
called p [] = None
called p ([] ∷ words) = None
called p ((b ∷ bs) ∷ words) = called_by (door_named p (b ∷ bs)) (acting (numbers words))

-- a word that stands alone
abbrev pub alone : Line → List (List ℕ) → Option Line
alone l [] = Some l
alone l (word ∷ words) = None

abbrev pub given_number : Option ℤ → Option Line
given_number None = None
given_number (Some n) = Some (line.Answer (answer.Give (Some n)))

abbrev pub given : List (List ℕ) → Option Line
given [] = Some (line.Answer (answer.Give None))
given (word ∷ []) = given_number (number word)
given (word ∷ other ∷ words) = None

-- by the first word, what the others say
abbrev pub said_by : Program → List ℕ → List (List ℕ) → Option Line
said_by p word words =
    if bytes_eq word (codes "deploy") then deployed (acting (numbers words))
    else (if bytes_eq word (codes "call") then called p words
    else (if bytes_eq word (codes "reply") then alone line.Reply words
    else (if bytes_eq word (codes "give") then given words
    else (if bytes_eq word (codes "fail") then alone (line.Answer answer.Fail) words
    else (if bytes_eq word (codes "end") then alone line.End words
    else None)))))

abbrev pub said_in : Program → List (List ℕ) → Option Line
said_in p [] = None
said_in p (word ∷ words) = said_by p word words

-- what a line says, where it says something; 32 is a space
unfoldable pub said : Program → List ℕ → Option Line
said p text = said_in p (pieces 32 text)
