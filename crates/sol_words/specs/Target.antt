-- The word of a target: `LINE:COLUMN:KIND`. Line and column are decimal without leading zeros, from 1 to 999,999, and the kind
-- is one of the six names.
use Rattle.std.specs.Prelude.{ℕ, List, [], ◌∷◌, Option, Some, None, bytes_eq, pos, ◌&&◌, not, if◌then◌else◌}
use lib.IntN.{ℤ}
use lib.Signed.{lt_z, mag}
use Rattle.sol_core.specs.declared.Kind.{Kind}
use Rattle.sol_core.specs.declared.Kind.TheVariants as kind
use Rattle.sol_core.specs.declared.Site.{Site}
use Rattle.sol_core.specs.Kinds.{kind_word}
use Rattle.sol_script.specs.Lines.{number}
use Rattle.sol_script.specs.Pieces.{pieces}
use Rattle.sol_words.specs.declared.target.TheConstants.{MAX_PLACE}

-- a line or a column: a number from 1 to the greatest
abbrev pub place_of : Option ℤ → Option ℕ
place_of None = None
place_of (Some n) = if lt_z (pos 0) n && not (lt_z MAX_PLACE n) then Some (mag n) else None

abbrev pub kind_named : List ℕ → Option Kind
kind_named word =
    if bytes_eq word (kind_word kind.Assert) then Some kind.Assert
    else (if bytes_eq word (kind_word kind.Underflow) then Some kind.Underflow
    else (if bytes_eq word (kind_word kind.Overflow) then Some kind.Overflow
    else (if bytes_eq word (kind_word kind.DivByZero) then Some kind.DivByZero
    else (if bytes_eq word (kind_word kind.OutOfBounds) then Some kind.OutOfBounds
    else (if bytes_eq word (kind_word kind.PopEmptyArray) then Some kind.PopEmptyArray
    else None)))))

abbrev pub site_of : Option ℕ → Option ℕ → Option Kind → Option Site
site_of None col kind = None
site_of (Some line) None kind = None
site_of (Some line) (Some col) None = None
site_of (Some line) (Some col) (Some kind) = Some (record { kind = kind; line = line; col = col })

abbrev pub target_in : List (List ℕ) → Option Site
target_in [] = None
target_in (line ∷ []) = None
target_in (line ∷ col ∷ []) = None
target_in (line ∷ col ∷ kind ∷ []) = site_of (place_of (number line)) (place_of (number col)) (kind_named kind)
target_in (line ∷ col ∷ kind ∷ other ∷ more) = None

-- the pieces between the colons; 58 is a colon
abbrev pub target : List ℕ → Option Site
target word = target_in (pieces 58 word)
