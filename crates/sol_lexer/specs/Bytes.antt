-- Classes of bytes, and what a text begins with.
use Rattle.std.specs.Prelude.{◌≡◌, ℕ, Bool, true, false, not, ◌&&◌, ◌||◌, ◌==◌, if◌then◌else◌, ◌-◌, List, [], ◌∷◌}
use Rattle.std.specs.Char.{is_ascii_alphabetic, is_ascii_alphanumeric, is_ascii_digit, is_ascii_hexdigit, is_ascii_whitespace}
use Rattle.std.specs.Int.{is_in_range}

-- space, tab, line feed, carriage return and form feed
abbrev pub is_blank : ℕ → Bool
is_blank b = is_ascii_whitespace b

-- what a line comment may hold: all but line feed and carriage return
abbrev pub is_in_line : ℕ → Bool
is_in_line b = not (b == 10 || b == 13)

-- a letter, `_` or `$`
abbrev pub is_word_start : ℕ → Bool
is_word_start b = is_ascii_alphabetic b || b == 95 || b == 36

-- a letter, a digit, `_` or `$`
abbrev pub is_word_byte : ℕ → Bool
is_word_byte b = is_ascii_alphanumeric b || b == 95 || b == 36

-- what stands before a semicolon
abbrev pub is_before_semicolon : ℕ → Bool
is_before_semicolon b = not (b == 59)

-- `"` or `'`
abbrev pub is_quote : ℕ → Bool
is_quote b = b == 34 || b == 39

-- from the space to `~`
abbrev pub is_printable : ℕ → Bool
is_printable b = is_in_range 32 126 b

-- `e` or `E`
abbrev pub is_exponent_letter : ℕ → Bool
is_exponent_letter b = b == 101 || b == 69

-- a digit, of hexadecimal or of decimal
abbrev pub is_digit_of : Bool → ℕ → Bool
is_digit_of hex b = if hex then is_ascii_hexdigit b else is_ascii_digit b

abbrev pub base_of : Bool → ℕ
base_of hex = if hex then 16 else 10

-- what a digit counts
abbrev pub digit_value : ℕ → ℕ
digit_value b = if is_in_range 48 57 b then b - 48 else (if is_in_range 65 70 b then b - 55 else b - 87)

-- whether a text begins with a byte of a class
abbrev pub begins : (ℕ → Bool) → List ℕ → Bool
begins class [] = false
begins class (b ∷ bs) = class b

-- whether a text begins with another
abbrev pub begins_with : List ℕ → List ℕ → Bool
begins_with [] text = true
begins_with (c ∷ cs) [] = false
begins_with (c ∷ cs) (b ∷ bs) = b == c && begins_with cs bs

-- each byte is of a class
abbrev pub Each : (ℕ → Bool) → List ℕ → Type 0
Each class [] = Unit {0}
Each class (b ∷ bs) = (class b ≡ true) × Each class bs
