-- The piece at the head of a text, as a function on lists of bytes.
use Rattle.std.specs.Prelude.{ℕ, ◌+◌, ◌*◌, ◌^◌, max, pos, Bool, true, false, not, ◌&&◌, ◌||◌, ◌==◌, nat_lt, if◌then◌else◌, List, [], ◌∷◌, length, take, drop, Option, Some, None, codes}
use Rattle.std.specs.Str.{bytes_eq}
use Rattle.std.specs.Char.{is_ascii_digit}
use Rattle.sol_tree.specs.Refused.{is_one_of}
use Rattle.sol_lexer.specs.Bytes.{base_of, begins, begins_with, digit_value, is_before_semicolon, is_blank, is_digit_of, is_exponent_letter, is_in_line, is_printable, is_quote, is_word_byte, is_word_start}
use Rattle.sol_lexer.specs.Punctuators.{marks}
use Rattle.sol_lexer.specs.RefusedPunctuators.{refused_marks}
use Rattle.sol_lexer.specs.Tokens.{is_refused, runs_on}
use Rattle.sol_lexer.specs.declared.bytes.Class.{Class}
use Rattle.sol_lexer.specs.declared.bytes.Class.TheVariants as class
use Rattle.sol_lexer.specs.declared.cut.Cut.{Cut}
use Rattle.sol_lexer.specs.declared.cut.Cut.TheVariants as cut
use Rattle.sol_lexer.specs.declared.numbers.DigitRun.{DigitRun}

abbrev pub in_class : Class → ℕ → Bool
in_class class.InLine b = is_in_line b
in_class class.InWord b = is_word_byte b
in_class class.BeforeSemicolon b = is_before_semicolon b

-- how many bytes of a class a text begins with
abbrev pub run : (ℕ → Bool) → List ℕ → ℕ
run class [] = 0
run class (b ∷ bs) = if class b then run class bs + 1 else 0

-- so many bytes further on
abbrev pub further : ℕ → Option ℕ → Option ℕ
further n None = None
further n (Some k) = Some (k + n)

-- ---- comments

abbrev pub is_comment : ℕ → List ℕ → Bool
is_comment b [] = false
is_comment b (c ∷ cs) = b == 47 && (c == 47 || c == 42)

-- where the first `*/` ends
abbrev pub close_of : List ℕ → Option ℕ
close_of [] = None
close_of (b ∷ bs) = if b == 42 && begins (λ c. c == 47) bs then Some 2 else further 1 (close_of bs)

abbrev pub block_end : Option ℕ → Cut
block_end None = cut.OpenComment
block_end (Some n) = cut.Dropped (n + 2)

abbrev pub block_of : List ℕ → Cut
block_of text = block_end (close_of text)

-- what follows `/` where that begins a comment
abbrev pub comment_of : List ℕ → Cut
comment_of [] = cut.OpenComment
comment_of (b ∷ bs) = if b == 47 then cut.Dropped (run is_in_line bs + 2) else block_of bs

-- ---- words

-- what follows `pragma`
abbrev pub pragma_of : List ℕ → Cut
pragma_of text =
    let n = run is_before_semicolon text in
    if nat_lt n (length text) then cut.Dropped (n + 7) else cut.OpenText

abbrev pub judged : List ℕ → List ℕ → Cut
judged w rest = if bytes_eq w (codes "pragma") then pragma_of rest else (if is_refused w rest then cut.Refused (length w) else cut.Word (length w))

abbrev pub word_of : List ℕ → Cut
word_of text = judged (take (run is_word_byte text) text) (drop (run is_word_byte text) text)

-- ---- texts

-- where the quote ends that ends a text; a byte after a backslash is not judged
abbrev pub closing_on : ℕ → Bool → List ℕ → Option ℕ
closing_on q escaped [] = None
closing_on q true (b ∷ bs) = further 1 (closing_on q false bs)
closing_on q false (b ∷ bs) = if b == q then Some 1 else (if b == 92 then further 1 (closing_on q true bs) else (if is_printable b then further 1 (closing_on q false bs) else None))

abbrev pub closing_of : ℕ → List ℕ → Option ℕ
closing_of q text = closing_on q false text

abbrev pub text_end : Option ℕ → Cut
text_end None = cut.OpenText
text_end (Some n) = cut.Text (n + 1)

abbrev pub text_of : ℕ → List ℕ → Cut
text_of q text = text_end (closing_of q text)

-- ---- numbers

-- a number that has 128 bits, or none
unfoldable pub limited : ℕ → Option ℕ
limited n = if nat_lt n (2 ^ 128) then Some n else None

abbrev pub with_number : Option ℕ → (ℕ → Option ℕ) → Option ℕ
with_number None go = None
with_number (Some n) go = go n

abbrev pub grown : Bool → Option ℕ → ℕ → Option ℕ
grown hex value b = with_number value (λ n. with_number (limited (n * base_of hex)) (λ m. limited (m + digit_value b)))

abbrev pub longer : DigitRun → DigitRun
longer d = record d { len = d.len + 1 }

abbrev pub digits_on : Bool → Bool → Option ℕ → List ℕ → DigitRun
digits_on hex wanted value [] = record { len = 0; value = value; wanted = wanted }
digits_on hex wanted value (b ∷ bs) = if is_digit_of hex b then longer (digits_on hex false (grown hex value b) bs) else (if not wanted && b == 95 then longer (digits_on hex true value bs) else record { len = 0; value = value; wanted = wanted })

abbrev pub digits_of : Bool → List ℕ → DigitRun
digits_of hex text = digits_on hex true (Some 0) text

abbrev pub times_power : ℕ → ℕ → Option ℕ
times_power n k = if nat_lt 38 k then None else limited (n * 10 ^ k)

abbrev pub scaled : Option ℕ → Option ℕ → Option ℕ
scaled value exponent = with_number value (λ n. if n == 0 then Some 0 else with_number exponent (times_power n))

abbrev pub placed_number : ℕ → ℕ → Bool → List ℕ → Cut
placed_number len n hex rest = if nat_lt n (2 ^ 127) then (if runs_on rest then cut.BadByte len else cut.Number len (pos n) hex) else cut.WideNumber

abbrev pub number_end : ℕ → Option ℕ → Bool → List ℕ → Cut
number_end len None hex rest = cut.WideNumber
number_end len (Some n) hex rest = placed_number len n hex rest

abbrev pub hexadecimal_of : List ℕ → Cut
hexadecimal_of text =
    let d = digits_of true text in
    if d.wanted then cut.BadByte (d.len + 2) else number_end (d.len + 2) d.value true (drop d.len text)

abbrev pub power_of : ℕ → Option ℕ → List ℕ → Cut
power_of len value text =
    let d = digits_of false text in
    if d.wanted then cut.BadByte (len + d.len) else number_end (len + d.len) (scaled value d.value) false (drop d.len text)

abbrev pub exponent_of : ℕ → Option ℕ → List ℕ → Cut
exponent_of len value [] = number_end len value false []
exponent_of len value (b ∷ bs) = if is_exponent_letter b then power_of (len + 1) value bs else number_end len value false (b ∷ bs)

abbrev pub positive_of : List ℕ → Cut
positive_of text =
    let d = digits_of false text in
    if d.wanted then cut.BadByte d.len else exponent_of d.len d.value (drop d.len text)

abbrev pub after_zero : List ℕ → Cut
after_zero [] = exponent_of 1 (Some 0) []
after_zero (b ∷ bs) = if b == 120 then hexadecimal_of bs else exponent_of 1 (Some 0) (b ∷ bs)

abbrev pub number_of : List ℕ → Cut
number_of [] = cut.BadByte 0
number_of (b ∷ bs) = if b == 48 then after_zero bs else positive_of (b ∷ bs)

-- ---- punctuators

-- the length of the longest of these that a text begins with, or 0
abbrev pub longest : List (List ℕ) → List ℕ → ℕ
longest [] text = 0
longest (m ∷ ms) text = if begins_with m text then max (length m) (longest ms text) else longest ms text

abbrev pub longest_mark : List ℕ → ℕ
longest_mark text = max (longest marks text) (longest refused_marks text)

abbrev pub mark_of : List ℕ → Cut
mark_of text =
    let n = longest_mark text in
    if n == 0 then cut.BadByte 0 else (if is_one_of (take n text) marks then cut.Mark n else cut.Refused n)

-- ---- the whole

abbrev pub cut_of : List ℕ → Cut
cut_of [] = cut.BadByte 0
cut_of (b ∷ bs) =
    if is_blank b then cut.Dropped 1
    else (if is_comment b bs then comment_of bs
    else (if is_word_start b then word_of (b ∷ bs)
    else (if is_ascii_digit b then number_of (b ∷ bs)
    else (if is_quote b then text_of b bs
    else mark_of (b ∷ bs)))))
