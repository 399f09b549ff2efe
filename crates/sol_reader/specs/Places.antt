-- Lines and columns of a text, both counted from 1.
use Rattle.std.specs.Prelude.{ℕ, ◌+◌, ◌==◌, if◌then◌else◌, List, [], ◌∷◌, take}

-- the line after some bytes: one more after each line feed (which is 10)
abbrev pub line_after : ℕ → List ℕ → ℕ
line_after line [] = line
line_after line (b ∷ bs) = line_after (if b == 10 then line + 1 else line) bs

-- the column after some bytes: one more after each byte, and 1 after a line feed
abbrev pub column_after : ℕ → List ℕ → ℕ
column_after column [] = column
column_after column (b ∷ bs) = column_after (if b == 10 then 1 else column + 1) bs

-- the line of the byte at a place
unfoldable pub line_of : List ℕ → ℕ → ℕ
line_of text at = line_after 1 (take at text)

-- the column of the byte at a place
unfoldable pub column_of : List ℕ → ℕ → ℕ
column_of text at = column_after 1 (take at text)
