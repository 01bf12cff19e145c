-- How a text is shown in lines that fit a terminal of 80 columns: a line that is longer goes on in others, which are
-- indented by eight, as no line is that begins otherwise. A line's bytes are counted, since no character takes more
-- columns than its UTF-8 has bytes.
use Rattle.std.specs.Prelude.{ℕ, List, [], ◌∷◌, ◌++◌, ◌+◌, ◌==◌, ◌&&◌, Bool, true, codes, encode_utf8, if◌then◌else◌}
use Rattle.std.specs.Prelude.{length, nat_le, nat_lt, not}
use Rattle.std.specs.List.{slice_split}
use Rattle.std.specs.Str.{chars}

-- how a line begins that goes on
abbrev pub further_line : List ℕ
further_line = codes "\n        "

-- a character has no room in its line behind so many bytes of it
abbrev pub is_beyond : ℕ → ℕ → Bool
is_beyond column c = not (c == 10) && nat_lt 80 (column + length (encode_utf8 c))

-- a character behind so many bytes of its line, as it is shown
abbrev pub placed : ℕ → ℕ → List ℕ
placed column c = if is_beyond column c then further_line ++ encode_utf8 c else encode_utf8 c

-- how many bytes its line then has
abbrev pub column_behind : ℕ → ℕ → ℕ
column_behind column c =
    if c == 10 then 0
    else if is_beyond column c then 8 + length (encode_utf8 c)
    else column + length (encode_utf8 c)

-- characters behind so many bytes of their line
abbrev pub folded_from : ℕ → List ℕ → List ℕ
folded_from column [] = []
folded_from column (c ∷ cs) = placed column c ++ folded_from (column_behind column c) cs

-- a text in lines that fit
unfoldable pub folded : List ℕ → List ℕ
folded text = folded_from 0 (chars text)

-- ---- what it means to fit

-- each has at most 80 bytes
abbrev pub are_narrow : List (List ℕ) → Bool
are_narrow [] = true
are_narrow (line ∷ lines) = nat_le (length line) 80 && are_narrow lines

-- each line of a text has at most 80 bytes
abbrev pub fits : List ℕ → Bool
fits text = are_narrow (slice_split (λ b. b == 10) text)
