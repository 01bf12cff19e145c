-- Whose files are taken, and what others may do with them.
use Rattle.std.specs.Prelude.{ℕ, Bool, Option, Some, None, false, not, ◌==◌, ◌||◌, bit_and}

abbrev pub is_of : ℕ → Option ℕ → Bool
is_of owner None = false
is_of owner (Some other) = owner == other

-- a file of root, of the user of the command, or of the owner of what it was told to take
abbrev pub may_own : ℕ → ℕ → Option ℕ → Bool
may_own owner user other = (owner == 0) || (owner == user) || is_of owner other

-- the bits of a mode by which others than the owner read and write
abbrev pub rights_of_others : ℕ → ℕ
rights_of_others mode = bit_and mode 0o066

-- others may do something by a mode that they may not by another
abbrev pub gives_more : ℕ → ℕ → Bool
gives_more mode bound = not (bit_and (rights_of_others mode) bound == rights_of_others mode)
