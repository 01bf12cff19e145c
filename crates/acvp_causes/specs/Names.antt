-- The names of files that are copied.
use Rattle.std.specs.Prelude.{◌==◌, ◌+◌, ◌-◌, ℕ, List, Option, Some, None, codes, if◌then◌else◌, length, nat_lt}
use Rattle.acvp_causes.specs.Folders.{last_of}
use Rattle.acvp_causes.specs.declared.cause.Cause.{Cause}
use Rattle.acvp_causes.specs.declared.cause.Cause.TheVariants as cause

-- the bytes that the longest name beside a copy has behind the file's own: its word, a moment of 19 digits and the end
-- of a journal's name
abbrev pub bytes_behind : ℕ
bytes_behind = length (codes "-part-") + 19 + length (codes "-journal")

-- the most bytes of a file's name that leave these room, since a name has 255 at most (NAME_MAX of limits.h)
abbrev pub most_name : ℕ
most_name = 255 - bytes_behind

-- a path whose last part is empty names no file, and one whose name is longer than that no file that is copied
abbrev pub cause_of_path : List ℕ → Option Cause
cause_of_path path =
    if length (last_of path) == 0 then Some cause.Nameless
    else if nat_lt most_name (length (last_of path)) then Some (cause.LongName (length (last_of path)) most_name)
    else None
