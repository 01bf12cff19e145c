-- When the copy of a log is whole.
use Rattle.std.specs.Prelude.{◌≡◌, ◌≤◌}
use Rattle.acvp_causes.specs.declared.marks.Mark.{Mark}

-- the log began the same before and after, and so does the copy, which has all the bytes that the log had before: it
-- wasn't emptied meanwhile, and only grew
abbrev pub IsWhole : Mark → Mark → Mark → Type 0
IsWhole before after copy =
    (before.header ≡ after.header) × (before.header ≡ copy.header) × (before.bytes ≤ copy.bytes)
