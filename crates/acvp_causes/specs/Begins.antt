-- How a database begins.
use Rattle.std.specs.Prelude.{ℕ, List, codes}

-- the first sixteen bytes of each (SQLite's file format, section 1.3.1)
abbrev pub magic : List ℕ
magic = codes "SQLite format 3\0"
