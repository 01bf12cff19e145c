-- What the first bytes of a database tell of it.
use Rattle.std.specs.Prelude.{◌+◌, ◌*◌, ◌==◌, ◌&&◌, ◌||◌, ℕ, List, Bool, Option, Some, None, if◌then◌else◌, nat_lt}
use Rattle.std.specs.Prelude.{slice_index}

-- the two bytes at a place, the greatest first
abbrev pub two_at : List ℕ → ℕ → ℕ
two_at header place = slice_index header place * 256 + slice_index header (place + 1)

-- the four bytes at a place, the greatest first
abbrev pub four_at : List ℕ → ℕ → ℕ
four_at header place = two_at header place * 65536 + two_at header (place + 2)

-- how many bytes a page has: the greatest size has no room in two bytes, and is written as 1
abbrev pub page_bytes : List ℕ → ℕ
page_bytes header = if two_at header 16 == 1 then 65536 else two_at header 16

-- how many bytes the file is to have: the count of pages is good for the change alone that wrote it
abbrev pub bytes_told : List ℕ → Option ℕ
bytes_told header =
    if (four_at header 24 == four_at header 92) && nat_lt 0 (four_at header 28)
    then Some (page_bytes header * four_at header 28) else None

-- the first page has a row, or pages below it
abbrev pub has_tables : List ℕ → Bool
has_tables header = nat_lt 0 (two_at header 103) || (slice_index header 100 == 5)

-- each page ends in the eight bytes of a sum (SQLite's file format, section 1.3.4, and its page on cksumvfs)
abbrev pub has_sums : List ℕ → Bool
has_sums header = slice_index header 20 == 8
