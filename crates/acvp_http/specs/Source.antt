-- Readers and writers that remember whether they have failed.
use Rattle.std.specs.Prelude.{◌≡◌, ℕ, ◌+◌, ◌-◌, ◌^◌, ◌≤◌, min, List, ◌++◌, Option, Bool, Result, true, false, Ok, Err}
use Rattle.std.specs.Prelude.{not, ◌&&◌, ◌==◌, nat_lt, length}
use Rattle.std.specs.Io.KnownBytes.{Appends, Consumes}
use Rattle.std.specs.IoError.{error_kind}
use Rattle.std.specs.declared.io.Error.{Error}
use Rattle.std.specs.declared.io.ErrorKind.{ErrorKind}
use Rattle.std.specs.declared.io.ErrorKind.TheVariants.{Interrupted}
use Rattle.acvp_http.specs.declared.source.Flagged.{Flagged}

-- What contracts see of a reader: the bytes that reads will give from here on, where they are known; whether a read has
-- failed; and how many reads it was asked for, as far as they are counted.
pub record InputStream : Type 0 where
  pub held : Option (List ℕ)
  pub failed : Bool
  pub reads : ℕ

-- What contracts see of a writer: the bytes that are written, where they are known, and whether a write has failed.
pub record OutputStream : Type 0 where
  pub contents : Option (List ℕ)
  pub failed : Bool

-- between the two these bytes were read
abbrev pub Gives : InputStream → InputStream → List ℕ → Type 0
Gives old new bytes = Consumes old.held new.held bytes

-- between the two these bytes were written
abbrev pub Gets : OutputStream → OutputStream → List ℕ → Type 0
Gets old new bytes = Appends old.contents new.contents bytes

-- some front of these bytes was written
abbrev pub GetsFront : OutputStream → OutputStream → List ℕ → Type 0
GetsFront old new bytes = (front : List ℕ) × (rest : List ℕ) × (bytes ≡ front ++ rest) × Gets old new front

-- the call was interrupted, and may be made again
abbrev pub is_interruption : ErrorKind → Bool
is_interruption Interrupted = true
is_interruption _ = false

-- a read has failed
abbrev pub is_read_fault : Result ℕ Error → Bool
is_read_fault (Ok count) = false
is_read_fault (Err error) = not (is_interruption (error_kind error))

-- a write of these bytes has failed, or has taken none of them
abbrev pub is_write_fault : Result ℕ Error → List ℕ → Bool
is_write_fault (Ok count) buf = count == 0 && nat_lt 0 (length buf)
is_write_fault (Err error) buf = true

-- one read more, in a count that stops at the greatest number of 64 bits
abbrev pub one_more : ℕ → ℕ
one_more reads = min (reads + 1) (2 ^ 64 - 1)

-- between the two there were as many reads as there may be, or more than are counted
abbrev pub ReadsTooOften : ℕ → InputStream → InputStream → Type 0
ReadsTooOften most old new = min (old.reads + most) (2 ^ 64 - 1) ≤ new.reads

-- the reader or the writer itself
abbrev pub flagged_inner : {T : Type 0} → Flagged T → T
flagged_inner x = x.inner

-- whether it has failed
abbrev pub flagged_failed : {T : Type 0} → Flagged T → Bool
flagged_failed x = x.failed

-- how many reads it was asked for, as far as they are counted
abbrev pub flagged_reads : {T : Type 0} → Flagged T → ℕ
flagged_reads x = x.reads
