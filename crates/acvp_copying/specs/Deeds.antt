-- What is done to the files of a database that is copied, and in which order.
use Rattle.std.specs.Prelude.{◌≡◌, ℕ, Bool, List, [], ◌∷◌}
use Rattle.acvp_causes.specs.declared.marks.Mark.{Mark}
use Rattle.acvp_copying.specs.declared.copying.Half.{Half}
use Rattle.acvp_copying.specs.declared.copying.Seen.{Seen}

-- what is done, and what is seen by it
pub data Deed (N : Type 0) : Type 0 where
  -- the database's files were looked at
  Looked : Seen N → Deed N
  -- whether somebody has the database or its log, but not both, as far as the system tells
  Apart : Bool → Deed N
  -- the database, or its log, was copied in the place of all that the copy held; it was there, or the copy is empty
  Copied : Half → Bool → Deed N
  -- the copy of it was brought to the disk
  Synced : Half → Deed N
  -- the mark of the log's copy was read
  Marked : Mark → Deed N
  -- the copy was found under its first name
  StillNamed : Deed N
  -- the copy, of so many rows, was made one whole file on the disk
  Finished : ℕ → Deed N
  -- the copy was given its name
  Named : Deed N
  -- the copy, of so many rows, was put in the place of the database that is restored
  PutBack : ℕ → Deed N
  -- the names of the folder were brought to the disk
  FolderSynced : Deed N
  -- the database that is to be replaced was copied in the place of all that the other copy held
  OldCopied : Deed N
  -- the copy of it was brought to the disk
  OldSynced : Deed N
  -- the copy of it got its owner, its group and its mode, or stayed its maker's alone
  AccessKept : Deed N
  -- whether the path is still that of the database that is to be replaced
  StillThere : Bool → Deed N
  -- whether the database's log holds anything
  LogFull : Bool → Deed N
  -- whether somebody has the database's log
  LogHeld : Bool → Deed N
  -- the database's log was taken away
  LogRemoved : Deed N
  -- the copy got the database's path, in the place of what had it
  Replaced : Deed N

-- Of files nothing can be said here; but whoever works with any system can show only by its calls that something was
-- done.
module _ {S D : Type 0} (does : S → D → S → Type 0) where
  -- these deeds were done, one after another, and nothing else
  abbrev pub Follows : List D → S → S → Type 0
  Follows [] old new = new ≡ old
  Follows (deed ∷ deeds) old new = (mid : S) × does old deed mid × Follows deeds mid new

  -- what was done, in its order, is as this says
  abbrev pub Did : (List D → Type 0) → S → S → Type 0
  Did Fits old new = (deeds : List D) × Fits deeds × Follows deeds old new
