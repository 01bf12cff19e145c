-- Which deeds make a whole copy of a database, a backup, and a name.
use Rattle.std.specs.Prelude.{◌≡◌, ◌⊎◌, ℕ, Bool, true, false, IsTrue, List, [], ◌∷◌, ◌++◌, Option, Some, None, ⊤}
use Rattle.std.specs.List.{All}
use Rattle.acvp_causes.specs.Marks.{IsWhole}
use Rattle.acvp_causes.specs.declared.marks.Mark.{Mark}
use Rattle.acvp_copying.specs.Deeds.{Deed, Looked, Apart, Copied, Synced, Marked, StillNamed, Finished, Named}
use Rattle.acvp_copying.specs.Deeds.{FolderSynced, PutBack}
use Rattle.acvp_copying.specs.declared.copying.Half.{Half}
use Rattle.acvp_copying.specs.declared.copying.Half.TheVariants.{File, Log}
use Rattle.acvp_copying.specs.declared.copying.Seen.{Seen}

module _ {N : Type 0} where
  -- one of a database's files was copied, and the copy brought to the disk; or it is the log, and wasn't there
  abbrev pub IsHalfCopied : Half → List (Deed N) → Type 0
  IsHalfCopied half deeds = (deeds ≡ Copied half true ∷ Synced half ∷ [])
      ⊎ ((half ≡ Log) × (deeds ≡ Copied half false ∷ []))

  -- it touches nothing but what the copy holds
  abbrev pub IsOfCopying : Deed N → Type 0
  IsOfCopying (Looked seen) = ⊤
  IsOfCopying (Apart is_apart) = ⊤
  IsOfCopying (Copied half is_there) = ⊤
  IsOfCopying (Synced half) = ⊤
  IsOfCopying (Marked mark) = ⊤
  IsOfCopying _ = ⊥

  -- nothing was done but such deeds: a copy was tried
  abbrev pub OnlyTries : List (Deed N) → Type 0
  OnlyTries deeds = All IsOfCopying deeds

  -- a copy that still has its first name was given its name, and then the folder's names were brought to the disk
  abbrev pub IsNaming : List (Deed N) → Type 0
  IsNaming deeds = deeds ≡ StillNamed ∷ Named ∷ FolderSynced ∷ []

  module _ (eq : N → N → Bool) where
    -- there was no log before and after, or the same
    abbrev pub IsSameLog : Option N → Option N → Type 0
    IsSameLog None None = ⊤
    IsSameLog (Some before) (Some after) = IsTrue (eq before after)
    IsSameLog _ _ = ⊥

    -- A database was the same file before and after, with the same log. The copy of the log has all that it had
    -- before, and it wasn't emptied meanwhile.
    abbrev pub IsUnchanged : Seen N → Seen N → Mark → Type 0
    IsUnchanged before after copy = IsTrue (eq before.file after.file) × IsSameLog before.log after.log
        × IsWhole before.mark after.mark copy

    -- The database was looked at, its file and then its log were copied, and it was looked at again. Whoever had the
    -- one had the other, before and after, and the log had only grown meanwhile.
    pub record IsWholeCopy (deeds : List (Deed N)) : Type 0 where
      pub before : Seen N
      pub file : List (Deed N)
      pub log : List (Deed N)
      pub copy : Mark
      pub after : Seen N
      pub steps : deeds ≡ Looked before ∷ Apart false ∷ (file ++ (log
          ++ (Marked copy ∷ Looked after ∷ Apart false ∷ [])))
      pub file_copied : IsHalfCopied File file
      pub log_copied : IsHalfCopied Log log
      pub unchanged : IsUnchanged before after copy

    -- after some tries a whole copy was made, and then this was done
    abbrev pub IsCopyThen : List (Deed N) → List (Deed N) → Type 0
    IsCopyThen end deeds = (tries copy : List (Deed N)) × OnlyTries tries × IsWholeCopy copy
        × (deeds ≡ tries ++ (copy ++ end))

    -- a whole copy was made, and was found under its first name
    abbrev pub IsCopy : List (Deed N) → Type 0
    IsCopy deeds = IsCopyThen (StillNamed ∷ []) deeds

    -- A whole copy was made one file of so many rows, then given its name, and the folder was synced.
    abbrev pub IsBackup : ℕ → List (Deed N) → Type 0
    IsBackup rows deeds = IsCopyThen (StillNamed ∷ Finished rows ∷ StillNamed ∷ Named ∷ FolderSynced ∷ []) deeds

    -- A whole copy was made one file of so many rows, and then put in the place of the database.
    abbrev pub IsRestore : ℕ → List (Deed N) → Type 0
    IsRestore rows deeds = IsCopyThen (StillNamed ∷ Finished rows ∷ PutBack rows ∷ []) deeds
