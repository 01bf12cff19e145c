-- Which deeds put a copy in the place of a database, or where there is none.
use Rattle.std.specs.Prelude.{◌≡◌, true, false, List, [], ◌∷◌, ◌++◌, Option, Some, None}
use Rattle.acvp_copying.specs.Deeds.{Deed, StillNamed, Named, FolderSynced, OldCopied, OldSynced, AccessKept}
use Rattle.acvp_copying.specs.Deeds.{StillThere, LogFull, LogHeld, LogRemoved, Replaced}
use Rattle.acvp_copying.specs.declared.replacing.InPlace.{InPlace}

module _ {N : Type 0} where
  -- the database that is to be replaced was copied, and the copy brought to the disk
  abbrev pub IsOldCopied : List (Deed N) → Type 0
  IsOldCopied deeds = deeds ≡ OldCopied ∷ OldSynced ∷ []

  -- it was copied, and the copy, with the same access, was given the name under which it is kept, on the disk
  abbrev pub IsKept : List (Deed N) → Type 0
  IsKept deeds = (old : List (Deed N)) × IsOldCopied old
      × (deeds ≡ old ++ (AccessKept ∷ StillNamed ∷ Named ∷ FolderSynced ∷ []))

  -- it is still there, and its log holds nothing; the log was taken away, and then the other copy got its path
  abbrev pub IsTaken : List (Deed N) → Type 0
  IsTaken deeds = deeds ≡ StillThere true ∷ LogFull false ∷ LogRemoved ∷ Replaced ∷ []

  -- first it was kept, then the other copy got its path, and last the folder's names were brought to the disk
  abbrev pub IsReplacement : List (Deed N) → Type 0
  IsReplacement deeds = (kept taken : List (Deed N)) × IsKept kept × IsTaken taken
      × (deeds ≡ kept ++ (taken ++ (FolderSynced ∷ [])))

  -- where there is no database: there is no log that holds anything or that somebody has, and only then the copy was
  -- given its name, on the disk
  abbrev pub IsPlacement : List (Deed N) → Type 0
  IsPlacement deeds = deeds ≡ LogFull false ∷ LogHeld false ∷ LogRemoved ∷ StillNamed ∷ Named ∷ FolderSynced ∷ []

-- the name under which what was there is kept, if there was something
abbrev pub kept_in : {K : Type 0} → InPlace K → Option K
kept_in in_place = in_place.kept

-- the same under this name
abbrev pub named : {K L : Type 0} → Option K → L → Option L
named None name = None
named (Some kept) name = Some name
