-- Lemmas on what is done to put a copy in the place of a database.
use Rattle.std.proofs.Common.{[], ◌∷◌, ◌++◌, IfOk, Result, Ok, Err, refl}
use Rattle.acvp_copying.specs.Copies.{IsNaming}
use Rattle.acvp_copying.specs.Deeds.{Deed, Did, StillNamed, Named, FolderSynced, AccessKept}
use Rattle.acvp_copying.specs.Replacements.{IsKept, IsOldCopied, IsReplacement, IsTaken}
use Rattle.acvp_copying.proofs.DeedLemmas.{follows_both}

module _ {S N E : Type 0} (does : S → Deed N → S → Type 0) where
  -- a copy of the database that has its access was given a name
  pub kept_named : (old copied kept new : S) (result : Result Unit E) → Did does IsOldCopied old copied
      → does copied AccessKept kept → IfOk result (λ done. Did does IsNaming kept new)
      → IfOk result (λ done. Did does IsKept old new)
  kept_named old copied kept new (Ok done) (deeds, are, copying) access (naming, is, named) = (
    deeds ++ (AccessKept ∷ StillNamed ∷ Named ∷ FolderSynced ∷ []),
    (deeds, are, refl),
    follows_both does deeds (AccessKept ∷ StillNamed ∷ Named ∷ FolderSynced ∷ []) old copied new copying
        (kept, access, rw is at named),
  )
  kept_named old copied kept new (Err fault) copying access named = tt

  -- the other copy got its path, and the folder was synced
  pub replaced_synced : (old mid taken new : S) (result : Result Unit E) → Did does IsKept old mid
      → Did does IsTaken mid taken → IfOk result (λ done. does taken FolderSynced new)
      → IfOk result (λ done. Did does IsReplacement old new)
  replaced_synced old mid taken new (Ok done) (kept, are, keeping) (taking, is, took) synced = (
    kept ++ (taking ++ (FolderSynced ∷ [])),
    (kept, taking, are, is, refl),
    follows_both does kept (taking ++ (FolderSynced ∷ [])) old mid new keeping
        (follows_both does taking (FolderSynced ∷ []) mid taken new took (new, synced, refl)),
  )
  replaced_synced old mid taken new (Err fault) keeping taking synced = tt
