-- What an open of closed files shows.
use Rattle.std.proofs.Common.{◌≡◌, IsTrue, ap, inl, inr, subst, sym, ◌∙◌}
use Rattle.std.proofs.Math.Logic.{∥∥₁_elim}
use Rattle.sqlite_disk.specs.declared.Disk.{Ghosts}
use Rattle.sqlite_trees.specs.Props.{Trees-set}
use Rattle.sqlite_wal.specs.Recovery.{Image}
use Rattle.sqlite_store.specs.declared.store.FileStore.{FileStore}
use Rattle.sqlite.specs.Closing.{HoldsAlone}
use Rattle.sqlite.specs.Effect.{Database}
use Rattle.sqlite.specs.Files.{file_state}
use Rattle.sqlite.specs.Held.{Held}
use Rattle.acvp_commands.specs.Reopened.{FindsClosed}

module _ {D E : Type 0} {g : Ghosts D} {h : Ghosts E} (before : Held (FileStore D g))
    (connection : Held (FileStore E h)) (finds : FindsClosed before connection) where
  pub was_open : IsTrue (file_state before).is_open
  was_open = finds.copied.was_open

  -- the image that was opened holds what was committed
  holds : HoldsAlone finds.image (file_state before).committed.trees
  holds = elim finds.left [
    | inl same ↦ subst (λ (image : Image). HoldsAlone image (file_state before).committed.trees)
        (sym same) finds.copied.seen
    | inr crashed ↦ finds.copied.left finds.image crashed
  ]

  pub shows_committed : (file_state connection).now.trees ≡ (file_state before).committed.trees
  shows_committed =
      ap (λ (d : Database). d.trees) finds.opened.0.clean ∙ ∥∥₁_elim holds.both (Trees-set _ _) (finds.found.holds _)
