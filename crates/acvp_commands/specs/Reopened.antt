-- What an open finds of a database's files that were closed, or that a crash left.
use Rattle.std.specs.Prelude.{◌≡◌, ◌⊎◌, IsTrue}
use Rattle.sqlite_disk.specs.declared.Disk.{Ghosts}
use Rattle.sqlite_disk.specs.declared.Files.{Files}
use Rattle.sqlite_wal.specs.Files.{outcomes}
use Rattle.sqlite_wal.specs.Recovery.{Image}
use Rattle.sqlite_trees.specs.View.{IsQuiet}
use Rattle.sqlite_store.specs.FileStore.{faults, is_shielded, recovers, state, view}
use Rattle.sqlite_store.specs.declared.store.FileStore.{FileStore}
use Rattle.sqlite.specs.Closing.{IsCopied}
use Rattle.sqlite.specs.Files.{IsOpened, file_state, image_of}
use Rattle.sqlite.specs.Held.{AreDatabases, Held}
use Rattle.sqlite.specs.Start.{FindsIn}

module _ {D E : Type 0} {g : Ghosts D} {h : Ghosts E} where
  -- The later connection is open, and shows what it found of the files that the close of the earlier one gave back: as
  -- they read then, or as a crash after the close left them. They may lie on another disk by then.
  pub record FindsClosed (before : Held (FileStore D g)) (connection : Held (FileStore E h)) : Type 0 where
    pub files : Files D
    pub image : Image
    pub copied : IsCopied before files
    pub left : (image ≡ image_of g files) ⊎ outcomes g files.log files.db image
    pub found : FindsIn image (file_state connection)
    pub opened : IsOpened connection

  -- The later connection shows what a crash may leave of the earlier one, as it is held: also behind a close that
  -- failed, since a crash has no other outcome then.
  abbrev pub ShowsLeft : Held (FileStore D g) → Held (FileStore E h) → Type 0
  ShowsLeft before connection = ∥ (file_state before).may_leave (file_state connection).now.trees ∥₁

  -- The earlier connection was given up with nothing copied, so that its store is what `into_store` says; the later one
  -- is open, and shows what it found of the files that a crash left from then on.
  pub record FindsLeft (before : Held (FileStore D g)) (connection : Held (FileStore E h)) : Type 0 where
    pub store : FileStore D g
    pub image : Image
    pub numbered : IsTrue (view store).is_numbered
    pub databases : AreDatabases (recovers store)
    pub quiet : IsQuiet view faults recovers is_shielded before.store store
    pub left : (state store).may_leave image
    pub found : FindsIn image (file_state connection)
    pub opened : IsOpened connection
