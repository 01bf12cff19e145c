-- What a new connection to a file shows.
use Rattle.std.specs.Prelude.{◌≡◌, true}
use Rattle.sqlite_disk.specs.declared.Disk.{Ghosts}
use Rattle.sqlite_store.specs.FileStore.{view}
use Rattle.sqlite_store.specs.declared.store.FileStore.{FileStore}
use Rattle.sqlite_wal.specs.Recovery.{Image}
use Rattle.sqlite.specs.Files.{IsBlankAs, IsOpened, file_state}
use Rattle.sqlite.specs.Held.{Held, IsNew}
use Rattle.sqlite.specs.Start.{FindsIn}
use Rattle.sqlite.specs.State.{HasCleanDisk}

-- It is new. If the disk is clean, it is open, and shows what the files held before; if they held no database, its
-- pages have sums.
abbrev pub IsConnected : {D : Type 0} {g : Ghosts D} → Image → Held (FileStore D g) → Type 0
IsConnected image c =
    IsNew c × (HasCleanDisk (file_state c) → IsOpened c) × (HasCleanDisk (file_state c) → FindsIn image (file_state c))
    × (HasCleanDisk (file_state c) → IsBlankAs true image → (view c.store).has_sums ≡ true)
