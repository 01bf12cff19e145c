-- What an open shows of files that a crash left.
use Rattle.std.proofs.Common.{◌≡◌, ap, subst, sym}
use Rattle.std.proofs.Math.Logic.{∥∥₁_map}
use Rattle.sqlite_disk.specs.declared.Disk.{Ghosts}
use Rattle.sqlite_store.specs.FileStore.{recovers}
use Rattle.sqlite_store.specs.declared.store.FileStore.{FileStore}
use Rattle.sqlite.specs.Effect.{Database}
use Rattle.sqlite.specs.Files.{file_state}
use Rattle.sqlite.specs.Held.{Held}
use Rattle.sqlite.proofs.Theorems.{next_run}
use Rattle.acvp_commands.specs.Reopened.{FindsLeft, ShowsLeft}

pub shows_left : {D E : Type 0} {g : Ghosts D} {h : Ghosts E} (before : Held (FileStore D g))
    (connection : Held (FileStore E h)) → FindsLeft before connection
    → ShowsLeft before connection
shows_left before connection finds =
    let same : (file_state connection).now.trees ≡ (file_state connection).committed.trees =
    ap (λ (d : Database). d.trees) finds.opened.0.clean in
    ∥∥₁_map (next_run finds.store finds.numbered finds.databases finds.image finds.left
    (file_state connection) finds.found)
    (λ found. subst (recovers before.store) (sym same) (finds.quiet.outcomes _ found))
