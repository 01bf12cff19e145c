use Rattle.std.proofs.Common.{ℕ, Bool, cond, List, sym, ap, ap₂, subst, true, ◌∙◌}
use Rattle.std.proofs.lemmas.Result.{IfOk-weaker}
use Rattle.sqlite_disk.specs.declared.calls.Calls as calls
use Rattle.sqlite_disk.specs.declared.modelled.Modelled.{Modelled}
use Rattle.sqlite_disk.specs.declared.start.Start.{Ghosts}
use Rattle.sqlite_disk.specs.Events.{Event, replay}
use Rattle.sqlite_disk.specs.Modelled.{start_of}
use Rattle.sqlite_std_file.specs.declared.host.Host.{Host}
use Rattle.sqlite_wal.specs.Recovery.{Image}
use Rattle.sqlite.specs.Files.{file_state, IsBlankAs}
use Rattle.sqlite.specs.Start.{FindsIn}
use Rattle.acvp_connections.proofs.connection.connect.Goals as goal

abbrev image : List ℕ → List ℕ → Image
image log db = record { log = log; db = db }

-- what a file shows after these calls, if it is the log or the database file
abbrev shown : List ℕ → List ℕ → Bool → List Event → List ℕ
shown log db is_log history = (replay (cond is_log log db) history).seen

abbrev seen : {S : Type 0} {h : calls.Ghosts Host} (start : Ghosts S) → Modelled Host S h start → List ℕ
seen start file = (replay (start_of start file) file.calls.log.events).seen

pub returns-clause-connected : goal.returns-clause-connected
returns-clause-connected g c =
    let (log, db) = c.in_ok-files.ensures.fresh in
    let start = g.S.Start in
    let log_same = ap (seen start) c.of.ensures.inner ∙ ap₂ (shown start.log start.db) log.0 log.1 in
    let db_same = ap (seen start) c.of-2.ensures.inner ∙ ap₂ (shown start.log start.db) db.0 db.1 in
    let same = ap₂ image log_same db_same in
    IfOk-weaker c.clocked.result _ _
    (λ connection is. let told = rw is at c.open_files_with-opened.ensures in (
      told.fresh,
      told.opened,
      (λ clean. subst (λ i. FindsIn i (file_state connection)) same
          (record { holds = (told.found clean).holds; reads = (told.found clean).reads })),
      (λ clean blank. told.sums clean (subst (IsBlankAs true) (sym same) blank)),
    )) c.clocked.ensures
