-- The life of a laboratory's file: made once, and then opened by one run of the program after another. Each time that
-- it is opened its store has a type of its own, since what the files hold then is a part of that.
use Rattle.std.specs.Prelude.{◌≡◌, ◌⊎◌, ℕ, List, Bool, MatchBool, IsTrue, Result, Ok, Err, ⊤}
use Rattle.std.specs.List.{All}
use Rattle.sqlite_disk.specs.declared.Disk.{Ghosts}
use Rattle.sqlite_store.specs.declared.store.FileStore.{FileStore}
use Rattle.sqlite.specs.Files.{file_state, over_files}
use Rattle.sqlite.specs.Held.{Held}
use Rattle.sqlite.specs.State.{HasCleanDisk}
use Rattle.acvp_tables.specs.Content.{Content}
use Rattle.acvp_store.specs.Store.{TakesOver, meaning_of, stands}
use Rattle.acvp_desk.specs.Kept.{IsKept}
use Rattle.acvp_desk.specs.Serves.{Looks}
use Rattle.acvp_desk.specs.declared.keys.Keys.{Keys}
use Rattle.acvp_http.specs.Event.{CanHappen, order}
use Rattle.acvp_http.specs.Life.{Life, Run}
use Rattle.acvp_http.specs.Serve.{GoesThrough}
use Rattle.acvp_commands.specs.Reopened.{FindsClosed, ShowsLeft}
use Rattle.acvp_commands.specs.Work.{IsNoDesk, IsNotTaken, IsTaken}
use Rattle.acvp_commands.specs.declared.fault.Fault.{Fault}
use Rattle.acvp_commands.specs.declared.lines.Message.{Message}
use Rattle.acvp_commands.specs.declared.work.Task.{Task}
use Rattle.acvp_commands.specs.declared.work.Task.TheVariants as task

module _ {D : Type 0} {g : Ghosts D} where
  -- The tables in a file, which are open, stand for what these runs have made of the first records, one after another.
  -- It is kept under the seeds.
  pub record HasLived (first : Content) (runs : List Run) (seeds : List (List ℕ)) (tables : Held (FileStore D g))
      : Type 0 where
    pub records : Content
    pub life : Life runs first records
    pub kept : IsKept seeds records
    pub is_open : IsTrue (file_state tables).is_open
    pub stood : stands over_files tables records

  -- A run went over the tables that were open: they went through its turns, and the disk was clean to the end.
  pub record GoesOverFile (run : Run) (opened last : Held (FileStore D g)) : Type 0 where
    pub goes : GoesThrough (meaning_of over_files) run.keys run.turns run.answers opened last
    pub clean : HasCleanDisk (file_state last)
    pub happen : All (λ turn. CanHappen turn.event) run.turns

  -- the desk looked at the tables, or they were left alone
  abbrev pub AreLooked : Held (FileStore D g) → Held (FileStore D g) → Type 0
  AreLooked tables opened = (opened ≡ tables) ⊎ Looks (meaning_of over_files) {X = ⊤} {E = ⊤} (Ok tt) tables opened

  -- A command ran over what a connection shows: its tables were taken over, and a run went over them.
  pub record RunsOver (run : Run) (connection last : Held (FileStore D g)) : Type 0 where
    pub tables : Held (FileStore D g)
    pub opened : Held (FileStore D g)
    pub takes : TakesOver over_files connection tables
    pub looks : AreLooked tables opened
    pub is_open : IsTrue (file_state opened).is_open
    pub goes : GoesOverFile run opened last

  -- there is no desk over the tables under the keys that a task has, and they were looked at alone
  abbrev pub HasNoDesk : Task → Held (FileStore D g) → Held (FileStore D g) → Fault → Type 0
  HasNoDesk (task.Order it) old new fault = ⊥
  HasNoDesk (task.Serve keys service) old new fault = IsNoDesk (meaning_of over_files) keys old new fault

  -- Nothing was run: the tables weren't taken over, or there is no desk over them.
  abbrev pub IsNotBegun : Task → Held (FileStore D g) → Held (FileStore D g) → Result Message Fault → Type 0
  IsNotBegun it old new outcome =
      (fault : Fault) × (outcome ≡ Err fault)
      × (IsNotTaken over_files old new fault
      ⊎ ((tables : Held (FileStore D g)) × IsTaken over_files old tables × HasNoDesk it tables new fault))

-- an order names an account that can be, and has a secret of 32 bytes
abbrev pub CanBeDone : ℕ → Task → Type 0
CanBeDone moment (task.Order it) = CanHappen (order moment it)
CanBeDone moment (task.Serve keys service) = ⊤

-- the keys that a task has, or others
abbrev pub keys_of_task : Keys → Task → Keys
keys_of_task keys (task.Order it) = keys
keys_of_task keys (task.Serve own service) = own

module _ {D E : Type 0} {g : Ghosts D} {h : Ghosts E} where
  -- The next run begins. An open found what the last one had closed, or shows what a crash may leave of the connection
  -- that it held. Its tables were taken over, and the desk may have looked at them.
  pub record Resumes (closed : Bool) (last : Held (FileStore D g)) (opened : Held (FileStore E h)) : Type 0 where
    pub connection : Held (FileStore E h)
    pub tables : Held (FileStore E h)
    pub found : MatchBool closed (FindsClosed last connection) (ShowsLeft last connection)
    pub takes : TakesOver over_files connection tables
    pub looks : AreLooked tables opened
    pub is_open : IsTrue (file_state opened).is_open
