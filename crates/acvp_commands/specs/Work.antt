-- What is done with the database in a file, and what comes of it.
use Rattle.std.specs.Prelude.{◌≡◌, ◌⊎◌, ℕ, List, IsTrue, Result, Ok, Err, ⊤}
use Rattle.std.specs.declared.io.ErrorKind.{ErrorKind}
use Rattle.sqlite.specs.Held.{Held, state}
use Rattle.sqlite.specs.State.{HasCleanDisk}
use Rattle.sqlite_trees.specs.declared.store.Store.{Ghosts}
use Rattle.acvp_tables.specs.Content.{Content, greatest_epoch_of, no_rows}
use Rattle.acvp_tables.specs.Meaning.{Meaning}
use Rattle.acvp_tables.specs.State.{AreWellNumbered}
use Rattle.acvp_desk.specs.Orders.{IsOrder}
use Rattle.acvp_desk.specs.Serves.{Looks}
use Rattle.acvp_desk.specs.Desk.{HasSeeds}
use Rattle.acvp_desk.specs.declared.desk.NewFault.{NewFault}
use Rattle.acvp_desk.specs.declared.desk.NewFault.TheVariants as desk
use Rattle.acvp_desk.specs.declared.keys.Keys.{Keys}
use Rattle.acvp_desk.specs.declared.order.Order.TheVariants as order
use Rattle.acvp_commands.specs.Ordered.{IsCarriedOut}
use Rattle.acvp_commands.specs.Faults.{fault_of_adopt, fault_of_desk, fault_of_store}
use Rattle.acvp_commands.specs.Hosting.{Hosting}
use Rattle.acvp_commands.specs.Listening.{Listening as ListeningOf, ServesUntil}
use Rattle.acvp_commands.specs.declared.fault.Fault.{Fault}
use Rattle.acvp_commands.specs.declared.fault.Fault.TheVariants.{Memory}
use Rattle.acvp_commands.specs.declared.host.Service.{Service}
use Rattle.acvp_commands.specs.declared.lines.Message.{Message}
use Rattle.acvp_commands.specs.declared.lines.Message.TheVariants.{Ready, Migrated, Listening, Served}
use Rattle.acvp_http.specs.Source.{InputStream, OutputStream}
use Rattle.acvp_store.specs.Adopted.{IsAdopted}
use Rattle.acvp_store.specs.Connection.{IsHandedBack, LeavesNoMore, LeavesSo}
use Rattle.acvp_store.specs.Migrated.{IsMigrated}
use Rattle.acvp_store.specs.Schema.{no_schema}
use Rattle.acvp_store.specs.Store.{meaning_of, stands, IsNoStore, IsNoStoreOfAny, IsOldOrMigrated, IsOpen, TakesOver}
use Rattle.acvp_store.specs.Store.{TakesOverAny}
use Rattle.acvp_store.specs.declared.fault.AdoptFault.{AdoptFault}
use Rattle.acvp_store.specs.declared.fault.AdoptFault.TheVariants as adopted
use Rattle.acvp_tables.specs.declared.tables.StoreFault.{StoreFault}
use Rattle.acvp_commands.specs.Files.{HasNoKeys, HasNoSecret, HoldsKeys, HoldsSecret}
use Rattle.acvp_commands.specs.declared.asked.Deed.{Deed}
use Rattle.acvp_commands.specs.declared.asked.Deed.TheVariants as deed
use Rattle.acvp_commands.specs.declared.work.Task.{Task}
use Rattle.acvp_commands.specs.declared.work.Task.TheVariants as task
use Rattle.acvp_commands.specs.declared.work.Work.{Work}
use Rattle.acvp_commands.specs.declared.work.Work.TheVariants.{Make, Move, Take}

-- ---- what is to be done

module _ (holds : List ℕ → List ℕ → Type 0) where
  -- The work that the command line asks for. A secret and keys are those of the files that it names.
  abbrev pub IsWorkOf : Deed → Work → Type 0
  IsWorkOf deed.Init work = work ≡ Make
  IsWorkOf deed.Migrate work = work ≡ Move
  IsWorkOf (deed.AddAccount account path) work = (secret : List ℕ) × HoldsSecret holds path.now secret
      × (work ≡ Take (task.Order (order.AddAccount account secret)))
  IsWorkOf (deed.DisableAccount account) work = work ≡ Take (task.Order (order.DisableAccount account))
  IsWorkOf (deed.ApproveRequest request) work = work ≡ Take (task.Order (order.ApproveRequest request))
  IsWorkOf (deed.RejectRequest request) work = work ≡ Take (task.Order (order.RejectRequest request))
  IsWorkOf (deed.Serve path service) work =
      (keys : Keys) × HoldsKeys holds path.now keys × (work ≡ Take (task.Serve keys service))

module _ (holds : List ℕ → List ℕ → Type 0) (fails : List ℕ → ErrorKind → Type 0) where
  -- there is no work, since a file that the command line names has no secret, or no keys
  abbrev pub LacksFile : Deed → Fault → Type 0
  LacksFile (deed.AddAccount account path) told = HasNoSecret holds fails path.now told
  LacksFile (deed.Serve path service) told = HasNoKeys holds fails path.now told
  LacksFile _ told = ⊥

-- an order that is carried out names an account by a number from 1 to 9999, where it names one
abbrev pub IsTask : Task → Type 0
IsTask (task.Order order) = IsOrder order
IsTask (task.Serve keys service) = ⊤

abbrev pub IsWork : Work → Type 0
IsWork Make = ⊤
IsWork Move = ⊤
IsWork (Take task) = IsTask task

-- ---- what comes of it

module _ {T : Type 0} (meaning : Meaning T) where
  open meaning use {stands, is_clean}

  -- The tables were looked at, and there is no desk over them: the keys lack the seed of a vector set, or the store
  -- refused what was asked of it, or memory.
  pub record RefusesKeys (keys : Keys) (refused : NewFault) (old new : T) : Type 0 where
    pub looks : Looks meaning {X = ⊤} {E = ⊤} (Err tt) old new
    pub epoch : refused ≡ desk.Epoch → is_clean new → (c : Content) → AreWellNumbered c → stands old c
        → ¬ HasSeeds keys.seed (greatest_epoch_of c.sets)

  abbrev pub IsNoDesk : Keys → T → T → Fault → Type 0
  IsNoDesk keys old new fault =
      (refused : NewFault) × RefusesKeys keys refused old new × (fault ≡ fault_of_desk refused)

module _ {T H P I O A : Type 0} (meaning : Meaning T) (hosting : Hosting H P) (listening : ListeningOf P I O A)
    (held : I → InputStream) (sent : O → OutputStream) where
  -- It was said that the port is open, and then it was served. In the end it is said how many connections there were.
  abbrev pub IsServedAt : Keys → Service → H → H → P → T → P → T → Result Message Fault → Type 0
  IsServedAt keys service opened told before old after new (Ok message) =
      hosting.prints opened told (Listening service.port)
      × ((served : ℕ) × ServesUntil meaning listening held sent keys service.count before old after new (Ok served)
      × (message ≡ Served served))
  IsServedAt keys service opened told before old after new (Err fault) =
      (hosting.fails opened told (Listening service.port) fault × (after ≡ before) × (new ≡ old))
      ⊎ (hosting.prints opened told (Listening service.port)
      × ServesUntil meaning listening held sent keys service.count before old after new (Err fault))

  -- The port was opened, served and finished, whatever came of it. Or it couldn't be opened, or there was no memory
  -- before that, and then nothing changed.
  abbrev pub IsServed : Keys → Service → H → H → T → T → Result Message Fault → Type 0
  IsServed keys service first last old new outcome =
      ((opened : H) × (told : H) × (before : P) × (after : P) × (ended : P) × hosting.opens first opened service before
      × IsServedAt keys service opened told before old after new outcome × hosting.finishes told last after ended)
      ⊎ ((new ≡ old) × ((fault : Fault) × (outcome ≡ Err fault)
      × (hosting.refuses first last service fault ⊎ ((last ≡ first) × (fault ≡ Memory)))))

  -- The order was carried out once. Or the tables were looked at, and then served or found to be of other keys.
  abbrev pub IsTaskDone : Task → H → H → T → T → Result Message Fault → Type 0
  IsTaskDone (task.Order order) first last old new outcome =
      IsCarriedOut meaning outcome old new order × (last ≡ first)
  IsTaskDone (task.Serve keys service) first last old new outcome =
      ((mid : T) × Looks meaning {X = ⊤} {E = ⊤} (Ok tt) old mid × IsServed keys service first last mid new outcome)
      ⊎ ((fault : Fault) × IsNoDesk meaning keys old new fault × (outcome ≡ Err fault) × (last ≡ first))

module _ {S : Type 0} (g : Ghosts S) where
  -- the tables of a new store are there, where there was none
  pub record IsMade (old new : Held S) : Type 0 where
    pub fresh : (state g old).now.schema ≡ no_schema
    pub begins : IsTrue (state g new).is_open → stands g new no_rows
    pub stays_open : HasCleanDisk (state g new) → IsTrue (state g old).is_open → IsOpen g new

  -- the tables were taken over as they were, and stand for what they stood for
  pub record IsTaken (old new : Held S) : Type 0 where
    pub adopted : IsTrue (state g new).is_open → IsAdopted (state g old) (state g new)
    pub found : TakesOver g old new
    pub stays_open : HasCleanDisk (state g new) → IsTrue (state g old).is_open × IsOpen g new

  -- the tables were moved to today's schema, and stand for what they stood for; a crash finds them so
  pub record IsMoved (old new : Held S) : Type 0 where
    pub migrated : IsTrue (state g new).is_open → IsMigrated (state g old) (state g new)
    pub found : TakesOverAny g old new
    pub stays_open : HasCleanDisk (state g new) → IsTrue (state g old).is_open × IsOpen g new
    pub settled : LeavesSo (state g old) (state g new) (λ db. db ≡ (state g new).now.trees)

  -- a store refused it, and all is as it was
  abbrev pub IsRefusedBack : Held S → Held S → Type 0
  IsRefusedBack old new = IsTrue (state g new).is_open → IsHandedBack (state g old) (state g new)

  -- Tables couldn't be made.
  abbrev pub IsNotMade : Held S → Held S → Fault → Type 0
  IsNotMade old new fault =
      IsRefusedBack old new × ((refused : StoreFault) × (fault ≡ fault_of_store refused))

  -- They weren't taken over, and a crash finds what it found. If they are told to be others, they are no store's.
  pub record IsNotTaken (old new : Held S) (fault : Fault) : Type 0 where
    pub refused : AdoptFault
    pub told : fault ≡ fault_of_adopt refused
    pub back : IsRefusedBack old new
    pub none : refused ≡ adopted.Schema → IsNoStore g old new
    pub left : LeavesNoMore (state g old) (state g new)

  -- They weren't moved, and a crash finds what it found or what is moved whole. If they are told to be others, they are
  -- no store's of any version.
  pub record IsNotMoved (old new : Held S) (fault : Fault) : Type 0 where
    pub refused : AdoptFault
    pub told : fault ≡ fault_of_adopt refused
    pub back : IsRefusedBack old new
    pub none : refused ≡ adopted.Schema → IsNoStoreOfAny g old new
    pub left : LeavesSo (state g old) (state g new) (IsOldOrMigrated (state g old).committed.trees)

module _ {S H P I O A : Type 0} (g : Ghosts S) (hosting : Hosting H P) (listening : ListeningOf P I O A)
    (held : I → InputStream) (sent : O → OutputStream) where
  -- the tables were taken over, and on them the task was done; or they weren't
  abbrev pub IsTakenOver : Task → H → H → Held S → Held S → Result Message Fault → Type 0
  IsTakenOver it first last old new outcome =
      ((mid : Held S) × IsTaken g old mid
      × IsTaskDone (meaning_of g) hosting listening held sent it first last mid new outcome)
      ⊎ ((fault : Fault) × IsNotTaken g old new fault × (outcome ≡ Err fault) × (last ≡ first))

  -- what comes of each work, and its outcome; only serving asks something of the machine
  abbrev pub IsDone : Work → H → H → Held S → Held S → Result Message Fault → Type 0
  IsDone Make first last old new (Ok message) = IsMade g old new × (message ≡ Ready) × (last ≡ first)
  IsDone Make first last old new (Err fault) = IsNotMade g old new fault × (last ≡ first)
  IsDone Move first last old new (Ok message) = IsMoved g old new × (message ≡ Migrated) × (last ≡ first)
  IsDone Move first last old new (Err fault) = IsNotMoved g old new fault × (last ≡ first)
  IsDone (Take it) first last old new outcome = IsTakenOver it first last old new outcome
