-- What a command does with the database of a name, in which order, and what it says at its end.
use Rattle.std.specs.Prelude.{◌≡◌, ◌⊎◌, ◌||◌, is_some, ℕ, Bool, true, false, List, [], ◌∷◌, Option, Some, None}
use Rattle.std.specs.Prelude.{Result, Ok, Err}
use Rattle.sqlite.specs.Held.{Held}
use Rattle.sqlite_trees.specs.declared.store.Store.{Ghosts}
use Rattle.acvp_desk.specs.declared.order.Order.{Order}
use Rattle.acvp_http.specs.Event as event
use Rattle.acvp_http.specs.Script.{IsWritten}
use Rattle.acvp_http.specs.Source.{InputStream, OutputStream}
use Rattle.acvp_commands.specs.Hosting.{Hosting}
use Rattle.acvp_commands.specs.Listening.{Listening}
use Rattle.acvp_commands.specs.Ordered.{HasShortNumbers}
use Rattle.acvp_commands.specs.Work.{IsDone}
use Rattle.acvp_commands.specs.declared.fault.Fault.{Fault}
use Rattle.acvp_commands.specs.declared.fault.Fault.TheVariants.{Unavailable, Memory}
use Rattle.acvp_commands.specs.declared.lines.Message.{Message}
use Rattle.acvp_commands.specs.declared.work.Task.TheVariants as task
use Rattle.acvp_commands.specs.declared.work.Work.{Work}
use Rattle.acvp_commands.specs.declared.work.Work.TheVariants.{Make, Move, Take}
use Rattle.acvp_opening.specs.Answers.{Means}
use Rattle.acvp_opening.specs.Steps.{Step, LogSought, Opened, NotOpened, Closed, LetGo, LogRemoved}
use Rattle.acvp_opening.specs.Steps.{Asked, AnswerLost, MomentRead, Worked}
use Rattle.acvp_opening.specs.declared.databases.Unopened.{Unopened}
use Rattle.acvp_opening.specs.declared.databases.Unopened.TheVariants.{Taken, Failed}
use Rattle.acvp_opening.specs.declared.command.Said.{Said}
use Rattle.acvp_opening.specs.declared.command.Said.TheVariants.{Line, Relayed}

-- only tables that are made may be in a file that isn't there yet
abbrev pub may_be_made : Work → Bool
may_be_made Make = true
may_be_made _ = false

-- what comes of the work, as what the command says
abbrev pub said_at_end : Result Message Fault → Result Said Fault
said_at_end (Ok message) = Ok (Line message)
said_at_end (Err fault) = Err fault

-- ---- over a connection

-- What it is to prepare a database for what is done with it, and to take out of it again what was put in. Of these
-- nothing can be said here; but whoever has the work done can show only by its calls that they were done.
pub record Preparation (H A : Type 0) : Type 1 where
  -- it is prepared for this work, and something was put in for that, or nothing
  pub prepares : {S : Type 0} → H → H → Work → Held S → Held S → Option A → Type 0
  -- it can't be prepared
  pub refuses : {S : Type 0} → H → H → Work → Held S → Held S → Fault → Type 0
  -- this was taken out of it again
  pub takes_back : {S : Type 0} → H → H → A → Held S → Held S → Type 0
  -- it was said that a port is open, so that clients may have been served
  pub has_served : H → Bool

-- an order, and tables that are made, need nothing that is put in before
abbrev pub is_prepared : Work → Bool
is_prepared Make = false
is_prepared Move = true
is_prepared (Take (task.Order order)) = false
is_prepared (Take (task.Serve keys service)) = true

module _ {S H A : Type 0} (preparation : Preparation H A) where
  open preparation use {prepares, takes_back}

  -- it was prepared for this work, or it stayed as it was
  abbrev pub IsPrepared : Bool → H → H → Work → Held S → Held S → Option A → Type 0
  IsPrepared true first begun work old ready added = prepares first begun work old ready added
  IsPrepared false first begun work old ready added = (begun ≡ first) × (ready ≡ old) × (added ≡ None)

  -- what was put in is taken out again if no port was said to be open; else all stays
  abbrev pub MayTakeBack : Option A → Bool → H → H → Held S → Held S → Type 0
  MayTakeBack (Some added) false ended last worked new = takes_back ended last added worked new
  MayTakeBack (Some added) true ended last worked new = (last ≡ ended) × (new ≡ worked)
  MayTakeBack None has_served ended last worked new = (last ≡ ended) × (new ≡ worked)

module _ {S H P I O A R : Type 0} (g : Ghosts S) (hosting : Hosting H P) (preparation : Preparation H R)
    (listening : Listening P I O A) (held : I → InputStream) (sent : O → OutputStream) where
  open preparation use {refuses, has_served}

  -- It was prepared, if it has to be, and then the work was done over it. What was put in is taken out again if no port
  -- was said to be open: then nobody was served. It is wanted closed, even if the work isn't done, if clients may have
  -- been served or something was put in.
  pub record IsPreparedAndDone (work : Work) (first last : H) (old new : Held S) (outcome : Result Message Fault)
      (wanted : Bool) : Type 0 where
    pub begun : H
    pub ended : H
    pub ready : Held S
    pub worked : Held S
    pub added : Option R
    pub prepared : IsPrepared preparation (is_prepared work) first begun work old ready added
    pub is_done : IsDone g hosting listening held sent work begun ended ready worked outcome
    pub taken_back : MayTakeBack preparation added (has_served ended) ended last worked new
    pub told : wanted ≡ has_served ended || is_some added

  -- the same, or it couldn't be prepared
  abbrev pub IsWorked : Work → H → H → Held S → Held S → Result Message Fault → Bool → Type 0
  IsWorked work first last old new outcome wanted = IsPreparedAndDone work first last old new outcome wanted
      ⊎ ((fault : Fault) × (is_prepared work ≡ true) × refuses first last work old new fault × (outcome ≡ Err fault)
      × (wanted ≡ false))

-- ---- over a database that is open

-- a database whose work is done is closed, and another one if that is wanted
abbrev pub closes : Result Message Fault → Bool → Bool
closes (Ok message) wanted = true
closes (Err fault) wanted = wanted

module _ {O : Type 0} where
  -- it was given up as it is; first the log was taken away, if there was none before
  abbrev pub IsGivenUp : List ℕ → Bool → O → List (Step O) → Type 0
  IsGivenUp name true last steps = steps ≡ LogRemoved name ∷ LetGo last ∷ []
  IsGivenUp name false last steps = steps ≡ LetGo last ∷ []

  -- it was closed, or given up as it is
  abbrev pub IsEnded : List ℕ → Bool → O → Bool → List (Step O) → Type 0
  IsEnded name is_new_log last true steps = steps ≡ Closed last ∷ []
  IsEnded name is_new_log last false steps = IsGivenUp name is_new_log last steps

  -- The work was done over the database that was opened, and then this was closed or given up. What came of the work is
  -- what the command says.
  abbrev pub IsOver : List ℕ → Work → Bool → O → Result Said Fault → List (Step O) → Type 0
  IsOver name work is_new_log opened result steps =
      (ended : O) × (outcome : Result Message Fault) × (wanted : Bool) × (rest : List (Step O))
      × (steps ≡ Worked opened work outcome wanted ended ∷ rest)
      × IsEnded name is_new_log ended (closes outcome wanted) rest × (result ≡ said_at_end outcome)

-- ---- by the server that has the database

-- the answer of the server is said; where nobody answers, the database is unavailable
abbrev pub IsSaid : Option (List ℕ) → Result Said Fault → Type 0
IsSaid (Some text) (Ok (Relayed answer)) = Means text answer
IsSaid None (Err fault) = fault ≡ Unavailable
IsSaid _ _ = ⊥

module _ {O : Type 0} where
  -- the line was sent, and its answer is said; or of its answer nothing can be said, for this fault
  abbrev pub IsAnswered : List ℕ → List ℕ → Result Said Fault → List (Step O) → Type 0
  IsAnswered name line result steps =
      ((answer : Option (List ℕ)) × IsSaid answer result × (steps ≡ Asked name line answer ∷ []))
      ⊎ ((fault : Fault) × (result ≡ Err fault) × (steps ≡ AnswerLost name line fault ∷ []))

  -- what was sent is the line of the order at the moment that the clock told
  abbrev pub IsSent : List ℕ → Order → ℕ → Result Said Fault → List (Step O) → Type 0
  IsSent name order moment result steps = (line : List ℕ)
      × (HasShortNumbers moment order → IsWritten (event.order moment order) line) × IsAnswered name line result steps

  -- the clock was read, and then the line was sent; or there was no memory for it
  abbrev pub IsOrdered : List ℕ → Order → Result Said Fault → List (Step O) → Type 0
  IsOrdered name order result steps = (moment : ℕ) × (rest : List (Step O)) × (steps ≡ MomentRead moment ∷ rest)
      × (IsSent name order moment result rest ⊎ ((rest ≡ []) × (result ≡ Err Memory)))

  -- only an order can be carried out by the server
  abbrev pub IsRelayed : List ℕ → Work → Result Said Fault → List (Step O) → Type 0
  IsRelayed name (Take (task.Order order)) result steps = IsOrdered name order result steps
  IsRelayed name _ result steps = (steps ≡ []) × (result ≡ Err Unavailable)

  -- another process has the database, or it can't be opened, which is told
  abbrev pub IsUnopened : List ℕ → Work → Unopened → Result Said Fault → List (Step O) → Type 0
  IsUnopened name work Taken result steps = IsRelayed name work result steps
  IsUnopened name work (Failed fault) result steps = (steps ≡ []) × (result ≡ Err fault)

-- ---- the whole command

module _ {O : Type 0} where
  -- the database was opened, worked on, and given up
  abbrev pub IsOpenedAndDone : List ℕ → Work → Bool → Result Said Fault → List (Step O) → Type 0
  IsOpenedAndDone name work is_new_log result steps = (opened : O) × (rest : List (Step O))
      × (steps ≡ Opened name (may_be_made work) opened ∷ rest) × IsOver name work is_new_log opened result rest

  -- it wasn't opened
  abbrev pub IsNotOpened : List ℕ → Work → Result Said Fault → List (Step O) → Type 0
  IsNotOpened name work result steps = (why : Unopened) × (rest : List (Step O))
      × (steps ≡ NotOpened name (may_be_made work) why ∷ rest) × IsUnopened name work why result rest

  -- the database of this name, and no other, was opened, worked on and given up; or it wasn't opened
  abbrev pub IsCommand : List ℕ → Work → Result Said Fault → List (Step O) → Type 0
  IsCommand name work result steps = (is_new_log : Bool) × (rest : List (Step O))
      × (steps ≡ LogSought name is_new_log ∷ rest)
      × (IsOpenedAndDone name work is_new_log result rest ⊎ IsNotOpened name work result rest)
