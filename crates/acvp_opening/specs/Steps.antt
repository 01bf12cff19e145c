-- What is done with the database of a name.
use Rattle.std.specs.Prelude.{ℕ, Bool, List, Option, Result}
use Rattle.acvp_commands.specs.declared.fault.Fault.{Fault}
use Rattle.acvp_commands.specs.declared.lines.Message.{Message}
use Rattle.acvp_commands.specs.declared.work.Work.{Work}
use Rattle.acvp_opening.specs.declared.databases.Unopened.{Unopened}

-- what is done, and what is seen by it
pub data Step (O : Type 0) : Type 0 where
  -- whether there is no log beside the file of this name
  LogSought : List ℕ → Bool → Step O
  -- the database of this name was opened; it may have been made, or had to be there
  Opened : List ℕ → Bool → O → Step O
  -- it wasn't opened
  NotOpened : List ℕ → Bool → Unopened → Step O
  -- This work was done over the database that was opened, with this outcome. The database is wanted closed even if the
  -- work isn't done, or not; and this is what became of it.
  Worked : O → Work → Result Message Fault → Bool → O → Step O
  -- what its log holds was to be copied to its file, and then it was given up
  Closed : O → Step O
  -- it was given up as it is
  LetGo : O → Step O
  -- the log beside the file of this name was to be taken away, if it holds nothing
  LogRemoved : List ℕ → Step O
  -- the clock was read
  MomentRead : ℕ → Step O
  -- the server that has the database of this name was sent a line, and answered this, or nobody answered
  Asked : List ℕ → List ℕ → Option (List ℕ) → Step O
  -- it was to be sent a line, and for this fault nothing can be said of its answer, nor whether it got the line
  AnswerLost : List ℕ → List ℕ → Fault → Step O
