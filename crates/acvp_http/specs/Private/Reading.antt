-- What reads of a script do, and why they stop.
use Rattle.std.specs.Prelude.{◌≡◌, ◌≢◌, ◌≤◌, ◌<◌, ℕ, List, [], ◌∷◌, ◌++◌, length, true, false, IfSome}
use Rattle.acvp_http.specs.declared.script.ScriptFault.{ScriptFault}
use Rattle.acvp_http.specs.declared.script.ScriptFault.TheVariants.{Read, Write, Syntax, Limit, Memory}
use Rattle.acvp_http.specs.declared.source.ReadFault.{ReadFault}
use Rattle.acvp_http.specs.declared.source.ReadFault.TheVariants.{Failed, TooOften}
use Rattle.acvp_http.specs.declared.reading.ScriptEvent.{ScriptEvent}
use Rattle.acvp_http.specs.declared.reading.ScriptEvent.TheVariants as script
use Rattle.acvp_http.specs.Event.{Event, request, order}
use Rattle.acvp_http.specs.Script.{LeavesGrammar}
use Rattle.acvp_http.specs.Source.{InputStream, Gives}
use Rattle.acvp_http.specs.Private.Lines.{Lacks}

-- what was taken of the input before the stop
abbrev pub TakesPart : InputStream → InputStream → (List ℕ → Type 0) → Type 0
TakesPart old new Is = (part : List ℕ) × Gives old new part × Is part

-- a read has failed, or there were as many as there may be
abbrev pub StopsReading : ReadFault → InputStream → ℕ → Type 0
StopsReading Failed new limit = new.failed ≡ true
StopsReading TooOften new limit = (new.failed ≡ false) × (limit ≤ new.reads)

-- the fault of a script whose reader stops so
abbrev pub stopped_by : ReadFault → ScriptFault
stopped_by Failed = Read
stopped_by TooOften = Limit

-- the fault of a script is that its reader stops
abbrev pub StopsScript : ScriptFault → InputStream → ℕ → Type 0
StopsScript Read new limit = new.failed ≡ true
StopsScript Limit new limit = (new.failed ≡ false) × (limit ≤ new.reads)
StopsScript Write new limit = ⊥
StopsScript Syntax new limit = ⊥
StopsScript Memory new limit = ⊥

-- there is input, and no line stands whole at its front
abbrev pub HasNoLine : List ℕ → Type 0
HasNoLine input =
    (input ≢ [])
    × ((line rest : List ℕ) → length line ≤ 101 → Lacks 10 line → input ≡ line ++ 10 ∷ rest → ⊥)

-- the same, or the known input has no line at its front
abbrev pub StopsLine : InputStream → ScriptFault → InputStream → ℕ → Type 0
StopsLine old Syntax new limit = (new.failed ≡ false) × IfSome old.held HasNoLine
StopsLine old fault new limit = StopsScript fault new limit

-- a read has failed or there were too many, or the known input is shorter than this
abbrev pub StopsFilling : ℕ → InputStream → ScriptFault → InputStream → ℕ → Type 0
StopsFilling size old Syntax new limit = (new.failed ≡ false) × IfSome old.held (λ input. length input < size)
StopsFilling size old fault new limit = StopsScript fault new limit

-- as many bytes and a line feed don't stand at the front of the input
abbrev pub HasNoBody : ℕ → List ℕ → Type 0
HasNoBody size input = (bytes rest : List ℕ) → length bytes ≡ size → input ≡ bytes ++ 10 ∷ rest → ⊥

-- a read has failed or there were too many, memory was refused, or the known input has no such bytes at its front
abbrev pub StopsBody : ℕ → InputStream → ScriptFault → InputStream → ℕ → Type 0
StopsBody size old Syntax new limit = (new.failed ≡ false) × IfSome old.held (HasNoBody size)
StopsBody size old Memory new limit = new.failed ≡ false
StopsBody size old fault new limit = StopsScript fault new limit

-- the event that was read
abbrev pub event_of : ScriptEvent → Event
event_of (script.Request moment bytes) = request moment bytes.items
event_of (script.Order moment ordered) = order moment ordered

-- a read has failed or there were too many, memory was refused, or no event stands at the front of the known input
abbrev pub StopsEvent : InputStream → ScriptFault → InputStream → ℕ → Type 0
StopsEvent old Syntax new limit = (new.failed ≡ false) × IfSome old.held LeavesGrammar
StopsEvent old Memory new limit = new.failed ≡ false
StopsEvent old fault new limit = StopsScript fault new limit
