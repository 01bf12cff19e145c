-- The run of a script: what it makes of the records and of the input, and what it writes.
use Rattle.std.specs.Prelude.{◌≡◌, ◌≢◌, ◌⊎◌, ◌≤◌, ◌<◌, ℕ, List, [], ◌∷◌, ◌++◌, length, map, Bool, true, false, Option}
use Rattle.std.specs.Prelude.{None, Some, Result, Ok, Err, ⊤}
use Rattle.std.specs.Io.KnownBytes.{IsAtEnd}
use Rattle.acvp_desk.specs.declared.keys.Keys.{Keys}
use Rattle.acvp_tables.specs.Content.{Content, no_rows}
use Rattle.acvp_tables.specs.Meaning.{Meaning}
use Rattle.acvp_http.specs.declared.script.ScriptFault.{ScriptFault}
use Rattle.acvp_http.specs.declared.script.ScriptFault.TheVariants.{Read, Write, Syntax, Limit, Memory}
use Rattle.acvp_http.specs.Event.{Event, EventAnswer, Turn}
use Rattle.acvp_http.specs.Left.{LeavesRun}
use Rattle.acvp_http.specs.Promise.{GoesAsPromised, IsPromised}
use Rattle.acvp_http.specs.Script.{IsScript, HasNoEvent, LeavesGrammar, answer_text, output_of}
use Rattle.acvp_http.specs.Serve.{GoesThrough}
use Rattle.acvp_http.specs.Source.{InputStream, OutputStream, Gives, Gets, ReadsTooOften}

-- the events of the turns
abbrev pub events_of : List Turn → List Event
events_of turns = map (λ turn. turn.event) turns

-- The known input begins with the text, and this holds of what comes after it.
abbrev pub BeginsWith : Option (List ℕ) → List ℕ → (List ℕ → Type 0) → Type 0
BeginsWith None text After = ⊤
BeginsWith (Some input) text After = (rest : List ℕ) × (input ≡ text ++ rest) × After rest

-- What was taken of the input behind the text has no whole event at its front.
abbrev pub TakesInPart : InputStream → InputStream → List ℕ → Type 0
TakesInPart input left text = (part : List ℕ) × HasNoEvent part × Gives input left (text ++ part)

-- the most events of a run, and the most reads
abbrev pub most_events : ℕ
most_events = 100000

abbrev pub most_reads : ℕ
most_reads = 1000000000

-- The two reasons for Limit: there were 100000 turns, and the known input goes on after their script; or the reads were
-- too many.
abbrev pub ReachesLimit : InputStream → InputStream → List Turn → List ℕ → Type 0
ReachesLimit input left turns text =
    ((length turns ≡ most_events) × BeginsWith input.held text (λ rest. rest ≢ []))
    ⊎ ReadsTooOften most_reads input left

-- How much of the input was taken by a run whose turns have this script, what comes after the script, and how many
-- turns there are: after 100000 events nothing is read as an event.
abbrev pub StopsAfter : InputStream → InputStream → List Turn → List ℕ → Result ℕ ScriptFault → Type 0
StopsAfter input left turns text (Ok count) = (count ≡ length turns) × Gives input left text × IsAtEnd left.held
StopsAfter input left turns text (Err Syntax) =
    (length turns < most_events) × TakesInPart input left text × BeginsWith input.held text LeavesGrammar
StopsAfter input left turns text (Err Read) = TakesInPart input left text
StopsAfter input left turns text (Err Write) = Gives input left text
StopsAfter input left turns text (Err Limit) = TakesInPart input left text × ReachesLimit input left turns text
StopsAfter input left turns text (Err Memory) = (length turns < most_events) × TakesInPart input left text

-- the output of all answers but the last, and a front of the last one's
abbrev pub WritesInPart : OutputStream → OutputStream → List EventAnswer → Type 0
WritesInPart old new answers =
    (earlier : List EventAnswer) × (last : EventAnswer) × (answers ≡ earlier ++ last ∷ [])
    × ((front : List ℕ) × (rest : List ℕ) × (answer_text last ≡ front ++ rest)
    × Gets old new (output_of earlier ++ front))

-- what is written of the answers
abbrev pub WritesAnswers : OutputStream → OutputStream → List EventAnswer → Result ℕ ScriptFault → Type 0
WritesAnswers old new answers (Ok count) = Gets old new (output_of answers)
WritesAnswers old new answers (Err Write) = WritesInPart old new answers
WritesAnswers old new answers (Err Read) = Gets old new (output_of answers)
WritesAnswers old new answers (Err Syntax) = Gets old new (output_of answers)
WritesAnswers old new answers (Err Limit) = Gets old new (output_of answers)
WritesAnswers old new answers (Err Memory) = Gets old new (output_of answers)

module _ {T : Type 0} (meaning : Meaning T) where
  -- The input begins with the script of some turns, which the tables went through and whose answers are written; `left`
  -- is what was not taken of it.
  abbrev pub RunsTurns : Keys → T → T → InputStream → InputStream → OutputStream → OutputStream → Result ℕ ScriptFault
      → Type 0
  RunsTurns keys tables last input left old new result =
      (turns : List Turn) × (answers : List EventAnswer) × (text : List ℕ)
      × GoesThrough meaning keys turns answers tables last × IsScript (events_of turns) text
      × StopsAfter input left turns text result × WritesAnswers old new answers result
      × (length turns ≤ most_events)

  -- The same, and the promise of the server of these turns and answers, and what a crash finds after them.
  abbrev pub RunsScript : Keys → T → T → InputStream → InputStream → OutputStream → OutputStream → Result ℕ ScriptFault
      → Type 0
  RunsScript keys tables last input left old new result =
      (turns : List Turn) × (answers : List EventAnswer) × (text : List ℕ)
      × GoesAsPromised meaning keys turns answers tables last × LeavesRun meaning keys turns answers tables last
      × GoesThrough meaning keys turns answers tables last × IsScript (events_of turns) text
      × StopsAfter input left turns text result × WritesAnswers old new answers result
      × (length turns ≤ most_events)

-- Over no row at all: the input begins with the script of some turns, whose answers are written, and of these turns,
-- answers and the records that they leave all is promised.
abbrev pub RunsFromNothing : Keys → InputStream → InputStream → OutputStream → OutputStream → Result ℕ ScriptFault
    → Type 0
RunsFromNothing keys input left old new result =
    (turns : List Turn) × (answers : List EventAnswer) × (text : List ℕ) × (next : Content)
    × IsPromised keys turns answers no_rows next × IsScript (events_of turns) text
    × StopsAfter input left turns text result × WritesAnswers old new answers result × (length turns ≤ most_events)

-- whether the answer is that the reader, or the writer, has failed
abbrev pub is_read_answer : Result ℕ ScriptFault → Bool
is_read_answer (Ok count) = false
is_read_answer (Err Read) = true
is_read_answer (Err Write) = false
is_read_answer (Err Syntax) = false
is_read_answer (Err Limit) = false
is_read_answer (Err Memory) = false

abbrev pub is_write_answer : Result ℕ ScriptFault → Bool
is_write_answer (Ok count) = false
is_write_answer (Err Read) = false
is_write_answer (Err Write) = true
is_write_answer (Err Syntax) = false
is_write_answer (Err Limit) = false
is_write_answer (Err Memory) = false
