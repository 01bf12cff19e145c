-- One request of a connection: what is taken of its input, what is written, and what becomes of the records.
use Rattle.std.specs.Prelude.{◌≡◌, ◌<◌, ◌⊎◌, ◌↔◌, ℕ, List, [], Bool, true, false, IsTrue, None, IfSome, Result, Ok, Err}
use Rattle.acvp_policy.specs.declared.rule.Rule.TheVariants.{Unavailable}
use Rattle.acvp_tables.specs.Meaning.{Meaning}
use Rattle.acvp_desk.specs.Answer.{end_of_moments}
use Rattle.acvp_desk.specs.declared.keys.Keys.{Keys}
use Rattle.acvp_http.specs.declared.connection.ServeFault.{ServeFault}
use Rattle.acvp_http.specs.declared.connection.ServeFault.TheVariants.{Read, Write, Turns}
use Rattle.acvp_http.specs.Needed.{IsNeededAt, IsWithinNeeded}
use Rattle.acvp_http.specs.Reply.{refusal}
use Rattle.acvp_http.specs.Event.{replied}
use Rattle.acvp_http.specs.Serve.{RequestTaken, ShowsRequest, StaysOpen}
use Rattle.acvp_http.specs.Source.{InputStream, OutputStream, Gives, Gets, GetsFront, ReadsTooOften}

-- the most reads for one request
abbrev pub most_request_reads : ℕ
most_request_reads = 2200000

-- the reply of a server that is unavailable
abbrev pub unavailable_reply : List ℕ
unavailable_reply = refusal None Unavailable

-- Some of a known input may be taken, and nothing behind what its request needs.
abbrev pub TakesWithin : InputStream → InputStream → Type 0
TakesWithin input left =
    (part : List ℕ) × Gives input left part × IfSome input.held (λ bytes. IsWithinNeeded bytes part)

-- The request of a moment that is served wasn't handled: the records are as they were, nothing is written, and some of
-- what it needs may be taken.
abbrev pub IsUnhandled : {T : Type 0} → ℕ → InputStream → InputStream → OutputStream → OutputStream → T → T → Type 0
IsUnhandled moment input left written out old new =
    (moment < end_of_moments) × (new ≡ old) × Gets written out [] × TakesWithin input left

module _ {T : Type 0} (meaning : Meaning T) where
  -- What was taken is what the request of the known input needs, and nothing behind it. The reply, and what becomes of
  -- the records, are those of the whole input as a request, or it is unavailable. The reply has its form, whatever the
  -- tables stand for; and tables that were open are, unless it is unavailable.
  abbrev pub AnswersNeeded : Keys → ℕ → InputStream → InputStream → List ℕ → T → T → Type 0
  AnswersNeeded keys moment input left reply old new =
      (front : List ℕ) × Gives input left front × RequestTaken meaning keys moment front reply old new
      × IfSome input.held (λ bytes. IsNeededAt moment bytes front
      × RequestTaken meaning keys moment bytes reply old new)
      × ShowsRequest meaning moment front reply old new
      × StaysOpen meaning (replied reply) old new

  -- Or memory for what it needs was refused: the records stay, and some of it may be taken.
  abbrev pub AnswersNothing : ℕ → InputStream → InputStream → List ℕ → T → T → Type 0
  AnswersNothing moment input left reply old new =
      (moment < end_of_moments) × (reply ≡ unavailable_reply) × (new ≡ old) × TakesWithin input left

  abbrev pub AnswersInput : Keys → ℕ → InputStream → InputStream → List ℕ → T → T → Type 0
  AnswersInput keys moment input left reply old new =
      AnswersNeeded keys moment input left reply old new ⊎ AnswersNothing moment input left reply old new

  -- The request is answered, and it is told whether the reply was that of a server that is unavailable. Or it wasn't
  -- handled.
  abbrev pub ServesOne : Keys → ℕ → InputStream → InputStream → OutputStream → OutputStream → T → T
      → Result Bool ServeFault → Type 0
  ServesOne keys moment input left written out old new (Ok unavailable) =
      (reply : List ℕ) × AnswersInput keys moment input left reply old new × Gets written out reply
      × (IsTrue unavailable ↔ (reply ≡ unavailable_reply))
  ServesOne keys moment input left written out old new (Err Write) =
      (reply : List ℕ) × AnswersInput keys moment input left reply old new × GetsFront written out reply
  ServesOne keys moment input left written out old new (Err Read) = IsUnhandled moment input left written out old new
  ServesOne keys moment input left written out old new (Err Turns) =
      IsUnhandled moment input left written out old new × ReadsTooOften most_request_reads input left

-- whether the fault is that the reader, or the writer, has failed
abbrev pub is_read_end : {X : Type 0} → Result X ServeFault → Bool
is_read_end (Ok done) = false
is_read_end (Err Read) = true
is_read_end (Err Write) = false
is_read_end (Err Turns) = false

abbrev pub is_write_end : {X : Type 0} → Result X ServeFault → Bool
is_write_end (Ok done) = false
is_write_end (Err Read) = false
is_write_end (Err Write) = true
is_write_end (Err Turns) = false
