-- Lemmas on runs that go on by one turn.
use Rattle.std.proofs.Common.{◌≡◌, ◌≢◌, ◌<◌, ◌≤◌, ◌+◌, ◌-◌, ◌^◌, min, inr, ℕ, true, List, [], ◌∷◌, ◌++◌, length, Option}
use Rattle.std.proofs.Common.{None, Some, Err, subst, arith, sym, ◌∙◌, ap, refl, append_assoc, length-append}
use Rattle.std.proofs.lemmas.Bool.{le-leb}
use Rattle.std.proofs.lemmas.List.{append-nil}
use Rattle.std.specs.Io.KnownBytes.{Appends, Consumes}
use Rattle.hex.proofs.HexLemmas.{decode_of-ok}
use Rattle.acvp_tables.specs.Meaning.{Meaning}
use Rattle.acvp_tables.specs.State.{is_account_number}
use Rattle.acvp_desk.specs.declared.keys.Keys.{Keys}
use Rattle.acvp_desk.specs.declared.order.Order.TheVariants.{AddAccount, DisableAccount, ApproveRequest, RejectRequest}
use Rattle.acvp_http.specs.declared.source.ReadFault.{ReadFault}
use Rattle.acvp_http.specs.declared.source.ReadFault.TheVariants.{Failed, TooOften}
use Rattle.acvp_http.specs.declared.script.ScriptFault.TheVariants.{Write}
use Rattle.acvp_http.specs.Event.{Event, request, order, EventAnswer, Turn}
use Rattle.acvp_http.specs.Event.{CanHappen}
use Rattle.acvp_http.specs.Script.{IsScript, IsWritten, IsAccountNumber, HasNoEvent, answer_text, output_of}
use Rattle.acvp_http.specs.Serve.{GoesByTurns, GoesThrough, HandlesTurn, LeavesShut}
use Rattle.acvp_http.specs.Private.Reading.{TakesPart, StopsReading, stopped_by}
use Rattle.acvp_http.specs.Source.{InputStream, OutputStream, Gives, Gets, GetsFront}
use Rattle.acvp_http.specs.Run.{events_of, most_reads, BeginsWith, TakesInPart, StopsAfter, WritesAnswers, RunsTurns}
use Rattle.acvp_http.proofs.KnownLemmas.{consumes_consumes, consumes_nothing}
use Rattle.acvp_http.proofs.WrittenTextLemmas.{appends_appends}

-- a script, and one event more
pub script_more : (events : List Event) (text front : List ℕ) (e : Event) → IsScript events text → IsWritten e front
    → IsScript (events ++ e ∷ []) (text ++ front)
script_more [] text front e script written =
    (front, [], (let none : text ≡ [] = script in rw none (sym (append-nil front))), written, refl)
script_more (f ∷ events) text front e (head, tail, is, first, script) written = (
  head,
  tail ++ front,
  ap (λ whole. whole ++ front) is ∙ append_assoc head tail front,
  first,
  script_more events tail front e script written,
)

pub events_more : (turns : List Turn) (turn : Turn) → events_of (turns ++ turn ∷ []) ≡ events_of turns ++ turn.event
    ∷ []
events_more [] turn = refl
events_more (t ∷ turns) turn = ap (λ rest. t.event ∷ rest) (events_more turns turn)

pub output_more : (answers : List EventAnswer) (answer : EventAnswer)
    → output_of (answers ++ answer ∷ []) ≡ output_of answers
    ++ answer_text answer
output_more [] answer = append-nil (answer_text answer)
output_more (a ∷ answers) answer = ap (λ rest. answer_text a ++ rest) (output_more answers answer)
    ∙ sym (append_assoc (answer_text a) (output_of answers) (answer_text answer))

appends_nothing : (a : Option (List ℕ)) → Appends a a []
appends_nothing None = tt
appends_nothing (Some xs) = sym (append-nil xs)

-- a turn of a desk with the same keys
pub under : {T : Type 0} (meaning : Meaning T) (now keys : Keys) (old new : T) (turn : Turn) (answer : EventAnswer)
    → now ≡ keys
    → HandlesTurn meaning now turn answer old new → HandlesTurn meaning keys turn answer old new
under meaning now keys old new turn answer same handled =
    subst (λ (k : Keys). HandlesTurn meaning k turn answer old new) same handled

-- a store that is shut, over one turn more
pub shut_more : {T : Type 0} (meaning : Meaning T) (start mid now : T) → (meaning.is_clean now → meaning.is_clean mid)
    → (meaning.is_open mid → meaning.is_open start)
    → LeavesShut meaning start mid → LeavesShut meaning mid now → LeavesShut meaning start now
shut_more meaning start mid now was_clean was_open first last =
    λ clean off c d left. last clean (λ live. off (was_open live)) c d (first (was_clean clean) off c d left)

-- tables that go through turns, and by one more
module _ {T : Type 0} (meaning : Meaning T) (keys : Keys) where
  open meaning use {stands, is_open, is_clean}

  through_more : (turns : List Turn) (answers : List EventAnswer) (start mid now : T) (turn : Turn)
      (answer : EventAnswer)
      → GoesThrough meaning keys turns answers start mid → HandlesTurn meaning keys turn answer mid now
      → GoesThrough meaning keys (turns ++ turn ∷ []) (answers ++ answer ∷ []) start now
  through_more [] [] start mid now turn answer through handled =
      let same : mid ≡ start = through in
      (now, subst (λ (t : T). HandlesTurn meaning keys turn answer t now) same handled, refl)
  through_more [] (a ∷ answers) start mid now turn answer through handled = absurd through
  through_more (t ∷ turns) [] start mid now turn answer through handled = absurd through
  through_more (t ∷ turns) (a ∷ answers) start mid now turn answer (next, first, through) handled =
      (next, first, through_more turns answers next mid now turn answer through handled)

  -- a disk that is clean at the end was clean at the start
  pub through_clean : (turns : List Turn) (answers : List EventAnswer) (old new : T)
      → GoesThrough meaning keys turns answers old new → is_clean new → is_clean old
  through_clean [] [] old new through clean = subst (λ (t : T). is_clean t) through clean
  through_clean [] (a ∷ answers) old new through clean = absurd through
  through_clean (t ∷ turns) [] old new through clean = absurd through
  through_clean (t ∷ turns) (a ∷ answers) old new (mid, first, through) clean =
      first.was_clean (through_clean turns answers mid new through clean)

  -- and then the tables go by all turns
  pub make_a_run : (turns : List Turn) (answers : List EventAnswer) (old new : T)
      → GoesThrough meaning keys turns answers old new
      → GoesByTurns meaning keys turns answers old new
  make_a_run [] [] old new through =
      λ clean c kept h. (c, refl, subst (λ (t : T). is_open t → stands t c) (sym through) h, kept)
  make_a_run [] (a ∷ answers) old new through = absurd through
  make_a_run (t ∷ turns) [] old new through = absurd through
  make_a_run (t ∷ turns) (a ∷ answers) old new (mid, first, through) = λ clean c kept h.
      let (c', taken, stands', kept') = first.taken (through_clean turns answers mid new through clean) c kept h in
      let (next, ran, stands-next, kept-next) = make_a_run turns answers mid new through clean c' kept' stands' in
      (next, (c', taken, ran), stands-next, kept-next)

-- what a run over tables has done after so many turns
module _ {T : Type 0} (meaning : Meaning T) (keys : Keys) (start : T) where
  pub record Ran (now : T) (input left : InputStream) (old new : OutputStream) (count : ℕ) : Type 0 where
    pub turns : List Turn
    pub answers : List EventAnswer
    pub text : List ℕ
    pub runs : GoesThrough meaning keys turns answers start now
    pub script : IsScript (events_of turns) text
    pub size : length turns ≡ count
    pub consumed : Gives input left text
    pub appended : Gets old new (output_of answers)

  -- before the first turn
  pub ran_none : (input : InputStream) (old : OutputStream) → Ran start input input old old 0
  ran_none input old = record {
    turns = [];
    answers = [];
    text = [];
    runs = refl;
    script = refl;
    size = refl;
    consumed = consumes_nothing input.held;
    appended = appends_nothing old.contents;
  }

  module _ (mid now : T) (input left left' : InputStream) (old new new' : OutputStream) (turn : Turn)
      (answer : EventAnswer) (front : List ℕ) where
    -- one turn more
    pub ran_more : (count : ℕ) → Ran mid input left old new count → IsWritten turn.event front
        → Gives left left' front → HandlesTurn meaning keys turn answer mid now
        → Gets new new' (answer_text answer)
        → Ran now input left' old new' (count + 1)
    ran_more count ran written consumed handled appended =
        record {
          turns = ran.turns ++ turn ∷ [];
          answers = ran.answers ++ answer ∷ [];
          text = ran.text ++ front;
          runs = through_more meaning keys ran.turns ran.answers start mid now turn answer ran.runs handled;
          script = rw (events_more ran.turns turn)
              (script_more (events_of ran.turns) ran.text front turn.event ran.script written);
          size = omega (arith, length-append ran.turns (turn ∷ []), ran.size);
          consumed = consumes_consumes input.held left.held left'.held ran.text front ran.consumed consumed;
          appended = rw (output_more ran.answers answer)
              (appends_appends old.contents new.contents new'.contents (output_of ran.answers)
              (answer_text answer) ran.appended appended);
        }

    -- the writer fails in a turn's answer
    pub ran_writes : (count : ℕ) → Ran mid input left old new count → count < 100000
        → IsWritten turn.event front → Gives left left' front → HandlesTurn meaning keys turn answer mid now
        → GetsFront new new' (answer_text answer) → RunsTurns meaning keys start now input left' old new' (Err Write)
    ran_writes count ran few written consumed handled (begun, rest, parts, appended) = (
      ran.turns ++ turn ∷ [],
      ran.answers ++ answer ∷ [],
      ran.text ++ front,
      through_more meaning keys ran.turns ran.answers start mid now turn answer ran.runs handled,
      rw (events_more ran.turns turn) (script_more (events_of ran.turns) ran.text front turn.event ran.script written),
      consumes_consumes input.held left.held left'.held ran.text front ran.consumed consumed,
      (
        ran.answers,
        answer,
        refl,
        (
          begun,
          rest,
          parts,
          appends_appends old.contents new.contents new'.contents
              (output_of ran.answers) begun ran.appended appended,
        ),
      ),
      omega (arith, length-append ran.turns (turn ∷ []), ran.size),
    )

-- what was taken behind the turns holds no whole event
pub in_part : (input left left' : InputStream) (text : List ℕ) → Gives input left text → TakesPart left left' HasNoEvent
    → TakesInPart input left' text
in_part input left left' text consumed (part, taken, none) =
    (part, none, consumes_consumes input.held left.held left'.held text part consumed taken)

-- the byte behind the last turn isn't read: a read has failed, or there were too many
pub stopped_at_last : (read : ReadFault) (limit : ℕ) (input left : InputStream) (old new : OutputStream)
    (turns : List Turn)
    (answers : List EventAnswer) (text : List ℕ) → StopsReading read left limit
    → limit ≡ min (input.reads + most_reads) (2 ^ 64 - 1)
    → TakesInPart input left text → Gets old new (output_of answers)
    → StopsAfter input left turns text (Err (stopped_by read)) × WritesAnswers old new answers (Err (stopped_by read))
stopped_at_last Failed limit input left old new turns answers text stops at part appended = (part, appended)
stopped_at_last TooOften limit input left old new turns answers text stops at part appended =
    ((part, inr (subst (λ (n : ℕ). n ≤ left.reads) at stops.1)), appended)

-- one byte more stands behind the script
pub goes_on : (input left left' : Option (List ℕ)) (text : List ℕ) (byte : ℕ) → Consumes input left text
    → Consumes left left' (byte ∷ []) → BeginsWith input text (λ rest. rest ≢ [])
goes_on None left left' text byte first second = tt
goes_on (Some xs) None left' text byte first second = absurd first
goes_on (Some xs) (Some ys) None text byte first second = absurd second
goes_on (Some xs) (Some ys) (Some zs) text byte first second =
    (ys, first, λ none. let some : byte ∷ zs ≡ [] = sym second ∙ none in cc)

-- an event that is written can happen
is_number : (n : ℕ) → IsAccountNumber n → is_account_number n ≡ true
is_number n named = rw (le-leb 1 n named.0, le-leb n 9999 named.1) refl

pub can_happen : (e : Event) (text : List ℕ) → IsWritten e text → CanHappen e
can_happen (request moment bytes) text written = tt
can_happen (order moment (AddAccount account secret)) text (number, named, (digits, hex, is)) =
    (is_number account named, omega (arith, hex.0, (decode_of-ok digits secret hex.1).2))
can_happen (order moment (DisableAccount account)) text written = (is_number account written.1, tt)
can_happen (order moment (ApproveRequest number)) text written = (tt, tt)
can_happen (order moment (RejectRequest number)) text written = (tt, tt)
