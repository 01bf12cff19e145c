-- What an event does to the records, and what it is answered.
use Rattle.std.specs.Prelude.{◌≡◌, ◌<◌, ◌⊎◌, ℕ, List, [], ◌∷◌, Bool, nat_lt, MatchBool, Option, Some, None, Result, Ok}
use Rattle.std.specs.Prelude.{Err, ⊤}
use Rattle.acvp_policy.specs.declared.rule.Rule.{Rule}
use Rattle.acvp_policy.specs.declared.rule.Rule.TheVariants.{ClockOutOfRange, Unavailable as UnavailableRule}
use Rattle.acvp_tables.specs.Content.{Content}
use Rattle.acvp_tables.specs.Meaning.{Meaning}
use Rattle.acvp_tables.specs.State.{state_of}
use Rattle.acvp_desk.specs.Answer.{end_of_moments, answer, content_effect}
use Rattle.acvp_desk.specs.Data.{Data}
use Rattle.acvp_desk.specs.Kept.{IsKept}
use Rattle.acvp_desk.specs.Serves.{Holds}
use Rattle.acvp_desk.specs.Request.{RequestValue}
use Rattle.acvp_desk.specs.Orders.{order_reply, content_order_effect, ByReply}
use Rattle.acvp_desk.specs.Written.{body_of}
use Rattle.acvp_desk.specs.declared.keys.Keys.{Keys}
use Rattle.acvp_desk.specs.declared.order.OrderReply.TheVariants.{Unavailable}
use Rattle.acvp_http.specs.Asks.{ParsedRequest, refused, wrong_method, typed, Asks}
use Rattle.acvp_http.specs.Event.{Event, request, order, EventAnswer, replied, ordered, Turn}
use Rattle.acvp_http.specs.Reply.{refusal, method_refusal, framed, IsDateOf}

-- ---- a request

-- what is answered where the records aren't looked at
abbrev pub IsRefused : List ℕ → ParsedRequest → List ℕ → Type 0
IsRefused date (refused rule) reply = reply ≡ refusal (Some date) rule
IsRefused date (wrong_method path) reply = reply ≡ method_refusal date path
IsRefused date (typed r) reply = ⊥

-- the request of these bytes is refused before the records are looked at
unfoldable pub RefusesAtOnce : ℕ → List ℕ → List ℕ → Type 0
RefusesAtOnce moment bytes reply =
    MatchBool (nat_lt moment end_of_moments)
    ((parsed : ParsedRequest) × (date : List ℕ) × Asks bytes parsed × IsDateOf moment date
    × IsRefused date parsed reply)
    (reply ≡ refusal None ClockOutOfRange)

-- these bytes are a request of the desk at a moment that is served
abbrev pub AsksTheDesk : ℕ → List ℕ → RequestValue → Type 0
AsksTheDesk moment bytes r = (moment < end_of_moments) × Asks bytes (typed r)

-- what the desk answers, in bytes, with this date
abbrev pub IsReplied : List ℕ → Result (Option Data) Rule → List ℕ → Type 0
IsReplied date (Err rule) reply = reply ≡ refusal (Some date) rule
IsReplied date (Ok None) reply = ⊥
IsReplied date (Ok (Some shown)) reply = reply ≡ framed 200 (Some date) [] (body_of shown)

-- the request is decided, carried out and answered
abbrev pub RequestAnswered : Keys → ℕ → RequestValue → Content → Content → List ℕ → Type 0
RequestAnswered keys moment r old new reply =
    (date : List ℕ) × IsDateOf moment date × (new ≡ content_effect keys moment r old)
    × IsReplied date (answer keys moment r (state_of old)) reply

-- the request of these bytes is served: the records before it and after it, and the bytes of its reply
abbrev pub ServesRequest : Keys → ℕ → List ℕ → Content → Content → List ℕ → Type 0
ServesRequest keys moment bytes old new reply =
    ((new ≡ old) × RefusesAtOnce moment bytes reply)
    ⊎ ((r : RequestValue) × AsksTheDesk moment bytes r × RequestAnswered keys moment r old new reply)

-- a request of the desk that is unavailable, and its reply: no request that is refused at once is
abbrev pub IsUnavailableRequest : ℕ → List ℕ → List ℕ → Type 0
IsUnavailableRequest moment bytes reply =
    ((r : RequestValue) × AsksTheDesk moment bytes r) × (reply ≡ refusal None UnavailableRule)

-- ---- an event

-- the event is served: the records before it and after it, and its answer
abbrev pub Serves : Keys → Event → Content → Content → EventAnswer → Type 0
Serves keys (request moment bytes) old new (replied reply) = ServesRequest keys moment bytes old new reply
Serves keys (request moment bytes) old new (ordered reply) = ⊥
Serves keys (order moment o) old new (replied reply) = ⊥
Serves keys (order moment o) old new (ordered reply) = (new ≡ content_order_effect o old)
    × (reply ≡ order_reply o (state_of old))

-- the event is unavailable: it changes nothing, and says so
abbrev pub IsUnavailableEvent : Event → Content → Content → EventAnswer → Type 0
IsUnavailableEvent (request moment bytes) old new (replied reply) =
    (new ≡ old) × IsUnavailableRequest moment bytes reply
IsUnavailableEvent (request moment bytes) old new (ordered reply) = ⊥
IsUnavailableEvent (order moment o) old new (replied reply) = ⊥
IsUnavailableEvent (order moment o) old new (ordered reply) = (new ≡ old) × (reply ≡ Unavailable)

-- the answer says that the server is unavailable
abbrev pub IsPutOff : EventAnswer → Type 0
IsPutOff (replied reply) = reply ≡ refusal None UnavailableRule
IsPutOff (ordered reply) = reply ≡ Unavailable

-- the effect of the event on the records, whether it is told or not
abbrev pub HasEffect : Keys → Event → Content → Content → Type 0
HasEffect keys (request moment bytes) old new =
    (r : RequestValue) × AsksTheDesk moment bytes r × (new ≡ content_effect keys moment r old)
HasEffect keys (order moment o) old new = new ≡ content_order_effect o old

-- one turn: the event is served, or it is unavailable
abbrev pub Takes : Keys → Turn → Content → Content → EventAnswer → Type 0
Takes keys turn old new answer = MatchBool turn.unavailable (IsUnavailableEvent turn.event old new answer)
    (Serves keys turn.event old new answer)

-- ---- a run

-- the turns, one after another: the records before all of them and after them, and the answers in order
abbrev pub Runs : Keys → List Turn → Content → Content → List EventAnswer → Type 0
Runs keys [] old new [] = new ≡ old
Runs keys [] old new (answer ∷ answers) = ⊥
Runs keys (turn ∷ turns) old new [] = ⊥
Runs keys (turn ∷ turns) old new (answer ∷ answers) =
    (next : Content) × Takes keys turn old next answer × Runs keys turns next new answers

-- ---- the tables

module _ {T : Type 0} (meaning : Meaning T) where
  open meaning use {stands, is_open, is_clean, leaves}

  -- they stand for what they stood for
  abbrev pub Keeps : T → T → Type 0
  Keeps old new = is_open new → (c : Content) → stands old c → stands new c

  -- while the disk is clean, a crash finds what it found before
  abbrev pub LeavesAsBefore : T → T → Type 0
  LeavesAsBefore old new = is_clean new → (c d : Content) → leaves old c d → leaves new c d

  -- What is shown of a request of the desk, whatever the tables stand for: a reply with a body; or a denial by some
  -- rule, after which they stand for what they stood for, and a crash finds what it found before unless the rule is
  -- that of an unavailable server.
  abbrev pub ShowsReply : ℕ → List ℕ → T → T → Type 0
  ShowsReply moment reply old new =
      (date : List ℕ) × IsDateOf moment date
      × (((body : List ℕ) × (reply ≡ framed 200 (Some date) [] body))
      ⊎ ((rule : Rule) × (reply ≡ refusal (Some date) rule) × Keeps old new
      × ((rule ≡ UnavailableRule) ⊎ LeavesAsBefore old new)))

  -- what is shown of the bytes of any request
  abbrev pub ShowsRequest : ℕ → List ℕ → List ℕ → T → T → Type 0
  ShowsRequest moment bytes reply old new = (RefusesAtOnce moment bytes reply × (new ≡ old))
      ⊎ ((r : RequestValue) × AsksTheDesk moment bytes r × ShowsReply moment reply old new)

  -- and of any event: an order that isn't done changes nothing, and where it is refused a crash finds what it found
  -- before
  abbrev pub ShowsEvent : Event → EventAnswer → T → T → Type 0
  ShowsEvent (request moment bytes) (replied reply) old new = ShowsRequest moment bytes reply old new
  ShowsEvent (request moment bytes) (ordered reply) old new = ⊥
  ShowsEvent (order moment o) (replied reply) old new = ⊥
  ShowsEvent (order moment o) (ordered reply) old new =
      ByReply reply ⊤ (Keeps old new × LeavesAsBefore old new) (Keeps old new)

module _ {T : Type 0} (meaning : Meaning T) where
  open meaning use {stands, is_open, is_clean, leaves}

  -- While the disk is clean, the tables went by something: for every content that they stood for before, if they
  -- were open, and that holds what holds at all times, they stand for the content after it, if they are open, and it
  -- holds it too. So a fault that shuts them ends nothing: what is answered behind it is told over the same content.
  abbrev pub GoesBy : Keys → (Content → Content → Type 0) → T → T → Type 0
  GoesBy keys Step old new = is_clean new → (c : Content) → IsKept keys.seed c → Holds meaning old c
      → (next : Content) × Step c next × Holds meaning new next × IsKept keys.seed next

  -- they went by one turn
  abbrev pub GoesByTurn : Keys → Turn → EventAnswer → T → T → Type 0
  GoesByTurn keys turn answer old new = GoesBy keys (λ c next. Takes keys turn c next answer) old new

  -- by all turns at once
  abbrev pub GoesByTurns : Keys → List Turn → List EventAnswer → T → T → Type 0
  GoesByTurns keys turns answers old new = GoesBy keys (λ c next. Runs keys turns c next answers) old new

  -- a crash finds these records alone, after a turn; where it is unavailable, them or those with its effect
  abbrev pub LeavesNext : Keys → Turn → Content → T → Type 0
  LeavesNext keys turn next new = MatchBool turn.unavailable
      ((other : Content) × HasEffect keys turn.event next other × leaves new next other)
      ((other : Content) → leaves new next other)

  -- What a crash finds after a turn, while the disk is clean, of tables that were open: the records after it.
  abbrev pub LeavesTurn : Keys → Turn → EventAnswer → T → T → Type 0
  LeavesTurn keys turn answer old new = is_clean new → is_open old → (c : Content) → IsKept keys.seed c → stands old c
      → (next : Content) × Takes keys turn c next answer × IsKept keys.seed next × LeavesNext keys turn next new

  -- of tables that were shut it finds what it found before
  abbrev pub LeavesShut : T → T → Type 0
  LeavesShut old new = is_clean new → (is_open old → ⊥) → (c d : Content) → leaves old c d → leaves new c d

  -- and a turn of such tables leaves the records as they were, whichever they are
  abbrev pub KeepsShut : Keys → Turn → EventAnswer → T → T → Type 0
  KeepsShut keys turn answer old new = is_clean new → (is_open old → ⊥) → (c : Content) → IsKept keys.seed c
      → Takes keys turn c c answer

  -- unless it is unavailable, tables that were open are open
  abbrev pub StaysOpen : EventAnswer → T → T → Type 0
  StaysOpen answer old new = IsPutOff answer ⊎ (is_clean new → is_open old → is_open new)

  -- a request is served, or it is unavailable; and what a crash finds after it
  abbrev pub RequestTaken : Keys → ℕ → List ℕ → List ℕ → T → T → Type 0
  RequestTaken keys moment bytes reply old new =
      (unavailable : Bool)
      × GoesByTurn keys (record { event = request moment bytes; unavailable = unavailable }) (replied reply) old new
      × LeavesTurn keys (record { event = request moment bytes; unavailable = unavailable }) (replied reply) old new
      × KeepsShut keys (record { event = request moment bytes; unavailable = unavailable }) (replied reply) old new

  -- All that is said of one turn. The answer has its form whatever the tables stand for.
  pub record HandlesTurn (keys : Keys) (turn : Turn) (answer : EventAnswer) (old new : T) : Type 0 where
    pub was_open : is_open new → is_open old
    pub was_clean : is_clean new → is_clean old
    pub stays_open : StaysOpen answer old new
    pub shown : ShowsEvent meaning turn.event answer old new
    pub taken : GoesByTurn keys turn answer old new
    -- what a crash finds after it, of tables that were open and of those that were shut
    pub left : LeavesTurn keys turn answer old new
    pub shut : LeavesShut old new
    pub idle : KeepsShut keys turn answer old new

  -- The tables went through turns, one by one, so that what a later turn does to them says nothing against an earlier
  -- one.
  abbrev pub GoesThrough : Keys → List Turn → List EventAnswer → T → T → Type 0
  GoesThrough keys [] [] old new = new ≡ old
  GoesThrough keys [] (answer ∷ answers) old new = ⊥
  GoesThrough keys (turn ∷ turns) [] old new = ⊥
  GoesThrough keys (turn ∷ turns) (answer ∷ answers) old new =
      (mid : T) × HandlesTurn keys turn answer old mid × GoesThrough keys turns answers mid new
