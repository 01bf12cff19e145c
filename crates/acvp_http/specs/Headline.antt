-- The promise of the server, over definitions alone: what each event of a run is answered, and over which records.
use Rattle.std.specs.Prelude.{◌≡◌, ◌⊎◌, ℕ, List, [], ◌∷◌, ◌++◌, length, Bool, true, false, MatchBool, Some, None}
use Rattle.acvp_policy.specs.declared.rule.Rule.{Rule}
use Rattle.acvp_tables.specs.Content.{Content}
use Rattle.acvp_tables.specs.State.{State, state_of}
use Rattle.acvp_desk.specs.Answer.{asker_of, conditions, effect, reply_to}
use Rattle.acvp_desk.specs.Conditions.{first_broken}
use Rattle.acvp_desk.specs.Data.{Data}
use Rattle.acvp_desk.specs.Orders.{order_reply, order_effect}
use Rattle.acvp_desk.specs.Request.{RequestValue}
use Rattle.acvp_desk.specs.Written.{body_of}
use Rattle.acvp_desk.specs.declared.keys.Keys.{Keys}
use Rattle.acvp_desk.specs.declared.order.OrderReply.{OrderReply}
use Rattle.acvp_desk.specs.declared.order.OrderReply.TheVariants.{Done, Taken, Unknown, NotInitial, Unavailable}
use Rattle.acvp_http.specs.Event.{Event, request, order, EventAnswer, replied, ordered, Turn}
use Rattle.acvp_http.specs.Reply.{refusal, framed, IsDateOf}
use Rattle.acvp_http.specs.Serve.{AsksTheDesk, IsUnavailableRequest, RefusesAtOnce, Runs}

-- ---- one event over the records

abbrev pub is_done : OrderReply → Bool
is_done (Done approved) = true
is_done Taken = false
is_done Unknown = false
is_done NotInitial = false
is_done Unavailable = false

-- The event is denied over this state: the head, the framing, the route or the clock is at fault, or the reply names
-- the first rule of the policy that is broken; or the order is refused.
abbrev pub IsDenied : Keys → Event → State → EventAnswer → Type 0
IsDenied keys (request moment bytes) state (replied reply) =
    RefusesAtOnce moment bytes reply
    ⊎ ((r : RequestValue) × (rule : Rule) × (date : List ℕ) × AsksTheDesk moment bytes r
    × (first_broken (conditions keys moment r state) ≡ Some rule) × IsDateOf moment date
    × (reply ≡ refusal (Some date) rule))
IsDenied keys (request moment bytes) state (ordered reply) = ⊥
IsDenied keys (order moment o) state (replied reply) = ⊥
IsDenied keys (order moment o) state (ordered reply) = (reply ≡ order_reply o state) × (is_done reply ≡ false)

-- The event is accepted over this state: each condition holds, the reply shows its object, and the other state is what
-- its effect leaves.
abbrev pub IsAccepted : Keys → Event → State → State → EventAnswer → Type 0
IsAccepted keys (request moment bytes) state next (replied reply) =
    (r : RequestValue) × (shown : Data) × (date : List ℕ) × AsksTheDesk moment bytes r
    × (first_broken (conditions keys moment r state) ≡ None)
    × (reply_to keys moment r (asker_of keys moment r) state ≡ Some shown)
    × IsDateOf moment date × (reply ≡ framed 200 (Some date) [] (body_of shown)) × (next ≡ effect keys moment r state)
IsAccepted keys (request moment bytes) state next (ordered reply) = ⊥
IsAccepted keys (order moment o) state next (replied reply) = ⊥
IsAccepted keys (order moment o) state next (ordered reply) =
    (reply ≡ order_reply o state) × (is_done reply ≡ true) × (next ≡ order_effect o state)

-- the event is unavailable
abbrev pub IsToldUnavailable : Event → EventAnswer → Type 0
IsToldUnavailable (request moment bytes) (replied reply) = IsUnavailableRequest moment bytes reply
IsToldUnavailable (request moment bytes) (ordered reply) = ⊥
IsToldUnavailable (order moment o) (replied reply) = ⊥
IsToldUnavailable (order moment o) (ordered reply) = reply ≡ Unavailable

-- the answer to a turn over this state, which stays unless the event is accepted
abbrev pub IsAnswered : Keys → Turn → State → State → EventAnswer → Type 0
IsAnswered keys turn state next answer = MatchBool turn.unavailable
    ((next ≡ state) × IsToldUnavailable turn.event answer)
    (((next ≡ state) × IsDenied keys turn.event state answer) ⊎ IsAccepted keys turn.event state next answer)

-- ---- a run

-- the turn's event isn't accepted over this state
abbrev pub IsNotAccepted : Keys → Turn → State → Type 0
IsNotAccepted keys turn state =
    (turn.unavailable ≡ true) ⊎ ((answer : EventAnswer) × IsDenied keys turn.event state answer)

-- what the accepted events among the turns leave of a state: the effect of each, one after another, and nothing of the
-- others
abbrev pub LeftBy : Keys → List Turn → State → State → Type 0
LeftBy keys [] state now = now ≡ state
LeftBy keys (turn ∷ turns) state now =
    ((next : State) × (answer : EventAnswer) × (turn.unavailable ≡ false) × IsAccepted keys turn.event state next answer
    × LeftBy keys turns next now)
    ⊎ (IsNotAccepted keys turn state × LeftBy keys turns state now)

-- the answer to this turn is among those of the run, in its place, and is given over the state that the accepted turns
-- before it left
abbrev pub AnswersTurn : Keys → List Turn → Turn → State → List EventAnswer → Type 0
AnswersTurn keys earlier turn state answers =
    (told : List EventAnswer) × (answer : EventAnswer) × (after : List EventAnswer) × (now : State) × (next : State)
    × (answers ≡ told ++ answer ∷ after) × (length told ≡ length earlier) × LeftBy keys earlier state now
    × IsAnswered keys turn now next answer

-- The headline: in every run each event is answered over the state that the accepted ones before it left.
abbrev pub Headline : Type 0
Headline = (keys : Keys) (earlier later : List Turn) (turn : Turn) (old new : Content) (answers : List EventAnswer)
    → Runs keys (earlier ++ turn ∷ later) old new answers → AnswersTurn keys earlier turn (state_of old) answers

-- And what a run leaves is what its accepted events left.
abbrev pub HeadlineLeft : Type 0
HeadlineLeft =
    (keys : Keys) (turns : List Turn) (old new : Content) (answers : List EventAnswer) → Runs keys turns old new answers
    → LeftBy keys turns (state_of old) (state_of new)
