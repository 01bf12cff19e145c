-- Where connections and orders come from, and how they are served, one after another.
use Rattle.std.specs.Prelude.{◌≡◌, ◌≢◌, ◌⊎◌, ◌+◌, ◌-◌, ◌/◌, ◌^◌, ℕ, Bool, true, false, MatchBool, is_ok, is_some, ⊤}
use Rattle.std.specs.Prelude.{if◌then◌else◌, List, [], ◌∷◌, ◌++◌, length, Option, Some, None, IfSome, Result}
use Rattle.std.specs.Prelude.{Ok, Err, Vec}
use Rattle.std.specs.Global.{Global}
use Rattle.std.specs.List.{All, flat_map}
use Rattle.std.specs.Time.{system_time_nanos}
use Rattle.std.specs.declared.time.SystemTime.{SystemTime}
use Rattle.acvp_tables.specs.Meaning.{Meaning}
use Rattle.acvp_desk.specs.Answer.{end_of_moments}
use Rattle.acvp_desk.specs.declared.keys.Keys.{Keys}
use Rattle.acvp_desk.specs.declared.order.Order.{Order}
use Rattle.acvp_desk.specs.declared.order.Order.TheVariants.{RejectRequest}
use Rattle.acvp_desk.specs.declared.order.OrderReply.{OrderReply}
use Rattle.acvp_desk.specs.declared.order.OrderReply.TheVariants.{Unavailable}
use Rattle.acvp_http.specs.Connection.{ServesOne, is_read_end, is_write_end, unavailable_reply}
use Rattle.acvp_http.specs.Event.{CanHappen, EventAnswer, Turn, order, ordered, replied, request}
use Rattle.acvp_http.specs.Left.{LeavesRun}
use Rattle.acvp_http.specs.Promise.{GoesAsPromised}
use Rattle.acvp_http.specs.Script.{IsWritten}
use Rattle.acvp_http.specs.Serve.{GoesThrough, HandlesTurn}
use Rattle.acvp_http.specs.Source.{Gets, GetsFront, Gives, InputStream, OutputStream}
use Rattle.acvp_http.specs.Told.{TellsOne}
use Rattle.acvp_http.specs.declared.connection.ServeFault.{ServeFault}
use Rattle.acvp_http.specs.declared.told.Told.{Told}
use Rattle.acvp_commands.specs.Lines.{outcome_of}
use Rattle.acvp_commands.specs.declared.fault.Fault.{Fault}
use Rattle.acvp_commands.specs.declared.fault.Fault.TheVariants.{Accept, Limit, Syntax, Unavailable as UnavailableFault}
use Rattle.acvp_commands.specs.declared.lines.Message.{Message}
use Rattle.acvp_commands.specs.declared.serving.Arrival.{Arrival}
use Rattle.acvp_commands.specs.declared.serving.Arrival.TheVariants as arrival
use Rattle.acvp_commands.specs.declared.serving.Taken.{Taken}

-- ---- where they come from

-- What it is to take what arrives at a listener, in which state it then is. Of sockets nothing can be said here; but
-- whoever serves over any listener can show only by its calls that something was taken, ended or told.
pub record Listening (L I O A : Type 0) : Type 1 where
  pub takes : L → L → Arrival I O A → Type 0
  -- nothing could be taken
  pub stops : L → L → Type 0
  -- both ends of a connection were handed back, with whether its whole reply was written, and what is told of its
  -- request
  pub ends : L → L → I → O → Bool → Option Told → Type 0
  -- who gave an order was told what came of it
  pub tells : L → L → A → Result Message Fault → Type 0

-- nothing has failed yet of a connection that arrives
abbrev pub IsClear : {I O A : Type 0} → (I → InputStream) → (O → OutputStream) → Arrival I O A → Type 0
IsClear held sent (arrival.Connection taken) =
    ((held taken.input).failed ≡ false) × ((sent taken.output).failed ≡ false)
IsClear held sent (arrival.Order line asker) = ⊤

-- ---- one arrival

-- The moment of what a clock gave: its whole seconds since 1970, or one that isn't served where it gave no time.
abbrev pub IsMomentOf : {E : Type 0} → Result SystemTime E → ℕ → Type 0
IsMomentOf (Ok time) moment = moment ≡ system_time_nanos time / 1000000000
IsMomentOf (Err error) moment = moment ≡ end_of_moments

-- What an arrival came to: whether it was a connection, and the turn that it was with its answer, or none.
pub record Came : Type 0 where
  pub is_connection : Bool
  pub turns : List Turn
  pub answers : List EventAnswer

abbrev pub IsOneTurn : Came → Turn → EventAnswer → Type 0
IsOneTurn came turn answer = (came.turns ≡ turn ∷ []) × (came.answers ≡ answer ∷ [])

abbrev pub IsNoTurn : Came → Type 0
IsNoTurn came = (came.turns ≡ []) × (came.answers ≡ [])

-- What came of a connection was a request of this moment, and its reply was written, or a front of it. Or no request
-- was handled, and nothing was written, or that the server is unavailable, or a front of that.
abbrev pub IsRequestOf : ℕ → InputStream → InputStream → OutputStream → OutputStream → Came → Type 0
IsRequestOf moment input left written out came =
    ((bytes : List ℕ) × (reply : List ℕ) × (unavailable : Bool) × Gives input left bytes × GetsFront written out reply
    × IsOneTurn came (record { event = request moment bytes; unavailable = unavailable }) (replied reply))
    ⊎ (IsNoTurn came × (Gets written out [] ⊎ GetsFront written out unavailable_reply))

-- The text was an order of the script's, and this is what came of it. Or it was none, which is what is told.
abbrev pub IsOrderOf : List ℕ → Result Message Fault → Came → Type 0
IsOrderOf text outcome came =
    ((moment : ℕ) × (it : Order) × (reply : OrderReply) × (unavailable : Bool) × IsWritten (order moment it) text
    × (outcome ≡ outcome_of it reply)
    × IsOneTurn came (record { event = order moment it; unavailable = unavailable }) (ordered reply))
    ⊎ (((moment : ℕ) (it : Order) → IsWritten (order moment it) text → ⊥) × (outcome ≡ Err Syntax) × IsNoTurn came)

-- ---- a look at the store

-- A look at the store behind an arrival: an order to reject the request of number 0, which there never is. So it
-- changes nothing, and is answered that there is no such request, or that the server is unavailable.
pub record Look : Type 0 where
  pub unavailable : Bool
  pub reply : OrderReply

abbrev pub look_turn : Look → Turn
look_turn look = record { event = order 0 (RejectRequest 0); unavailable = look.unavailable }

-- whether the store was looked at behind a connection: where it was told that the server is unavailable
abbrev pub is_told : Result Bool ServeFault → Bool
is_told (Ok unavailable) = unavailable
is_told (Err fault) = false

-- ---- all that arrived

-- an arrival, and the look behind it
pub record Visit : Type 0 where
  pub came : Came
  pub look : Option Look

-- the store still answers
abbrev pub GoesOn : Visit → Type 0
GoesOn visit = IfSome visit.look (λ look. look.reply ≢ Unavailable)

-- the store was looked at behind the arrival, and didn't answer
abbrev pub IsShutBehind : Visit → Type 0
IsShutBehind visit = (look : Look) × (visit.look ≡ Some look) × (look.reply ≡ Unavailable)

-- it still answered behind all arrivals but the last, and behind that it didn't
abbrev pub EndsShut : List Visit → Type 0
EndsShut visits =
    (earlier : List Visit) × (last : Visit) × (visits ≡ earlier ++ last ∷ []) × All GoesOn earlier × IsShutBehind last

-- how many of the arrivals were connections, and all turns and answers
abbrev pub connections : List Visit → ℕ
connections [] = 0
connections (visit ∷ visits) = (if visit.came.is_connection then 1 else 0) + connections visits

abbrev pub look_turns : Option Look → List Turn
look_turns None = []
look_turns (Some look) = look_turn look ∷ []

abbrev pub look_answers : Option Look → List EventAnswer
look_answers None = []
look_answers (Some look) = ordered look.reply ∷ []

abbrev pub turns_of : List Visit → List Turn
turns_of visits = flat_map (λ (visit : Visit). visit.came.turns ++ look_turns visit.look) visits

abbrev pub answers_of : List Visit → List EventAnswer
answers_of visits = flat_map (λ (visit : Visit). visit.came.answers ++ look_answers visit.look) visits

module _ {T L I O A : Type 0} (meaning : Meaning T) (listening : Listening L I O A) (held : I → InputStream)
    (sent : O → OutputStream) where
  -- a connection was taken, what came of it was served at the moment that the clock gave then, and it was ended
  pub record ServesConnection (keys : Keys) (came : Came) (is_looked : Bool) (before : L) (old : T) (after : L)
      (new : T) : Type 0 where
    pub taken : Taken I O
    pub mid : L
    pub input : I
    pub output : O
    pub result : Result Bool ServeFault
    pub told : Option Told
    pub moment : ℕ
    pub takes : listening.takes before mid (arrival.Connection taken)
    pub clock : IsMomentOf taken.now moment
    pub serves : ServesOne meaning keys moment (held taken.input) (held input) (sent taken.output) (sent output)
        old new result
    -- it wasn't read to its end, or not written, only where that has failed
    pub read : (held input).failed ≡ is_read_end result
    pub written : (sent output).failed ≡ is_write_end result
    pub turn : IsRequestOf moment (held taken.input) (held input) (sent taken.output) (sent output) came
    -- what is told is told of this request
    pub tells : TellsOne meaning keys moment (held taken.input) (held input) (sent taken.output) (sent output)
        old new result told
    pub ends : listening.ends mid after input output (is_ok result) told
    pub looks : is_looked ≡ is_told result

  -- a line was taken, and who gave it was told what came of it
  pub record ServesOrder (came : Came) (is_looked : Bool) (before after : L) : Type 0 where
    pub line : Vec ℕ Global
    pub asker : A
    pub mid : L
    pub outcome : Result Message Fault
    pub takes : listening.takes before mid (arrival.Order line asker)
    pub turn : IsOrderOf line.items outcome came
    pub tells : listening.tells mid after asker outcome
    pub looks : is_looked ≡ true

  -- Something arrived, and was served. The tables went through the turn that it was.
  pub record ServesArrival (keys : Keys) (came : Came) (is_looked : Bool) (before : L) (old : T) (after : L)
      (new : T) : Type 0 where
    pub served : MatchBool came.is_connection (ServesConnection keys came is_looked before old after new)
        (ServesOrder came is_looked before after)
    pub goes : GoesThrough meaning keys came.turns came.answers old new
    pub happen : All (λ (turn : Turn). CanHappen turn.event) came.turns

  -- Behind it the store was looked at, or left alone.
  abbrev pub LooksBehind : Keys → Option Look → T → T → Type 0
  LooksBehind keys None old new = new ≡ old
  LooksBehind keys (Some look) old new = HandlesTurn meaning keys (look_turn look) (ordered look.reply) old new

  abbrev pub ServesVisit : Keys → Visit → L → T → L → T → Type 0
  ServesVisit keys visit before old after new =
      (mid : T) × ServesArrival keys visit.came (is_some visit.look) before old after mid
      × LooksBehind keys visit.look mid new

  -- ---- all of them

  -- so much was served, one after another
  abbrev pub ServesAll : Keys → List Visit → L → T → L → T → Type 0
  ServesAll keys [] before old after new = (after ≡ before) × (new ≡ old)
  ServesAll keys (visit ∷ visits) before old after new =
      (mid : L) × (tables : T) × ServesVisit keys visit before old mid tables
      × ServesAll keys visits mid tables after new

  -- And what is promised of it: the tables went through all turns, one by one, so the headline and isolation hold of
  -- them, a crash finds what they left, and they are a run of a life.
  pub record IsServing (keys : Keys) (visits : List Visit) (before : L) (old : T) (after : L) (new : T) : Type 0 where
    pub all : ServesAll keys visits before old after new
    pub goes : GoesThrough meaning keys (turns_of visits) (answers_of visits) old new
    pub happen : All (λ (turn : Turn). CanHappen turn.event) (turns_of visits)
    pub promised : GoesAsPromised meaning keys (turns_of visits) (answers_of visits) old new
    pub left : LeavesRun meaning keys (turns_of visits) (answers_of visits) old new

  -- Where so many connections were asked for, it goes on until they are served. Or nothing can be taken any more, or as
  -- much arrived as one run takes, or the store was looked at and doesn't answer any more.
  abbrev pub ServesUntil : Keys → Option ℕ → L → T → L → T → Result ℕ Fault → Type 0
  ServesUntil keys count before old after new (Ok served) =
      (visits : List Visit) × IsServing keys visits before old after new × All GoesOn visits
      × (served ≡ connections visits) × (count ≡ Some served)
  ServesUntil keys count before old after new (Err fault) =
      (visits : List Visit) × (mid : L) × IsServing keys visits before old mid new
      × (((fault ≡ Accept) × All GoesOn visits × listening.stops mid after)
      ⊎ ((fault ≡ Limit) × All GoesOn visits × (after ≡ mid) × (length visits ≡ 2 ^ 64 - 1))
      ⊎ ((fault ≡ UnavailableFault) × EndsShut visits × (after ≡ mid)))
