-- Lemmas on what arrives and is served, one after another.
use Rattle.std.proofs.Common.{◌≡◌, ◌⊎◌, ◌+◌, ◌-◌, ◌^◌, ◌≤◌, Option, Some, ℕ, Bool, true, false, List, [], ◌∷◌, ◌++◌}
use Rattle.std.proofs.Common.{length, Result, Ok, Err, None, inl, inr, refl, ap, arith, ◌∙◌, sym, subst, length-append}
use Rattle.std.specs.Prelude.{if◌then◌else◌}
use Rattle.std.specs.List.{All}
use Rattle.std.proofs.lemmas.List.{append-nil}
use Rattle.std.proofs.lemmas.List.Elements.{All-append, All-cons, All-nil}
use Rattle.acvp_tables.specs.Meaning.{Meaning}
use Rattle.acvp_desk.specs.Desk.{DeskValue}
use Rattle.acvp_desk.specs.declared.keys.Keys.{Keys}
use Rattle.acvp_http.specs.Connection.{AnswersInput, ServesOne, unavailable_reply}
use Rattle.acvp_http.specs.Event.{CanHappen, EventAnswer, Turn, replied, request}
use Rattle.acvp_http.specs.Left.{LeavesRun}
use Rattle.acvp_http.specs.Promise.{GoesAsPromised}
use Rattle.acvp_http.specs.Serve.{GoesThrough, LeavesShut}
use Rattle.acvp_http.specs.Source.{Gets, GetsFront, InputStream, OutputStream}
use Rattle.acvp_http.specs.declared.connection.ServeFault.{ServeFault}
use Rattle.acvp_http.specs.declared.connection.ServeFault.TheVariants.{Read, Write, Turns}
use Rattle.acvp_commands.specs.Listening.{Came, GoesOn, IsRequestOf, IsServing, IsShutBehind, Listening, Look}
use Rattle.acvp_commands.specs.Listening.{LooksBehind, ServesAll, ServesUntil, ServesVisit, Visit, answers_of}
use Rattle.acvp_commands.specs.Listening.{connections, look_answers, look_turn, look_turns, turns_of}
use Rattle.acvp_commands.specs.declared.fault.Fault.{Fault}
use Rattle.acvp_commands.specs.declared.fault.Fault.TheVariants.{Accept, Limit, Unavailable}

-- ---- turns, one after another

module _ {T : Type 0} (meaning : Meaning T) where
  open meaning use {is_open, is_clean}

  -- through some turns, and then through others
  pub through_both : (keys : Keys) (turns more : List Turn) (answers others : List EventAnswer) (old mid new : T)
      → GoesThrough meaning keys turns answers old mid → GoesThrough meaning keys more others mid new
      → GoesThrough meaning keys (turns ++ more) (answers ++ others) old new
  through_both keys [] more [] others old mid new same after = rw same at after
  through_both keys [] more (answer ∷ answers) others old mid new same after = elim same [ ]
  through_both keys (turn ∷ turns) more [] others old mid new same after = elim same [ ]
  through_both keys (turn ∷ turns) more (answer ∷ answers) others old mid new (next, handled, rest) after =
      (next, handled, through_both keys turns more answers others next mid new rest after)

  -- tables that are open, or clean, after turns were so before
  pub through_open : (keys : Keys) (turns : List Turn) (answers : List EventAnswer) (old new : T)
      → GoesThrough meaning keys turns answers old new → (is_open new → is_open old) × (is_clean new → is_clean old)
  through_open keys [] [] old new same = ((λ live. rw same at live), (λ clean. rw same at clean))
  through_open keys [] (answer ∷ answers) old new same = elim same [ ]
  through_open keys (turn ∷ turns) [] old new same = elim same [ ]
  through_open keys (turn ∷ turns) (answer ∷ answers) old new (next, handled, rest) =
      let (opens, cleans) = through_open keys turns answers next new rest in
      ((λ live. handled.was_open (opens live)), (λ clean. handled.was_clean (cleans clean)))

-- ---- a connection

module _ {T : Type 0} (meaning : Meaning T) (keys : Keys) (moment : ℕ) (input left : InputStream)
    (written out : OutputStream) (old new : T) where
  open meaning use {is_open, is_clean}

  -- what a connection came to
  abbrev pub CameTo : Type 0
  CameTo = (came : Came) × (came.is_connection ≡ true) × IsRequestOf moment input left written out came
      × GoesThrough meaning keys came.turns came.answers old new
      × All (λ (turn : Turn). CanHappen turn.event) came.turns

  -- nothing of it was handled
  came_to_nothing : new ≡ old → Gets written out [] ⊎ GetsFront written out unavailable_reply → CameTo
  came_to_nothing same gets = (
    record {
      is_connection = true;
      turns = [];
      answers = [];
    },
    refl,
    inr ((refl, refl), gets),
    same,
    All-nil (λ (turn : Turn). CanHappen turn.event),
  )

  module _ (was_open : is_open new → is_open old) (was_clean : is_clean new → is_clean old)
      (shut : LeavesShut meaning old new) where
    -- its request was handled
    came_to_one : (reply : List ℕ) → AnswersInput meaning keys moment input left reply old new
        → GetsFront written out reply → CameTo
    came_to_one reply (inr nothing) gets =
        came_to_nothing nothing.2 (inr (subst (λ (text : List ℕ). GetsFront written out text) nothing.1 gets))
    came_to_one reply (inl (front, gives, (unavailable, taken, leaves, idle), whole, shown, stays)) gets =
        let turn : Turn = record {
          event = request moment front;
          unavailable = unavailable;
        } in (
          record {
            is_connection = true;
            turns = turn ∷ [];
            answers = replied reply ∷ [];
          },
          refl,
          inl (front, reply, unavailable, gives, gets, (refl, refl)),
          (
            new,
            record {
              was_open = was_open;
              was_clean = was_clean;
              stays_open = stays;
              shown = shown;
              taken = taken;
              left = leaves;
              shut = shut;
              idle = idle;
            },
            refl,
          ),
          All-cons (λ (turn : Turn). CanHappen turn.event) turn [] tt (All-nil (λ (turn : Turn). CanHappen turn.event)),
        )

    pub came_to : (result : Result Bool ServeFault)
        → ServesOne meaning keys moment input left written out old new result → CameTo
    came_to (Ok unavailable) (reply, answers, gets, told) =
        came_to_one reply answers (reply, [], sym (append-nil reply), gets)
    came_to (Err Write) (reply, answers, gets) = came_to_one reply answers gets
    came_to (Err Read) unhandled = came_to_nothing unhandled.1 (inl unhandled.2)
    came_to (Err Turns) unhandled = came_to_nothing unhandled.0.1 (inl unhandled.0.2)

-- ---- all that arrives

connections_more : (visits : List Visit) (visit : Visit)
    → connections (visits ++ visit ∷ []) ≡ connections visits + (if visit.came.is_connection then 1 else 0)
connections_more [] visit = omega arith
connections_more (first ∷ visits) visit = omega (arith, connections_more visits visit)

module _ {T L I O A : Type 0} (meaning : Meaning T) (listening : Listening L I O A) (held : I → InputStream)
    (sent : O → OutputStream) where
  open meaning use {is_open, is_clean}

  -- What arrives next ends it: nothing can be taken, or the store doesn't answer behind it.
  abbrev pub EndsNext : Keys → L → L → DeskValue T → DeskValue T → Fault → Type 0
  EndsNext keys mid after desk last fault = ((fault ≡ Accept) × listening.stops mid after × (last ≡ desk))
      ⊎ ((fault ≡ Unavailable) × ((visit : Visit) × IsShutBehind visit
      × ServesVisit meaning listening held sent keys visit mid desk.tables after last.tables))

  -- Many were served so far, of which so many were connections.
  pub record Served (keys : Keys) (arrived served : ℕ) (before : L) (old : T) (after : L) (new : T) : Type 0 where
    pub visits : List Visit
    pub all : ServesAll meaning listening held sent keys visits before old after new
    pub size : length visits ≡ arrived
    pub count : served ≡ connections visits
    pub on : All GoesOn visits

  pub served_none : (keys : Keys) (before : L) (old : T) → Served keys 0 0 before old before old
  served_none keys before old = record {
    visits = [];
    all = (refl, refl);
    size = refl;
    count = refl;
    on = All-nil GoesOn;
  }

  all_more : (keys : Keys) (visits : List Visit) (visit : Visit) (before : L) (old : T) (mid : L) (tables : T)
      (after : L)
      (new : T) → ServesAll meaning listening held sent keys visits before old mid tables
      → ServesVisit meaning listening held sent keys visit mid tables after new
      → ServesAll meaning listening held sent keys (visits ++ visit ∷ []) before old after new
  all_more keys [] visit before old mid tables after new (same, stays) last =
      (after, new, (rw (← same, ← stays) last), (refl, refl))
  all_more keys (first ∷ visits) visit before old mid tables after new (next, between, h, rest) last =
      (next, between, h, all_more keys visits visit next between mid tables after new rest last)

  -- one more
  pub served_more : (keys now : Keys) (arrived served more : ℕ) (visit : Visit) (before : L) (old : T) (mid : L)
      (tables : T) (after : L) (new : T) → Served keys arrived served before old mid tables → now ≡ keys
      → ServesVisit meaning listening held sent now visit mid tables after new
      → GoesOn visit → more ≡ served + (if visit.came.is_connection then 1 else 0)
      → Served keys (arrived + 1) more before old after new
  served_more keys now arrived served more visit before old mid tables after new earlier same last on counted = record {
    visits = earlier.visits ++ visit ∷ [];
    all = all_more keys earlier.visits visit before old mid tables after new earlier.all (rw same at last);
    size = omega (arith, earlier.size, length-append earlier.visits (visit ∷ []));
    count = omega (arith, counted, earlier.count, connections_more earlier.visits visit);
    on = All-append GoesOn earlier.visits (visit ∷ []) earlier.on (All-cons GoesOn visit [] on (All-nil GoesOn));
  }

  -- the turns of an arrival and of the look behind it
  looks_go : (keys : Keys) (look : Option Look) (old new : T)
      → LooksBehind meaning listening held sent keys look old new
      → GoesThrough meaning keys (look_turns look) (look_answers look) old new
  looks_go keys None old new same = same
  looks_go keys (Some look) old new handled = (new, handled, refl)

  visit_goes : (keys : Keys) (visit : Visit) (before : L) (old : T) (after : L) (new : T)
      → ServesVisit meaning listening held sent keys visit before old after new
      → GoesThrough meaning keys (visit.came.turns ++ look_turns visit.look)
      (visit.came.answers ++ look_answers visit.look) old new
  visit_goes keys visit before old after new (mid, h, looks) =
      through_both meaning keys visit.came.turns (look_turns visit.look) visit.came.answers
      (look_answers visit.look) old mid new h.goes
      (looks_go keys visit.look mid new looks)

  look_happens : (look : Option Look) → All (λ (turn : Turn). CanHappen turn.event) (look_turns look)
  look_happens None = All-nil (λ (turn : Turn). CanHappen turn.event)
  look_happens (Some look) =
      All-cons (λ (turn : Turn). CanHappen turn.event) (look_turn look) [] (tt, tt)
      (All-nil (λ (turn : Turn). CanHappen turn.event))

  -- the turns of all of them
  pub all_go : (keys : Keys) (visits : List Visit) (before : L) (old : T) (after : L) (new : T)
      → ServesAll meaning listening held sent keys visits before old after new
      → GoesThrough meaning keys (turns_of visits) (answers_of visits) old new
  all_go keys [] before old after new h = h.1
  all_go keys (visit ∷ visits) before old after new (mid, tables, h, rest) =
      through_both meaning keys (visit.came.turns ++ look_turns visit.look) (turns_of visits)
      (visit.came.answers ++ look_answers visit.look) (answers_of visits) old tables new
      (visit_goes keys visit before old mid tables h) (all_go keys visits mid tables after new rest)

  pub all_happen : (keys : Keys) (visits : List Visit) (before : L) (old : T) (after : L) (new : T)
      → ServesAll meaning listening held sent keys visits before old after new
      → All (λ (turn : Turn). CanHappen turn.event) (turns_of visits)
  all_happen keys [] before old after new h = All-nil (λ (turn : Turn). CanHappen turn.event)
  all_happen keys (visit ∷ visits) before old after new (mid, tables, h, rest) =
      All-append (λ (turn : Turn). CanHappen turn.event) (visit.came.turns ++ look_turns visit.look) (turns_of visits)
      (All-append (λ (turn : Turn). CanHappen turn.event) visit.came.turns (look_turns visit.look) h.1.happen
      (look_happens visit.look)) (all_happen keys visits mid tables after new rest)

  -- the connections are no more than all that arrived
  one_most : (is_connection : Bool) → (if is_connection then 1 else 0) ≤ 1
  one_most true = omega arith
  one_most false = omega arith

  connections_few : (visits : List Visit) → connections visits ≤ length visits
  connections_few [] = omega arith
  connections_few (visit ∷ visits) = omega (arith, one_most visit.came.is_connection, connections_few visits)

  pub served_few : (keys : Keys) (arrived served : ℕ) (before : L) (old : T) (after : L) (new : T)
      → Served keys arrived served before old after new → served ≤ arrived
  served_few keys arrived served before old after new s = omega (arith, s.size, s.count, connections_few s.visits)

  -- tables that are open, or clean, were so before
  pub served_open : (keys : Keys) (arrived served : ℕ) (before : L) (old : T) (after : L) (new : T)
      → Served keys arrived served before old after new → (is_open new → is_open old) × (is_clean new → is_clean old)
  served_open keys arrived served before old after new s =
      through_open meaning keys (turns_of s.visits) (answers_of s.visits) old new
      (all_go keys s.visits before old after new s.all)

  module _ (promising : (keys : Keys) (turns : List Turn) (answers : List EventAnswer) (old new : T)
      → 1 ≤ length keys.seed
      → All (λ (turn : Turn). CanHappen turn.event) turns → GoesThrough meaning keys turns answers old new
      → GoesAsPromised meaning keys turns answers old new)
      (leaving : (keys : Keys) (turns : List Turn) (answers : List EventAnswer) (old new : T)
      → GoesThrough meaning keys turns answers old new → LeavesRun meaning keys turns answers old new) (keys : Keys)
      (seeded : 1 ≤ length keys.seed) where
    is_serving : (visits : List Visit) (before : L) (old : T) (after : L) (new : T)
        → ServesAll meaning listening held sent keys visits before old after new
        → IsServing meaning listening held sent keys visits before old after new
    is_serving visits before old after new all =
        let goes = all_go keys visits before old after new all in
        let happen = all_happen keys visits before old after new all in record {
          all = all;
          goes = goes;
          happen = happen;
          promised = promising keys (turns_of visits) (answers_of visits) old new seeded happen goes;
          left = leaving keys (turns_of visits) (answers_of visits) old new goes;
        }

    -- as many connections as were asked for
    pub until_count : (count : Option ℕ) (arrived served : ℕ) (before : L) (old : T) (after : L) (new : T)
        → Served keys arrived served before old after new → count ≡ Some served
        → ServesUntil meaning listening held sent keys count before old after new (Ok served)
    until_count count arrived served before old after new s so =
        (s.visits, is_serving s.visits before old after new s.all, s.on, s.count, so)

    -- nothing can be taken
    pub until_stopped : (count : Option ℕ) (arrived served : ℕ) (before : L) (old : T) (mid after : L) (new last : T)
        (fault : Fault)
        → Served keys arrived served before old mid new → last ≡ new → fault ≡ Accept → listening.stops mid after
        → ServesUntil meaning listening held sent keys count before old after last (Err fault)
    until_stopped count arrived served before old mid after new last fault s same accept stops =
        rw same (s.visits, mid, is_serving s.visits before old mid new s.all, inl (accept, s.on, stops))

    -- the store doesn't answer behind one more
    pub until_shut : (now : Keys) (count : Option ℕ) (arrived served : ℕ) (visit : Visit) (before : L) (old : T)
        (mid after : L)
        (tables new : T) (fault : Fault) → Served keys arrived served before old mid tables → now ≡ keys
        → ServesVisit meaning listening held sent now visit mid tables after new → IsShutBehind visit
        → fault ≡ Unavailable → ServesUntil meaning listening held sent keys count before old after new (Err fault)
    until_shut now count arrived served visit before old mid after tables new fault s same last shut unavailable = (
      s.visits ++ visit ∷ [],
      after,
      is_serving (s.visits ++ visit ∷ []) before old after new
          (all_more keys s.visits visit before old mid tables after new s.all (rw same at last)),
      inr (inr (unavailable, (s.visits, visit, refl, s.on, shut), refl)),
    )

    pub until_ended : (now : Keys) (count : Option ℕ) (arrived served : ℕ) (before : L) (old : T) (mid after : L)
        (desk last : DeskValue T) (fault : Fault) → Served keys arrived served before old mid desk.tables → now ≡ keys
        → EndsNext now mid after desk last fault
        → ServesUntil meaning listening held sent keys count before old after last.tables (Err fault)
    until_ended now count arrived served before old mid after desk last fault s same (inl (accept, stops, still)) =
        until_stopped count arrived served before old mid after desk.tables last.tables fault s
        (ap (λ (d : DeskValue T). d.tables) still) accept stops
    until_ended now count arrived served before old mid after desk last fault s same
        (inr (unavailable, (visit, shut, serves))) =
        until_shut now count arrived served visit before old mid after desk.tables last.tables fault s same serves shut
        unavailable

    -- as much arrived as one run takes
    pub until_limit : (count : Option ℕ) (arrived served : ℕ) (before : L) (old : T) (after : L) (new : T)
        → Served keys arrived served before old after new → arrived ≡ 2 ^ 64 - 1
        → ServesUntil meaning listening held sent keys count before old after new (Err Limit)
    until_limit count arrived served before old after new s so =
        (s.visits, after, is_serving s.visits before old after new s.all, inr (inl (refl, s.on, refl, s.size ∙ so)))

  -- tables that are open, or clean, behind one more, were so before
  pub shut_open : (keys now : Keys) (arrived served : ℕ) (visit : Visit) (before : L) (old : T) (mid after : L)
      (tables new : T)
      → Served keys arrived served before old mid tables
      → ServesVisit meaning listening held sent now visit mid tables after new
      → (is_open new → is_open old) × (is_clean new → is_clean old)
  shut_open keys now arrived served visit before old mid after tables new s last =
      let (opens, cleans) = served_open keys arrived served before old mid tables s in
      let (opened, cleaned) = through_open meaning now (visit.came.turns ++ look_turns visit.look)
      (visit.came.answers ++ look_answers visit.look) tables new (visit_goes now visit mid tables after new last) in
      ((λ live. opens (opened live)), (λ clean. cleans (cleaned clean)))

  pub ended_open : (keys now : Keys) (arrived served : ℕ) (before : L) (old : T) (mid after : L)
      (desk last : DeskValue T)
      (fault : Fault) → Served keys arrived served before old mid desk.tables → EndsNext now mid after desk last fault
      → (is_open last.tables → is_open old) × (is_clean last.tables → is_clean old)
  ended_open keys now arrived served before old mid after desk last fault s (inl (accept, stops, still)) =
      let same = ap (λ (d : DeskValue T). d.tables) still in
      let (opens, cleans) = served_open keys arrived served before old mid desk.tables s in
      ((λ live. opens (rw same at live)), (λ clean. cleans (rw same at clean)))
  ended_open keys now arrived served before old mid after desk last fault s (inr (unavailable, (visit, shut, serves))) =
      shut_open keys now arrived served visit before old mid after desk.tables last.tables s serves
