-- Whose an event is, and what an account is told in a run and in the run of some accounts alone.
use Rattle.std.specs.Prelude.{◌≡◌, ◌⊎◌, ℕ, ◌≤◌, ◌==◌, List, [], ◌∷◌, Bool, true, false, not, ◌&&◌, ◌||◌, nat_lt}
use Rattle.std.specs.Prelude.{MatchBool, length, Option, Some, None, ⊤}
use Rattle.std.specs.List.{All}
use Rattle.acvp_policy.specs.declared.rule.Rule.{Rule}
use Rattle.acvp_tables.specs.Content.{Content, is_reviewer}
use Rattle.acvp_tables.specs.State.{State, own, owner_of, state_of, AreWellNumbered}
use Rattle.acvp_desk.specs.Answer.{end_of_moments, who_of}
use Rattle.acvp_desk.specs.Denials.{HaveSameCallers, IsDeniedFirst}
use Rattle.acvp_desk.specs.Isolation.{is_who, reviewer_asked, SeesAlike}
use Rattle.acvp_desk.specs.Kept.{IsKept}
use Rattle.acvp_desk.specs.Request.{RequestValue}
use Rattle.acvp_desk.specs.declared.keys.Keys.{Keys}
use Rattle.acvp_http.specs.Asks.{ParsedRequest, refused, wrong_method, typed, Asks}
use Rattle.acvp_http.specs.Event.{Event, request, order, EventAnswer, CanHappen, Turn}
use Rattle.acvp_http.specs.Reply.{IsDateOf, refusal}
use Rattle.acvp_http.specs.Serve.{AsksTheDesk, IsUnavailableRequest, Runs, ServesRequest}

-- ---- whose an event is

-- the account that a request is of, as its bytes are read: none where they are refused before anybody is looked at
abbrev pub whose : Keys → ℕ → ParsedRequest → Option ℕ
whose keys moment (refused rule) = None
whose keys moment (wrong_method path) = None
whose keys moment (typed r) = who_of keys moment r

-- the event is of this account, or of none: past the last moment that is served nobody is looked at, and an order is
-- the operator's
abbrev pub IsOf : Keys → Event → Option ℕ → Type 0
IsOf keys (request moment bytes) who =
    MatchBool (nat_lt moment end_of_moments) ((parsed : ParsedRequest) × Asks bytes parsed
    × (who ≡ whose keys moment parsed)) (who ≡ None)
IsOf keys (order moment o) who = who ≡ None

-- ---- one request

-- The bytes of a request were answered so over these records, and left the others. The account that they are of is told
-- the same over all records in which it sees the same, and nobody what all records give. Of the account's own rows is
-- left what these alone tell, and those of every other stay as they were; and nobody changes anything.
pub record IsAnsweredApart (keys : Keys) (moment : ℕ) (bytes : List ℕ) (old new : Content)
    (reply : List ℕ) : Type 0 where
  pub who : Option ℕ
  pub of : IsOf keys (request moment bytes) who
  pub told : (other : Content) → AreWellNumbered other → SeesAlike who (state_of old) (state_of other)
      → (after : Content) × ServesRequest keys moment bytes other after reply
  pub left : (v : ℕ) (other after : Content) (said : List ℕ) → AreWellNumbered other
      → own v (state_of old) ≡ own v (state_of other)
      → ServesRequest keys moment bytes other after said → own v (state_of new) ≡ own v (state_of after)
  pub others : (v : ℕ) → is_who who v ≡ false → own v (state_of new) ≡ own v (state_of old)
  pub nobody : who ≡ None → new ≡ old

-- so is each request that is served
abbrev pub RequestIsolation : Type 0
RequestIsolation = (keys : Keys) (moment : ℕ) (bytes : List ℕ) (old new : Content) (reply : List ℕ)
    → AreWellNumbered old → ServesRequest keys moment bytes old new reply
    → IsAnsweredApart keys moment bytes old new reply

-- or it is unavailable, and changes nothing
abbrev pub IsTakenApart : Keys → ℕ → List ℕ → Content → Content → List ℕ → Type 0
IsTakenApart keys moment bytes old new reply =
    ((new ≡ old) × IsUnavailableRequest moment bytes reply)
    ⊎ (ServesRequest keys moment bytes old new reply × IsAnsweredApart keys moment bytes old new reply)

-- ---- denials

-- The bytes of a request are denied over these records by a rule on their caller, and this is the reply.
abbrev pub IsDeniedToCaller : Keys → ℕ → List ℕ → State → List ℕ → Type 0
IsDeniedToCaller keys moment bytes state reply =
    (r : RequestValue) × (broken : Rule) × (date : List ℕ) × AsksTheDesk moment bytes r
    × IsDeniedFirst keys moment r state broken × IsDateOf moment date × (reply ≡ refusal (Some date) broken)

-- They are denied so, byte for byte, over all records with the same accounts and reviewers, whatever else these hold;
-- or over none of them.
abbrev pub DeniedAlike : Type 0
DeniedAlike = (keys : Keys) (moment : ℕ) (bytes reply : List ℕ) (one other : State) → HaveSameCallers one other
    → IsDeniedToCaller keys moment bytes one reply → IsDeniedToCaller keys moment bytes other reply

-- Such a denial is how the request is served over these records: they stay, and this is its reply.
abbrev pub DenialsAreServed : Type 0
DenialsAreServed = (keys : Keys) (moment : ℕ) (bytes reply : List ℕ) (c : Content)
    → IsDeniedToCaller keys moment bytes (state_of c) reply → ServesRequest keys moment bytes c c reply

-- ---- the turns of some accounts alone

abbrev pub is_order : Event → Bool
is_order (request moment bytes) = false
is_order (order moment o) = true

-- it is one of these accounts
abbrev pub is_among : (ℕ → Bool) → Option ℕ → Bool
is_among these None = false
is_among these (Some u) = these u

-- an event of this account is the operator's, or one of these accounts', and wasn't unavailable
abbrev pub is_theirs : (ℕ → Bool) → Turn → Option ℕ → Bool
is_theirs these turn who = not turn.unavailable && (is_order turn.event || is_among these who)

-- of the turns of a run, in their order, those that are the operator's or one of these accounts'
abbrev pub Only : Keys → (ℕ → Bool) → List Turn → List Turn → Type 0
Only keys these [] chosen = chosen ≡ []
Only keys these (turn ∷ turns) chosen = (who : Option ℕ) × IsOf keys turn.event who
    × MatchBool (is_theirs these turn who) ((rest : List Turn) × (chosen ≡ turn ∷ rest) × Only keys these turns rest)
    (Only keys these turns chosen)

-- ---- what an account is told

-- an event of this account is u's, and wasn't unavailable
abbrev pub is_told : ℕ → Turn → Option ℕ → Bool
is_told u turn who = not turn.unavailable && is_who who u

-- the answers to u's requests among those of a run, in their order
abbrev pub Told : Keys → ℕ → List Turn → List EventAnswer → List EventAnswer → Type 0
Told keys u [] [] told = told ≡ []
Told keys u [] (answer ∷ answers) told = ⊥
Told keys u (turn ∷ turns) [] told = ⊥
Told keys u (turn ∷ turns) (answer ∷ answers) told = (who : Option ℕ) × IsOf keys turn.event who
    × MatchBool (is_told u turn who)
    ((rest : List EventAnswer) × (told ≡ answer ∷ rest) × Told keys u turns answers rest)
    (Told keys u turns answers told)

-- ---- who can let an account see something

-- a request that asks to add u as a reviewer is of one of these accounts
abbrev pub AsksWithin : Keys → ℕ → (ℕ → Bool) → Event → Type 0
AsksWithin keys u these (request moment bytes) =
    (r : RequestValue) (w : ℕ) → AsksTheDesk moment bytes r → reviewer_asked r ≡ Some u → who_of keys moment r ≡ Some w
    → these w ≡ true
AsksWithin keys u these (order moment o) = ⊤

-- Among these accounts are u itself, those that have it as a reviewer, and those that ask in a turn to add it as one;
-- there may be others.
pub record LetsSee (keys : Keys) (u : ℕ) (these : ℕ → Bool) (state : State) (turns : List Turn) : Type 0 where
  pub itself : these u ≡ true
  pub reviewed : (s : ℕ) → is_reviewer s u state.reviewers ≡ true → these (owner_of s) ≡ true
  pub asked : All (λ turn. turn.unavailable ≡ false → AsksWithin keys u these turn.event) turns

-- Records from which a run of these accounts alone may begin: kept, with the same rows of each of these accounts as the
-- others, and no account but these has u as a reviewer there.
pub record AreTheirs (keys : Keys) (u : ℕ) (these : ℕ → Bool) (old begun : Content) : Type 0 where
  pub kept : IsKept keys.seed begun
  pub owned : (w : ℕ) → these w ≡ true → own w (state_of old) ≡ own w (state_of begun)
  pub reviewed : (s : ℕ) → is_reviewer s u (state_of begun).reviewers ≡ true → these (owner_of s) ≡ true

-- u is told in the run what it is told in the run of the operator's and these accounts' turns alone, which begins from
-- these records: there is such a run, and in each that is one it is told the same
pub record IsToldAlone (keys : Keys) (u : ℕ) (these : ℕ → Bool) (turns : List Turn) (begun : Content)
    (answers : List EventAnswer) : Type 0 where
  pub chosen : List Turn
  pub left : Content
  pub others : List EventAnswer
  pub told : List EventAnswer
  pub only : Only keys these turns chosen
  pub runs : Runs keys chosen begun left others
  pub here : Told keys u turns answers told
  pub alone : Told keys u chosen others told
  pub every : (only_theirs : List Turn) (after : Content) (said heard : List EventAnswer)
      → Only keys these turns only_theirs → Runs keys only_theirs begun after said
      → Told keys u only_theirs said heard → Told keys u turns answers heard

-- What an account is told in a run is what it is told where only those act that let it see something, from whatever
-- records in which these have the same.
abbrev pub Isolation : Type 0
Isolation = (keys : Keys) (u : ℕ) (these : ℕ → Bool) (turns : List Turn) (old new begun : Content)
    (answers : List EventAnswer)
    → 1 ≤ length keys.seed → IsKept keys.seed old → All (λ turn. CanHappen turn.event) turns
    → LetsSee keys u these (state_of old) turns → AreTheirs keys u these old begun
    → Runs keys turns old new answers → IsToldAlone keys u these turns begun answers

-- no other account has u as a reviewer, and none asks in a turn to add it as one
pub record IsUnnamed (keys : Keys) (u : ℕ) (state : State) (turns : List Turn) : Type 0 where
  pub reviewed : (s : ℕ) → is_reviewer s u state.reviewers ≡ true → owner_of s ≡ u
  pub asked : All (λ turn. turn.unavailable ≡ false → AsksWithin keys u (λ w. w == u) turn.event) turns

-- So an account that no other names a reviewer is told what it is told where the operator and it alone act.
abbrev pub IsolationAlone : Type 0
IsolationAlone = (keys : Keys) (u : ℕ) (turns : List Turn) (old new begun : Content) (answers : List EventAnswer)
    → 1 ≤ length keys.seed → IsKept keys.seed old → All (λ turn. CanHappen turn.event) turns
    → IsUnnamed keys u (state_of old) turns → AreTheirs keys u (λ w. w == u) old begun
    → Runs keys turns old new answers → IsToldAlone keys u (λ w. w == u) turns begun answers
