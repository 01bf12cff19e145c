-- The records without what is derived of them: no verdict, no disposition, no counter. What each account owns of them,
-- and what it may see. And when they are well numbered.
use Rattle.std.specs.Prelude.{◌≡◌, ℕ, ◌+◌, ◌*◌, ◌/◌, ◌≤◌, List, length, map, filter, find, Bool, true, false, ◌==◌}
use Rattle.std.specs.Prelude.{◌&&◌, ◌||◌, not, nat_le, nat_lt, Option, Some, None, option_map, is_some}
use Rattle.std.specs.List.{list_all, list_any, range_with_len}
use Rattle.acvp_answers.specs.Answer.{Answer}
use Rattle.acvp_caps.specs.Capability.{CapabilityValue}
use Rattle.acvp_registry.specs.Object.{KeptObject, object_fault, object_vendor}
use Rattle.acvp_registry.specs.declared.kind.Kind.{Kind}
use Rattle.acvp_registry.specs.declared.kind.Kind.TheVariants.{Vendor, Module, Environment}
use Rattle.acvp_tables.specs.Graded.{GradedValue}
use Rattle.acvp_tables.specs.Content.{Content, account_at, is_kind, is_reviewer, object_at, objects_of, requests_of}
use Rattle.acvp_tables.specs.declared.rows.AccountRow.{AccountRow}
use Rattle.acvp_tables.specs.declared.rows.SessionRow.{SessionRow}
use Rattle.acvp_tables.specs.declared.rows.SetRow.{SetRow}
use Rattle.acvp_tables.specs.declared.rows.ObjectRow.{ObjectRow}
use Rattle.acvp_tables.specs.declared.rows.RequestRow.{RequestRow}
use Rattle.acvp_tables.specs.declared.rows.RequestBody.{RequestBody}
use Rattle.acvp_tables.specs.declared.rows.RequestBody.TheVariants as body
use Rattle.acvp_tables.specs.declared.rows.RequestStatus.{RequestStatus}
use Rattle.acvp_tables.specs.declared.rows.RequestStatus.TheVariants as status
use Rattle.acvp_tables.specs.declared.rows.ReviewerRow.{ReviewerRow}
use Rattle.acvp_registry.specs.declared.counts.Counts.{Counts}

pub record SessionRecord : Type 0 where
  pub number : ℕ
  pub account : ℕ
  pub sample : Bool
  pub created : ℕ
  pub cancelled : Bool
  pub last_request : Option ℕ

pub record SetRecord : Type 0 where
  pub number : ℕ
  pub session : ℕ
  pub capability : CapabilityValue
  pub epoch : ℕ
  pub cancelled : Bool
  pub answers : Option (List Answer)

pub record State : Type 0 where
  pub accounts : List AccountRow
  pub sessions : List SessionRecord
  pub sets : List SetRecord
  pub objects : List ObjectRow
  pub requests : List RequestRow
  pub reviewers : List ReviewerRow

abbrev pub session_record : SessionRow → SessionRecord
session_record row = record {
  number = row.number;
  account = row.account;
  sample = row.sample;
  created = row.created;
  cancelled = row.cancelled;
  last_request = row.last_request;
}

abbrev pub set_record : SetRow → SetRecord
set_record row = record {
  number = row.number;
  session = row.session;
  capability = row.capability;
  epoch = row.epoch;
  cancelled = row.cancelled;
  answers = option_map (λ (g : GradedValue). g.answers) row.graded;
}

unfoldable pub state_of : Content → State
state_of c = record {
  accounts = c.accounts;
  sessions = map session_record c.sessions;
  sets = map set_record c.sets;
  objects = c.objects;
  requests = c.requests;
  reviewers = c.reviewers;
}

-- ---- numbers

-- the account that a session, an object or a request is of, by its number
abbrev pub owner_of : ℕ → ℕ
owner_of number = number / 1000000

-- the first number that an account gives, and that a session gives
abbrev pub first_of_account : ℕ → ℕ
first_of_account account = account * 1000000 + 1

abbrev pub first_of_session : ℕ → ℕ
first_of_session session = session * 100 + 1

-- ---- whose rows they are

-- the rows of an account
unfoldable pub own : ℕ → State → State
own u state = record {
  accounts = filter (λ row. row.number == u) state.accounts;
  sessions = filter (λ row. row.account == u) state.sessions;
  sets = filter (λ row. owner_of row.session == u) state.sets;
  objects = filter (λ row. row.account == u) state.objects;
  requests = filter (λ row. row.account == u) state.requests;
  reviewers = filter (λ row. owner_of row.session == u) state.reviewers;
}

-- whether an account may see what is of a session, by the session's account and number
abbrev pub may_see : ℕ → ℕ → ℕ → State → Bool
may_see u account session state = (account == u) || is_reviewer session u state.reviewers

-- the rows of an account; and of each session that it reviews its row, its sets and that it reviews it
unfoldable pub seen : ℕ → State → State
seen u state = record {
  accounts = filter (λ row. row.number == u) state.accounts;
  sessions = filter (λ row. may_see u row.account row.number state) state.sessions;
  sets = filter (λ row. may_see u (owner_of row.session) row.session state) state.sets;
  objects = filter (λ row. row.account == u) state.objects;
  requests = filter (λ row. row.account == u) state.requests;
  reviewers = filter (λ row. (owner_of row.session == u) || (row.account == u)) state.reviewers;
}

-- ---- rows by their numbers

abbrev pub session_record_at : ℕ → List SessionRecord → Option SessionRecord
session_record_at n rows = find (λ row. row.number == n) rows

abbrev pub set_record_at : ℕ → List SetRecord → Option SetRecord
set_record_at n rows = find (λ row. row.number == n) rows

abbrev pub sets_in : ℕ → List SetRecord → List SetRecord
sets_in session rows = filter (λ row. row.session == session) rows

-- a session's vector sets that aren't cancelled
abbrev pub live_records : ℕ → List SetRecord → List SetRecord
live_records session rows = filter (λ row. (row.session == session) && not row.cancelled) rows

abbrev pub objects_in : Kind → List ObjectRow → List ObjectRow
objects_in kind rows = filter (λ row. is_kind row.object.kind kind) rows

abbrev pub session_records_of : ℕ → List SessionRecord → List SessionRecord
session_records_of account rows = filter (λ row. row.account == account) rows

-- how many rows an account has
abbrev pub record_counts : ℕ → State → Counts
record_counts account state = record {
  sessions = length (session_records_of account state.sessions);
  vendors = length (objects_of Vendor account state.objects);
  modules = length (objects_of Module account state.objects);
  environments = length (objects_of Environment account state.objects);
  requests = length (requests_of account state.requests);
}

-- ---- well numbered

-- the rows have the numbers from the first on, in order and without gaps
abbrev pub IsNumbered : {Row : Type 0} → (Row → ℕ) → ℕ → List Row → Type 0
IsNumbered number first rows = map number rows ≡ range_with_len first (length rows)

abbrev pub is_account_number : ℕ → Bool
is_account_number n = nat_le 1 n && nat_le n 9999

-- an account's number, and a secret of 32 bytes
abbrev pub is_account_row : AccountRow → Bool
is_account_row row = is_account_number row.number && (length row.secret == 32)

abbrev pub has_rows : State → Bool
has_rows mine = nat_lt 0 (length mine.sessions + length mine.objects + length mine.requests)

abbrev pub is_account_there : ℕ → State → Bool
is_account_there u mine = is_some (account_at u mine.accounts)

abbrev pub is_registration_of : Kind → RequestBody → Bool
is_registration_of kind (body.Registration object) = is_kind object.kind kind
is_registration_of kind (body.Certification c) = false

abbrev pub is_approved_as : ℕ → RequestStatus → Bool
is_approved_as n status.Initial = false
is_approved_as n (status.Approved m) = m == n
is_approved_as n status.Rejected = false

abbrev pub is_approved : RequestStatus → Bool
is_approved status.Initial = false
is_approved (status.Approved n) = true
is_approved status.Rejected = false

-- an approved request for the registration of an object of a kind
abbrev pub has_registered : Kind → RequestRow → Bool
has_registered kind row = is_registration_of kind row.body && is_approved row.status

-- an approved request by which the object was registered under its number
abbrev pub has_registered_as : ObjectRow → RequestRow → Bool
has_registered_as object row = is_registration_of object.object.kind row.body && is_approved_as object.number row.status

-- the number of what an approval gave
abbrev pub given_number : RequestStatus → Option ℕ
given_number status.Initial = None
given_number (status.Approved n) = Some n
given_number status.Rejected = None

-- of what may be none, each is so
abbrev pub of_all : {X : Type 0} → (X → Bool) → Option X → Bool
of_all test None = true
of_all test (Some x) = test x

-- a module's vendor is there
abbrev pub has_vendor : List ObjectRow → KeptObject → Bool
has_vendor objects object = of_all (λ n. is_some (object_at Vendor n objects)) (object_vendor object)

-- the object's value is one that is kept of its kind, and its vendor is there
abbrev pub is_sound_object : List ObjectRow → KeptObject → Bool
is_sound_object objects object = not (is_some (object_fault object.kind object.value)) && has_vendor objects object

-- a request's body is one that is kept, and what it names is there
abbrev pub is_sound_body : State → RequestBody → Bool
is_sound_body mine (body.Registration object) = is_sound_object mine.objects object
is_sound_body mine (body.Certification c) =
    is_some (object_at Module c.module mine.objects) && is_some (object_at Environment c.environment mine.objects)
    && is_some (session_record_at c.session mine.sessions)

-- what an approval gives under a number is there: an object of the kind, or the certified session
abbrev pub has_given : List ObjectRow → RequestBody → ℕ → Bool
has_given objects (body.Registration object) n = is_some (object_at object.kind n objects)
has_given objects (body.Certification c) n = c.session == n

-- what an approved request gave is there
abbrev pub has_all_given : List ObjectRow → RequestRow → Bool
has_all_given objects row = of_all (has_given objects row.body) (given_number row.status)

abbrev pub certifies : ℕ → RequestBody → Bool
certifies session (body.Registration object) = false
certifies session (body.Certification c) = c.session == session

-- what holds of one account's rows
pub record IsWellNumberedFor (u : ℕ) (mine : State) : Type 0 where
  -- the account is there at most once, and where it has rows
  pub once : length mine.accounts ≤ 1
  pub accounts : list_all is_account_row mine.accounts ≡ true
  pub there : has_rows mine ≡ true → is_account_there u mine ≡ true
  -- numbers rise from the account's first without gaps
  pub sessions : IsNumbered (λ row. row.number) (first_of_account u) mine.sessions
  pub few_sessions : length mine.sessions ≤ 999999
  pub requests : IsNumbered (λ row. row.number) (first_of_account u) mine.requests
  pub few_requests : length mine.requests ≤ 999999
  pub objects : (kind : Kind) → IsNumbered (λ row. row.number) (first_of_account u) (objects_in kind mine.objects)
  -- no more objects of a kind than approved requests for them; each object is that of one, and each one's object is
  -- there
  pub asked_for : (kind : Kind)
      → length (objects_in kind mine.objects) ≤ length (filter (has_registered kind) mine.requests)
  pub registered : list_all (λ object. list_any (has_registered_as object) mine.requests) mine.objects ≡ true
  pub given : list_all (has_all_given mine.objects) mine.requests ≡ true
  -- of each session 1 to 20 sets, whose numbers rise from the session's first without gaps
  pub sets : (s : ℕ) → IsNumbered (λ row. row.number) (first_of_session s) (sets_in s mine.sets)
  pub few_sets : (s : ℕ) → length (sets_in s mine.sets) ≤ 20
  pub some_sets : list_all (λ row. list_any (λ set. set.session == row.number) mine.sets) mine.sessions ≡ true
  -- what rows refer to is there
  pub set_sessions : list_all (λ set. is_some (session_record_at set.session mine.sessions)) mine.sets ≡ true
  pub certified : list_all
      (λ row. of_all (λ n. list_any (λ request. (request.number == n)
      && certifies row.number request.body) mine.requests) row.last_request) mine.sessions ≡ true
  pub asked : list_all (λ request. is_sound_body mine request.body) mine.requests ≡ true
  pub kept : list_all (λ row. is_sound_object mine.objects row.object) mine.objects ≡ true
  -- a session was created at a moment that is served
  pub created : list_all (λ row. nat_lt row.created 4102444800) mine.sessions ≡ true
  -- of each session at most 16 reviewers, none twice
  pub reviewed : list_all (λ row. is_some (session_record_at row.session mine.sessions)) mine.reviewers ≡ true
  pub reviewers : list_all (λ row. is_account_number row.account) mine.reviewers ≡ true
  pub few_reviewers : (s : ℕ) → length (filter (λ row. row.session == s) mine.reviewers) ≤ 16
  pub pairs_once : (s a : ℕ) → length (filter (λ row. (row.session == s) && (row.account == a)) mine.reviewers) ≤ 1

-- each account's rows are well numbered
unfoldable pub IsWellNumbered : State → Type 0
IsWellNumbered state = (u : ℕ) → IsWellNumberedFor u (own u state)

-- the rows of a content are
abbrev pub AreWellNumbered : Content → Type 0
AreWellNumbered c = IsWellNumbered (state_of c)
