-- What is found of what a caller asks: the numbers of its path, how what these name stands, and what the reply shows.
use Rattle.std.specs.Prelude.{ℕ, List, [], ◌∷◌, map, length, Bool, true, false, ◌&&◌}
use Rattle.std.specs.Prelude.{if◌then◌else◌, Option, None, option_map, option_and_then}
use Rattle.std.specs.List.{list_all}
use Rattle.acvp_json.specs.declared.page.Page.{Page}
use Rattle.acvp_policy.specs.declared.action.Action.{Action}
use Rattle.acvp_policy.specs.declared.facts.CertificationStatus.{CertificationStatus}
use Rattle.acvp_policy.specs.declared.facts.CertificationStatus.TheVariants as certification
use Rattle.acvp_policy.specs.declared.facts.SessionFacts.{SessionFacts}
use Rattle.acvp_policy.specs.declared.facts.Subject.{Subject}
use Rattle.acvp_policy.specs.declared.facts.Subject.TheVariants as subject
use Rattle.acvp_tables.specs.Content.{is_reviewer, page, request_at, request_summary, reviewers_of}
use Rattle.acvp_tables.specs.State.{State, SessionRecord, SetRecord, session_record_at, session_records_of}
use Rattle.acvp_tables.specs.State.{live_records, record_counts}
use Rattle.acvp_tables.specs.declared.rows.RequestRow.{RequestRow}
use Rattle.acvp_tables.specs.declared.rows.RequestStatus.{RequestStatus}
use Rattle.acvp_tables.specs.declared.rows.RequestStatus.TheVariants as status
use Rattle.acvp_desk.specs.declared.found.ListedSession.{ListedSession}
use Rattle.acvp_desk.specs.declared.found.SetOutcome.{SetOutcome}
use Rattle.acvp_desk.specs.declared.found.SessionsPage.{SessionsPage}
use Rattle.acvp_desk.specs.declared.found.Place.{Place}
use Rattle.acvp_desk.specs.declared.found.Place.TheVariants as place
use Rattle.acvp_desk.specs.declared.found.ObjectsPage.{ObjectsPage}
use Rattle.acvp_desk.specs.declared.found.RegistryPlace.{RegistryPlace}
use Rattle.acvp_desk.specs.declared.found.RegistryPlace.TheVariants as in_registry
use Rattle.acvp_desk.specs.declared.found.RequestsPage.{RequestsPage}
use Rattle.acvp_desk.specs.declared.found.SessionPlace.{SessionPlace}
use Rattle.acvp_desk.specs.declared.found.SessionPlace.TheVariants as in_session
use Rattle.acvp_desk.specs.declared.wish.Wish.{Wish}
use Rattle.acvp_desk.specs.declared.wish.Wish.TheVariants as wish
use Rattle.acvp_desk.specs.declared.wish.AccountWish.TheVariants as on_account
use Rattle.acvp_desk.specs.declared.wish.SessionWish.{SessionWish}
use Rattle.acvp_desk.specs.declared.wish.SessionWish.TheVariants as on_session
use Rattle.acvp_desk.specs.declared.wish.RegistryWish.{RegistryWish}
use Rattle.acvp_desk.specs.declared.wish.RegistryWish.TheVariants as on_registry
use Rattle.acvp_desk.specs.Asked.{certified_in, object_in, certification_grounds, object_grounds}
use Rattle.acvp_desk.specs.Registries.{kind_of, objects_page, own_object, own_request, registry_subject, requests_page}
use Rattle.acvp_desk.specs.Sets.{set_disposition, set_facts, set_passes, set_place, set_reviewed, set_wish}
use Rattle.acvp_desk.specs.Wish.{action_of_wish}

-- ---- a test session

abbrev pub is_any : {X : Type 0} → List X → Bool
is_any [] = false
is_any (x ∷ xs) = true

-- a session has passed: there is a vector set that isn't cancelled, and each such set passes
unfoldable pub session_passes : List (List ℕ) → ℕ → List SetRecord → Bool
session_passes seeds n sets = is_any (live_records n sets) && list_all (set_passes seeds) (live_records n sets)

abbrev pub certification_status : RequestStatus → CertificationStatus
certification_status status.Initial = certification.Initial
certification_status (status.Approved n) = certification.Approved
certification_status status.Rejected = certification.Rejected

-- the status of a session's last certification request
abbrev pub certification_of : Option ℕ → List RequestRow → Option CertificationStatus
certification_of certify requests =
    option_map (λ row. certification_status row.status) (option_and_then (λ n. request_at n requests) certify)

abbrev pub facts_of_session : List (List ℕ) → State → SessionRecord → SessionFacts
facts_of_session seeds state row = record {
  cancelled = row.cancelled;
  created = row.created;
  sample = row.sample;
  certification = certification_of row.last_request state.requests;
  passed = session_passes seeds row.number state.sets;
}

-- how the session of a number stands
unfoldable pub session_facts : List (List ℕ) → State → ℕ → Option SessionFacts
session_facts seeds state n = option_map (facts_of_session seeds state) (session_record_at n state.sessions)

-- ---- who reviews

abbrev pub session_reviewed : SessionWish → ℕ → ℕ → State → Bool
session_reviewed on_session.Results n u state = is_reviewer n u state.reviewers
session_reviewed _ n u state = false

-- whether the account that acts reviews the session of the path, on the actions that reviewers are let in to
abbrev pub reviewed : Wish → ℕ → State → Bool
reviewed (wish.Session n it) u state = session_reviewed it n u state
reviewed (wish.Set session n it) u state = set_reviewed it session u state
reviewed _ u state = false

-- how a session of an account's review stands, where the account is a reviewer of it
abbrev pub reviewed_facts : List (List ℕ) → State → ℕ → ℕ → Option SessionFacts
reviewed_facts seeds state n m = if is_reviewer n m state.reviewers then session_facts seeds state n else None

-- ---- what is found

-- the numbers of a session's vector sets that aren't cancelled
abbrev pub set_numbers : ℕ → State → List ℕ
set_numbers n state = map (λ row. row.number) (live_records n state.sets)

-- each such set, with what its answers come to
abbrev pub set_outcome : List (List ℕ) → SetRecord → SetOutcome
set_outcome seeds row = record { vs = row.number; disposition = set_disposition seeds row }

abbrev pub set_outcomes : List (List ℕ) → ℕ → State → List SetOutcome
set_outcomes seeds n state = map (set_outcome seeds) (live_records n state.sets)

abbrev pub session_place : List (List ℕ) → ℕ → State → SessionWish → SessionPlace
session_place seeds n state on_session.Read = in_session.Read (set_numbers n state)
session_place seeds n state on_session.Cancel = in_session.Cancel
session_place seeds n state on_session.Results = in_session.Results (set_outcomes seeds n state)
session_place seeds n state on_session.ListSets = in_session.ListSets (set_numbers n state)
session_place seeds n state on_session.ListReviewers = in_session.ListReviewers (reviewers_of n state.reviewers)
session_place seeds n state on_session.AddReviewer = in_session.AddReviewer (reviewers_of n state.reviewers)

-- what a list shows of a session
abbrev pub listed_session : List RequestRow → SessionRecord → ListedSession
listed_session requests row = record {
  number = row.number;
  created = row.created;
  sample = row.sample;
  cancelled = row.cancelled;
  certification = certification_of row.last_request requests;
}

-- how many sessions an account has, and those of a page
abbrev pub sessions_page : ℕ → State → Page → SessionsPage
sessions_page u state at = record {
  page = at;
  total = length (session_records_of u state.sessions);
  sessions = map (listed_session state.requests) (page at.offset at.limit (session_records_of u state.sessions));
}

-- of a registry, or of requests
abbrev pub registry_place : ℕ → List ℕ → State → RegistryWish → RegistryPlace
registry_place u body state (on_registry.Read of n) =
    in_registry.Object of n (own_object (kind_of of) u n state.objects)
registry_place u body state (on_registry.New of) =
    in_registry.New of (object_in (kind_of of) body) (object_grounds u (object_in (kind_of of) body) state)
registry_place u body state (on_registry.List of at) =
    in_registry.Objects of (option_map (objects_page (kind_of of) u state.objects) at)
registry_place u body state (on_registry.ReadRequest n) =
    in_registry.Request n (option_map request_summary (own_request u n state.requests))
registry_place u body state (on_registry.ListRequests at) =
    in_registry.Requests (option_map (requests_page u state.requests) at)

-- by the records of the account that acts, and by what the path and the body name
abbrev pub place_of : List (List ℕ) → ℕ → List ℕ → State → Wish → Place
place_of seeds u body state (wish.Account on_account.Read) = place.Account (record_counts u state)
place_of seeds u body state (wish.Account on_account.ListAlgorithms) = place.Algorithms
place_of seeds u body state (wish.Algorithm n) = place.Algorithm n
place_of seeds u body state (wish.Session n it) =
    place.Session n (session_facts seeds state n) (session_place seeds n state it)
place_of seeds u body state (wish.Reviewer n m) =
    place.Reviewer n m (reviewed_facts seeds state n m) (reviewers_of n state.reviewers)
place_of seeds u body state wish.NewSession = place.NewSession (record_counts u state).sessions
place_of seeds u body state (wish.Set session n it) =
    place.Set session n (set_facts (session_facts seeds state session) session n state.sets)
    (set_place seeds session n state.sets it)
place_of seeds u body state (wish.CancelSet session n) =
    place.CancelSet session n (set_facts (session_facts seeds state session) session n state.sets)
    (set_outcomes seeds session state)
place_of seeds u body state (wish.ListSessions at) = place.Sessions (option_map (sessions_page u state) at)
place_of seeds u body state (wish.Certify n) =
    place.Certify n (session_facts seeds state n) (certified_in body)
    (certification_grounds u (certified_in body) state)
place_of seeds u body state (wish.Registry it) = place.Registry (registry_place u body state it)

-- ---- what the policy is asked about it

abbrev pub session_wish : SessionPlace → SessionWish
session_wish (in_session.Read sets) = on_session.Read
session_wish in_session.Cancel = on_session.Cancel
session_wish (in_session.Results sets) = on_session.Results
session_wish (in_session.ListSets sets) = on_session.ListSets
session_wish (in_session.ListReviewers accounts) = on_session.ListReviewers
session_wish (in_session.AddReviewer accounts) = on_session.AddReviewer

abbrev pub registry_wish : RegistryPlace → RegistryWish
registry_wish (in_registry.Object of n row) = on_registry.Read of n
registry_wish (in_registry.New of object grounds) = on_registry.New of
registry_wish (in_registry.Objects of rows) = on_registry.List of (option_map (λ (rows : ObjectsPage). rows.page) rows)
registry_wish (in_registry.Request n row) = on_registry.ReadRequest n
registry_wish (in_registry.Requests rows) =
    on_registry.ListRequests (option_map (λ (rows : RequestsPage). rows.page) rows)

-- what was asked
abbrev pub wish_at : Place → Wish
wish_at (place.Account counts) = wish.Account on_account.Read
wish_at place.Algorithms = wish.Account on_account.ListAlgorithms
wish_at (place.Algorithm n) = wish.Algorithm n
wish_at (place.Session n found it) = wish.Session n (session_wish it)
wish_at (place.Reviewer n m found accounts) = wish.Reviewer n m
wish_at (place.NewSession sessions) = wish.NewSession
wish_at (place.Set session n found it) = wish.Set session n (set_wish it)
wish_at (place.CancelSet session n found sets) = wish.CancelSet session n
wish_at (place.Sessions found) = wish.ListSessions (option_map (λ (found : SessionsPage). found.page) found)
wish_at (place.Certify n found parts grounds) = wish.Certify n
wish_at (place.Registry it) = wish.Registry (registry_wish it)

-- the action that it is
abbrev pub action_at : Place → Action
action_at it = action_of_wish (wish_at it)

-- what the path names, with what is found there
abbrev pub subject_at : Place → Subject
subject_at (place.Account counts) = subject.Account
subject_at place.Algorithms = subject.Account
subject_at (place.Algorithm n) = subject.Algorithm n
subject_at (place.Session n found it) = subject.Session (record { session = n; found = found })
subject_at (place.Reviewer n m found accounts) =
    subject.Reviewer (record { session = n; reviewer = m; found = found })
subject_at (place.NewSession sessions) = subject.Account
subject_at (place.Set session n found it) = subject.Set (record { session = session; set = n; found = found })
subject_at (place.CancelSet session n found sets) =
    subject.Set (record { session = session; set = n; found = found })
subject_at (place.Sessions found) = subject.Account
subject_at (place.Certify n found parts grounds) = subject.Session (record { session = n; found = found })
subject_at (place.Registry it) = registry_subject it
