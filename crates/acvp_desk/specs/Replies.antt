-- The object of the reply to each wish, and the change that is made.
use Rattle.std.specs.Prelude.{ℕ, ◌+◌, ◌==◌, ◌&&◌, not, nat_le, Bool, List, [], map, filter, length, codes, find}
use Rattle.std.specs.Prelude.{if◌then◌else◌, slice_get, Option, Some, None, option_map, option_and_then}
use Rattle.acvp_caps.specs.Algorithms.{algorithms, algorithm_number}
use Rattle.acvp_caps.specs.declared.algorithm.Algorithm.{Algorithm}
use Rattle.acvp_json.specs.Account.{account_data, reviewers_data}
use Rattle.acvp_json.specs.AlgorithmData.{algorithm_data, algorithms_data}
use Rattle.acvp_json.specs.Data.{Data}
use Rattle.acvp_answers.specs.Standards.{standard_of}
use Rattle.acvp_answers.specs.Verdicts.{disposition_of, verdicts_of}
use Rattle.acvp_answers.specs.declared.verdict.Verdict.{Verdict}
use Rattle.acvp_answers.specs.declared.verdict.Disposition.{Disposition}
use Rattle.acvp_answers.specs.declared.verdict.Disposition.TheVariants as disposition
use Rattle.acvp_json.specs.Page.{page_data}
use Rattle.acvp_json.specs.Session.{session_row_data, session_data, outcome_data, sets_data, session_results_data}
use Rattle.acvp_json.specs.Expected.{expected_data}
use Rattle.acvp_json.specs.SetResults.{set_results_data}
use Rattle.acvp_json.specs.VectorSet.{vector_set_data}
use Rattle.acvp_gen.specs.Prompt.{PromptsValue}
use Rattle.acvp_gen.specs.Prompts.{prompts_of}
use Rattle.acvp_json.specs.Urls.{results_url, session_url, set_url}
use Rattle.acvp_json.specs.declared.session.Session.{Session}
use Rattle.acvp_json.specs.declared.session.SetResult.{SetResult}
use Rattle.acvp_json.specs.declared.session.SessionStatus.{SessionStatus}
use Rattle.acvp_json.specs.declared.session.SessionStatus.TheVariants as shown
use Rattle.acvp_policy.specs.Conditions.{is_some_and, set_life}
use Rattle.acvp_policy.specs.declared.facts.CertificationStatus.{CertificationStatus}
use Rattle.acvp_policy.specs.declared.facts.CertificationStatus.TheVariants as certification
use Rattle.acvp_policy.specs.declared.facts.SessionFacts.{SessionFacts}
use Rattle.acvp_policy.specs.declared.facts.SetFacts.{SetFacts}
use Rattle.acvp_registry.specs.declared.kind.Kind.TheVariants.{Certification}
use Rattle.acvp_tables.specs.Counted.{is_passed}
use Rattle.acvp_tables.specs.declared.change.CancelledSet.{CancelledSet}
use Rattle.acvp_tables.specs.declared.change.Change.{Change}
use Rattle.acvp_tables.specs.declared.change.Change.TheVariants as change
use Rattle.acvp_desk.specs.Asked.{waiting_reply, object_change, certification_change}
use Rattle.acvp_desk.specs.NewSessions.{new_session_in, session_made_data}
use Rattle.acvp_desk.specs.Registries.{kind_of, object_shown, objects_reply, request_reply, requests_reply}
use Rattle.acvp_desk.specs.Reviewers.{reviewer_at, with_account, without_account}
use Rattle.acvp_desk.specs.Submissions.{graded_at, kept_answers}
use Rattle.acvp_desk.specs.declared.found.ByPrompts.{ByPrompts}
use Rattle.acvp_desk.specs.declared.found.ByPrompts.TheVariants as by_prompts
use Rattle.acvp_desk.specs.declared.found.ListedSession.{ListedSession}
use Rattle.acvp_desk.specs.declared.found.Place.{Place}
use Rattle.acvp_desk.specs.declared.found.Place.TheVariants as place
use Rattle.acvp_desk.specs.declared.found.RegistryPlace.{RegistryPlace}
use Rattle.acvp_desk.specs.declared.found.RegistryPlace.TheVariants as in_registry
use Rattle.acvp_desk.specs.declared.found.SessionPlace.{SessionPlace}
use Rattle.acvp_desk.specs.declared.found.SessionPlace.TheVariants as in_session
use Rattle.acvp_desk.specs.declared.found.SessionsPage.{SessionsPage}
use Rattle.acvp_desk.specs.declared.found.SetOutcome.{SetOutcome}
use Rattle.acvp_desk.specs.declared.found.SetPlace.{SetPlace}
use Rattle.acvp_desk.specs.declared.found.SetPlace.TheVariants as in_set
use Rattle.acvp_desk.specs.declared.found.SetSource.{SetSource}
use Rattle.acvp_desk.specs.declared.found.Submission.{Submission}
use Rattle.acvp_desk.specs.declared.keys.Keys.{Keys}

-- ---- algorithms

-- the algorithm of a number
unfoldable pub algorithm_at : ℕ → Option Algorithm
algorithm_at n = find (λ a. algorithm_number a == n) algorithms

-- ---- test sessions

abbrev pub certified_status : Option CertificationStatus → SessionStatus
certified_status None = shown.Open
certified_status (Some certification.Initial) = shown.Initial
certified_status (Some certification.Approved) = shown.Approved
certified_status (Some certification.Rejected) = shown.Open

-- cancelled, or as its last certification request stands, or open
abbrev pub session_status : Bool → Option CertificationStatus → SessionStatus
session_status cancelled certified = if cancelled then shown.Cancelled else certified_status certified

abbrev pub session_shown : ℕ → SessionFacts → Session
session_shown n facts = record {
  number = n;
  created = facts.created;
  sample = facts.sample;
  status = session_status facts.cancelled facts.certification;
}

-- what a vector set comes to at a moment: what its answers do, where it has any; else it waits for them, until its end
abbrev pub disposition_at : ℕ → ℕ → Option Disposition → Disposition
disposition_at moment created (Some d) = d
disposition_at moment created None =
    if nat_le (created + set_life) moment then disposition.Expired else disposition.Unreceived

abbrev pub result_shown : ℕ → SessionFacts → SetOutcome → SetResult
result_shown moment facts set = record {
  vs = set.vs;
  disposition = disposition_at moment facts.created set.disposition;
}

-- to who adds to these reviewers: the reviewers with one more
abbrev pub added_reply : List ℕ → List ℕ → Option Data
added_reply body accounts = option_map (λ a. reviewers_data (with_account a accounts)) (reviewer_at body)

-- of a session that stands so
abbrev pub session_reply : ℕ → ℕ → List ℕ → SessionPlace → SessionFacts → Option Data
session_reply moment n body (in_session.Read sets) facts =
    Some (session_data (session_shown n facts) facts.passed sets)
session_reply moment n body in_session.Cancel facts = Some (outcome_data (codes "cancelled") (session_url n))
session_reply moment n body (in_session.Results sets) facts =
    Some (session_results_data facts.passed (map (result_shown moment facts) sets))
session_reply moment n body (in_session.ListSets sets) facts = Some (sets_data sets)
session_reply moment n body (in_session.ListReviewers accounts) facts = Some (reviewers_data accounts)
session_reply moment n body (in_session.AddReviewer accounts) facts = added_reply body accounts

-- ---- vector sets

-- the prompts of the vector set of a number, under the seed of its epoch
abbrev pub prompts_from : List (List ℕ) → ℕ → SetSource → Option PromptsValue
prompts_from seeds n source = option_map (λ seed. prompts_of seed n source.capability) (slice_get seeds source.epoch)

abbrev pub set_results_reply : ℕ → ℕ → SetFacts → Option Disposition → List Verdict → Data
set_results_reply moment n facts disposition verdicts =
    set_results_data n (disposition_at moment facts.session.created disposition) verdicts

-- by the prompts; results are shown by them where there are no answers
abbrev pub prompts_reply : ℕ → ℕ → SetFacts → ByPrompts → PromptsValue → Data
prompts_reply moment n facts by_prompts.Prompts prompts = vector_set_data facts.session.sample prompts
prompts_reply moment n facts by_prompts.Expected prompts = expected_data prompts (standard_of prompts)
prompts_reply moment n facts by_prompts.Results prompts =
    set_results_reply moment n facts None (verdicts_of (standard_of prompts) [])

abbrev pub source_reply : List (List ℕ) → ℕ → ℕ → SetFacts → ByPrompts → SetSource → Option Data
source_reply seeds moment n facts it source = option_map (prompts_reply moment n facts it) (prompts_from seeds n source)

-- that answers are kept
abbrev pub received_reply : ℕ → Data
received_reply n = outcome_data (codes "received") (results_url n)

-- of a vector set that stands so
abbrev pub set_reply : List (List ℕ) → ℕ → ℕ → SetPlace → SetFacts → Option Data
set_reply seeds moment n (in_set.Made it source) facts = option_and_then (source_reply seeds moment n facts it) source
set_reply seeds moment n (in_set.Verdicts verdicts) facts =
    Some (set_results_reply moment n facts (Some (disposition_of verdicts)) verdicts)
set_reply seeds moment n (in_set.Submit submission) facts = option_map (λ _. received_reply n) submission
set_reply seeds moment n (in_set.Resubmit submission) facts = option_map (λ _. received_reply n) submission

-- ---- a vector set that is cancelled

-- the set isn't the one of this number
abbrev pub is_other : ℕ → SetOutcome → Bool
is_other n set = not (set.vs == n)

abbrev pub outcome_passed : SetOutcome → Bool
outcome_passed set = is_some_and set.disposition is_passed

-- by the uncancelled sets of the session: how many are left, and how many of these have passed
abbrev pub cancelled_set : ℕ → ℕ → List SetOutcome → CancelledSet
cancelled_set session n sets = record {
  session = session;
  set = n;
  live = length (filter (is_other n) sets);
  passed = length (filter (λ set. is_other n set && outcome_passed set) sets);
}

-- ---- lists of sessions

abbrev pub listed_shown : ListedSession → Session
listed_shown row = record {
  number = row.number;
  created = row.created;
  sample = row.sample;
  status = session_status row.cancelled row.certification;
}

abbrev pub sessions_reply : SessionsPage → Data
sessions_reply found =
    page_data session_row_data (codes "/acvp/v1/testSessions") found.page found.total (map listed_shown found.sessions)

-- ---- registries, requests and certification

abbrev pub registry_reply : ℕ → RegistryPlace → Option Data
registry_reply u (in_registry.Object of n row) = option_map object_shown row
registry_reply u (in_registry.New of object grounds) = Some (waiting_reply (kind_of of) u grounds)
registry_reply u (in_registry.Objects of found) = option_map (objects_reply (kind_of of)) found
registry_reply u (in_registry.Request n row) = option_map request_reply row
registry_reply u (in_registry.Requests found) = option_map requests_reply found

abbrev pub registry_change : ℕ → RegistryPlace → Option Change
registry_change u (in_registry.New of object grounds) = object_change u object grounds
registry_change u (in_registry.Object of n row) = None
registry_change u (in_registry.Objects of found) = None
registry_change u (in_registry.Request n row) = None
registry_change u (in_registry.Requests found) = None

-- ---- each

-- at a moment, to the account that acts: by what was found of what it asks
abbrev pub place_reply : Keys → ℕ → ℕ → List ℕ → Place → Option Data
place_reply keys moment u body (place.Account counts) = Some (account_data u counts)
place_reply keys moment u body place.Algorithms = Some algorithms_data
place_reply keys moment u body (place.Algorithm n) = option_map algorithm_data (algorithm_at n)
place_reply keys moment u body (place.Session n found it) = option_and_then (session_reply moment n body it) found
place_reply keys moment u body (place.Reviewer n m found accounts) =
    Some (reviewers_data (without_account m accounts))
place_reply keys moment u body (place.NewSession sessions) =
    option_map (session_made_data keys.token) (new_session_in keys.seed moment u sessions body)
place_reply keys moment u body (place.Set session n found it) =
    option_and_then (set_reply keys.seed moment n it) found
place_reply keys moment u body (place.CancelSet session n found sets) =
    Some (outcome_data (codes "cancelled") (set_url n))
place_reply keys moment u body (place.Sessions found) = option_map sessions_reply found
place_reply keys moment u body (place.Certify n found parts grounds) =
    Some (waiting_reply Certification u grounds)
place_reply keys moment u body (place.Registry it) = registry_reply u it

-- who is added is told by the body
abbrev pub added_change : ℕ → List ℕ → Option Change
added_change n body = option_map (λ a. change.AddReviewer (record { session = n; account = a })) (reviewer_at body)

abbrev pub session_change : ℕ → List ℕ → SessionPlace → Option Change
session_change n body in_session.Cancel = Some (change.CancelSession n)
session_change n body (in_session.AddReviewer accounts) = added_change n body
session_change n body (in_session.Read sets) = None
session_change n body (in_session.Results sets) = None
session_change n body (in_session.ListSets sets) = None
session_change n body (in_session.ListReviewers accounts) = None

-- the answers that a body gives are kept, graded by these prompts
abbrev pub answers_change : ℕ → ℕ → List ℕ → ℕ → PromptsValue → Option Change
answers_change session n body others prompts =
    option_map (λ graded. change.KeepAnswers (kept_answers session n others graded)) (graded_at body prompts)

abbrev pub submission_change : List (List ℕ) → ℕ → ℕ → List ℕ → Submission → Option Change
submission_change seeds session n body s =
    option_and_then (answers_change session n body s.others) (prompts_from seeds n s.source)

abbrev pub set_change : List (List ℕ) → ℕ → ℕ → List ℕ → SetPlace → Option Change
set_change seeds session n body (in_set.Submit submission) =
    option_and_then (submission_change seeds session n body) submission
set_change seeds session n body (in_set.Resubmit submission) =
    option_and_then (submission_change seeds session n body) submission
set_change seeds session n body (in_set.Made it source) = None
set_change seeds session n body (in_set.Verdicts verdicts) = None

abbrev pub place_change : List (List ℕ) → ℕ → ℕ → List ℕ → Place → Option Change
place_change seeds moment u body (place.Session n found it) = session_change n body it
place_change seeds moment u body (place.Reviewer n m found accounts) =
    Some (change.RemoveReviewer (record { session = n; account = m }))
place_change seeds moment u body (place.Set session n found it) = set_change seeds session n body it
place_change seeds moment u body (place.NewSession sessions) =
    option_map change.NewSession (new_session_in seeds moment u sessions body)
place_change seeds moment u body (place.CancelSet session n found sets) =
    Some (change.CancelSet (cancelled_set session n sets))
place_change seeds moment u body (place.Certify n found parts grounds) = certification_change u n parts grounds
place_change seeds moment u body (place.Registry it) = registry_change u it
place_change seeds moment u body (place.Account counts) = None
place_change seeds moment u body place.Algorithms = None
place_change seeds moment u body (place.Algorithm n) = None
place_change seeds moment u body (place.Sessions found) = None
