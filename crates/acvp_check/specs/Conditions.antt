-- The conditions on one account's rows, in the order in which they are looked at. Each row's are those that the
-- records' definitions have of it, with what is wrong where one doesn't hold.
use Rattle.std.specs.Prelude.{ℕ, ◌+◌, List, [], ◌∷◌, ◌++◌, length, filter, Bool, true, false, not, ◌==◌, ◌&&◌, ◌||◌}
use Rattle.std.specs.Prelude.{nat_le, nat_lt, is_some, slice_get}
use Rattle.std.specs.List.{flat_map, list_any}
use Rattle.std.specs.Cmp.Lexicographic.{pointwise}
use Rattle.acvp_mac.specs.Conditions.{Condition}
use Rattle.acvp_answers.specs.Standards.{standard_of}
use Rattle.acvp_answers.specs.Verdicts.{verdicts_of, disposition_of}
use Rattle.acvp_answers.specs.declared.verdict.Disposition.{Disposition}
use Rattle.acvp_answers.specs.declared.verdict.Disposition.TheVariants as disposition
use Rattle.acvp_answers.specs.declared.verdict.Verdict.{Verdict}
use Rattle.acvp_answers.specs.declared.verdict.Verdict.TheVariants as verdict
use Rattle.acvp_desk.specs.Answered.{has_own_answers}
use Rattle.acvp_desk.specs.Certifications.{is_certifiable, is_last}
use Rattle.acvp_desk.specs.Epochs.{is_in_its_epoch}
use Rattle.acvp_desk.specs.Registrations.{is_as_asked, is_given_once}
use Rattle.acvp_gen.specs.Prompts.{prompts_of}
use Rattle.acvp_registry.specs.declared.kind.Kind.{Kind}
use Rattle.acvp_registry.specs.declared.kind.Kind.TheVariants.{Vendor, Module, Environment, Certification}
use Rattle.acvp_tables.specs.Content.{Content, session_at}
use Rattle.acvp_tables.specs.Counted.{is_counted}
use Rattle.acvp_tables.specs.Graded.{GradedValue}
use Rattle.acvp_tables.specs.State.{state_of, first_of_account, first_of_session, objects_in, is_account_number}
use Rattle.acvp_tables.specs.State.{is_account_row, has_rows, is_account_there, has_registered, has_registered_as}
use Rattle.acvp_tables.specs.State.{of_all, is_sound_object, is_sound_body, has_all_given, certifies}
use Rattle.acvp_tables.specs.declared.rows.AccountRow.{AccountRow}
use Rattle.acvp_tables.specs.declared.rows.SessionRow.{SessionRow}
use Rattle.acvp_tables.specs.declared.rows.SetRow.{SetRow}
use Rattle.acvp_tables.specs.declared.rows.ObjectRow.{ObjectRow}
use Rattle.acvp_tables.specs.declared.rows.RequestRow.{RequestRow}
use Rattle.acvp_tables.specs.declared.rows.ReviewerRow.{ReviewerRow}
use Rattle.acvp_check.specs.declared.finding.Finding.{Finding}
use Rattle.acvp_check.specs.declared.finding.RowKey.{RowKey}
use Rattle.acvp_check.specs.declared.finding.RowKey.TheVariants as key
use Rattle.acvp_check.specs.declared.finding.Wrong.{Wrong}
use Rattle.acvp_check.specs.declared.finding.Wrong.TheVariants as wrong

abbrev pub finding : RowKey → Wrong → Finding
finding row what = record { row = row; wrong = what }

abbrev pub object_key : ObjectRow → RowKey
object_key row = key.Object row.object.kind row.number

abbrev pub reviewer_key : ReviewerRow → RowKey
reviewer_key row = key.Reviewer row.session row.account

-- the rows have the numbers from the first on, in order and without gaps
abbrev pub numbered : {Row : Type 0} → (Row → ℕ) → (Row → RowKey) → ℕ → List Row → List (Condition Finding)
numbered number row_key first [] = []
numbered number row_key first (row ∷ rows) =
    (number row == first, finding (row_key row) wrong.Number) ∷ numbered number row_key (first + 1) rows

-- ---- the account

abbrev pub account_row_conditions : AccountRow → List (Condition Finding)
account_row_conditions row = (is_account_row row, finding (key.Account row.number) wrong.Number) ∷ []

-- the account is there at most once, by an account's number, and where it has rows
unfoldable pub own_row_conditions : ℕ → Content → List (Condition Finding)
own_row_conditions u mine =
    (nat_le (length mine.accounts) 1, finding (key.Account u) wrong.Twice)
    ∷ (not (has_rows (state_of mine)) || is_account_there u (state_of mine), finding (key.Account u) wrong.NoAccount)
    ∷ flat_map account_row_conditions mine.accounts

-- ---- sessions

abbrev pub sets_of : ℕ → List SetRow → List SetRow
sets_of session sets = filter (λ row. row.session == session) sets

-- a session's last request is there, and for its certification
abbrev pub is_certified : List RequestRow → SessionRow → Bool
is_certified requests row = of_all
    (λ n. list_any (λ request. (request.number == n) && certifies row.number request.body) requests) row.last_request

-- it was created at a moment that is served, and what it names is there
unfoldable pub session_own_conditions : Content → SessionRow → List (Condition Finding)
session_own_conditions mine row =
    (nat_lt row.created 4102444800, finding (key.Session row.number) wrong.Created)
    ∷ (is_certified mine.requests row, finding (key.Session row.number) wrong.LastRequest) ∷ []

-- it has 1 to 20 sets
unfoldable pub session_count_conditions : Content → SessionRow → List (Condition Finding)
session_count_conditions mine row =
    (list_any (λ set. set.session == row.number) mine.sets, finding (key.Session row.number) wrong.NoSet)
    ∷ (nat_le (length (sets_of row.number mine.sets)) 20, finding (key.Session row.number) wrong.ManySets) ∷ []

-- the numbers of a session's sets rise from the session's first without gaps
abbrev pub set_numbers : ℕ → List SetRow → List (Condition Finding)
set_numbers session sets =
    numbered (λ set. set.number) (λ set. key.Set set.number) (first_of_session session) (sets_of session sets)

-- its counters count them
unfoldable pub session_counter_conditions : Content → SessionRow → List (Condition Finding)
session_counter_conditions mine row = (is_counted mine.sets row, finding (key.Session row.number) wrong.Counter) ∷ []

abbrev pub session_row_conditions : Content → SessionRow → List (Condition Finding)
session_row_conditions mine row =
    session_own_conditions mine row ++ session_count_conditions mine row
    ++ session_counter_conditions mine row ++ set_numbers row.number mine.sets

-- an account's sessions are numbered
abbrev pub session_numbers : ℕ → List SessionRow → List (Condition Finding)
session_numbers u rows = numbered (λ row. row.number) (λ row. key.Session row.number) (first_of_account u) rows

unfoldable pub session_conditions : ℕ → Content → List (Condition Finding)
session_conditions u mine =
    (nat_le (length mine.sessions) 999999, finding (key.Account u) wrong.ManySessions)
    ∷ session_numbers u mine.sessions ++ flat_map (session_row_conditions mine) mine.sessions

-- ---- vector sets

abbrev pub disposition_number : Disposition → ℕ
disposition_number disposition.Passed = 0
disposition_number disposition.Fail = 1
disposition_number disposition.Missing = 2
disposition_number disposition.Expired = 3
disposition_number disposition.Unreceived = 4

-- the disposition is that of the verdicts
abbrev pub is_disposed : GradedValue → Bool
is_disposed graded = disposition_number graded.disposition == disposition_number (disposition_of graded.verdicts)

abbrev pub set_row_conditions : List (List ℕ) → Content → SetRow → List (Condition Finding)
set_row_conditions seeds mine row =
    (is_some (session_at row.session mine.sessions), finding (key.Set row.number) wrong.NoSession)
    ∷ (is_some (slice_get seeds row.epoch), finding (key.Set row.number) wrong.NoSeed)
    ∷ (of_all is_disposed row.graded, finding (key.Set row.number) wrong.Disposition) ∷ []

unfoldable pub set_conditions : List (List ℕ) → Content → List (Condition Finding)
set_conditions seeds mine = flat_map (set_row_conditions seeds mine) mine.sets

-- ---- requests

-- what it names is there, and what its approval gave
abbrev pub request_row_conditions : Content → RequestRow → List (Condition Finding)
request_row_conditions mine row =
    (is_sound_body (state_of mine) row.body, finding (key.Request row.number) wrong.Body)
    ∷ (has_all_given mine.objects row, finding (key.Request row.number) wrong.NotGiven) ∷ []

-- an account's requests are numbered
abbrev pub request_numbers : ℕ → List RequestRow → List (Condition Finding)
request_numbers u rows = numbered (λ row. row.number) (λ row. key.Request row.number) (first_of_account u) rows

unfoldable pub request_conditions : ℕ → Content → List (Condition Finding)
request_conditions u mine =
    (nat_le (length mine.requests) 999999, finding (key.Account u) wrong.ManyRequests)
    ∷ request_numbers u mine.requests ++ flat_map (request_row_conditions mine) mine.requests

-- ---- objects

-- an approved request is for it under its number; it is one that is kept, and its vendor is there
abbrev pub object_row_conditions : Content → ObjectRow → List (Condition Finding)
object_row_conditions mine row =
    (list_any (has_registered_as row) mine.requests, finding (object_key row) wrong.NotAskedFor)
    ∷ (is_sound_object mine.objects row.object, finding (object_key row) wrong.Object) ∷ []

-- objects of a kind are numbered by themselves, and no more than approved requests for them
abbrev pub kind_conditions : ℕ → Content → Kind → List (Condition Finding)
kind_conditions u mine kind = (
  nat_le (length (objects_in kind mine.objects)) (length (filter (has_registered kind) mine.requests)),
  finding (key.Account u) wrong.ManyObjects,
)
    ∷ numbered (λ row. row.number) object_key (first_of_account u) (objects_in kind mine.objects)

unfoldable pub all_kinds_conditions : ℕ → Content → List (Condition Finding)
all_kinds_conditions u mine =
    kind_conditions u mine Vendor ++ kind_conditions u mine Module ++ kind_conditions u mine Environment
    ++ kind_conditions u mine Certification

unfoldable pub object_conditions : ℕ → Content → List (Condition Finding)
object_conditions u mine =
    all_kinds_conditions u mine ++ flat_map (object_row_conditions mine) mine.objects

-- ---- reviewers

-- its session is there, and its account's number is one
unfoldable pub reviewer_own_conditions : Content → ReviewerRow → List (Condition Finding)
reviewer_own_conditions mine row =
    (is_some (session_at row.session mine.sessions), finding (reviewer_key row) wrong.NoSession)
    ∷ (is_account_number row.account, finding (reviewer_key row) wrong.NoAccountNumber) ∷ []

abbrev pub reviewers_in : ℕ → List ReviewerRow → List ReviewerRow
reviewers_in session rows = filter (λ row. row.session == session) rows

abbrev pub reviewers_at : ℕ → ℕ → List ReviewerRow → List ReviewerRow
reviewers_at session account rows = filter (λ row. (row.session == session) && (row.account == account)) rows

-- its session has 16 reviewers at most, and this one once
unfoldable pub reviewer_count_conditions : Content → ReviewerRow → List (Condition Finding)
reviewer_count_conditions mine row =
    (nat_le (length (reviewers_in row.session mine.reviewers)) 16, finding (reviewer_key row) wrong.ManyReviewers)
    ∷ (
      nat_le (length (reviewers_at row.session row.account mine.reviewers)) 1,
      finding (reviewer_key row) wrong.Twice,
    ) ∷ []

abbrev pub reviewer_row_conditions : Content → ReviewerRow → List (Condition Finding)
reviewer_row_conditions mine row = reviewer_own_conditions mine row ++ reviewer_count_conditions mine row

unfoldable pub reviewer_conditions : Content → List (Condition Finding)
reviewer_conditions mine = flat_map (reviewer_row_conditions mine) mine.reviewers

-- ---- certifications

abbrev pub certifiable_conditions : List RequestRow → SessionRow → List (Condition Finding)
certifiable_conditions requests row =
    (is_certifiable requests row, finding (key.Session row.number) wrong.NotCertifiable) ∷ []

abbrev pub last_conditions : List SessionRow → RequestRow → List (Condition Finding)
last_conditions sessions row = (is_last sessions row, finding (key.Request row.number) wrong.NotLast) ∷ []

-- the request that a session names is rejected, or the session may be certified; and each certification is the one that
-- its session names, or, rejected, an earlier one
unfoldable pub certification_conditions : Content → List (Condition Finding)
certification_conditions mine =
    flat_map (certifiable_conditions mine.requests) mine.sessions
    ++ flat_map (last_conditions mine.sessions) mine.requests

-- ---- registrations

-- where it is approved, its object is as it was asked for, and no earlier request gave its number
abbrev pub registration_row_conditions : Content → RequestRow → List (Condition Finding)
registration_row_conditions mine row =
    (is_as_asked mine.objects row, finding (key.Request row.number) wrong.NotAsAsked)
    ∷ (is_given_once mine.requests row, finding (key.Request row.number) wrong.GivenTwice) ∷ []

unfoldable pub registration_conditions : Content → List (Condition Finding)
registration_conditions mine = flat_map (registration_row_conditions mine) mine.requests

-- ---- epochs

-- its epoch is no earlier than that of any of its session or of an earlier one
abbrev pub epoch_row_conditions : Content → SetRow → List (Condition Finding)
epoch_row_conditions mine row = (is_in_its_epoch mine.sets row, finding (key.Set row.number) wrong.Epoch) ∷ []

unfoldable pub epoch_conditions : Content → List (Condition Finding)
epoch_conditions mine = flat_map (epoch_row_conditions mine) mine.sets

-- ---- the whole

-- what is wrong is with a certification, a registration, an epoch or an answer, and nothing that kept records meet
abbrev pub is_beyond_kept : Wrong → Bool
is_beyond_kept wrong.NotCertifiable = true
is_beyond_kept wrong.NotLast = true
is_beyond_kept wrong.NotAsAsked = true
is_beyond_kept wrong.GivenTwice = true
is_beyond_kept wrong.Epoch = true
is_beyond_kept wrong.Answers = true
is_beyond_kept _ = false

-- the conditions that kept records meet, but that the verdicts are those on the answers
abbrev pub kept_conditions : List (List ℕ) → ℕ → Content → List (Condition Finding)
kept_conditions seeds u mine =
    own_row_conditions u mine ++ session_conditions u mine ++ set_conditions seeds mine ++ request_conditions u mine
    ++ object_conditions u mine ++ reviewer_conditions mine

-- all conditions on an account's rows, but that the verdicts are those on the answers
unfoldable pub account_conditions : List (List ℕ) → ℕ → Content → List (Condition Finding)
account_conditions seeds u mine =
    kept_conditions seeds u mine ++ certification_conditions mine ++ registration_conditions mine
    ++ epoch_conditions mine

-- ---- the verdicts

abbrev pub verdict_number : Verdict → ℕ
verdict_number verdict.Passed = 0
verdict_number verdict.Fail = 1
verdict_number verdict.Missing = 2

abbrev pub is_verdict : Verdict → Verdict → Bool
is_verdict kept other = verdict_number kept == verdict_number other

-- the verdicts that are kept are those on the kept answers by the standard answers to the prompts under the seed
abbrev pub is_right_under : SetRow → GradedValue → List ℕ → Bool
is_right_under row graded seed = pointwise is_verdict graded.verdicts
    (verdicts_of (standard_of (prompts_of seed row.number row.capability)) graded.answers)

-- under the seed of its epoch, where that is there
abbrev pub is_right : List (List ℕ) → SetRow → Bool
is_right seeds row = of_all (λ graded. of_all (is_right_under row graded) (slice_get seeds row.epoch)) row.graded

-- and each answer is to a test of the vector set
abbrev pub verdict_row_conditions : List (List ℕ) → SetRow → List (Condition Finding)
verdict_row_conditions seeds row =
    (is_right seeds row, finding (key.Set row.number) wrong.Verdicts)
    ∷ (has_own_answers seeds row, finding (key.Set row.number) wrong.Answers) ∷ []

unfoldable pub verdict_conditions : List (List ℕ) → Content → List (Condition Finding)
verdict_conditions seeds mine = flat_map (verdict_row_conditions seeds) mine.sets

-- with the verdicts and the answers' tests, which are worked out anew, or without
abbrev pub all_conditions : Bool → List (List ℕ) → ℕ → Content → List (Condition Finding)
all_conditions true seeds u mine = account_conditions seeds u mine ++ verdict_conditions seeds mine
all_conditions false seeds u mine = account_conditions seeds u mine
