-- What each change makes of each table.
use Rattle.std.specs.Prelude.{ℕ, ◌+◌, ◌*◌, List, [], ◌∷◌, ◌++◌, length, map, filter, Bool, true, false, ◌==◌, ◌&&◌, not}
use Rattle.std.specs.Prelude.{if◌then◌else◌, Option, Some, None}
use Rattle.acvp_caps.specs.Capability.{CapabilityValue}
use Rattle.acvp_tables.specs.Graded.{GradedValue}
use Rattle.acvp_tables.specs.Content.{Content, is_reviewer, request_at}
use Rattle.acvp_tables.specs.declared.rows.AccountRow.{AccountRow}
use Rattle.acvp_tables.specs.declared.rows.SessionRow.{SessionRow}
use Rattle.acvp_tables.specs.declared.rows.SetRow.{SetRow}
use Rattle.acvp_tables.specs.declared.rows.ObjectRow.{ObjectRow}
use Rattle.acvp_tables.specs.declared.rows.RequestRow.{RequestRow}
use Rattle.acvp_tables.specs.declared.rows.RequestBody.{RequestBody}
use Rattle.acvp_tables.specs.declared.rows.RequestBody.TheVariants as body
use Rattle.acvp_tables.specs.declared.rows.RequestStatus.{RequestStatus}
use Rattle.acvp_tables.specs.declared.rows.RequestStatus.TheVariants as status
use Rattle.acvp_tables.specs.declared.rows.ReviewerRow.{ReviewerRow}
use Rattle.acvp_tables.specs.declared.change.Change.{Change}
use Rattle.acvp_tables.specs.declared.change.Change.TheVariants as change
use Rattle.acvp_tables.specs.declared.change.OrderChange.{OrderChange}
use Rattle.acvp_tables.specs.declared.change.OrderChange.TheVariants as order
use Rattle.acvp_tables.specs.declared.change.NewSession.{NewSession}
use Rattle.acvp_tables.specs.declared.change.NewRequest.{NewRequest}
use Rattle.acvp_tables.specs.declared.change.NewCertification.{NewCertification}
use Rattle.acvp_tables.specs.declared.change.NewAccount.{NewAccount}

-- the rows, with f of each one that passes the test
abbrev pub changed : {Row : Type 0} → (Row → Bool) → (Row → Row) → List Row → List Row
changed test f rows = map (λ row. if test row then f row else row) rows

-- ---- accounts

abbrev pub is_account : ℕ → AccountRow → Bool
is_account n row = row.number == n

abbrev pub with_step : ℕ → AccountRow → AccountRow
with_step step row = record row { last_step = Some step }

abbrev pub disabled : AccountRow → AccountRow
disabled row = record row { enabled = false }

-- enabled, and without a used code
abbrev pub new_account : NewAccount → AccountRow
new_account a = record { number = a.account; secret = a.secret; enabled = true; last_step = None }

abbrev pub accounts_after : Change → List AccountRow → List AccountRow
accounts_after (change.UseStep u) rows = changed (is_account u.account) (with_step u.step) rows
accounts_after _ rows = rows

abbrev pub accounts_ordered : OrderChange → List AccountRow → List AccountRow
accounts_ordered (order.AddAccount a) rows = rows ++ new_account a ∷ []
accounts_ordered (order.DisableAccount n) rows = changed (is_account n) disabled rows
accounts_ordered _ rows = rows

-- ---- sessions

abbrev pub is_session : ℕ → SessionRow → Bool
is_session n row = row.number == n

abbrev pub cancelled_session : SessionRow → SessionRow
cancelled_session row = record row { cancelled = true }

abbrev pub with_last_request : ℕ → SessionRow → SessionRow
with_last_request request row = record row { last_request = Some request }

abbrev pub with_passed : ℕ → SessionRow → SessionRow
with_passed passed row = record row { passed = passed }

abbrev pub with_counts : ℕ → ℕ → SessionRow → SessionRow
with_counts live passed row = record row { live = live; passed = passed }

abbrev pub new_session : NewSession → SessionRow
new_session s = record {
  number = s.number;
  account = s.account;
  sample = s.registration.sample;
  created = s.created;
  cancelled = false;
  last_request = None;
  live = length s.registration.capabilities;
  passed = 0;
}

abbrev pub sessions_after : Change → List SessionRow → List SessionRow
sessions_after (change.NewSession s) rows = rows ++ new_session s ∷ []
sessions_after (change.KeepAnswers k) rows = changed (is_session k.session) (with_passed k.passed) rows
sessions_after (change.CancelSession n) rows = changed (is_session n) cancelled_session rows
sessions_after (change.CancelSet x) rows = changed (is_session x.session) (with_counts x.live x.passed) rows
sessions_after (change.Certify c) rows = changed (is_session c.certification.session) (with_last_request c.number) rows
sessions_after _ rows = rows

-- ---- vector sets

abbrev pub is_set : ℕ → SetRow → Bool
is_set n row = row.number == n

abbrev pub with_graded : GradedValue → SetRow → SetRow
with_graded graded row = record row { graded = Some graded }

abbrev pub cancelled_set : SetRow → SetRow
cancelled_set row = record row { cancelled = true }

-- a session's sets, one for each capability, of the numbers from its i-th on
abbrev pub new_sets : ℕ → ℕ → ℕ → List CapabilityValue → List SetRow
new_sets session epoch i [] = []
new_sets session epoch i (capability ∷ rest) = record {
  number = session * 100 + i;
  session = session;
  capability = capability;
  epoch = epoch;
  cancelled = false;
  graded = None;
}
    ∷ new_sets session epoch (i + 1) rest

abbrev pub sets_after : Change → List SetRow → List SetRow
sets_after (change.NewSession s) rows = rows ++ new_sets s.number s.epoch 1 s.registration.capabilities
sets_after (change.KeepAnswers k) rows = changed (is_set k.set) (with_graded k.graded) rows
sets_after (change.CancelSet x) rows = changed (is_set x.set) cancelled_set rows
sets_after _ rows = rows

-- ---- requests and objects

abbrev pub is_request : ℕ → RequestRow → Bool
is_request n row = row.number == n

abbrev pub with_status : RequestStatus → RequestRow → RequestRow
with_status s row = record row { status = s }

abbrev pub new_request : NewRequest → RequestRow
new_request r = record {
  number = r.number;
  account = r.account;
  body = body.Registration r.object;
  status = status.Initial;
}

abbrev pub new_certification : NewCertification → RequestRow
new_certification c = record {
  number = c.number;
  account = c.account;
  body = body.Certification c.certification;
  status = status.Initial;
}

abbrev pub requests_after : Change → List RequestRow → List RequestRow
requests_after (change.NewRequest r) rows = rows ++ new_request r ∷ []
requests_after (change.Certify c) rows = rows ++ new_certification c ∷ []
requests_after _ rows = rows

abbrev pub requests_ordered : OrderChange → List RequestRow → List RequestRow
requests_ordered (order.Approve a) rows = changed (is_request a.request) (with_status (status.Approved a.approved)) rows
requests_ordered (order.Reject n) rows = changed (is_request n) (with_status status.Rejected) rows
requests_ordered _ rows = rows

-- what is registered where a request is approved: its object, of its account, under this number. A certification
-- registers nothing
abbrev pub new_objects : ℕ → RequestBody → ℕ → List ObjectRow
new_objects account (body.Registration object) number =
    record { number = number; account = account; object = object } ∷ []
new_objects account (body.Certification c) number = []

abbrev pub approved_objects : Option RequestRow → ℕ → List ObjectRow
approved_objects None number = []
approved_objects (Some row) number = new_objects row.account row.body number

abbrev pub objects_ordered : OrderChange → List RequestRow → List ObjectRow → List ObjectRow
objects_ordered (order.Approve a) requests rows = rows ++ approved_objects (request_at a.request requests) a.approved
objects_ordered _ requests rows = rows

-- ---- reviewers

abbrev pub is_pair : ReviewerRow → ReviewerRow → Bool
is_pair r row = (row.session == r.session) && (row.account == r.account)

abbrev pub with_reviewer : ReviewerRow → List ReviewerRow → List ReviewerRow
with_reviewer r rows = if is_reviewer r.session r.account rows then rows else rows ++ r ∷ []

abbrev pub reviewers_after : Change → List ReviewerRow → List ReviewerRow
reviewers_after (change.AddReviewer r) rows = with_reviewer r rows
reviewers_after (change.RemoveReviewer r) rows = filter (λ row. not (is_pair r row)) rows
reviewers_after _ rows = rows

-- ---- the whole

-- the content after an accepted action's change
unfoldable pub after : Change → Content → Content
after change c = record {
  accounts = accounts_after change c.accounts;
  sessions = sessions_after change c.sessions;
  sets = sets_after change c.sets;
  objects = c.objects;
  requests = requests_after change c.requests;
  reviewers = reviewers_after change c.reviewers;
}

-- the content after an order's change
unfoldable pub after_order : OrderChange → Content → Content
after_order change c = record {
  accounts = accounts_ordered change c.accounts;
  sessions = c.sessions;
  sets = c.sets;
  objects = objects_ordered change c.requests c.objects;
  requests = requests_ordered change c.requests;
  reviewers = c.reviewers;
}
