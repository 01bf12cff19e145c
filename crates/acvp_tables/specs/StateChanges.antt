-- What each change makes of the records, without what is derived of them.
use Rattle.std.specs.Prelude.{ℕ, List, [], ◌∷◌, ◌++◌, map, Bool, true, ◌==◌, Some}
use Rattle.acvp_answers.specs.Answer.{Answer}
use Rattle.acvp_tables.specs.State.{State, SessionRecord, SetRecord, session_record, set_record}
use Rattle.acvp_tables.specs.Changes.{changed, new_session, new_sets, accounts_after, accounts_ordered, requests_after}
use Rattle.acvp_tables.specs.Changes.{requests_ordered, objects_ordered, reviewers_after}
use Rattle.acvp_tables.specs.declared.change.Change.{Change}
use Rattle.acvp_tables.specs.declared.change.Change.TheVariants as change
use Rattle.acvp_tables.specs.declared.change.OrderChange.{OrderChange}

-- ---- sessions

abbrev pub is_session_record : ℕ → SessionRecord → Bool
is_session_record n row = row.number == n

abbrev pub cancelled_session_record : SessionRecord → SessionRecord
cancelled_session_record row = record row { cancelled = true }

abbrev pub certified_record : ℕ → SessionRecord → SessionRecord
certified_record request row = record row { last_request = Some request }

abbrev pub session_records_after : Change → List SessionRecord → List SessionRecord
session_records_after (change.NewSession s) rows = rows ++ session_record (new_session s) ∷ []
session_records_after (change.CancelSession n) rows = changed (is_session_record n) cancelled_session_record rows
session_records_after (change.Certify c) rows =
    changed (is_session_record c.certification.session) (certified_record c.number) rows
session_records_after _ rows = rows

-- ---- vector sets

abbrev pub is_set_record : ℕ → SetRecord → Bool
is_set_record n row = row.number == n

abbrev pub answered_record : List Answer → SetRecord → SetRecord
answered_record answers row = record row { answers = Some answers }

abbrev pub cancelled_set_record : SetRecord → SetRecord
cancelled_set_record row = record row { cancelled = true }

abbrev pub set_records_after : Change → List SetRecord → List SetRecord
set_records_after (change.NewSession s) rows =
    rows ++ map set_record (new_sets s.number s.epoch 1 s.registration.capabilities)
set_records_after (change.KeepAnswers k) rows = changed (is_set_record k.set) (answered_record k.graded.answers) rows
set_records_after (change.CancelSet x) rows = changed (is_set_record x.set) cancelled_set_record rows
set_records_after _ rows = rows

-- ---- the whole

-- the records after an accepted action's change
unfoldable pub after_state : Change → State → State
after_state change state = record {
  accounts = accounts_after change state.accounts;
  sessions = session_records_after change state.sessions;
  sets = set_records_after change state.sets;
  objects = state.objects;
  requests = requests_after change state.requests;
  reviewers = reviewers_after change state.reviewers;
}

-- the records after an order's change
unfoldable pub after_order_state : OrderChange → State → State
after_order_state change state = record {
  accounts = accounts_ordered change state.accounts;
  sessions = state.sessions;
  sets = state.sets;
  objects = objects_ordered change state.requests state.objects;
  requests = requests_ordered change state.requests;
  reviewers = state.reviewers;
}
