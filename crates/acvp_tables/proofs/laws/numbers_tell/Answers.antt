use Rattle.acvp_tables.proofs.Numbers.{keyed, account_found, session_found, request_found, object_found, set_found}
use Rattle.acvp_tables.proofs.Numbers.{sets_found, live_found, reviewer_found}
use Rattle.acvp_tables.proofs.Numbers.{session_seen, set_seen, sets_seen, live_seen, reviewer_seen, own_seen}
use Rattle.acvp_tables.proofs.Reviewers.{reviewers_found}
use Rattle.acvp_tables.proofs.Selections.{own_sessions, own_objects, own_requests, own_counts}
use Rattle.acvp_tables.proofs.laws.numbers_tell.Goals as goal

pub returns : goal.returns
returns k = record {
  account = λ u n state. account_found u n state;
  session = λ u n state well. session_found u n state (keyed state well);
  request = λ u n state well. request_found u n state (keyed state well);
  object = λ u n kind state well. object_found u n kind state (keyed state well);
  set = λ u v state well. set_found u v state (keyed state well);
  sets = λ u s state. sets_found u s state;
  live_sets = λ u s state. live_found u s state;
  reviewer = λ u s a state. reviewer_found u s a state;
  reviewers = λ u s state. reviewers_found u s state;
  sessions = λ u state. own_sessions u state;
  objects = λ u kind state. own_objects u kind state;
  requests = λ u state. own_requests u state;
  counts = λ u state. own_counts u state;
  seen_session = λ u n state well. session_seen u n state (keyed state well);
  seen_set = λ u v state well. set_seen u v state (keyed state well);
  seen_sets = λ u s state. sets_seen u s state;
  seen_live_sets = λ u s state. live_seen u s state;
  seen_reviewer = λ u s state. reviewer_seen u s state;
  seen_own = λ u state. own_seen u state;
}
