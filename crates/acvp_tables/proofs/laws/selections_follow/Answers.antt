use Rattle.acvp_tables.proofs.Selections.{session_follows, set_follows, live_follow, sessions_follow, page_follows}
use Rattle.acvp_tables.proofs.Selections.{counts_follow}
use Rattle.acvp_tables.proofs.laws.selections_follow.Goals as goal

pub returns : goal.returns
returns k = record {
  session = λ n c. session_follows n c;
  set = λ n c. set_follows n c;
  live_sets = λ s c. live_follow s c;
  sessions = λ u c. sessions_follow u c;
  page = λ offset limit rows. page_follows offset limit rows;
  counts = λ u c. counts_follow u c;
}
