use Rattle.acvp_tables.proofs.Numbers.{sets_numbered}
use Rattle.acvp_tables.proofs.Bounds.{sessions_ascend, objects_ascend, requests_ascend, live_among}
use Rattle.acvp_tables.proofs.laws.lists_ascend.Goals as goal

pub returns : goal.returns
returns k = record {
  sessions = λ u state well. sessions_ascend u state well;
  objects = λ u kind state well. objects_ascend u kind state well;
  requests = λ u state well. requests_ascend u state well;
  sets = λ s state well. sets_numbered state well s;
  live_sets = λ s state. live_among s state;
}
