use Rattle.acvp_tables.proofs.Bounds.{own_of_kind, reviewers_count}
use Rattle.acvp_tables.proofs.laws.numbers_count.Goals as goal

pub returns : goal.returns
returns k = record {
  objects = λ u kind state. own_of_kind u kind state;
  reviewers = λ s state well. reviewers_count s state well;
}
