use Rattle.acvp_tables.proofs.Follows.{follows, order_follows}
use Rattle.acvp_tables.proofs.laws.state_follows.Goals as goal

pub returns : goal.returns
returns k = record {
  change = λ c it. follows c it;
  order = λ c it. order_follows c it;
}
