use Rattle.acvp_desk.proofs.KeptRecords.{request_follows, order_follows}
use Rattle.acvp_desk.proofs.laws.effects_follow.Goals as goal

pub returns : goal.returns
returns c = record {
  request = request_follows c.state_follows.ensures.change;
  order = order_follows c.state_follows.ensures.order;
}
