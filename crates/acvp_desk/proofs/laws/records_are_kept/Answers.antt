use Rattle.std.proofs.Common.{arith}
use Rattle.acvp_desk.proofs.KeptRecords.{request_kept, order_kept}
use Rattle.acvp_desk.proofs.laws.records_are_kept.Goals as goal

pub returns : goal.returns
returns c = record {
  start = λ seeds. record {
    sound = c.records_begin_well.ensures.numbered;
    counted =
        c.records_begin_well.ensures.counted;
    graded = λ i low short. absurd (omega (arith, short));
  };
  request = request_kept c.state_follows.ensures.change c.numbers_are_kept.ensures.change
      c.counts_are_kept.ensures.change
      c.numbers_tell.ensures.account c.numbers_tell.ensures.session c.numbers_tell.ensures.reviewer
      c.numbers_count.ensures.reviewers
      c.sets_are_there_once.ensures c.selections_follow.ensures.live_sets c.selections_follow.ensures.set
      c.selections_follow.ensures.session
      c.numbers_tell.ensures.object c.numbers_name.ensures.object c.numbers_name.ensures.set
      c.counts_differ_by_one.ensures.kept;
  order = order_kept c.state_follows.ensures.order c.numbers_are_kept.ensures.order c.counts_are_kept.ensures.order
      c.numbers_tell.ensures.request c.numbers_name.ensures.request c.numbers_count.ensures.objects;
}
