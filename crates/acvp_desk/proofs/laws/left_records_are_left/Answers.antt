use Rattle.std.proofs.Common.{refl}
use Rattle.acvp_desk.proofs.AnsweredRecords.{request_answered, order_answered}
use Rattle.acvp_desk.proofs.CertifiedRecords.{request_certified, order_certified}
use Rattle.acvp_desk.proofs.EpochRecords.{request_in_epochs, order_in_epochs}
use Rattle.acvp_desk.proofs.RegisteredRecords.{request_registered, order_registered}
use Rattle.acvp_desk.proofs.laws.left_records_are_left.Goals as goal

pub returns : goal.returns
returns c = record {
  start = λ seeds. record {
    kept = c.records_are_kept.ensures.start seeds;
    certified = record { last = λ n. refl; certifiable = λ n. refl };
    registered = record { asked = λ n. refl; once = λ n. refl };
    epochs = record { rising = refl };
    answered = record { tests = refl };
  };
  request = λ keys m r it left. record {
    kept = c.records_are_kept.ensures.request keys m r it left.kept;
    certified = request_certified c.selections_follow.ensures.session c.selections_follow.ensures.live_sets
        c.numbers_tell.ensures.session c.numbers_tell.ensures.request keys m r it left.kept left.certified;
    registered = request_registered keys m r it left.registered;
    epochs = request_in_epochs c.selections_follow.ensures.set keys m r it left.kept left.epochs;
    answered = request_answered c.sets_are_there_once.ensures c.selections_follow.ensures.set keys m r it left.kept
        left.answered;
  };
  order = λ seeds it of is has left. record {
    kept = c.records_are_kept.ensures.order seeds it of is has left.kept;
    certified = order_certified it of left.certified;
    registered = order_registered c.numbers_tell.ensures.request c.numbers_tell.ensures.object
        c.numbers_name.ensures.request c.numbers_count.ensures.objects c.approvals_name_the_account.ensures it of
        left.kept.sound left.registered;
    epochs = order_in_epochs it of left.epochs;
    answered = order_answered seeds it of left.answered;
  };
}
