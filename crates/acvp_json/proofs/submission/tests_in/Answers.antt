use Rattle.acvp_json.specs.SubmittedAnswers.{given_of}
use Rattle.acvp_json.proofs.AnswersLemmas.{each-more}
use Rattle.acvp_json.proofs.submission.tests_in.Goals as goal

pub loop-item-preserved : goal.loop-item-preserved
loop-item-preserved c =
    rw c.in_ok-push.ensures.items
    (each-more (given_of c.args.group) c.deref-item-items.result.now c.loop-item.item-index c.item-item.result
    c.loop-item.tests.items c.in_ok-given_in.field-0 _ c.loop-item-test.true c.item-item.is
    c.in_ok-given_in.ensures c.loop-item.invariant)
