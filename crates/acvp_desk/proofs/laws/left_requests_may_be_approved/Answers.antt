use Rattle.acvp_desk.proofs.LeftApprovals.{approvable}
use Rattle.acvp_desk.proofs.laws.left_requests_may_be_approved.Goals as goal

pub returns : goal.returns
returns c = λ seeds content n row left there waits.
    approvable c.selections_follow.ensures.session c.numbers_name.ensures.session c.numbers_name.ensures.request
    c.numbers_name.ensures.object c.numbers_tell.ensures.session c.numbers_tell.ensures.request
    c.numbers_tell.ensures.object seeds content left n row there waits
