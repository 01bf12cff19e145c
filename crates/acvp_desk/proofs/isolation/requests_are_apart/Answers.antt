use Rattle.acvp_desk.proofs.ChangesOwn.{of_account, requests_apart}
use Rattle.acvp_desk.proofs.OwnAnswer.{made_alike}
use Rattle.acvp_desk.proofs.OwnPlace.{own_place}
use Rattle.acvp_desk.proofs.isolation.requests_are_apart.Goals as goal

pub returns : goal.returns
returns g = λ v keys moment r state well.
    let tell = g.numbers_tell.ensures in
    let name = g.numbers_name.ensures in
    let place = own_place tell.session tell.request tell.object tell.set tell.live_sets tell.reviewer tell.reviewers
    tell.sessions tell.objects tell.requests tell.counts
    name.object name.request name.set name.certification name.certifications in
    requests_apart (made_alike tell.account place g.caller_rules_agree.ensures.conditions
    g.callers_own_the_session.ensures)
    (of_account g.granted_resources.ensures.own g.grants_name_the_account.ensures tell.reviewer name.set)
    g.changes_are_of_one_account.ensures.change g.changes_are_of_one_account.ensures.others keys moment r state well v
