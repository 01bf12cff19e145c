use Rattle.acvp_desk.proofs.OwnPlace.{own_place}
use Rattle.acvp_desk.proofs.SeenAnswer.{answered_by_seen, sees_the_same}
use Rattle.acvp_desk.proofs.isolation.seen_rows_answer.Goals as goal

pub returns : goal.returns
returns g =
    let tell = g.numbers_tell.ensures in
    let name = g.numbers_name.ensures in
    let place = own_place tell.session tell.request tell.object tell.set tell.live_sets tell.reviewer tell.reviewers
    tell.sessions tell.objects tell.requests tell.counts
    name.object name.request name.set name.certification name.certifications in
    record {
      alike = λ u keys moment r one other well_one well_other is same.
          answered_by_seen name.set tell.account place g.caller_rules_agree.ensures.conditions
          g.callers_own_the_session.ensures keys moment r u one other well_one well_other same is;
      seen = λ u one other well_one well_other same.
          sees_the_same tell.seen_session tell.seen_set tell.seen_live_sets tell.seen_reviewer tell.seen_own u one other
          well_one well_other same;
    }
