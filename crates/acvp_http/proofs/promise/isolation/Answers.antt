use Rattle.acvp_http.proofs.Isolated.{alone_unnamed, isolated}
use Rattle.acvp_http.proofs.promise.isolation.Goals as goal

pub returns-clause-runs : goal.returns-clause-runs
returns-clause-runs c = λ keys u these turns old new begun answers seeded kept can lets theirs runs.
    let tell = c.numbers_tell.ensures in
    isolated keys u these lets.itself tell.session tell.set tell.live_sets tell.reviewer c.effects_follow.ensures.order
    c.records_are_kept.ensures.order c.orders_are_apart.ensures
    c.reviewers_are_added.ensures.order c.effects_follow.ensures.request c.records_are_kept.ensures.request
    c.requests_are_apart.ensures c.nobody_is_answered_alike.ensures.effect
    c.seen_rows_answer.ensures.alike c.changes_are_of_who_asks.ensures.account
    c.changes_are_of_who_asks.ensures.reviewer c.reviewers_are_added.ensures.change
    c.accepted_requests_are_told.ensures seeded turns old new begun answers kept can lets theirs runs

pub returns-clause-alone : goal.returns-clause-alone
returns-clause-alone c = alone_unnamed (returns-clause-runs c)
