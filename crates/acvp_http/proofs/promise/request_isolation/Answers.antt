use Rattle.acvp_http.proofs.AnsweredApart.{answered_apart}
use Rattle.acvp_http.proofs.promise.request_isolation.Goals as goal

pub returns : goal.returns
returns c = λ keys moment bytes old new reply sound served.
    answered_apart c.effects_follow.ensures.request c.requests_are_apart.ensures
    c.nobody_is_answered_alike.ensures.answer c.seen_rows_answer.ensures.alike
    c.nobody_is_answered_alike.ensures.change
    keys moment bytes old new reply sound served
