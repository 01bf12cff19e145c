use Rattle.acvp_desk.proofs.QueryPage.{by_one, by_both, by_more}
use Rattle.acvp_desk.proofs.page.page_of.Goals as goal

pub returns-in_default : goal.returns-in_default
returns-in_default c = by_one c.args.query.now c.page_of_one.result c.if-is_empty.ensures c.in_default.ensures
    c.page_of_one.ensures

pub returns-in-Some-cut : goal.returns-in-Some-cut
returns-in-Some-cut c =
    by_more c.args.query.now c.in-Some.first.now c.in-Some.rest.now c.in-Some-cut._second.now c.in-Some-cut._third.now
    (c.in-Some.ensures.0) (c.in-Some.ensures.1) (c.in-Some-cut.ensures.0) (c.in-Some-cut.ensures.1)

pub returns-in-None : goal.returns-in-None
returns-in-None c =
    by_both c.args.query.now c.in-Some.first.now c.in-Some.rest.now c.page_of_both.result (c.in-Some.ensures.0)
    (c.in-Some.ensures.1) c.in-None.ensures c.page_of_both.ensures
