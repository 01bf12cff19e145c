use Rattle.acvp_http.proofs.PromiseLemmas.{promised}
use Rattle.acvp_http.proofs.running.turns_are_promised.Goals as goal

pub returns : goal.returns
returns g c = promised g.T.Tables.meaning c.turns_make_a_run.ensures c.headline.ensures.told c.headline.ensures.left
    c.isolation.ensures.runs
