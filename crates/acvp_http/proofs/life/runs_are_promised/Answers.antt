use Rattle.acvp_http.proofs.PromiseLemmas.{is_promised}
use Rattle.acvp_http.proofs.life.runs_are_promised.Goals as goal

pub returns : goal.returns
returns c =
    λ run old next goes.
    is_promised c.headline.ensures.told c.headline.ensures.left c.isolation.ensures.runs run.keys run.turns run.answers
    old next
    goes.seeded goes.kept goes.can goes.runs
