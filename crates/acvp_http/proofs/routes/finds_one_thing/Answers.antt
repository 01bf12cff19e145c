use Rattle.acvp_http.proofs.PathLemmas.{Finds-one}
use Rattle.acvp_http.proofs.routes.finds_one_thing.Goals as goal

pub returns : goal.returns
returns c = Finds-one
