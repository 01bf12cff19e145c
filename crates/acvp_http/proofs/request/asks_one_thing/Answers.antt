use Rattle.acvp_http.proofs.AsksLemmas.{asks-unique}
use Rattle.acvp_http.proofs.request.asks_one_thing.Goals as goal

pub returns : goal.returns
returns c = asks-unique
