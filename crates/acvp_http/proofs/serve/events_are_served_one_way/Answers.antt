use Rattle.acvp_http.proofs.OneLemmas.{event_one}
use Rattle.acvp_http.proofs.serve.events_are_served_one_way.Goals as goal

pub returns : goal.returns
returns c = event_one
