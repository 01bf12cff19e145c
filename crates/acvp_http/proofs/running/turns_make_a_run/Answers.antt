use Rattle.acvp_http.proofs.RunLemmas.{make_a_run}
use Rattle.acvp_http.proofs.running.turns_make_a_run.Goals as goal

pub returns : goal.returns
returns g c = make_a_run g.T.Tables.meaning
