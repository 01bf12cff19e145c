use Rattle.acvp_http.proofs.LeftLemmas.{leaves_run}
use Rattle.acvp_http.proofs.running.turns_leave.Goals as goal

pub returns : goal.returns
returns g c = λ keys. leaves_run g.T.Tables.meaning keys g.met.T.Tables.decides g.met.T.Tables.rests
