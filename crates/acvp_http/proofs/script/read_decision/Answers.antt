use Rattle.acvp_http.proofs.LineLemmas.{no_decision}
use Rattle.acvp_http.proofs.script.read_decision.Goals as goal

pub returns-in_err-request : goal.returns-in_err-request
returns-in_err-request c = rw c.from_residual-in_err-request.ensures
    (no_decision c.args.text.now c.in_ok-moment.rest.now c.in_ok-moment.moment c.in_ok-moment.ensures
    c.in_err-request.ensures.written)
