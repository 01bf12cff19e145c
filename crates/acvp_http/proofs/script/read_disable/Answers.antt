use Rattle.acvp_http.proofs.LineLemmas.{no_disable}
use Rattle.acvp_http.proofs.script.read_disable.Goals as goal

pub returns-in_err-account : goal.returns-in_err-account
returns-in_err-account c = rw c.from_residual-in_err-account.ensures
    (no_disable c.args.text.now c.in_ok-moment.rest.now c.in_ok-moment.moment c.in_ok-moment.ensures
    c.in_err-account.ensures)
