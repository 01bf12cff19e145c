use Rattle.acvp_http.proofs.LineLemmas.{no_moment_space, no_moment_number}
use Rattle.acvp_http.proofs.script.read_moment.Goals as goal

pub returns-in_err-moment : goal.returns-in_err-moment
returns-in_err-moment c = rw c.from_residual.ensures (no_moment_space c.args.text.now c.in_err-moment.ensures)

pub returns-in_err-plain_number : goal.returns-in_err-plain_number
returns-in_err-plain_number c = rw c.from_residual-in_err-plain_number.ensures
    (no_moment_number c.args.text.now c.in_ok-moment.moment.now c.in_ok-moment.rest.now c.in_ok-moment.ensures
    c.in_err-plain_number.ensures.written)
