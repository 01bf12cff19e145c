use Rattle.acvp_http.proofs.LineLemmas.{no_request_number, no_request_limit}
use Rattle.acvp_http.proofs.script.read_request.Goals as goal

pub returns-in_err-length : goal.returns-in_err-length
returns-in_err-length c = rw c.from_residual-in_err-length.ensures
    (no_request_number c.args.text.now c.in_ok-moment.rest.now c.in_ok-moment.moment c.in_ok-moment.ensures
    c.in_err-length.ensures.written)

pub returns-then-length-gt-LONGEST_REQUEST : goal.returns-then-length-gt-LONGEST_REQUEST
returns-then-length-gt-LONGEST_REQUEST c =
    no_request_limit c.args.text.now c.in_ok-moment.rest.now c.in_ok-moment.moment c.in_ok-length.length
    c.in_ok-moment.ensures c.in_ok-length.ensures.written c.if-length-gt-LONGEST_REQUEST.true
