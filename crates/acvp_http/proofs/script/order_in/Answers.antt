use Rattle.acvp_http.proofs.EventLemmas.{order_written}
use Rattle.acvp_http.proofs.OrderLemmas.{no_order_request, no_order_unended, no_order_unsaid}
use Rattle.acvp_http.proofs.script.order_in.Goals as goal

pub returns-in_err-line-clause-said : goal.returns-in_err-line-clause-said
returns-in_err-line-clause-said c =
    rw c.from_residual.ensures (no_order_unended c.args.text.now c.in_err-line.ensures)

pub returns-in_err-moment-clause-said : goal.returns-in_err-moment-clause-said
returns-in_err-moment-clause-said c =
    rw c.from_residual-in_err-moment.ensures
    (no_order_unsaid c.args.text.now c.in_ok-line.line.now c.in_ok-line.ensures c.in_err-moment.ensures)

pub returns-in-Order-clause-said : goal.returns-in-Order-clause-said
returns-in-Order-clause-said c =
    rw c.in_ok-line.ensures
    (order_written c.in-Order.moment c.in-Order.order c.in_ok-line.line.now
    (rw c.in-Order.is at c.in_ok-moment.ensures))

pub returns-in-Request-clause-said : goal.returns-in-Request-clause-said
returns-in-Request-clause-said c =
    no_order_request c.args.text.now c.in_ok-line.line.now c.in-Request.moment c.in-Request.length c.in_ok-line.ensures
    (rw c.in-Request.is at c.in_ok-moment.ensures)
