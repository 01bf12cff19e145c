use Rattle.acvp_http.proofs.NumberLemmas.{leading-none, leading-other, leading-some}
use Rattle.acvp_http.proofs.routes.leading.Goals as goal

pub returns-in_err-end : goal.returns-in_err-end
returns-in_err-end c = rw c.from_residual.ensures (leading-none c.args.text.now c.in_err-end.ensures.place)

pub returns-in_err-number : goal.returns-in_err-number
returns-in_err-number c =
    rw c.from_residual-in_err-number.ensures
    (leading-other c.args.text.now c.in_ok-end.end c.in_ok-end.ensures.place
    (rw c.split_at.ensures.front at c.in_err-number.ensures.written))

pub returns : goal.returns
returns c = rw c.split_at.ensures.back
    (leading-some c.args.text.now c.in_ok-end.end c.in_ok-number.number c.in_ok-end.ensures.place
    c.in_ok-number.ensures.written.0 (rw c.split_at.ensures.front at c.in_ok-number.ensures.written.1))
