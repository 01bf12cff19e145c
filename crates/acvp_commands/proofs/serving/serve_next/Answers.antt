use Rattle.std.proofs.Common.{Some, None, inr, refl}
use Rattle.acvp_commands.proofs.serving.serve_next.Goals as goal

pub returns-in-Ok-clause-next : goal.returns-in-Ok-clause-next
returns-in-Ok-clause-next g c =
    let (came, is, serves) = c.in_ok-served.ensures.next in
    let (look, handled, answers) = c.in-Ok.ensures.looked in (
      record { came = came; look = Some look },
      is,
      answers,
      (c.serve_arrival.new.desk.tables, rw c.if-served.true at serves, rw c.serve_arrival.ensures.keys at handled),
    )

pub returns-in-Err-clause-next : goal.returns-in-Err-clause-next
returns-in-Err-clause-next g c =
    let (came, is, serves) = c.in_ok-served.ensures.next in
    let (look, handled, (fault, shut)) = c.in-Err.ensures.looked in
    inr (
      fault,
      (
        record { came = came; look = Some look },
        (look, refl, shut),
        (c.serve_arrival.new.desk.tables, rw c.if-served.true at serves, rw c.serve_arrival.ensures.keys at handled),
      ),
    )

pub returns-else-served-clause-next : goal.returns-else-served-clause-next
returns-else-served-clause-next g c =
    let (came, is, serves) = c.in_ok-served.ensures.next in (
      record { came = came; look = None },
      is,
      tt,
      (c.serve_arrival.new.desk.tables, rw c.if-served.false at serves, refl),
    )
