use Rattle.acvp_http.specs.Event.{replied, ordered}
use Rattle.acvp_http.proofs.HandledLemmas.{shows_handled}
use Rattle.acvp_http.proofs.running.take_turn.Goals as goal

pub returns-in-Request-clause-turn : goal.returns-in-Request-clause-turn
returns-in-Request-clause-turn g c =
    let handled = rw c.deref.ensures.value at c.handle_bytes-reply.ensures.handled in
    let (unavailable, takes, leaves, idle) = handled.served in (
      unavailable,
      replied c.handle_bytes-reply.result,
      rw c.in-Request.is (record {
        was_open = handled.was_open;
        was_clean = handled.was_clean;
        stays_open = handled.stays_open;
        shown = shows_handled g.T.Tables.meaning g.met.T.Tables.rests c.in-Request.moment _ c.handle_bytes-reply.result
            c.args.desk.now c.handle_bytes-reply.new.desk handled;
        taken = takes;
        left = leaves;
        shut = handled.shut;
        idle = idle;
      }),
      rw c.bytes.ensures at c.write_replied.ensures,
    )

pub returns-in-Order-clause-turn : goal.returns-in-Order-clause-turn
returns-in-Order-clause-turn g c =
    let (unavailable, handled) = c.handle_order-reply.ensures.turn in
    (unavailable, ordered c.handle_order-reply.result, rw c.in-Order.is handled, c.write_order.ensures)
