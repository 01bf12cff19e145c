use Rattle.std.proofs.Common.{refl}
use Rattle.acvp_commands.proofs.serving.serve_arrival.Goals as goal

pub returns-in-Connection-clause-next : goal.returns-in-Connection-clause-next
returns-in-Connection-clause-next g c =
    let (came, is_connection, turn, goes, happen) = c.serve_request-result.ensures.turn in (
      came,
      is_connection,
      record {
        served = rw is_connection (record {
          taken = c.in-Connection.taken;
          mid = c.accept.new.self;
          input = c.serve_request-result.new.input;
          output = c.serve_request-result.new.output;
          result = c.serve_request-result.result.result;
          told = c.serve_request-result.result.told;
          moment = c.seconds_of-moment.result;
          takes = (rw c.in-Connection.is at c.in_ok-taken.ensures.taken).0;
          clock = c.seconds_of-moment.ensures;
          serves = c.serve_request-result.ensures.serves;
          read = c.serve_request-result.ensures.read_fault;
          written = c.serve_request-result.ensures.write_fault;
          turn = turn;
          tells = c.serve_request-result.ensures.told;
          ends = rw c.is_ok.ensures.value at c.end.ensures;
          looks = c.is_told.ensures;
        });
        goes = goes;
        happen = happen;
      },
    )

pub returns-in-Order-clause-next : goal.returns-in-Order-clause-next
returns-in-Order-clause-next g c =
    let (came, is_order, turn, goes, happen) = c.order_at-outcome.ensures.turn in (
      came,
      is_order,
      record {
        served = rw is_order (record {
          line = c.in-Order.line;
          asker = c.in-Order.asker;
          mid = c.accept.new.self;
          outcome = c.order_at-outcome.result;
          takes = (rw c.in-Order.is at c.in_ok-taken.ensures.taken).0;
          turn = rw c.deref.ensures.value at turn;
          tells = c.tell.ensures;
          looks = refl;
        });
        goes = goes;
        happen = happen;
      },
    )
