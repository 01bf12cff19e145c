use Rattle.std.proofs.Common.{rules, arith, ◌∙◌}
use Rattle.acvp_commands.proofs.VisitLemmas.{ended_open, served_few, served_more, served_open, until_count, until_ended}
use Rattle.acvp_commands.proofs.VisitLemmas.{until_limit}
use Rattle.acvp_commands.proofs.serving.serve_connections.Goals.{then-branch, else-branch}
use Rattle.acvp_commands.proofs.serving.serve_connections.Goals as goal

pub returns-then-are_all-clause-was_open : goal.returns-then-are_all-clause-was_open
returns-then-are_all-clause-was_open g c =
    (served_open g.T.Tables.meaning g.L.Listener.listening g.L.Input.Source.stream g.L.Output.Sink.stream
    c.args.desk.now.keys
    c.loop-arrived._arrived c.loop-arrived.served c.args.listener.now c.args.desk.now.tables c.loop-arrived.listener
    c.loop-arrived.desk.tables
    c.loop-arrived.invariant.served).0

pub returns-then-are_all-clause-was_clean : goal.returns-then-are_all-clause-was_clean
returns-then-are_all-clause-was_clean g c =
    (served_open g.T.Tables.meaning g.L.Listener.listening g.L.Input.Source.stream g.L.Output.Sink.stream
    c.args.desk.now.keys
    c.loop-arrived._arrived c.loop-arrived.served c.args.listener.now c.args.desk.now.tables c.loop-arrived.listener
    c.loop-arrived.desk.tables
    c.loop-arrived.invariant.served).1

pub returns-in_err-serve_next-clause-was_open : goal.returns-in_err-serve_next-clause-was_open
returns-in_err-serve_next-clause-was_open g c =
    (ended_open g.T.Tables.meaning g.L.Listener.listening g.L.Input.Source.stream g.L.Output.Sink.stream
    c.args.desk.now.keys c.loop-arrived.desk.keys c.loop-arrived._arrived c.loop-arrived.served c.args.listener.now
    c.args.desk.now.tables
    c.loop-arrived.listener c.serve_next.new.listener c.loop-arrived.desk c.serve_next.new.desk
    c.in_err-serve_next.field-0.0
    c.loop-arrived.invariant.served c.in_err-serve_next.ensures.next).0

pub returns-in_err-serve_next-clause-was_clean : goal.returns-in_err-serve_next-clause-was_clean
returns-in_err-serve_next-clause-was_clean g c =
    (ended_open g.T.Tables.meaning g.L.Listener.listening g.L.Input.Source.stream g.L.Output.Sink.stream
    c.args.desk.now.keys c.loop-arrived.desk.keys c.loop-arrived._arrived c.loop-arrived.served c.args.listener.now
    c.args.desk.now.tables
    c.loop-arrived.listener c.serve_next.new.listener c.loop-arrived.desk c.serve_next.new.desk
    c.in_err-serve_next.field-0.0
    c.loop-arrived.invariant.served c.in_err-serve_next.ensures.next).1

pub returns-in_err-serve_next-clause-served : goal.returns-in_err-serve_next-clause-served
returns-in_err-serve_next-clause-served g c =
    let ended = until_ended g.T.Tables.meaning g.L.Listener.listening g.L.Input.Source.stream g.L.Output.Sink.stream
    c.turns_are_promised.ensures
    c.turns_leave.ensures c.args.desk.now.keys
    (omega (arith, c.newest_epoch.ensures)) c.loop-arrived.desk.keys c.args.count
    c.loop-arrived._arrived c.loop-arrived.served c.args.listener.now c.args.desk.now.tables c.loop-arrived.listener
    c.serve_next.new.listener
    c.loop-arrived.desk c.serve_next.new.desk c.in_err-serve_next.field-0.0 c.loop-arrived.invariant.served
    c.loop-arrived.invariant.keys
    c.in_err-serve_next.ensures.next in
    search rules

pub overflow_add-served : goal.overflow_add-served
overflow_add-served g c =
    let few = served_few g.T.Tables.meaning g.L.Listener.listening g.L.Input.Source.stream g.L.Output.Sink.stream
    c.args.desk.now.keys
    c.loop-arrived._arrived c.loop-arrived.served c.args.listener.now c.args.desk.now.tables c.loop-arrived.listener
    c.loop-arrived.desk.tables
    c.loop-arrived.invariant.served in
    omega (arith, few, c.loop-arrived-test.true)

pub loop-arrived-preserved : goal.loop-arrived-preserved
loop-arrived-preserved g c =
    let (visit, is_connection, on, serves) = c.in_ok-serve_next.ensures.next in record {
      keys = c.serve_next.ensures.keys ∙ c.loop-arrived.invariant.keys;
      served = served_more g.T.Tables.meaning g.L.Listener.listening g.L.Input.Source.stream g.L.Output.Sink.stream
          c.args.desk.now.keys c.loop-arrived.desk.keys c.loop-arrived._arrived c.loop-arrived.served c.if-branch.served
          visit c.args.listener.now c.args.desk.now.tables c.loop-arrived.listener c.loop-arrived.desk.tables
          c.serve_next.new.listener
          c.serve_next.new.desk.tables c.loop-arrived.invariant.served c.loop-arrived.invariant.keys serves on
          (elim c.if-branch.branch [
            | then-branch w ↦ w.served-is ∙ rw (is_connection, w.if-branch.true) (omega arith)
            | else-branch w ↦ w.served-is ∙ rw (is_connection, w.if-branch.false) (omega arith)
          ]);
    }

pub returns-clause-was_open : goal.returns-clause-was_open
returns-clause-was_open g c =
    (served_open g.T.Tables.meaning g.L.Listener.listening g.L.Input.Source.stream g.L.Output.Sink.stream
    c.args.desk.now.keys
    c.loop-arrived._arrived c.loop-arrived.served c.args.listener.now c.args.desk.now.tables c.loop-arrived.listener
    c.loop-arrived.desk.tables
    c.loop-arrived.invariant.served).0

pub returns-clause-was_clean : goal.returns-clause-was_clean
returns-clause-was_clean g c =
    (served_open g.T.Tables.meaning g.L.Listener.listening g.L.Input.Source.stream g.L.Output.Sink.stream
    c.args.desk.now.keys
    c.loop-arrived._arrived c.loop-arrived.served c.args.listener.now c.args.desk.now.tables c.loop-arrived.listener
    c.loop-arrived.desk.tables
    c.loop-arrived.invariant.served).1

pub returns-clause-served : goal.returns-clause-served
returns-clause-served g c =
    until_limit g.T.Tables.meaning g.L.Listener.listening g.L.Input.Source.stream g.L.Output.Sink.stream
    c.turns_are_promised.ensures
    c.turns_leave.ensures c.args.desk.now.keys (omega (arith, c.newest_epoch.ensures)) c.args.count
    c.loop-arrived._arrived c.loop-arrived.served c.args.listener.now c.args.desk.now.tables c.loop-arrived.listener
    c.loop-arrived.desk.tables
    c.loop-arrived.invariant.served (omega (arith, c.loop-arrived-test.false))

pub returns-then-are_all-clause-served : goal.returns-then-are_all-clause-served
returns-then-are_all-clause-served g c =
    until_count g.T.Tables.meaning g.L.Listener.listening g.L.Input.Source.stream g.L.Output.Sink.stream
    c.turns_are_promised.ensures
    c.turns_leave.ensures c.args.desk.now.keys (omega (arith, c.newest_epoch.ensures)) c.args.count
    c.loop-arrived._arrived c.loop-arrived.served c.args.listener.now c.args.desk.now.tables c.loop-arrived.listener
    c.loop-arrived.desk.tables
    c.loop-arrived.invariant.served (c.are_all.ensures.0 c.if-are_all.true)
