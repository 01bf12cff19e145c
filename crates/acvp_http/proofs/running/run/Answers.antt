use Rattle.std.proofs.Common.{arith}
use Rattle.acvp_http.proofs.PromiseLemmas.{runs_script}
use Rattle.acvp_http.proofs.running.run.Goals as goal

pub returns-clause-run : goal.returns-clause-run
returns-clause-run g c =
    runs_script g.T.Tables.meaning c.turns_are_promised.ensures c.turns_leave.ensures c.args.desk.now.keys
    (omega (arith, c.newest_epoch.ensures))
    c.args.desk.now.tables c.run_turns.new.desk.tables (g.S.Source.stream c.args.reader.now)
    (g.S.Source.stream c.run_turns.new.reader)
    (g.K.Sink.stream c.args.writer.now)
    (g.K.Sink.stream c.run_turns.new.writer) c.run_turns.result c.run_turns.ensures.run
