use Rattle.std.proofs.Common.{◌≡◌}
use Rattle.acvp_commands.proofs.VisitLemmas.{Served}
use Rattle.acvp_commands.proofs.serving.serve_connections.Given as goal

abbrev pub invariant-loop-arrived : goal.invariant-loop-arrived
invariant-loop-arrived g l = record {
  keys : l.desk.keys ≡ l.fn.desk.keys;
  served : Served g.T.Tables.meaning g.L.Listener.listening g.L.Input.Source.stream g.L.Output.Sink.stream
      l.fn.desk.keys l._arrived l.served l.fn.listener l.fn.desk.tables l.listener l.desk.tables;
}
