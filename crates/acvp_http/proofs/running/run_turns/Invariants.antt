use Rattle.std.proofs.Common.{◌≡◌, false}
use Rattle.acvp_http.specs.Serve.{LeavesShut}
use Rattle.acvp_http.proofs.RunLemmas.{Ran}
use Rattle.acvp_http.proofs.running.run_turns.Given as goal

abbrev pub invariant-loop-count : goal.invariant-loop-count
invariant-loop-count g l = record {
  reader_clear : (g.S.Source.stream l.reader).failed ≡ false;
  writer_clear : (g.K.Sink.stream l.writer).failed ≡ false;
  keys : l.desk.keys ≡ l.fn.desk.keys;
  was_open : g.T.Tables.meaning.is_open l.desk.tables → g.T.Tables.meaning.is_open l.fn.desk.tables;
  was_clean : g.T.Tables.meaning.is_clean l.desk.tables → g.T.Tables.meaning.is_clean l.fn.desk.tables;
  shut : LeavesShut g.T.Tables.meaning l.fn.desk.tables l.desk.tables;
  ran : Ran g.T.Tables.meaning l.fn.desk.keys l.fn.desk.tables l.desk.tables (g.S.Source.stream l.fn.reader)
      (g.S.Source.stream l.reader) (g.K.Sink.stream l.fn.writer) (g.K.Sink.stream l.writer) l.count;
}
