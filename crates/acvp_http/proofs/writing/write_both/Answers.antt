use Rattle.std.proofs.Common.{rules}
use Rattle.acvp_http.proofs.WrittenTextLemmas.{stopped_before, writes_after}
use Rattle.acvp_http.proofs.writing.write_both.Goals as goal

pub returns-in_err-write_all : goal.returns-in_err-write_all
returns-in_err-write_all g c =
    let stops = stopped_before (g.K.Sink.stream c.args.writer.now)
    (g.K.Sink.stream c.write_all.new.writer) c.args.first.now
    c.args.second.now c.in_err-write_all.ensures in
    search rules

pub returns : goal.returns
returns g c = writes_after (g.K.Sink.stream c.args.writer.now) (g.K.Sink.stream c.write_all.new.writer)
    (g.K.Sink.stream c.write_all-2.new.writer) c.args.first.now c.args.second.now c.write_all-2.result
    c.in_ok-write_all.ensures.1 c.write_all-2.ensures
