use Rattle.std.proofs.Common.{◌∙◌, rules}
use Rattle.acvp_http.proofs.WrittenTextLemmas.{reply_stopped, reply_written}
use Rattle.acvp_http.proofs.writing.write_replied.Goals as goal

pub returns-in_err-write_both : goal.returns-in_err-write_both
returns-in_err-write_both g c =
    let stops = reply_stopped (g.K.Sink.stream c.args.writer.now)
    (g.K.Sink.stream c.write_both.new.writer) c.as_slice.result.now
    c.args.reply.now (c.as_slice.ensures
    ∙ c.reply_line-line.ensures) c.in_err-write_both.ensures in
    search rules

pub returns : goal.returns
returns g c =
    reply_written (g.K.Sink.stream c.args.writer.now) (g.K.Sink.stream c.write_both.new.writer)
    (g.K.Sink.stream c.write_all.new.writer) c.as_slice.result.now c.args.reply.now c.write_all.result
    (c.as_slice.ensures
    ∙ c.reply_line-line.ensures) c.in_ok-write_both.ensures.1 c.write_all.ensures
