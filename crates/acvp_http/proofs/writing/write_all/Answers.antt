use Rattle.std.proofs.Common.{◌<◌, ◌-◌, take, drop, length, arith}
use Rattle.std.proofs.lemmas.List.{length-take, length-drop}
use Rattle.acvp_http.proofs.WrittenTextLemmas.{flag_zero, flag_one, flag_err, wrote_more, stopped_after, stopped_zero}
use Rattle.acvp_http.proofs.writing.write_all.Goals as goal

pub returns-in-Ok-eq0 : goal.returns-in-Ok-eq0
returns-in-Ok-eq0 g c =
    let rest = take (length c.args.bytes.now - c.loop-written.written) (drop c.loop-written.written c.args.bytes.now) in
    let some : 0 < length rest =
    omega (
      arith,
      length-take (length c.args.bytes.now - c.loop-written.written)
          (drop c.loop-written.written c.args.bytes.now),
      length-drop c.loop-written.written c.args.bytes.now,
    ) in (
      flag_zero (g.K.Sink.stream c.loop-written.writer).failed (g.K.Sink.stream c.write.new.self).failed rest
          (rw c.in-Ok-eq0.field-0-test at c.in-Ok-eq0.ensures.flag) some,
      stopped_zero (g.K.Sink.stream c.args.writer.now) (g.K.Sink.stream c.loop-written.writer)
          (g.K.Sink.stream c.write.new.self) c.args.bytes.now rest c.loop-written.written c.in-Ok-eq0.field-0
          c.loop-written.invariant.appended c.in-Ok-eq0.field-0-test c.in-Ok-eq0.ensures.bytes,
    )

pub loop-written-preserved : goal.loop-written-preserved
loop-written-preserved g c =
    let rest = take (length c.args.bytes.now - c.loop-written.written) (drop c.loop-written.written c.args.bytes.now) in
    let more = wrote_more (g.K.Sink.stream c.args.writer.now).contents (g.K.Sink.stream c.loop-written.writer).contents
    (g.K.Sink.stream c.write.new.self).contents c.args.bytes.now c.loop-written.written c.in-Ok.count
    c.loop-written.invariant.low c.loop-written.invariant.appended c.in-Ok.ensures.bound c.in-Ok.ensures.bytes in
    record {
      clear = flag_one (g.K.Sink.stream c.loop-written.writer).failed
          (g.K.Sink.stream c.write.new.self).failed c.in-Ok.count rest c.in-Ok.ensures.flag c.in-Ok.count-test.1
          c.loop-written.invariant.clear;
      low = more.0;
      appended = more.1;
    }

pub returns-in-Err : goal.returns-in-Err
returns-in-Err g c = (
  flag_err (g.K.Sink.stream c.loop-written.writer).failed
      (g.K.Sink.stream c.write.new.self).failed c.in-Err.ensures.flag,
  stopped_after (g.K.Sink.stream c.args.writer.now) (g.K.Sink.stream c.loop-written.writer)
      (g.K.Sink.stream c.write.new.self) c.args.bytes.now c.loop-written.written c.loop-written.invariant.appended
      c.in-Err.ensures.bytes,
)
