use Rattle.std.proofs.Common.{◌-◌, length, take}
use Rattle.acvp_http.proofs.KnownLemmas.{consumes_consumes}
use Rattle.acvp_http.proofs.ReadLineLemmas.{filled_more, filled_low}
use Rattle.acvp_http.proofs.reading.fill.Goals as goal

pub loop-filled-preserved : goal.loop-filled-preserved
loop-filled-preserved g c =
    let read = c.in_ok-count.ensures in
    let more = filled_more c.loop-filled.filled
    (length c.loop-filled.buf - c.loop-filled.filled) c.in_ok-count.count c.loop-filled.buf c.read_some.new.buf
    c.loop-filled.invariant.low read.0 in
    record {
      clear = read.1;
      low = filled_low c.loop-filled.filled
          (length c.loop-filled.buf - c.loop-filled.filled) c.in_ok-count.count c.loop-filled.buf c.read_some.new.buf
          c.loop-filled.invariant.low read.0;
      consumed = rw more (consumes_consumes (g.S.Source.stream c.args.reader.now).held
          (g.S.Source.stream c.loop-filled.reader).held
          (g.S.Source.stream c.read_some.new.reader).held (take c.loop-filled.filled c.loop-filled.buf)
          (take c.in_ok-count.count c.read_some.new.buf) c.loop-filled.invariant.consumed read.2);
    }
