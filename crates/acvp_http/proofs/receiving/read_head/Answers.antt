use Rattle.std.proofs.Common.{rules, ◌∷◌, [], arith}
use Rattle.acvp_http.proofs.KnownLemmas.{consumes_consumes}
use Rattle.acvp_http.proofs.HeadBytesLemmas.{head_stops, byte_taken, one_longer, none_yet, head_ended}
use Rattle.acvp_http.proofs.receiving.read_head.Goals as goal

pub returns-in_err-take_byte : goal.returns-in_err-take_byte
returns-in_err-take_byte g c =
    let stops = head_stops (g.S.Source.stream c.args.reader.now) (g.S.Source.stream c.loop.reader)
    (g.S.Source.stream c.take_byte.new.reader) c.loop.bytes.items c.loop.counter
    c.in_err-take_byte.field-0.0 c.args.limit c.loop.invariant.consumed c.loop.invariant.long
    (omega arith) c.loop.invariant.first
    c.in_err-take_byte.ensures in
    search rules

pub returns-then-ends_with_empty_line : goal.returns-then-ends_with_empty_line
returns-then-ends_with_empty_line g c =
    let (clear, takes) = c.in_ok-take_byte.ensures in
    let (byte, is, took) = byte_taken c.in_ok-take_byte.field-0 (g.S.Source.stream c.loop.reader)
    (g.S.Source.stream c.take_byte.new.reader) c.loop.bytes.items c.take_byte.new.bytes.items (cc) takes in
    let consumed = consumes_consumes (g.S.Source.stream c.args.reader.now).held (g.S.Source.stream c.loop.reader).held
    (g.S.Source.stream c.take_byte.new.reader).held c.loop.bytes.items (byte ∷ []) c.loop.invariant.consumed took in (
      clear,
      (rw is consumed),
      head_ended c.loop.bytes.items c.take_byte.new.bytes.items byte c.loop.counter is c.loop.invariant.long
          c.loop.invariant.first (g.S.Source.stream c.take_byte.new.reader).held (omega arith) (cc),
    )

pub loop-preserved : goal.loop-preserved
loop-preserved g c =
    let (clear, takes) = c.in_ok-take_byte.ensures in
    let (byte, is, took) = byte_taken c.in_ok-take_byte.field-0 (g.S.Source.stream c.loop.reader)
    (g.S.Source.stream c.take_byte.new.reader) c.loop.bytes.items c.take_byte.new.bytes.items (cc) takes in
    let consumed = consumes_consumes (g.S.Source.stream c.args.reader.now).held (g.S.Source.stream c.loop.reader).held
    (g.S.Source.stream c.take_byte.new.reader).held c.loop.bytes.items (byte ∷ []) c.loop.invariant.consumed took in
    record {
      clear = clear;
      consumed = rw is consumed;
      long = one_longer c.loop.bytes.items c.take_byte.new.bytes.items byte c.loop.counter is c.loop.invariant.long
          c.loop.invariant.first;
      first = none_yet c.loop.bytes.items c.take_byte.new.bytes.items byte c.loop.counter is c.loop.invariant.long
          c.loop.invariant.first (cc);
    }
