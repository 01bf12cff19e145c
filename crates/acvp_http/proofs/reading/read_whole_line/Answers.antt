use Rattle.std.proofs.Common.{slice_set, ◌+◌, ◌≡◌, ◌<◌, ◌++◌, ◌∷◌, [], length, take, arith}
use Rattle.std.proofs.lemmas.List.{length-take, take_more_set}
use Rattle.acvp_http.specs.Private.Lines.{Lacks}
use Rattle.acvp_http.proofs.KnownLemmas.{consumes_consumes, consumes_no_more}
use Rattle.acvp_http.proofs.LineLemmas.{lacks_append}
use Rattle.acvp_http.proofs.ReadLineLemmas.{no_line_ended, no_line_long}
use Rattle.acvp_http.proofs.reading.read_whole_line.Goals as goal

pub returns-in-None-2 : goal.returns-in-None-2
returns-in-None-2 g c =
    let none = rw c.in-None-2.is at c.in_ok-read_byte.ensures in
    let some : 0 < length (take c.loop-count.count c.loop-count.line) =
    omega (arith, length-take c.loop-count.count c.loop-count.line) in
    let text = take c.loop-count.count c.loop-count.line in
    let taken = consumes_no_more (g.S.Source.stream c.args.reader.now).held (g.S.Source.stream c.loop-count.reader).held
    (g.S.Source.stream c.read_byte.new.reader).held text c.loop-count.invariant.consumed none.1 in (
      (
        none.0,
        no_line_ended (g.S.Source.stream c.args.reader.now).held
            (g.S.Source.stream c.read_byte.new.reader).held text taken c.loop-count.invariant.lacks some none.2,
      ),
      (text, taken, c.loop-count.invariant.lacks),
    )

pub loop-count-preserved : goal.loop-count-preserved
loop-count-preserved g c =
    let byte = rw c.in-Some.is at c.in_ok-read_byte.ensures in
    let more : take (c.loop-count.count + 1) (slice_set c.loop-count.line c.loop-count.count c.in-Some.byte)
    ≡ take c.loop-count.count c.loop-count.line ++ c.in-Some.byte ∷ [] =
    take_more_set c.loop-count.line c.loop-count.count c.in-Some.byte (omega arith) in
    record {
      clear = byte.0;
      consumed = rw more (consumes_consumes (g.S.Source.stream c.args.reader.now).held
          (g.S.Source.stream c.loop-count.reader).held
          (g.S.Source.stream c.read_byte.new.reader).held (take c.loop-count.count c.loop-count.line) (c.in-Some.byte
          ∷ []) c.loop-count.invariant.consumed byte.1);
      lacks = rw more (lacks_append 10 (take c.loop-count.count c.loop-count.line) (c.in-Some.byte
          ∷ []) c.loop-count.invariant.lacks (c.in-Some.byte-test.1, tt));
    }

pub returns-in-Some-eq10-2 : goal.returns-in-Some-eq10-2
returns-in-Some-eq10-2 g c =
    let byte = rw (c.in-Some-eq10-2.is, c.in-Some-eq10-2.field-0-test) at c.in_ok-read_byte-2.ensures in
    let full : c.loop-count.count ≡ 101 = omega arith in
    let line = rw full at c.loop-count.invariant.consumed in (
      byte.0,
      (
        omega arith,
        rw full at c.loop-count.invariant.lacks,
        consumes_consumes (g.S.Source.stream c.args.reader.now).held (g.S.Source.stream c.loop-count.reader).held
            (g.S.Source.stream c.read_byte-2.new.reader).held (take 101 c.loop-count.line) (10 ∷ []) line byte.1,
      ),
    )

pub returns-in-Some-2 : goal.returns-in-Some-2
returns-in-Some-2 g c =
    let byte = rw c.in-Some-2.is at c.in_ok-read_byte-2.ensures in
    let full : c.loop-count.count ≡ 101 = omega arith in
    let line = rw full at c.loop-count.invariant.consumed in
    let more = consumes_consumes (g.S.Source.stream c.args.reader.now).held (g.S.Source.stream c.loop-count.reader).held
    (g.S.Source.stream c.read_byte-2.new.reader).held (take 101 c.loop-count.line) (c.in-Some-2.field-0
    ∷ []) line byte.1 in
    let long : length (take 101 c.loop-count.line) ≡ 101 = omega (arith, length-take 101 c.loop-count.line) in
    let text = take 101 c.loop-count.line in
    let lacks : Lacks 10 text = rw full at c.loop-count.invariant.lacks in (
      (
        byte.0,
        no_line_long (g.S.Source.stream c.args.reader.now).held
            (g.S.Source.stream c.read_byte-2.new.reader).held text c.in-Some-2.field-0 more long lacks
            c.in-Some-2.field-0-test.1,
      ),
      (
        text ++ c.in-Some-2.field-0 ∷ [],
        more,
        lacks_append 10 text (c.in-Some-2.field-0
            ∷ []) lacks (c.in-Some-2.field-0-test.1, tt),
      ),
    )

pub returns-in-None-3 : goal.returns-in-None-3
returns-in-None-3 g c =
    let none = rw c.in-None-3.is at c.in_ok-read_byte-2.ensures in
    let some : 0 < length (take c.loop-count.count c.loop-count.line) =
    omega (arith, length-take c.loop-count.count c.loop-count.line) in
    let text = take c.loop-count.count c.loop-count.line in
    let taken = consumes_no_more (g.S.Source.stream c.args.reader.now).held (g.S.Source.stream c.loop-count.reader).held
    (g.S.Source.stream c.read_byte-2.new.reader).held text c.loop-count.invariant.consumed none.1 in (
      (
        none.0,
        no_line_ended (g.S.Source.stream c.args.reader.now).held
            (g.S.Source.stream c.read_byte-2.new.reader).held text taken c.loop-count.invariant.lacks some none.2,
      ),
      (text, taken, c.loop-count.invariant.lacks),
    )
