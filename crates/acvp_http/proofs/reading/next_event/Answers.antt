use Rattle.std.proofs.Common.{rules, arith, ◌++◌, ◌∷◌, [], take}
use Rattle.acvp_http.proofs.KnownLemmas.{consumes_consumes}
use Rattle.acvp_http.proofs.EventLemmas.{request_written}
use Rattle.acvp_http.proofs.GrammarLemmas.{no_line_said, nothing_said_alone, stops_line, stops_body}
use Rattle.acvp_http.proofs.reading.next_event.Goals as goal

pub returns-in_err-count : goal.returns-in_err-count
returns-in_err-count g c =
    let stops = stops_line (g.S.Source.stream c.args.reader.now) (g.S.Source.stream c.read_whole_line.new.reader)
    c.in_err-count.field-0.0 c.args.limit c.in_err-count.ensures in
    search rules

pub returns-in_err-bytes-in-Some-Request : goal.returns-in_err-bytes-in-Some-Request
returns-in_err-bytes-in-Some-Request g c =
    let line = rw c.in-Some.is at c.in_ok-count.ensures in
    let stops = stops_body (g.S.Source.stream c.args.reader.now) (g.S.Source.stream c.read_whole_line.new.reader)
    (g.S.Source.stream c.read_request_bytes.new.reader)
    (take c.in-Some.count c.read_whole_line.new.line) c.in-Some-Request.moment c.in-Some-Request.length
    c.in_err-bytes-in-Some-Request.field-0.0 c.args.limit line.1.2
    (rw c.in-Some-Request.field-0-is at c.in-Some-Request.ensures) c.in_err-bytes-in-Some-Request.ensures in
    search rules

pub returns-in-None : goal.returns-in-None
returns-in-None g c =
    let line = rw c.in-Some.is at c.in_ok-count.ensures in
    let text = take c.in-Some.count c.read_whole_line.new.line in (
      (
        line.0,
        no_line_said (g.S.Source.stream c.args.reader.now).held
            (g.S.Source.stream c.read_whole_line.new.reader).held text line.1.2 line.1.1 c.in-None.ensures,
      ),
      (text ++ 10 ∷ [], line.1.2, nothing_said_alone text line.1.1 c.in-None.ensures),
    )

pub returns-in_ok-bytes-in-Some-Request : goal.returns-in_ok-bytes-in-Some-Request
returns-in_ok-bytes-in-Some-Request g c =
    let line = rw c.in-Some.is at c.in_ok-count.ensures in
    let text = take c.in-Some.count c.read_whole_line.new.line in
    let bytes = c.in_ok-bytes-in-Some-Request.bytes.items in
    let read = c.in_ok-bytes-in-Some-Request.ensures in (
      read.0,
      (
        (text ++ 10 ∷ []) ++ (bytes ++ 10 ∷ []),
        request_written c.in-Some-Request.moment c.in-Some-Request.length bytes text
            (omega (arith, c.in_ok-bytes-in-Some-Request.bytes.ok.0, read.1))
            (rw c.in-Some-Request.field-0-is at c.in-Some-Request.ensures),
        consumes_consumes (g.S.Source.stream c.args.reader.now).held
            (g.S.Source.stream c.read_whole_line.new.reader).held
            (g.S.Source.stream c.read_request_bytes.new.reader).held (text ++ 10 ∷ [])
            (bytes ++ 10 ∷ []) line.1.2 read.2,
      ),
    )
