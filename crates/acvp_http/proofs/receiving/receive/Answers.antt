use Rattle.std.proofs.Common.{rules, ◌≡◌, ◌∙◌, sym, true, false}
use Rattle.acvp_http.specs.Asks.{ends_empty}
use Rattle.acvp_http.specs.Private.Head.{IsParsed}
use Rattle.acvp_http.proofs.NeededLemmas.{asks_headless, asks_refused, body_within, head_within, needed_window}
use Rattle.acvp_http.proofs.NeededLemmas.{needs_parsed, parses_whole, received, received_refused}
use Rattle.acvp_http.proofs.receiving.receive.Goals as goal

pub returns-in_err-bytes : goal.returns-in_err-bytes
returns-in_err-bytes g c =
    let (stops, took) = c.in_err-bytes.ensures in
    let within = head_within (g.S.Source.stream c.args.reader.now) (g.S.Source.stream c.read_head.new.reader) took in
    search rules

pub returns-in_err-read_body-in-Ok : goal.returns-in_err-read_body-in-Ok
returns-in_err-read_body-in-Ok g c =
    let (clear, taken, head) = c.in_ok-bytes.ensures in
    let (stops, took) = c.in_err-read_body-in-Ok.ensures in
    let ends : ends_empty c.in_ok-bytes.bytes.items ≡ true =
    rw c.deref.ensures.value at (sym c.ends_with_empty_line.ensures ∙ c.if-not-ends_with_empty_line.false) in
    let parsed : IsParsed c.in_ok-bytes.bytes.items c.in-Ok.head = rw c.deref-2.ensures.value at c.in-Ok.ensures in
    let within = body_within (g.S.Source.stream c.args.reader.now) (g.S.Source.stream c.read_head.new.reader)
    (g.S.Source.stream c.read_body.new.reader) c.in_ok-bytes.bytes.items
    c.in-Ok.head.size taken head ends (needs_parsed c.in_ok-bytes.bytes.items c.in-Ok.head parsed) took in
    search rules

pub returns-then-not-ends_with_empty_line : goal.returns-then-not-ends_with_empty_line
returns-then-not-ends_with_empty_line g c =
    let (clear, taken, head) = c.in_ok-bytes.ensures in
    let none : ends_empty c.in_ok-bytes.bytes.items ≡ false =
    rw c.deref.ensures.value at (sym c.ends_with_empty_line.ensures ∙ c.if-not-ends_with_empty_line.true) in (
      clear,
      taken,
      needed_window (g.S.Source.stream c.args.reader.now).held
          (g.S.Source.stream c.read_head.new.reader).held c.in_ok-bytes.bytes.items taken head none,
      rw (c.headless.ensures, c.deref-then-not-ends_with_empty_line.ensures.value)
          (asks_headless (g.S.Source.stream c.read_head.new.reader).held c.in_ok-bytes.bytes.items head none),
    )

pub returns-in-Err : goal.returns-in-Err
returns-in-Err g c =
    let (clear, taken, head) = c.in_ok-bytes.ensures in
    let ends : ends_empty c.in_ok-bytes.bytes.items ≡ true =
    rw c.deref.ensures.value at (sym c.ends_with_empty_line.ensures ∙ c.if-not-ends_with_empty_line.false) in
    let reads = rw c.deref-2.ensures.value at c.in-Err.ensures in (
      clear,
      taken,
      received_refused (g.S.Source.stream c.args.reader.now).held
          (g.S.Source.stream c.read_head.new.reader).held c.in_ok-bytes.bytes.items c.in-Err.rule taken head ends reads,
      asks_refused (g.S.Source.stream c.read_head.new.reader).held c.in_ok-bytes.bytes.items c.in-Err.rule head ends
          reads,
    )

pub returns-in_ok-read_body-in-Ok : goal.returns-in_ok-read_body-in-Ok
returns-in_ok-read_body-in-Ok g c =
    let (clear, taken, head) = c.in_ok-bytes.ensures in
    let (clear_still, (part, is, more, body)) = c.in_ok-read_body-in-Ok.ensures in
    let ends : ends_empty c.in_ok-bytes.bytes.items ≡ true =
    rw c.deref.ensures.value at (sym c.ends_with_empty_line.ensures ∙ c.if-not-ends_with_empty_line.false) in
    let parsed : IsParsed c.in_ok-bytes.bytes.items c.in-Ok.head = rw c.deref-2.ensures.value at c.in-Ok.ensures in
    let (consumed, needed) = received (g.S.Source.stream c.args.reader.now).held
    (g.S.Source.stream c.read_head.new.reader).held (g.S.Source.stream c.read_body.new.reader).held
    c.in_ok-bytes.bytes.items part c.read_body.new.bytes.items c.in-Ok.head.size taken more is head ends
    (needs_parsed c.in_ok-bytes.bytes.items c.in-Ok.head parsed) body in (
      clear_still,
      consumed,
      needed,
      parses_whole (g.S.Source.stream c.read_head.new.reader).held c.in_ok-bytes.bytes.items part
          c.read_body.new.bytes.items c.in-Ok.head is head ends parsed,
    )
