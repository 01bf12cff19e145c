use Rattle.std.proofs.Common.{◌≡◌, ◌∷◌, ◌++◌, [], length, arith}
use Rattle.std.proofs.lemmas.Grind.{common_steps}
use Rattle.acvp_http.proofs.KnownLemmas.{consumes_consumes}
use Rattle.acvp_http.proofs.ReadLineLemmas.{no_body_byte, no_body_other}
use Rattle.acvp_http.proofs.reading.read_request_bytes.Goals as goal

pub returns-in-Some : goal.returns-in-Some
returns-in-Some g c =
    let byte = rw c.in-Some.is at c.in_ok-read_byte.ensures in
    let filled = c.in_ok-fill.ensures in
    let more = consumes_consumes (g.S.Source.stream c.args.reader.now).held (g.S.Source.stream c.fill.new.reader).held
    (g.S.Source.stream c.read_byte.new.reader).held c.fill.new.buf (c.in-Some.field-0 ∷ []) filled.1 byte.1 in
    let size : length c.fill.new.buf ≡ c.args.length = grind (arith, common_steps) in (
      (
        byte.0,
        no_body_byte (g.S.Source.stream c.args.reader.now).held
            (g.S.Source.stream c.read_byte.new.reader).held c.fill.new.buf c.in-Some.field-0 c.args.length more size
            c.in-Some.field-0-test.1,
      ),
      (
        c.fill.new.buf ++ c.in-Some.field-0
            ∷ [],
        more,
        no_body_other c.fill.new.buf c.in-Some.field-0 c.args.length size c.in-Some.field-0-test.1,
      ),
    )
