use Rattle.std.proofs.Common.{rules}
use Rattle.acvp_http.proofs.HeadBytesLemmas.{body_stops}
use Rattle.acvp_http.proofs.receiving.read_body.Goals as goal

pub returns-in_err-count : goal.returns-in_err-count
returns-in_err-count g c =
    let (part, is, taken, all) = c.loop-left.invariant.taken in
    let stops = body_stops (g.S.Source.stream c.args.reader.now) (g.S.Source.stream c.loop-left.reader)
    (g.S.Source.stream c.take_piece.new.reader) part c.loop-left.left c.args.wanted
    c.in_err-count.field-0.0 c.args.limit taken all c.in_err-count.ensures in
    search rules
