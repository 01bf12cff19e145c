use Rattle.std.proofs.Common.{◌∙◌, sym, arith}
use Rattle.acvp_json.proofs.ScanLemmas.{stops, goes_on, at_end}
use Rattle.acvp_json.proofs.kept_scan.scan.Goals as goal

pub returns-in-None : goal.returns-in-None
returns-in-None c =
    stops c.loop-byte.place c.args.bytes.now c.loop-byte.byte-index _ c.loop-byte-test.true
    (sym c.in-None.is ∙ c.next.ensures) c.loop-byte.invariant

pub loop-byte-preserved : goal.loop-byte-preserved
loop-byte-preserved c =
    goes_on c.loop-byte.place c.in-Some.behind c.args.bytes.now c.loop-byte.byte-index _ c.loop-byte-test.true
    (sym c.in-Some.is ∙ c.next.ensures) c.loop-byte.invariant

pub returns : goal.returns
returns c = c.is_end.ensures ∙ at_end c.loop-byte.place c.args.bytes.now c.loop-byte.byte-index _
    (omega (arith, c.loop-byte-test.false)) c.loop-byte.invariant
