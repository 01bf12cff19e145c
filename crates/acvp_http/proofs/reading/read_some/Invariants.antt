use Rattle.std.proofs.Common.{◌≡◌, ◌-◌, false}
use Rattle.std.specs.Io.KnownBytes.{Keeps}
use Rattle.acvp_http.proofs.reading.read_some.Given as goal

abbrev pub invariant-loop-reader : goal.invariant-loop-reader
invariant-loop-reader g l = record {
  clear : (g.S.Source.stream l.reader).failed ≡ false;
  kept : Keeps (g.S.Source.stream l.fn.reader).held (g.S.Source.stream l.reader).held;
}

abbrev pub decreases-loop-reader : goal.decreases-loop-reader
decreases-loop-reader g l = l.fn.limit - (g.S.Source.stream l.reader).reads
