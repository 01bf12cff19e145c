use Rattle.std.proofs.Common.{◌≡◌, false, take}
use Rattle.std.specs.Io.KnownBytes.{Consumes}
use Rattle.acvp_http.specs.Private.Lines.{Lacks}
use Rattle.acvp_http.proofs.reading.read_whole_line.Given as goal

abbrev pub invariant-loop-count : goal.invariant-loop-count
invariant-loop-count g l = record {
  clear : (g.S.Source.stream l.reader).failed ≡ false;
  consumed : Consumes (g.S.Source.stream l.fn.reader).held (g.S.Source.stream l.reader).held (take l.count l.line);
  lacks : Lacks 10 (take l.count l.line);
}
