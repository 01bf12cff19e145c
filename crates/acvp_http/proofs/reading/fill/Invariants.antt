use Rattle.std.proofs.Common.{◌≡◌, ◌≤◌, ◌-◌, false, take, length}
use Rattle.std.specs.Io.KnownBytes.{Consumes}
use Rattle.acvp_http.proofs.reading.fill.Given as goal

abbrev pub invariant-loop-filled : goal.invariant-loop-filled
invariant-loop-filled g l = record {
  clear : (g.S.Source.stream l.reader).failed ≡ false;
  low : l.filled ≤ length l.buf;
  consumed : Consumes (g.S.Source.stream l.fn.reader).held (g.S.Source.stream l.reader).held (take l.filled l.buf);
}

abbrev pub decreases-loop-filled : goal.decreases-loop-filled
decreases-loop-filled g l = length l.initial.buf - l.filled
