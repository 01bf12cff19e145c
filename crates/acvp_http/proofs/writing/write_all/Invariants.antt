use Rattle.std.proofs.Common.{◌≡◌, ◌≤◌, ◌-◌, false, take, length}
use Rattle.std.specs.Io.KnownBytes.{Appends}
use Rattle.acvp_http.proofs.writing.write_all.Given as goal

abbrev pub invariant-loop-written : goal.invariant-loop-written
invariant-loop-written g l = record {
  clear : (g.K.Sink.stream l.writer).failed ≡ false;
  low : l.written ≤ length l.bytes;
  appended : Appends (g.K.Sink.stream l.fn.writer).contents (g.K.Sink.stream l.writer).contents
      (take l.written l.bytes);
}

abbrev pub decreases-loop-written : goal.decreases-loop-written
decreases-loop-written g l = length l.bytes - l.written
