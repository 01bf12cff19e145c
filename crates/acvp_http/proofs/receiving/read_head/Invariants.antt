use Rattle.std.proofs.Common.{◌≡◌, ◌<◌, ◌+◌, ℕ, false, length, take}
use Rattle.std.specs.Io.KnownBytes.{Consumes}
use Rattle.acvp_http.specs.Asks.{ends_empty}
use Rattle.acvp_http.proofs.receiving.read_head.Given as goal

abbrev pub invariant-loop : goal.invariant-loop
invariant-loop g l = record {
  clear : (g.S.Source.stream l.reader).failed ≡ false;
  consumed : Consumes (g.S.Source.stream l.fn.reader).held (g.S.Source.stream l.reader).held l.bytes.items;
  long : length l.bytes.items ≡ l.counter;
  first : (k : ℕ) → k < l.counter + 1 → ends_empty (take k l.bytes.items) ≡ false;
}
