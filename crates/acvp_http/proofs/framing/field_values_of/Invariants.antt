use Rattle.std.proofs.Common.{◌≡◌, ◌≤◌, ◌++◌, length, map, drop}
use Rattle.std.specs.Prelude.{All}
use Rattle.httparse.specs.Spans.{span_bytes, header_bytes, IsWithin}
use Rattle.acvp_http.specs.Asks.{values_of}
use Rattle.acvp_http.proofs.framing.field_values_of.Given as goal

abbrev pub invariant-loop-header : goal.invariant-loop-header
invariant-loop-header l = record {
  found : map (span_bytes l.block) l.found
      ++ values_of l.name (map (header_bytes l.block) (drop l.header-index l.headers))
      ≡ values_of l.name (map (header_bytes l.block) l.headers);
  within : All (IsWithin (length l.block)) l.found;
  few : length l.found ≤ l.header-index;
}
