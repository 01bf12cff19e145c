use Rattle.std.proofs.Common.{◌≡◌, ◌+◌, ◌++◌, ℕ, List, false, length}
use Rattle.std.specs.Io.KnownBytes.{Consumes}
use Rattle.acvp_http.proofs.receiving.read_body.Given as goal

abbrev pub invariant-loop-left : goal.invariant-loop-left
invariant-loop-left g l = record {
  clear : (g.S.Source.stream l.reader).failed ≡ false;
  taken : (part : List ℕ) × (l.bytes.items ≡ l.fn.bytes.items ++ part)
      × Consumes (g.S.Source.stream l.fn.reader).held (g.S.Source.stream l.reader).held part
      × (length part + l.left ≡ l.fn.wanted);
}

abbrev pub decreases-loop-left : goal.decreases-loop-left
decreases-loop-left g l = l.left
