use Rattle.std.proofs.Common.{◌≤◌, length, take}
use Rattle.std.specs.Io.KnownBytes.{Consumes}
use Rattle.acvp_causes.proofs.begins.begin_in.Given as goal

-- each read before gave one at least, and what they gave stands at the front
abbrev pub invariant-loop : goal.invariant-loop
invariant-loop g l = record {
  room : l.count ≤ length l.begin;
  given : l.counter ≤ l.count;
  bytes : Consumes (g.R.Read.remaining l.initial.reader) (g.R.Read.remaining l.reader) (take l.count l.begin);
}
