use Rattle.std.proofs.Common.{◌≡◌, length}
use Rattle.std.specs.Prelude.{◌↔◌}
use Rattle.acvp_store.proofs.same.same_all.Given as goal

abbrev pub invariant-loop-first : goal.invariant-loop-first
invariant-loop-first g l = (l.fn.a ≡ l.fn.b) ↔ (l.first ≡ l.second)

abbrev pub decreases-loop-first : goal.decreases-loop-first
decreases-loop-first g l = length l.first
