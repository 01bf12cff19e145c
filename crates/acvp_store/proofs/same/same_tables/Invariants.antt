use Rattle.std.proofs.Common.{◌≡◌, length}
use Rattle.std.specs.Prelude.{◌↔◌}
use Rattle.acvp_store.specs.Private.Bare.{IsBare}
use Rattle.acvp_store.proofs.Words.{AllByRecursion}
use Rattle.acvp_store.proofs.same.same_tables.Given as goal

abbrev pub invariant-loop-first : goal.invariant-loop-first
invariant-loop-first l = ((l.fn.a ≡ l.fn.b) ↔ (l.first ≡ l.second)) × AllByRecursion IsBare l.second

abbrev pub decreases-loop-first : goal.decreases-loop-first
decreases-loop-first l = length l.first
