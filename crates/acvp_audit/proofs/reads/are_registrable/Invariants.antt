use Rattle.std.proofs.Common.{take}
use Rattle.std.specs.List.{AllByRecursion}
use Rattle.acvp_audit.specs.Read.{IsRegistrable}
use Rattle.acvp_audit.proofs.reads.are_registrable.Given as goal

abbrev pub invariant-loop-row : goal.invariant-loop-row
invariant-loop-row l = AllByRecursion (λ row. IsRegistrable row.body) (take l.row-index l.requests)
