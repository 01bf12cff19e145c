use Rattle.acvp_copying.specs.Copies.{OnlyTries}
use Rattle.acvp_copying.specs.Deeds.{Did}
use Rattle.acvp_copying.proofs.copying.copy_whole.Given as goal

abbrev pub invariant-loop : goal.invariant-loop
invariant-loop g l = Did g.F.Making.does OnlyTries l.fn.files l.files
