use Rattle.std.proofs.Common.{Ok}
use Rattle.std.specs.Prelude.{⊤}
use Rattle.acvp_tables.specs.declared.tables.StoreFault.{StoreFault}
use Rattle.acvp_desk.specs.Serves.{Looks}
use Rattle.acvp_desk.proofs.judged.judge_sets.Given as goal

abbrev pub invariant-loop-set : goal.invariant-loop-set
invariant-loop-set g l = Looks g.T.Tables.meaning {X = ⊤} {E = StoreFault} (Ok tt) l.fn.tables l.tables
