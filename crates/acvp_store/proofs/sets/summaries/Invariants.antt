use Rattle.acvp_store.proofs.Words.{AllZip, IsSummary, take}
use Rattle.acvp_store.proofs.sets.summaries.Given as goal

abbrev pub invariant-loop-set : goal.invariant-loop-set
invariant-loop-set l = AllZip IsSummary (take l.set-index l.sets) l.told.items
