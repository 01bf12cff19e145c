use Rattle.acvp_store.proofs.Words.{AllZip, IsSet, take}
use Rattle.acvp_store.proofs.set_ranges.sets_told.Given as goal

abbrev pub invariant-loop-set : goal.invariant-loop-set
invariant-loop-set l = AllZip IsSet (take l.set-index l.sets) l.told.items
