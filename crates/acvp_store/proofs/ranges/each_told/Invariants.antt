use Rattle.acvp_store.proofs.Words.{AreShown, take}
use Rattle.acvp_store.proofs.ranges.each_told.Given as goal

abbrev pub invariant-loop-row : goal.invariant-loop-row
invariant-loop-row g l = AreShown g.T.Member.judged_so g.T.Member.shown (take l.row-index l.rows) l.found.items
