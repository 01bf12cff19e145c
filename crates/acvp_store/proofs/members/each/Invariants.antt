use Rattle.acvp_store.proofs.Words.{AllZip, AreShown, IsRowOf, take}
use Rattle.acvp_store.proofs.members.each.Given as goal

abbrev pub invariant-loop-row : goal.invariant-loop-row
invariant-loop-row g l = AllZip (IsRowOf g.T.Member.reads g.T.Member.shown) (take l.row-index l.rows) l.found.items
    × AreShown g.T.Member.judged_so g.T.Member.shown (take l.row-index l.rows) l.found.items
