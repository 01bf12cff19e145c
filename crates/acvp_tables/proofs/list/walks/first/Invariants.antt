use Rattle.std.proofs.Common.{◌≡◌, drop, find}
use Rattle.acvp_tables.proofs.list.walks.first.Given as goal

abbrev pub invariant-loop-row : goal.invariant-loop-row
invariant-loop-row g l = find (g.T.Predicate.passes l.test) (drop l.row-index l.rows)
    ≡ find (g.T.Predicate.passes l.test) l.rows
