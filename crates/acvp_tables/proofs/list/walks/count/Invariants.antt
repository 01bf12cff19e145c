use Rattle.std.proofs.Common.{◌≡◌, ◌≤◌, ◌+◌, drop, filter, length}
use Rattle.acvp_tables.proofs.list.walks.count.Given as goal

abbrev pub invariant-loop-row : goal.invariant-loop-row
invariant-loop-row g l = (l.count + length (filter (g.T.Predicate.passes l.test) (drop l.row-index l.rows))
    ≡ length (filter (g.T.Predicate.passes l.test) l.rows)) × (l.count ≤ l.row-index)
