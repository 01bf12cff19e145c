use Rattle.std.proofs.Common.{◌≡◌, ◌++◌, drop, filter, map}
use Rattle.acvp_tables.proofs.list.walks.all.Given as goal

abbrev pub invariant-loop-row : goal.invariant-loop-row
invariant-loop-row g l = l.found.items
    ++ map (g.S.Show.shown l.show) (filter (g.T.Predicate.passes l.test) (drop l.row-index l.rows))
    ≡ map (g.S.Show.shown l.show) (filter (g.T.Predicate.passes l.test) l.rows)
