use Rattle.std.proofs.Common.{◌≡◌, ◌++◌, drop, filter, map}
use Rattle.acvp_tables.specs.Content.{page}
use Rattle.acvp_tables.proofs.list.walks.page.Given as goal

abbrev pub invariant-loop-row : goal.invariant-loop-row
invariant-loop-row g l = l.found.items
    ++ page l.to_skip l.to_show
    (map (g.S.Show.shown l.show) (filter (g.T.Predicate.passes l.test) (drop l.row-index l.rows)))
    ≡ page l.offset l.limit (map (g.S.Show.shown l.show) (filter (g.T.Predicate.passes l.test) l.rows))
