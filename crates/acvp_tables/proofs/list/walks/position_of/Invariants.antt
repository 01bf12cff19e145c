use Rattle.std.proofs.Common.{◌≡◌, drop}
use Rattle.std.specs.List.{list_any}
use Rattle.acvp_tables.proofs.list.walks.position_of.Given as goal

abbrev pub invariant-loop-row : goal.invariant-loop-row
invariant-loop-row g l = (list_any (g.T.Predicate.passes l.test) (drop l.row-index l.rows)
    ≡ list_any (g.T.Predicate.passes l.test) l.rows) × (l.place ≡ l.row-index)
