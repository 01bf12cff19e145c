use Rattle.std.proofs.Common.{◌≡◌, ◌==◌, [], drop, filter, map}
use Rattle.acvp_tables.specs.Private.Ascending.{ascending}
use Rattle.acvp_tables.proofs.list.reviewers.reviewers_of.Given as goal

abbrev pub invariant-loop-row : goal.invariant-loop-row
invariant-loop-row l = ascending l.numbers.items
    (map (λ row. row.account) (filter (λ row. row.session == l.session) (drop l.row-index l.rows)))
    ≡ ascending [] (map (λ row. row.account) (filter (λ row. row.session == l.session) l.rows))
