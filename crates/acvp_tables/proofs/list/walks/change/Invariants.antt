use Rattle.std.proofs.Common.{◌≡◌, ◌++◌, take, drop}
use Rattle.acvp_tables.specs.Changes.{changed}
use Rattle.acvp_tables.proofs.list.walks.change.Given as goal

abbrev pub invariant-loop-row : goal.invariant-loop-row
invariant-loop-row g l = l.rows ≡ changed (g.T.Predicate.passes l.test) (g.E.Edit.edited l.edit)
    (take l.row-index l.initial.rows) ++ drop l.row-index l.initial.rows
