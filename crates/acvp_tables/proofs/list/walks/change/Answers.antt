use Rattle.std.proofs.Common.{if◌then◌else◌}
use Rattle.std.proofs.lemmas.List.Edits.{map_over_more}
use Rattle.acvp_tables.proofs.list.walks.change.Goals as goal

-- src/list/walks.rt:139:5
pub loop-row-preserved : goal.loop-row-preserved
loop-row-preserved g c =
    rw (c.change_one.ensures, ← c.row-item.is)
    (map_over_more (λ row. if g.T.Predicate.passes c.args.test.now row then g.E.Edit.edited c.args.edit.now row else
    row) c.args.rows.now c.loop-row.rows c.loop-row.row-index _ c.loop-row-test.true c.loop-row.invariant
    c.row-item.is)
