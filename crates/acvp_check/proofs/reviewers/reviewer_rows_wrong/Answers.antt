use Rattle.std.proofs.Common.{arith}
use Rattle.acvp_check.specs.Conditions.{reviewer_row_conditions}
use Rattle.acvp_check.proofs.Joins.{row_broken, row_passed}
use Rattle.acvp_check.proofs.reviewers.reviewer_rows_wrong.Goals as goal

pub returns-in_err-reviewer_wrong : goal.returns-in_err-reviewer_wrong
returns-in_err-reviewer_wrong c =
    let broken = row_broken (reviewer_row_conditions c.args.mine.now) c.args.rows.now c.loop-row.row-index _
    c.reviewer_wrong.result _ _ c.loop-row-test.true c.reviewer_wrong.ensures c.in_err-reviewer_wrong.was
    c.loop-row.invariant in
    grind (arith, broken, c.from_residual.ensures)

pub loop-row-preserved : goal.loop-row-preserved
loop-row-preserved c =
    row_passed (reviewer_row_conditions c.args.mine.now) c.args.rows.now c.loop-row.row-index _ c.reviewer_wrong.result _
    c.in_ok-reviewer_wrong.field-0 c.loop-row-test.true c.reviewer_wrong.ensures c.in_ok-reviewer_wrong.was
    c.loop-row.invariant
