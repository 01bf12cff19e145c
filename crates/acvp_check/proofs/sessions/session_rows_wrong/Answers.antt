use Rattle.std.proofs.Common.{arith}
use Rattle.acvp_check.specs.Conditions.{session_row_conditions}
use Rattle.acvp_check.proofs.Joins.{row_broken, row_passed}
use Rattle.acvp_check.proofs.sessions.session_rows_wrong.Goals as goal

pub returns-in_err-session_wrong : goal.returns-in_err-session_wrong
returns-in_err-session_wrong c =
    let broken = row_broken (session_row_conditions c.args.mine.now) c.args.rows.now c.loop-row.row-index _
    c.session_wrong.result _ _ c.loop-row-test.true c.session_wrong.ensures c.in_err-session_wrong.was
    c.loop-row.invariant in
    grind (arith, broken, c.from_residual.ensures)

pub loop-row-preserved : goal.loop-row-preserved
loop-row-preserved c =
    row_passed (session_row_conditions c.args.mine.now) c.args.rows.now c.loop-row.row-index _ c.session_wrong.result _
    c.in_ok-session_wrong.field-0 c.loop-row-test.true c.session_wrong.ensures c.in_ok-session_wrong.was
    c.loop-row.invariant
