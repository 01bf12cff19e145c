use Rattle.std.proofs.Common.{arith}
use Rattle.acvp_check.specs.Conditions.{certifiable_conditions}
use Rattle.acvp_check.proofs.Joins.{row_broken, row_passed}
use Rattle.acvp_check.proofs.certifications.sessions_certifiable.Goals as goal

pub returns-in_err-certifiable_wrong : goal.returns-in_err-certifiable_wrong
returns-in_err-certifiable_wrong c =
    let broken = row_broken (certifiable_conditions c.args.requests.now) c.args.rows.now c.loop-row.row-index _
    c.certifiable_wrong.result _ _ c.loop-row-test.true c.certifiable_wrong.ensures c.in_err-certifiable_wrong.was
    c.loop-row.invariant in
    grind (arith, broken, c.from_residual.ensures)

pub loop-row-preserved : goal.loop-row-preserved
loop-row-preserved c =
    row_passed (certifiable_conditions c.args.requests.now) c.args.rows.now c.loop-row.row-index _ c.certifiable_wrong.result _
    c.in_ok-certifiable_wrong.field-0 c.loop-row-test.true c.certifiable_wrong.ensures c.in_ok-certifiable_wrong.was
    c.loop-row.invariant
