use Rattle.std.proofs.Common.{◌∙◌, ap, arith}
use Rattle.acvp_mac.specs.Conditions.{judged}
use Rattle.acvp_check.specs.Conditions.{last_conditions}
use Rattle.acvp_check.proofs.Joins.{row_broken, row_passed}
use Rattle.acvp_check.proofs.certifications.requests_last.Goals as goal

pub returns-in_err-last_wrong : goal.returns-in_err-last_wrong
returns-in_err-last_wrong c =
    let conditions = last_conditions c.args.sessions.now in
    let judges = c.last_wrong.ensures ∙ ap (λ row. judged (conditions row) (tt {0})) c.row-item.is in
    let broken = row_broken conditions c.args.rows.now c.loop-row.row-index c.row-item.result c.last_wrong.result _ _
    c.loop-row-test.true judges c.in_err-last_wrong.was c.loop-row.invariant in
    grind (arith, broken, c.from_residual.ensures)

pub loop-row-preserved : goal.loop-row-preserved
loop-row-preserved c =
    let conditions = last_conditions c.args.sessions.now in
    let judges = c.last_wrong.ensures ∙ ap (λ row. judged (conditions row) (tt {0})) c.row-item.is in
    row_passed conditions c.args.rows.now c.loop-row.row-index c.row-item.result c.last_wrong.result _
    c.in_ok-last_wrong.field-0 c.loop-row-test.true judges c.in_ok-last_wrong.was c.loop-row.invariant
