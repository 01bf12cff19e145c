use Rattle.std.proofs.Common.{◌+◌, ◌∙◌, sym, ap, arith}
use Rattle.acvp_check.proofs.Joins.{row_first, of_rest, then}
use Rattle.acvp_check.proofs.walks.each.Goals as goal

pub returns-in_err-judge : goal.returns-in_err-judge
returns-in_err-judge g c =
    let rest = of_rest (g.J.Judge.conditions c.args.judge.now) c.args.rows.now (c.loop-row.row-index + 1) in
    let first = row_first (g.J.Judge.conditions c.args.judge.now) c.args.rows.now c.loop-row.row-index
    c.row-item.result c.loop-row-test.true c.row-item.is in
    let stopped = ap (λ r. then r rest) (sym c.judge.ensures ∙ c.in_err-judge.was) in
    grind (arith, first, stopped, c.loop-row.invariant, c.from_residual.ensures)

pub loop-row-preserved : goal.loop-row-preserved
loop-row-preserved g c =
    let rest = of_rest (g.J.Judge.conditions c.args.judge.now) c.args.rows.now (c.loop-row.row-index + 1) in
    let first = row_first (g.J.Judge.conditions c.args.judge.now) c.args.rows.now c.loop-row.row-index
    c.row-item.result c.loop-row-test.true c.row-item.is in
    let passed = ap (λ r. then r rest) (sym c.judge.ensures ∙ c.in_ok-judge.was) in
    sym (first ∙ passed) ∙ c.loop-row.invariant
