use Rattle.std.proofs.Common.{◌+◌, ◌-◌, arith}
use Rattle.acvp_tables.specs.Content.{account_numbers}
use Rattle.acvp_view.specs.Listed.{request_lines_of}
use Rattle.std.proofs.lemmas.Result.{err_from_is_err_and}
use Rattle.acvp_view.proofs.LineLemmas.{told_fault, told_next, told_whole}
use Rattle.acvp_view.proofs.lists.show_requests.Goals as goal

pub loop-account-preserved : goal.loop-account-preserved
loop-account-preserved g c =
    told_next g.L.Lines.takes g.T.Tables.meaning (request_lines_of c.args.form c.args.all) 1
    (c.loop-account.account - 1) c.loop-account.account
    (c.loop-account.account + 1 - 1) c.in_ok-show_requests_of.field-0
    c.args.tables.now c.loop-account.tables c.show_requests_of.new.tables c.args.lines.now c.loop-account.lines
    c.show_requests_of.new.lines
    (omega (arith, c.loop-account.auto.account))
    (omega (arith, c.loop-account.auto.account)) c.loop-account.invariant c.in_ok-show_requests_of.ensures.looks
    c.in_ok-show_requests_of.ensures.told

pub returns-in_err-show_requests_of-clause-told : goal.returns-in_err-show_requests_of-clause-told
unfolding account_numbers
returns-in_err-show_requests_of-clause-told g c =
    let (fault, is, same) = err_from_is_err_and c.from_residual.result c.from_residual.ensures.1 in
    told_fault g.L.Lines.takes g.T.Tables.meaning c.from_residual.result (request_lines_of c.args.form c.args.all) 1
    (c.loop-account.account - 1) c.loop-account.account 9999 c.in_err-show_requests_of.field-0.0 fault
    c.args.tables.now c.loop-account.tables c.show_requests_of.new.tables c.args.lines.now c.loop-account.lines
    c.show_requests_of.new.lines
    is (omega (arith, c.loop-account.auto.account))
    (omega (arith, c.loop-account.auto.account, c.loop-account-test.true)) c.loop-account.invariant
    c.in_err-show_requests_of.ensures.looks c.in_err-show_requests_of.ensures.told

pub returns-clause-told : goal.returns-clause-told
unfolding account_numbers
returns-clause-told g c =
    told_whole g.L.Lines.takes g.T.Tables.meaning (request_lines_of c.args.form c.args.all) 1
    (c.loop-account.account - 1) 9999 _ c.args.tables.now c.loop-account.tables
    c.args.lines.now c.loop-account.lines
    (omega (arith, c.loop-account.auto.account, c.loop-account.auto.account-end, c.loop-account-test.false))
    c.loop-account.invariant
