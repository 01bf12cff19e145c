use Rattle.std.proofs.Common.{◌+◌, ◌-◌, arith}
use Rattle.acvp_tables.specs.Content.{account_numbers}
use Rattle.acvp_view.specs.Listed.{account_line}
use Rattle.acvp_view.specs.Lines.{lines_of}
use Rattle.std.proofs.lemmas.Result.{err_from_is_err_and}
use Rattle.acvp_view.proofs.LineLemmas.{told_fault, told_next, told_whole}
use Rattle.acvp_view.proofs.lists.show_accounts.Goals as goal

pub loop-number-preserved : goal.loop-number-preserved
loop-number-preserved g c =
    told_next g.L.Lines.takes g.T.Tables.meaning
    (λ content number. lines_of (account_line c.args.form number content)) 1
    (c.loop-number.number - 1) c.loop-number.number (c.loop-number.number + 1 - 1) c.in_ok-show_account.field-0
    c.args.tables.now c.loop-number.tables c.show_account.new.tables c.args.lines.now c.loop-number.lines
    c.show_account.new.lines
    (omega (arith, c.loop-number.auto.number))
    (omega (arith, c.loop-number.auto.number)) c.loop-number.invariant c.in_ok-show_account.ensures.looks
    c.in_ok-show_account.ensures.told

pub returns-in_err-show_account-clause-told : goal.returns-in_err-show_account-clause-told
unfolding account_numbers
returns-in_err-show_account-clause-told g c =
    let (fault, is, same) = err_from_is_err_and c.from_residual.result c.from_residual.ensures.1 in
    told_fault g.L.Lines.takes g.T.Tables.meaning c.from_residual.result
    (λ content number. lines_of (account_line c.args.form number content)) 1
    (c.loop-number.number - 1) c.loop-number.number 9999 c.in_err-show_account.field-0.0 fault
    c.args.tables.now c.loop-number.tables c.show_account.new.tables c.args.lines.now c.loop-number.lines
    c.show_account.new.lines
    is (omega (arith, c.loop-number.auto.number))
    (omega (arith, c.loop-number.auto.number, c.loop-number-test.true)) c.loop-number.invariant
    c.in_err-show_account.ensures.looks c.in_err-show_account.ensures.told

pub returns-clause-told : goal.returns-clause-told
unfolding account_numbers
returns-clause-told g c =
    told_whole g.L.Lines.takes g.T.Tables.meaning
    (λ content number. lines_of (account_line c.args.form number content)) 1
    (c.loop-number.number - 1) 9999 _ c.args.tables.now c.loop-number.tables
    c.args.lines.now c.loop-number.lines
    (omega (arith, c.loop-number.auto.number, c.loop-number.auto.number-end, c.loop-number-test.false))
    c.loop-number.invariant
