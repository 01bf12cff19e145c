use Rattle.acvp_http.proofs.LineLemmas.{no_line_word, no_add_line}
use Rattle.acvp_http.proofs.script.read_line.Goals as goal

pub returns-in_err-command_of : goal.returns-in_err-command_of
returns-in_err-command_of c = rw c.from_residual-in_err-command_of.ensures
    (no_line_word c.args.line.now c.in_ok-word.word.now c.in_ok-word.rest.now c.in_ok-word.ensures
    c.in_err-command_of.ensures)

pub returns-in_err-moment-in-AddAccount : goal.returns-in_err-moment-in-AddAccount
returns-in_err-moment-in-AddAccount c = rw c.from_residual-in_err-moment-in-AddAccount.ensures
    (no_add_line c.args.line.now c.in_ok-word.word.now c.in_ok-word.rest.now c.in_ok-word.ensures
    (rw c.in-AddAccount.is at c.in_ok-command_of.ensures) c.in_err-moment-in-AddAccount.ensures)

pub returns-in_ok-moment-in-AddAccount : goal.returns-in_ok-moment-in-AddAccount
returns-in_ok-moment-in-AddAccount c =
    let word = rw c.in-AddAccount.is at c.in_ok-command_of.ensures in
    (c.in_ok-word.rest.now, rw word at c.in_ok-word.ensures.1, c.in_ok-moment-in-AddAccount.ensures)
