use Rattle.acvp_http.proofs.LineLemmas.{no_add_space, no_add_account, no_add_secret}
use Rattle.acvp_http.proofs.script.read_add.Goals as goal

pub returns-in_err-account : goal.returns-in_err-account
returns-in_err-account c = rw c.from_residual-in_err-account.ensures
    (no_add_space c.args.text.now c.in_ok-moment.rest.now c.in_ok-moment.moment c.in_ok-moment.ensures
    c.in_err-account.ensures)

pub returns-in_err-account-2 : goal.returns-in_err-account-2
returns-in_err-account-2 c = rw c.from_residual-in_err-account-2.ensures
    (no_add_account c.args.text.now c.in_ok-moment.rest.now c.in_ok-account.account.now c.in_ok-account.secret.now
    c.in_ok-moment.moment c.in_ok-moment.ensures c.in_ok-account.ensures c.in_err-account-2.ensures)

pub returns-in_err-secret : goal.returns-in_err-secret
returns-in_err-secret c = rw c.from_residual-in_err-secret.ensures
    (no_add_secret c.args.text.now c.in_ok-moment.rest.now c.in_ok-account.account.now c.in_ok-account.secret.now
    c.in_ok-moment.moment c.in_ok-moment.ensures c.in_ok-account.ensures c.in_err-secret.ensures)
