use Rattle.std.proofs.Common.{◌≡◌, arith}
use Rattle.acvp_http.proofs.LineLemmas.{same_number}
use Rattle.acvp_http.proofs.script.read_account.Goals.{then-account-lt1-via-then-account-lt1}
use Rattle.acvp_http.proofs.script.read_account.Goals.{then-account-lt1-via-else-account-lt1+then-account-gt-GREATEST_ACCOUNT}
use Rattle.acvp_http.proofs.script.read_account.Goals as goal

pub returns-then-account-lt1 : goal.returns-then-account-lt1
returns-then-account-lt1 c = λ account number is.
    let read = c.in_ok-account.ensures.written in
    let same : c.in_ok-account.account ≡ account =
    same_number c.args.text.now c.in_ok-account.account account read.0 read.1 (omega (arith, number)) is in
    elim c.then-account-lt1.branch [
      | then-account-lt1-via-then-account-lt1 w ↦ omega (
        arith,
        number,
      )
      | then-account-lt1-via-else-account-lt1+then-account-gt-GREATEST_ACCOUNT w ↦ omega (arith, number)
    ]
