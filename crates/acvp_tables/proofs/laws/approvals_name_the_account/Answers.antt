use Rattle.acvp_tables.proofs.Approved.{approved_own}
use Rattle.acvp_tables.proofs.laws.approvals_name_the_account.Goals as goal

pub returns : goal.returns
returns k = λ a state well next. approved_own a state well next
