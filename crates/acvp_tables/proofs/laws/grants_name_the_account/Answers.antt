use Rattle.acvp_tables.proofs.Selections.{grant_names}
use Rattle.acvp_tables.proofs.laws.grants_name_the_account.Goals as goal

pub returns : goal.returns
returns k = λ g it covers. grant_names g it covers
