use Rattle.acvp_tables.proofs.Numbers.{once}
use Rattle.acvp_tables.proofs.laws.sets_are_there_once.Goals as goal

pub returns : goal.returns
returns k = λ n c sound. once c sound n
