use Rattle.acvp_check.proofs.WholeLemmas.{numbers_select}
use Rattle.acvp_check.proofs.laws.numbers_select.Goals as goal

pub returns : goal.returns
returns c = λ u content none. numbers_select u content none
