use Rattle.acvp_mac.proofs.ConditionLemmas.{first_broken-append}
use Rattle.acvp_mac.proofs.conditions.joined_conditions.Goals as goal

pub returns : goal.returns
returns g c = λ front rest. first_broken-append front rest
