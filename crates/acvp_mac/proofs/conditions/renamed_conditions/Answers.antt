use Rattle.acvp_mac.proofs.ConditionLemmas.{first_broken-map}
use Rattle.acvp_mac.proofs.conditions.renamed_conditions.Goals as goal

pub returns : goal.returns
returns g c = λ rename conditions. first_broken-map rename conditions
