use Rattle.std.proofs.Common.{refl}
use Rattle.acvp_answers.specs.MonteCarlo.{members_of}
use Rattle.acvp_answers.proofs.CheckpointLemmas.{standard_some, standard_last}
use Rattle.acvp_answers.proofs.monte_carlo.checkpoint_is_the_standards.Goals as goal

pub returns-clause-some : goal.returns-clause-some
returns-clause-some c = λ hash seed. (members_of hash seed 1000, standard_some hash seed 1000 refl)

pub returns-clause-last : goal.returns-clause-last
returns-clause-last c = λ hash seed members are. standard_last hash seed members are
