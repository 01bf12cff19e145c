use Rattle.acvp_desk.proofs.Told.{never_unavailable}
use Rattle.acvp_desk.proofs.laws.no_answer_is_unavailable.Goals as goal

pub returns : goal.returns
returns g = λ keys moment r state is. never_unavailable keys moment r state is
