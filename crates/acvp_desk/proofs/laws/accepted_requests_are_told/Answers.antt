use Rattle.acvp_desk.proofs.Objects.{accepted_is_told}
use Rattle.acvp_desk.proofs.laws.accepted_requests_are_told.Goals as goal

pub returns : goal.returns
returns g = λ keys moment r c kept seeded. accepted_is_told g.selections_follow.ensures.set keys moment r c kept seeded
