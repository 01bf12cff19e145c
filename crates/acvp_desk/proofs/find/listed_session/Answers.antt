use Rattle.std.proofs.Common.{refl}
use Rattle.acvp_desk.proofs.find.listed_session.Goals as goal

pub returns-clause-found : goal.returns-clause-found
returns-clause-found g c =
    λ live seeds content kept h. rw (c.in_ok-certification.ensures.found live seeds content kept h) refl
